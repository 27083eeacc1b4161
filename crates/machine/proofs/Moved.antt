-- An accepted advance changes only what specs/Moves.antt says: a tick of the schedules, and the whole step.
use Prim.Native.Nat.{ℕ, ◌-◌, ◌≤◌, ◌<◌}
use mathlib.Core.Path.{◌≡◌, refl, sym, ap, subst, ◌∙◌}
use mathlib.Core.Bool.{Bool, true, false}
use mathlib.Core.List.{List}
use mathlib.Core.Logic.{◌⊎◌, inl, inr}
use native.Mathlib.Omega.{arith}
use native.Mathlib.Decide.{dec_lt}
use lib.Dec.{eqb}
use lib.IntN.{ℤ, pos}
use lib.ListN.{length, get_or, set, get_or-eq_default}
use lib.Seq.{get_or-set_same, get_or-set_other, set_out}
use Rattle.theory.specs.Lists.{each, member, puts}
use Rattle.theory.specs.Verdict.{accepted_number}
use Rattle.theory.proofs.Lists.{each_at}
use Rattle.theory.proofs.Puts.{puts-other}
use Rattle.cells.specs.Limits.{suppliers}
use Rattle.program.specs.Program.{Program, task}
use Rattle.program.specs.Ports.{value_of, assigned}
use Rattle.program.proofs.Ports.{assigned-at, assigned-miss}
use Rattle.runs.specs.Tick.{left_of, work, left_after}
use Rattle.machine.specs.declared.State.{State}
use Rattle.machine.specs.declared.Handed.{Handed}
use Rattle.machine.specs.Instant.{Outcome, ok, stop}
use Rattle.machine.specs.Schedules.{Who, nobody, one, several, moved_of, running, outputs_after, after_tick, ticked, tick_all}
use Rattle.machine.specs.Advance.{Advance, advance_verdict, answer, advance_answer}
use Rattle.machine.specs.Comes.{program, code, Returns, BeforeTick}
use Rattle.machine.specs.Moves.{Works, Passes, InstantKeeps, Advances}
use Rattle.machine.proofs.Outcomes.{ok-not-stop, finished}
use Rattle.machine.proofs.Completing.{outputs-done, outputs-same}
use Rattle.machine.proofs.Ready.{step-leaves}
use Rattle.machine.proofs.Answered.{outcome, advance-steps, refused-number, step-answered}
use Rattle.machine.proofs.Refusals.{step-number}
use Rattle.machine.proofs.Comes.{returns}
use Rattle.machine.proofs.Stopped.{before-tick}
use Rattle.machine.proofs.Kept.{instant-keeps}

-- after a tick of task t it has a tick less to run
less-at : (left : List ℕ) (t : ℕ) → left_of (set left t (left_of left t - 1)) t ≡ left_of left t - 1
less-at left t = go (dec_lt t (length left))
  where
    go : Dec (t < length left) → left_of (set left t (left_of left t - 1)) t ≡ left_of left t - 1
    go (yes l) = get_or-set_same left t (left_of left t - 1) 0 l
    go (no l) =
        let z : left_of left t ≡ 0 = get_or-eq_default left 0 (omega (arith, l)) in
        ap (λ (r : List ℕ). left_of r t) (set_out left t (left_of left t - 1) (omega (arith, l))) ∙ (z ∙ ap (λ (n : ℕ). n - 1) (sym z))

module _ (P : Program) (results : List ℤ) (s : State) (t : ℕ) where
  -- a local output that the task does not give stays
  outputs-miss : (p : ℕ) → member p (task P t).gives ≡ false → value_of (outputs_after P results s t) p ≡ value_of s.outputs p
  outputs-miss p n = go (eqb (left_of s.left t) 1)
    where
      go : (b : Bool) → value_of (elim b [ true ↦ puts (assigned (value_of results) (task P t).gives) s.outputs | false ↦ s.outputs ]) p ≡ value_of s.outputs p
      go true = puts-other (pos 0) (assigned (value_of results) (task P t).gives) s.outputs p (assigned-miss (value_of results) (task P t).gives p n)
      go false = refl

  -- a local output that the task does not give stays, and where the task does not complete, all do
  outputs-stay : (p : ℕ) → (member p (task P t).gives ≡ false) ⊎ (left_of s.left t ≡ 1 → ⊥) → value_of (outputs_after P results s t) p ≡ value_of s.outputs p
  outputs-stay p (inl n) = outputs-miss p n
  outputs-stay p (inr d) = ap (λ (v : List ℤ). value_of v p) (outputs-same P results s t d)

-- the rows that a supplier has passed stay passed
positions-rise : (S : List ℤ) (s : State) (j : ℕ) → j < suppliers → get_or s.positions j 0 ≤ get_or (each (moved_of S s) suppliers 0) j 0
positions-rise S s j l = let e = each_at (moved_of S s) suppliers j 0 l in omega (arith, e)

-- a tick that is not refused changes only what the claims say
pub tick-passes : (P : Program) (S results : List ℤ) (s u : State) → tick_all P S results s ≡ ok u → Passes P S results s u
tick-passes P S results s u = go (running S s) refl
  where
    go : (w : Who) → running S s ≡ w → ticked P S results s w ≡ ok u → Passes P S results s u
    go nobody e q =
        let v = after_tick S s s.left s.outputs in
        subst (Passes P S results s) (finished q)
        (record {
          time = refl;
          ports = refl;
          pending = refl;
          current = refl;
          elapsed = refl;
          remaining = refl;
          positions = positions-rise S s;
          works = subst (λ (w : Who). Works P results w s v) (sym e) (refl, refl);
        })
    go (one t) e q =
        let v = after_tick S s (left_after (work t) s.left) (outputs_after P results s t) in
        subst (Passes P S results s) (finished q)
        (record {
          time = refl;
          ports = refl;
          pending = refl;
          current = refl;
          elapsed = refl;
          remaining = refl;
          positions = positions-rise S s;
          works = subst (λ (w : Who). Works P results w s v) (sym e) (record {
            nearer = less-at s.left t;
            others = λ j d. get_or-set_other s.left t j (left_of s.left t - 1) 0 d;
            completes = λ c p l m. ap (λ (v : List ℤ). value_of v p) (outputs-done P results s t c) ∙ assigned-at (value_of results) (task P t).gives s.outputs p l m;
            stays = outputs-stay P results s t;
          });
        })
    go several e q = absurd (ok-not-stop (sym q))

module _ (L : Advance) where
  -- an advance answers 0 only with what its step leaves
  pub accepted : (advance_answer L).answer.number ≡ accepted_number → outcome L ≡ ok (advance_answer L).state
  accepted z = go (dec_lt accepted_number (advance_verdict L))
    where
      end : (o : Outcome) → outcome L ≡ o → (answer L.state o).number ≡ accepted_number → o ≡ ok (answer L.state o).state
      end (ok u) e q = refl
      end (stop n) e q = absurd (omega (arith, q, step-number (program L) (code L) L.schedule L.lent L.state n e))

      go : Dec (accepted_number < advance_verdict L) → outcome L ≡ ok (advance_answer L).state
      go (yes l) = absurd (omega (arith, z, l, refused-number L l))
      go (no l) =
          let v : advance_verdict L ≡ accepted_number = omega (arith, l) in
          end (outcome L) refl (sym (step-answered L v) ∙ z) ∙ ap (λ (h : Handed). ok h.state) (advance-steps L v)

  -- an accepted advance has a state before its tick, from which the tick passes
  before : (advance_answer L).answer.number ≡ accepted_number
      → (v : State) × BeforeTick L v × Passes (program L) L.schedule L.lent.results v (advance_answer L).state
  before z =
      let w = step-leaves (program L) (code L) L.schedule L.lent L.state (advance_answer L).state (accepted z) in (
        w.0,
        (before-tick L w.0).0 w.1,
        tick-passes (program L) L.schedule L.lent.results w.0 (advance_answer L).state w.2,
      )

  -- an accepted advance changes only what the claims say
  pub advance-moves : (advance_answer L).answer.number ≡ accepted_number → Advances L (advance_answer L).state
  advance-moves z = let (v, b, p) = before z in record { between = v; begun = begun v b; passes = p }
    where
      begun : (v : State) → BeforeTick L v
          → ((1 ≤ L.state.remaining) × (v ≡ L.state)) ⊎ ((L.state.remaining ≡ 0) × InstantKeeps (program L) L.lent.times (code L) L.state v)
      begun v (inl w) = inl w
      begun v (inr w) =
          inr (w.reaches.no-tick-left, instant-keeps (program L) L.lent.readings L.lent.times (code L) L.state v ((returns L v).0 w).1)

  -- an instant of an accepted advance came to its end within as many instructions as the code has
  pub instant-counted : (advance_answer L).answer.number ≡ accepted_number → L.state.remaining ≡ 0 → (u : State) × Returns L u
  instant-counted z r = let (v, b, p) = before z in (v, ends v b)
    where
      ends : (v : State) → BeforeTick L v → Returns L v
      ends v (inl w) = absurd (omega (arith, w.0, r))
      ends v (inr w) = w
