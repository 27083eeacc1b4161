-- The E part of a tick of a composed run: it is not refused, and leaves a unit going on with a tick remaining.
-- Assumes that the system is sound, that the times of the tasks released in the tick are in range, and that the relation holds before it.
use Prim.Native.Nat.{ℕ, ◌≤◌, ◌<◌}
use mathlib.Core.Path.{◌≡◌, sym, ap, subst, ◌∙◌}
use mathlib.Core.Bool.{true}
use mathlib.Core.List.{List}
use mathlib.Core.Logic.{inl, inr}
use mathlib.Core.Option.{Option}
use native.Mathlib.Decide.{ℕ_discrete}
use native.Mathlib.Omega.{arith}
use lib.IntN.{ℤ}
use Rattle.theory.specs.Lists.{member}
use Rattle.cells.specs.Cell.{num_at}
use Rattle.program.specs.Tables.{Tables}
use Rattle.program.specs.Program.{Program, Switch, program_of, task, mode, due_tasks}
use Rattle.rules.specs.Fields.{InRange}
use Rattle.rules.proofs.Accepted.{accepted-ticks}
use Rattle.code.specs.Op.{emit, instructions}
use Rattle.code.specs.Compile.{listing_of}
use Rattle.giotto.specs.Instant.{Configuration, Function, results, sensed, switch_of, mode_after, unit_after, after_switch, after_drivers}
use Rattle.giotto.specs.Execution.{pass, released_by}
use Rattle.giotto.proofs.Execution.{pass-goes, releases-then, pass-stays}
use Rattle.machine.specs.declared.State.{State}
use Rattle.machine.specs.Instant.{ok}
use Rattle.machine.specs.Advance.{ready}
use Rattle.machine.proofs.Ready.{ready-waits, ready-runs}
use Rattle.machine.proofs.Outcomes.{finished}
use Rattle.compiled.specs.Done.{tasks_released}
use Rattle.compiled.proofs.Does.{words-do}
use Rattle.compiled.proofs.Leaves.{instant-done}
use Rattle.composed.specs.Sound.{Sound}
use Rattle.composed.specs.Related.{Going, Related}
use Rattle.composed.proofs.Edge.{Edge, fresh-edge, going-edge}
use Rattle.composed.proofs.Arrived.{Arrived}
use Rattle.composed.proofs.Entered.{after, done-is, released-are, arrived, enters}

module _ (T : Tables) (W S : List ℤ) (F : Function) (n : ℕ) (C : Configuration) (s : State) (readings times : List ℤ) where
  abbrev P : Program
  P = program_of T

  -- the E part of the tick is not refused, and the state that it leaves goes with Giotto's configuration after it
  pub record Readied : Type 0 where
    pub unit : ℕ
    pub state : State
    pub runs : ready P (instructions (emit (listing_of T))) readings times s ≡ ok state
    pub keeps : Going T W S F unit n (pass P F n readings C) state
    pub more : 1 ≤ state.remaining

  module _ (h : Sound T W S)
      (x : (t : ℕ) → member t (released_by P F n readings C) ≡ true → InRange (num_at times t) (task P t).worst) where
    -- the E part runs an instant where no tick of the unit remains
    edge-readied : Edge T W S F n C s → s.remaining ≡ 0 → Readied
    edge-readied g z =
        record {
          unit = unit_after C.unit w;
          state = after T W S F h n C s g readings times;
          runs =
              ready-runs P (instructions (emit (listing_of T))) readings times s z
              ∙ words-do T h.accepted readings times C.mode C.unit s g.at
              ∙ instant-done T h.accepted readings times C.mode C.unit s g.at.declared g.ended
              (λ t m. there.ended t (as-due t m)) (λ t m. in-range t (as-due t m))
              ∙ ap ok (done-is T W S F h n C s g readings times);
          keeps =
              subst (λ (D : Configuration). Going T W S F (unit_after C.unit w) n D (after T W S F h n C s g readings times))
              (sym (pass-goes P F n readings C g.stamp))
              (enters T W S F h n C s g readings times in-range);
          more = (accepted-ticks T h.accepted (mode_after C.mode w) there.declared).0;
        }
      where
        v : List ℤ
        v = sensed P (results P F C.ports) readings C

        w : Option Switch
        w = switch_of P C v

        there : Arrived T W S F C s (mode_after C.mode w) (unit_after C.unit w)
            (after_drivers P (mode P (mode_after C.mode w)) (unit_after C.unit w) (after_switch P w v))
        there = arrived T W S F h n C s g readings times

        due : List ℕ
        due = due_tasks (mode P (mode_after C.mode w)) (unit_after C.unit w)

        as-due : (t : ℕ) → member t (tasks_released P readings C.mode C.unit s) ≡ true → member t due ≡ true
        as-due t = subst (λ (ts : List ℕ). member t ts ≡ true) (released-are T W S F h n C s g readings times)

        in-range : (t : ℕ) → member t due ≡ true → InRange (num_at times t) (task P t).worst
        in-range t m = x t (subst (λ (ts : List ℕ). member t ts ≡ true) (sym (releases-then P F n readings C g.stamp)) m)

    -- the E part runs nothing where a tick of the unit remains
    going-readied : (k : ℕ) → Going T W S F k n C s → 0 < s.remaining → Readied
    going-readied k g l =
        record {
          unit = k;
          state = s;
          runs = ready-waits P (instructions (emit (listing_of T))) readings times s l;
          keeps = subst (λ (D : Configuration). Going T W S F k n D s) (sym (pass-stays P F n readings C (λ e. omega (arith, g.stamp, e)))) g;
          more = l;
        }

    pub readied : Related T W S F n C s → Readied
    readied (inl f) = edge-readied (fresh-edge T W S F h n C s f) (ap (λ (u : State). u.remaining) f.is-fresh)
    readied (inr (k, g)) = go (ℕ_discrete s.remaining 0)
      where
        go : Dec (s.remaining ≡ 0) → Readied
        go (yes z) = edge-readied (going-edge T W S F h k n C s g z) z
        go (no z) = going-readied k g (omega arith)

  -- the state that the E part leaves is the one that goes with Giotto's configuration
  pub readied-one : (b : Readied) (u : State) → ready P (instructions (emit (listing_of T))) readings times s ≡ ok u → b.state ≡ u
  readied-one b u e = finished (sym b.runs ∙ e)
