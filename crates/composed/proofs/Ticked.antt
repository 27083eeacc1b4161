-- One tick of the schedules is not refused, and the unit goes on.
-- Assumes that the system is sound, that a unit goes on and a tick of it remains, and that the results of a task that completes are its
-- function of its inputs.
use Prim.Native.Nat.{ℕ, suc, ◌≤◌, ◌<◌}
use mathlib.Core.Path.{◌≡◌, refl, sym, ap, subst, ◌∙◌}
use mathlib.Core.Bool.{Bool, true, false}
use mathlib.Core.List.{List}
use mathlib.Core.Logic.{inl}
use native.Mathlib.Decide.{ℕ_discrete}
use native.Mathlib.Omega.{arith}
use lib.IntN.{ℤ}
use lib.ListN.{length, length-set}
use Rattle.theory.specs.Lists.{member}
use Rattle.theory.proofs.Bools.{is_false, says-itself}
use Rattle.cells.specs.Limits.{suppliers}
use Rattle.program.specs.Tables.{Tables}
use Rattle.program.specs.Program.{Program, program_of, task}
use Rattle.program.specs.Ports.{value_of, values_of}
use Rattle.program.proofs.Decoded.{given-declared}
use Rattle.rules.proofs.Shape.{ports-few}
use Rattle.rules.proofs.Accepted.{accepted-shaped}
use Rattle.runs.specs.Tick.{left_of, Act, work, left_after}
use Rattle.runs.specs.Schedule.{block_of}
use Rattle.runs.proofs.Tick.{tick-busy, after_less, rests}
use Rattle.giotto.specs.Instant.{Configuration, Function, results}
use Rattle.giotto.proofs.Due.{tasks-one}
use Rattle.machine.specs.declared.State.{State}
use Rattle.machine.specs.Instant.{ok}
use Rattle.machine.specs.Schedules.{Who, nobody, one, several, place_of, act_of, running, outputs_after, after_tick, ticked, tick_all, runs_now}
use Rattle.machine.specs.Moves.{Worked, Works}
use Rattle.machine.proofs.Collide.{Known, known}
use Rattle.machine.proofs.Completing.{outputs-length}
use Rattle.machine.proofs.Moved.{tick-passes}
use Rattle.composed.specs.Sound.{Sound}
use Rattle.composed.specs.Related.{tasks_of, Going}
use Rattle.composed.proofs.OneRuns.{not-several}
use Rattle.composed.proofs.Passing.{passing}

module _ (T : Tables) (W S : List ℤ) (F : Function) (sound : Sound T W S) (k n : ℕ) (C : Configuration) (u : State) (given : List ℤ)
    (h : Going T W S F k n C u) (more : 1 ≤ u.remaining) where
  abbrev P : Program
  P = program_of T

  -- after a tick in which nobody runs the unit goes on
  nobody-ticked : ((j : ℕ) → j < suppliers → runs_now S u j ≡ false) → Going T W S F k (suc n) C (after_tick S u u.left u.outputs)
  nobody-ticked none =
      passing T W S F sound k n C u h more u.left u.outputs h.all_left h.all-outputs (λ t. omega arith)
      (λ j l t o. let e = ap (λ (r : List ℕ). left_of r t) (rests (act_of S u j) u.left (none j l)) in omega (arith, e))
      h.held

  -- a tick in which task t of supplier i runs
  module _ (t i : ℕ) (l : i < suppliers) (q : act_of S u i ≡ work t) (only : (j : ℕ) → j < suppliers → runs_now S u j ≡ true → j ≡ i)
      (e : running S u ≡ one t)
      (fits : (p : ℕ) → left_of u.left t ≡ 1 → member p (task P t).gives ≡ true
      → value_of given p ≡ F t (values_of u.ports (task P t).takes) p) where
    -- a task that runs has time left
    busy : 1 ≤ left_of u.left t
    busy = tick-busy (block_of S i u.current) u.elapsed (place_of S u i) t q

    -- a task that runs is one of the mode's, since no other has time left
    in-mode : member t (tasks_of P C.mode) ≡ true
    in-mode = go (member t (tasks_of P C.mode)) refl
      where
        go : (b : Bool) → member t (tasks_of P C.mode) ≡ b → member t (tasks_of P C.mode) ≡ true
        go true z = z
        go false z = absurd (omega (arith, busy, h.others t z))

    -- what a tick in which a task runs does to the state
    worked : Worked P given t u (after_tick S u (left_after (work t) u.left) (outputs_after P given u t))
    worked =
        let v = after_tick S u (left_after (work t) u.left) (outputs_after P given u t) in
        subst (λ (w : Who). Works P given w u v) e (tick-passes P S given u v (ap (ticked P S given u) e)).works

    -- no supplier's tasks owe more than after the supplier's own act
    own : (j : ℕ) → j < suppliers → (x : ℕ) → left_of (left_after (work t) u.left) x ≤ left_of (left_after (act_of S u j) u.left) x
    own j m x = go (runs_now S u j) refl
      where
        go : (b : Bool) → runs_now S u j ≡ b → left_of (left_after (work t) u.left) x ≤ left_of (left_after (act_of S u j) u.left) x
        go true z =
            let a : act_of S u j ≡ work t = ap (act_of S u) (only j m z) ∙ q in
            let b = ap (λ (a : Act). left_of (left_after a u.left) x) a in omega (arith, b)
        go false z =
            let b = ap (λ (r : List ℕ). left_of r x) (rests (act_of S u j) u.left z) in omega (arith, b, after_less (work t) u.left x)

    -- a task that completes has its results in its local outputs
    completed : (p : ℕ) → left_of (left_after (work t) u.left) t ≡ 0 → member p (task P t).gives ≡ true
        → value_of (outputs_after P given u t) p ≡ results P F C.ports t p
    completed p z m =
        let c : left_of u.left t ≡ 1 = omega (arith, busy, worked.nearer, z) in
        let b : p < length u.outputs = omega (arith, h.all-outputs, ports-few T (accepted-shaped T sound.accepted), given-declared T t p m) in
        worked.completes c p b m ∙ (fits p c m ∙ ap (λ (v : List ℤ). F t (values_of v (task P t).takes) p) h.ports)

    -- after the tick every task of the mode that has ended has its results in its local outputs
    holds : (x p : ℕ) → member x (tasks_of P C.mode) ≡ true → left_of (left_after (work t) u.left) x ≡ 0 → member p (task P x).gives ≡ true
        → value_of (outputs_after P given u t) p ≡ results P F C.ports x p
    holds x p w z m = go (ℕ_discrete x t)
      where
        go : Dec (x ≡ t) → value_of (outputs_after P given u t) p ≡ results P F C.ports x p
        go (yes d) =
            subst (λ (y : ℕ). value_of (outputs_after P given u t) p ≡ results P F C.ports y p) (sym d)
            (completed p (subst (λ (y : ℕ). left_of (left_after (work t) u.left) y ≡ 0) d z) (subst (λ (y : ℕ). member p (task P y).gives ≡ true) d m))
        go (no d) =
            worked.stays p (inl (is_false (says-itself (member p (task P t).gives))
            (λ y. d (tasks-one T sound.accepted C.mode x t p h.declared w in-mode m y))))
            ∙ h.held x p w (sym (worked.others x d) ∙ z) m

    -- after a tick in which one task runs the unit goes on
    one-ticked : Going T W S F k (suc n) C (after_tick S u (left_after (work t) u.left) (outputs_after P given u t))
    one-ticked =
        passing T W S F sound k n C u h more (left_after (work t) u.left) (outputs_after P given u t)
        (length-set u.left t _ ∙ h.all_left) (outputs-length P given u t ∙ h.all-outputs) (after_less (work t) u.left)
        (λ j m x o. own j m x) holds

-- a tick of the schedules is not refused, and the unit goes on after it
pub tick-related : (T : Tables) (W S : List ℤ) (F : Function) → Sound T W S → (k n : ℕ) (C : Configuration) (u : State) (given : List ℤ)
    → Going T W S F k n C u → 1 ≤ u.remaining
    → ((t p : ℕ) → running S u ≡ one t → left_of u.left t ≡ 1 → member p (task (program_of T) t).gives ≡ true
    → value_of given p ≡ F t (values_of u.ports (task (program_of T) t).takes) p)
    → (v : State) × (tick_all (program_of T) S given u ≡ ok v) × Going T W S F k (suc n) C v
tick-related T W S F sound k n C u given h more fits = go (running S u) refl (known (act_of S u) suppliers)
  where
    go : (w : Who) → running S u ≡ w → Known (act_of S u) suppliers w
        → (v : State) × (ticked (program_of T) S given u w ≡ ok v) × Going T W S F k (suc n) C v
    go nobody e none = (after_tick S u u.left u.outputs, refl, nobody-ticked T W S F sound k n C u given h more none)
    go (one t) e (i, l, q, only) = (
      after_tick S u (left_after (work t) u.left) (outputs_after (program_of T) given u t),
      refl,
      one-ticked T W S F sound k n C u given h more t i l q only e (λ p. fits t p e),
    )
    go several e both = absurd (not-several T W S F sound k n C u h more e)
