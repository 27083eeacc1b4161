-- Step 8: the active tasks are those that were, less the completed, and those that are enabled; step 9: time and unit counter.
-- Assumes that the modes are declared, and of the unit that it is one of its mode's.
use Prim.Native.Nat.{ℕ, suc, ◌+◌, ◌/◌, ◌%◌, ◌<◌}
use mathlib.Core.Path.{◌≡◌, refl, ap, sym, subst}
use mathlib.Core.Bool.{true, not, ◌&&◌, ◌||◌}
use mathlib.Core.Logic.{◌⊎◌, ◌↔◌}
use Rattle.theory.specs.Claim.{Says}
use Rattle.theory.specs.Lists.{member}
use Rattle.theory.proofs.Bools.{is_true, says-not, says-and, says-or, says-as, says-itself}
use Rattle.theory.proofs.Members.{member-says}
use Rattle.program.specs.Tables.{Tables, mode_count, mode_period}
use Rattle.program.specs.Units.{units}
use Rattle.program.specs.Program.{Mode, mode_row, program_of, mode, ticks_of, next_unit, due_tasks}
use Rattle.program.proofs.Decoded.{mode-row, next-around}
use Rattle.giotto.specs.Instant.{Configuration, completed}
use Rattle.giotto.specs.Successor.{Completed, Enabled}
use Rattle.giotto.proofs.Steps.{due-tasks}
use Rattle.giotto.proofs.Outputs.{has-completed}

module _ (T : Tables) where
  -- the test of the completed tasks says that the task is completed
  completed-says : (C : Configuration) (t : ℕ) → C.mode < mode_count T → Says (member t (completed (program_of T) C)) (Completed T C t)
  completed-says C t m =
      let r = has-completed T C m (λ x. t ≡ x) in
      says-as (member-says t (completed (program_of T) C))
      (λ h. let w = r.0 h in subst (Completed T C) (sym w.2) w.1)
      (λ c. r.1 (t, c, refl))

  -- the test of the due tasks says that the task is enabled
  pub enabled-says : (m k t : ℕ) → m < mode_count T → Says (member t (due_tasks (mode (program_of T) m) k)) (Enabled T m k t)
  enabled-says m k t l =
      let r = due-tasks T m k l (λ x. t ≡ x) in
      says-as (member-says t (due_tasks (mode (program_of T) m) k))
      (λ h. let w = r.0 h in (w.0, w.1, sym w.2))
      (λ w. r.1 (w.0, w.1, sym w.2))

  -- the active tasks after step 8: those that were active and are not completed, and those that are enabled
  pub active-next : (C : Configuration) (m k t : ℕ) → C.mode < mode_count T → m < mode_count T
      → (((C.active t && not (member t (completed (program_of T) C))) || member t (due_tasks (mode (program_of T) m) k)) ≡ true)
      ↔ (((C.active t ≡ true) × (Completed T C t → ⊥)) ⊎ Enabled T m k t)
  active-next C m k t c l = let s = says-or (says-and (says-itself (C.active t)) (says-not (completed-says C t c))) (enabled-says m k t l) in (s.yes, is_true s)

  -- the time stamp after step 9 is one unit of the mode later
  pub time-next : (C : Configuration) (m : ℕ) → m < mode_count T
      → C.time + ticks_of (mode (program_of T) m) ≡ C.time + mode_period T m / units T m
  time-next C m l = ap (λ (M : Mode). C.time + ticks_of M) (mode-row T m l)

  -- the unit after step 9 is the next of its mode, around the round
  pub unit-next : (m k : ℕ) → m < mode_count T → k < units T m → next_unit (mode (program_of T) m) k ≡ suc k % units T m
  unit-next m k l h =
      subst (λ (M : Mode). next_unit M k ≡ suc k % units T m) (sym (mode-row T m l)) (next-around (mode_row T m) k h)
