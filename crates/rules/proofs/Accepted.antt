-- The rules that an accepted program keeps, whatever its numbers are: all but number 8, which asks for numbers of 32 bits.
-- Assumes that the verdict on the tables is 0, or that a call that is lent more than the tables is not refused.
use Prim.Native.Nat.{ℕ, ◌/◌, ◌≤◌, ◌<◌}
use mathlib.Core.Path.{◌≡◌, ap}
use mathlib.Core.Bool.{Bool, true, false}
use mathlib.Core.List.{List, ◌∷◌, ◌++◌, map}
use native.Mathlib.Nat.{div-le_self}
use native.Mathlib.Omega.{arith}
use Rattle.theory.specs.Lists.{member}
use Rattle.theory.specs.Verdict.{accepted_number, Refusal, unplaced, within, verdict}
use Rattle.theory.proofs.Members.{member-says}
use Rattle.theory.proofs.Verdict.{Clear, verdict-clear, clear-verdict, verdict-both}
use Rattle.cells.specs.Limits.{max_period, max_units}
use Rattle.cells.specs.Refusals.{shape_refused}
use Rattle.program.specs.Tables.{Tables, task_count, mode_count, mode_period}
use Rattle.program.specs.Units.{units, Units}
use Rattle.program.specs.Program.{program_of, mode, ticks_of, due_tasks}
use Rattle.program.proofs.Units.{units-least}
use Rattle.program.proofs.Decoded.{mode-row, has-tasks}
use Rattle.rules.specs.Shape.{shape_bad, Shaped}
use Rattle.rules.specs.Fields.{InRange, Fields}
use Rattle.rules.specs.Declared.{TaskPorts, Copies, ModePorts}
use Rattle.rules.specs.Modes.{Invocations, Updates}
use Rattle.rules.specs.Timing.{UnitsFit, Whole}
use Rattle.rules.specs.Verdict.{shape_refusal, table_refusals, program_verdict}
use Rattle.rules.proofs.Shape.{shape-bars}
use Rattle.rules.proofs.Fields.{fields-bar}
use Rattle.rules.proofs.Declared.{task-ports-bar, mode-ports-bar}
use Rattle.rules.proofs.Copies.{copies-bar}
use Rattle.rules.proofs.Modes.{invocations-bar, updates-bar}
use Rattle.rules.proofs.Timing.{units-bar, whole-bars, units-few, ticks-some}

module _ (T : Tables) (a : program_verdict T ≡ accepted_number) where
  -- of an accepted program no test of the verdict applies
  pub accepted-clear : Clear (shape_refusal ∷ table_refusals) T
  unfolding program_verdict
  accepted-clear = verdict-clear (shape_refusal ∷ table_refusals) T (omega arith) a

  -- an accepted program keeps rule 1: whole rows within the limits, and some mode
  pub accepted-shaped : Shaped T
  accepted-shaped = (shape-bars T).ok accepted-clear.0

  -- an accepted program keeps rule 2: fields in range, and names that name something
  pub accepted-fields : Fields T
  accepted-fields = (fields-bar T).ok accepted-clear.1.0

  -- an accepted program keeps rule 3, of task ports
  pub accepted-task-ports : TaskPorts T
  accepted-task-ports = (task-ports-bar T).ok accepted-clear.1.1.0

  -- an accepted program keeps rule 4, of copies
  pub accepted-copies : Copies T
  accepted-copies = (copies-bar T).ok accepted-clear.1.1.1.0

  -- an accepted program keeps rule 5, of mode ports
  pub accepted-mode-ports : ModePorts T
  accepted-mode-ports = (mode-ports-bar T).ok accepted-clear.1.1.1.1.0

  -- an accepted program keeps rule 6, of invocations
  pub accepted-invocations : Invocations T
  accepted-invocations = (invocations-bar T).ok accepted-clear.1.1.1.1.1.0

  -- an accepted program keeps rule 7, of updates
  pub accepted-updates : Updates T
  accepted-updates = (updates-bar T).ok accepted-clear.1.1.1.1.1.1.0

  -- an accepted program keeps rule 9: units within the limit that divide the period
  pub accepted-units-fit : UnitsFit T
  accepted-units-fit = (units-bar T).ok accepted-clear.1.1.1.1.1.1.1.1.0

  -- an accepted program keeps rule 10: task frequencies are multiples of the switch frequencies of their mode
  pub accepted-whole : Whole T
  accepted-whole = (whole-bars T).ok accepted-clear.1.1.1.1.1.1.1.1.1.0

  -- a declared mode of an accepted program has no more units than the limit
  pub accepted-units : (m : ℕ) → m < mode_count T → units T m ≤ max_units
  accepted-units = units-few T accepted-units-fit

  -- the units of a declared mode of an accepted program are the least common multiple of its frequencies
  pub accepted-least : (m : ℕ) → m < mode_count T → Units T m (units T m)
  accepted-least m l = units-least T m (accepted-units m l)

  -- a unit of a declared mode of an accepted program has a tick, and no more than the longest period
  pub accepted-ticks : (m : ℕ) → m < mode_count T → InRange (ticks_of (mode (program_of T) m)) max_period
  accepted-ticks m l =
      let e : ticks_of (mode (program_of T) m) ≡ mode_period T m / units T m = ap ticks_of (mode-row T m l) in (
        omega (arith, e, ticks-some T accepted-fields accepted-units-fit m l),
        omega (arith, e, div-le_self (mode_period T m) (units T m), (accepted-fields.modes m l).1),
      )

  -- a task that is due in a declared mode of an accepted program is declared
  pub due-declared : (m k t : ℕ) → m < mode_count T → member t (due_tasks (mode (program_of T) m) k) ≡ true → t < task_count T
  due-declared m k t l e =
      let w = (has-tasks T m k l (λ x. t ≡ x)).0 ((member-says t (due_tasks (mode (program_of T) m) k)).yes e) in
      omega (arith, w.4, (accepted-fields.invocations w.0 w.1).task)

-- a program is accepted where a call that is lent its tables and more, and refuses for its own shape and then as the program's
-- verdict does, is not refused
pub lent-accepted : {A : Type 0} (tables : A → Tables) (shape : A → Bool) (more : List (Refusal A)) (x : A)
    → (shape x ≡ false → shape_bad (tables x) ≡ false)
    → verdict ((unplaced shape_refused shape ∷ map (within tables) table_refusals) ++ more) x ≡ accepted_number
    → program_verdict (tables x) ≡ accepted_number
unfolding program_verdict
lent-accepted {A} tables shape more x s e = clear-verdict (shape_refusal ∷ table_refusals) (tables x) (s clear.0, clear.1)
  where
    own : List (Refusal A)
    own = unplaced shape_refused shape ∷ map (within tables) table_refusals

    clear : Clear own x
    clear = verdict-clear own x (omega arith) (verdict-both own more x (omega arith) e).0
