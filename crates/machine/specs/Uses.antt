-- What an advance uses of what it is lent: "readings are used only when E code reads, times only at `schedule`", and results only where a
-- task completes. As claims.
use Rattle.std.specs.Prelude.{ℕ, ◌≡◌, true, length}
use Rattle.theory.specs.Lists.{member}
use Rattle.cells.specs.Cell.{num_at}
use Rattle.program.specs.Program.{task}
use Rattle.program.specs.Ports.{value_of}
use Rattle.runs.specs.Tick.{left_of}
use Rattle.code.specs.Op.{Op, call, schedule}
use Rattle.machine.specs.declared.State.{State}
use Rattle.machine.specs.declared.At.{At}
use Rattle.machine.specs.Instruction.{sensor_call, call_of}
use Rattle.machine.specs.Schedules.{one, running}
use Rattle.machine.specs.Advance.{Lent, Advance}
use Rattle.machine.specs.Comes.{program, standing, FaultyAt, Reaches, BeforeTick}

module _ (L : Advance) where
  -- the instant of the advance comes to this instruction, which is not faulty
  pub record Meets (o : Op) : Type 0 where
    pub at : At
    pub reaches : Reaches L at
    pub stands : standing L at ≡ o
    pub not-faulty : FaultyAt L at → ⊥

  -- the E code of the advance reads sensor p
  abbrev pub Reads : ℕ → Type 0
  Reads p = (c : ℕ) × (call_of c ≡ sensor_call p) × Meets (call c)

  -- the E code comes to `schedule t` of a declared task, which is released, or refused with 16 or 17
  abbrev pub Releases : ℕ → Type 0
  Releases t = Meets (schedule t)

  -- in the tick of the advance task t runs, alone, with one tick left
  pub record Completes (t : ℕ) : Type 0 where
    pub before-tick : State
    pub begins : BeforeTick L before-tick
    pub runs : running L.schedule before-tick ≡ one t
    pub last-tick : left_of before-tick.left t ≡ 1

-- the advance L, lent X in place of what it is lent
abbrev pub lending : Advance → Lent → Advance
lending L X = record { tables = L.tables; code = L.code; schedule = L.schedule; state = L.state; lent = X }

-- X has the lengths of what L is lent
pub record SameLengths (L : Advance) (X : Lent) : Type 0 where
  pub readings : length L.lent.readings ≡ length X.readings
  pub results : length L.lent.results ≡ length X.results
  pub times : length L.lent.times ≡ length X.times

-- X agrees with what L is lent in what L uses
pub record Agrees (L : Advance) (X : Lent) : Type 0 where
  pub lengths : SameLengths L X
  pub readings : (p : ℕ) → Reads L p → value_of L.lent.readings p ≡ value_of X.readings p
  pub times : (t : ℕ) → Releases L t → num_at L.lent.times t ≡ num_at X.times t
  pub results : (t p : ℕ) → Completes L t → member p (task (program L) t).gives ≡ true
      → value_of L.lent.results p ≡ value_of X.results p
