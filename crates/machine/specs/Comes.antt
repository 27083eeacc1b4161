-- What an advance that 1 to 11, 24, 13 and 21 pass comes to, in document 01's words: from where its instant begins, instruction by
-- instruction, to a `return` and a tick, or to a refusal with one of 16 to 20. "Only executed instructions count"; "at one instruction the
-- order is 20, 19, 16, 17"; "running off the end is 19, never 20".
use Rattle.std.specs.Prelude.{ℕ, zero, suc, ◌≤◌, ◌<◌, ◌≡◌, false, List, ◌⊎◌, length, get_or}
use Rattle.theory.specs.Verdict.{OneOf}
use Rattle.cells.specs.Refusals.{time_refused, count_refused}
use Rattle.program.specs.Program.{Program, program_of}
use Rattle.code.specs.Op.{Op, return, faulty, instructions}
use Rattle.machine.specs.declared.State.{State}
use Rattle.machine.specs.declared.At.{At}
use Rattle.machine.specs.Instruction.{Faulty, TimeBad, StillRunning, executes}
use Rattle.machine.specs.Schedules.{Collision}
use Rattle.machine.specs.Advance.{Advance, advance_rules}

-- the numbers that are given before anything runs, and those that arise in execution
abbrev pub Static : ℕ → Type 0
Static n = OneOf advance_rules n

abbrev pub Arising : ℕ → Type 0
Arising n = (time_refused ≤ n) × (n ≤ count_refused)

module _ (L : Advance) where
  -- the program and the code that the advance is lent
  abbrev pub program : Program
  program = program_of L.tables

  abbrev pub code : List Op
  code = instructions L.code

  -- the instant begins at the pending address, with no `future` executed
  abbrev pub instant_start : At
  instant_start = record { address = L.state.pending; planned = false; state = L.state }

  -- the instruction at which the machine stands; past the end stands none, which is faulty
  abbrev pub standing : At → Op
  standing a = get_or code a.address faulty

  -- the instruction there is faulty; it releases a task with a bad time; it ends or releases a task that is still running
  abbrev pub FaultyAt : At → Type 0
  FaultyAt a = Faulty program (length code) a.planned (standing a)

  abbrev pub TimeBadAt : At → Type 0
  TimeBadAt a = TimeBad program L.lent.times (standing a)

  abbrev pub RunningAt : At → Type 0
  RunningAt a = StillRunning a.state (standing a)

  -- the instruction there is run, and the instant goes on
  pub record Passed (a : At) : Type 0 where
    pub not-faulty : FaultyAt a → ⊥
    pub in-time : TimeBadAt a → ⊥
    pub not-running : RunningAt a → ⊥
    pub no_return : standing a ≡ return → ⊥

  -- n instructions, each passed, lead from the instant's begin to a
  abbrev pub Comes : ℕ → At → Type 0
  Comes zero a = instant_start ≡ a
  Comes (suc n) a =
      (b : At) × Comes n b × Passed b × (executes program L.lent.readings L.lent.times (standing b) b ≡ a)

  -- no tick of the unit remains, so the E code runs, and comes to a in fewer instructions than it has
  pub record Reaches (a : At) : Type 0 where
    pub no-tick-left : L.state.remaining ≡ 0
    pub before : ℕ
    pub in_count : before < length code
    pub comes : Comes before a

  -- the E code comes to a in as many instructions as it has: one more would be too many
  pub record RanAll (a : At) : Type 0 where
    pub no-tick-left : L.state.remaining ≡ 0
    pub comes : Comes (length code) a

  -- 19: the E code comes to a faulty instruction, or runs off the end with its last one
  abbrev pub Faults : Type 0
  Faults = ((a : At) × Reaches a × FaultyAt a) ⊎ ((a : At) × RanAll a × (length code ≤ a.address))

  -- 16: the E code comes to an instruction that is not faulty and is lent a bad time
  abbrev pub TimeWrong : Type 0
  TimeWrong = (a : At) × Reaches a × (FaultyAt a → ⊥) × TimeBadAt a

  -- 17: the E code comes to an instruction of neither kind, which ends or releases a task that is still running
  abbrev pub Overruns : Type 0
  Overruns = (a : At) × Reaches a × (FaultyAt a → ⊥) × (TimeBadAt a → ⊥) × RunningAt a

  -- 20: the E code has run as many instructions as it has, and the next one is inside it
  abbrev pub RunsOn : Type 0
  RunsOn = (a : At) × RanAll a × (a.address < length code)

  -- the instant ends: the E code comes to a `return` that is not faulty, and leaves u
  pub record Returns (u : State) : Type 0 where
    pub at : At
    pub reaches : Reaches at
    pub is-return : standing at ≡ return
    pub not-faulty : FaultyAt at → ⊥
    pub leaves : at.state ≡ u

  -- the state before the tick: as it was handed in, or as the instant left it
  abbrev pub BeforeTick : State → Type 0
  BeforeTick u = ((1 ≤ L.state.remaining) × (u ≡ L.state)) ⊎ Returns u

  -- 18: two suppliers run in the tick
  abbrev pub Collides : Type 0
  Collides = (u : State) × BeforeTick u × Collision L.schedule u

  -- the advance passes: its E part is not refused, and in its tick no two suppliers run
  abbrev pub TickPasses : Type 0
  TickPasses = (u : State) × BeforeTick u × (Collision L.schedule u → ⊥)
