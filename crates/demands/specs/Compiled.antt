-- The compiled code does the instant, as a statement: at the words that compiling leaves, from the block of every mode and unit and from
-- address 0 in a fresh state, whatever the ports, the readings and the remaining times.
-- Proved of these definitions in proofs/Compiled.antt.
use Rattle.std.specs.Prelude.{ℕ, ◌<◌, ◌≡◌, true, List, ◌⊎◌, ℤ}
use Rattle.theory.specs.Lists.{member}
use Rattle.theory.specs.Verdict.{accepted_number}
use Rattle.cells.specs.Cell.{num_at}
use Rattle.cells.specs.Refusals.{time_refused, overrun_refused}
use Rattle.program.specs.Tables.{task_count}
use Rattle.program.specs.Program.{Program, program_of, task, mode, due_tasks}
use Rattle.rules.specs.Fields.{InRange}
use Rattle.code.specs.Op.{instructions}
use Rattle.code.specs.Compile.{Compiling, compile_answer, words_of}
use Rattle.runs.specs.Tick.{left_of}
use Rattle.machine.specs.declared.State.{State}
use Rattle.machine.specs.Instant.{Outcome, ok, stop, run_instant}
use Rattle.compiled.specs.Done.{tasks_released, after_instant, AtBlock}

module _ (L : Compiling) (readings times : List ℤ) (m k : ℕ) (s : State) where
  abbrev P : Program
  P = program_of L.tables

  -- one instant over the words that compiling leaves, with these readings and times
  abbrev pub instant_of : Outcome
  instant_of = run_instant P readings times (instructions (words_of L)) s

  pub record InstantDone : Type 0 where
    -- an instant is never refused with 19 or 20; where every time lent is in its range, only with 17
    pub only_two : (n : ℕ) → instant_of ≡ stop n → (n ≡ time_refused) ⊎ (n ≡ overrun_refused)
    pub only-late : ((t : ℕ) → t < task_count L.tables → InRange (num_at times t) (task P t).worst)
        → (n : ℕ) → instant_of ≡ stop n → n ≡ overrun_refused
    -- where the tasks that it ends and those that it releases have no time left, and the times of the latter are in range, it does the
    -- seven steps of document 01 (`done`, in compiled/specs): the ports are those of Giotto's instant
    pub does : ((t : ℕ) → member t (due_tasks (mode P m) k) ≡ true → left_of s.left t ≡ 0)
        → ((t : ℕ) → member t (tasks_released P readings m k s) ≡ true → left_of s.left t ≡ 0)
        → ((t : ℕ) → member t (tasks_released P readings m k s) ≡ true → InRange (num_at times t) (task P t).worst)
        → instant_of ≡ ok (after_instant P readings m k s times)

-- the compiled code of every program does the instant
abbrev pub CompiledInstant : Type 0
CompiledInstant =
    (L : Compiling) → (compile_answer L).answer.number ≡ accepted_number
    → (readings times : List ℤ) (m k : ℕ) (s : State) → AtBlock L.tables m k s
    → InstantDone L readings times m k s
