-- What is asked of what a tick is lent, and only of what is used in it: whole slices, times in range for the tasks that are released in
-- it, and for the task that completes in it the results that its function gives for its inputs and private ports.
use Rattle.std.specs.Prelude.{ℕ, ◌≡◌, true, List, ℤ, length}
use Rattle.theory.specs.Lists.{member}
use Rattle.cells.specs.Cell.{num_at}
use Rattle.cells.specs.Limits.{max_ports, max_tasks}
use Rattle.program.specs.Tables.{Tables}
use Rattle.program.specs.Program.{program_of, task}
use Rattle.program.specs.Ports.{value_of, values_of}
use Rattle.rules.specs.Fields.{InRange}
use Rattle.code.specs.Op.{emit, instructions}
use Rattle.code.specs.Compile.{listing_of}
use Rattle.runs.specs.Tick.{left_of}
use Rattle.giotto.specs.Instant.{Configuration, Function}
use Rattle.giotto.specs.Execution.{released_by}
use Rattle.machine.specs.Instant.{ok}
use Rattle.machine.specs.Schedules.{one, running}
use Rattle.machine.specs.Advance.{Lent, Advance, ready}
use Rattle.machine.specs.declared.State.{State}

-- the advance of state s by the compiled code, with what it is lent
abbrev pub by_compiled : Tables → List ℤ → Lent → State → Advance
by_compiled T S X s = record { tables = T; code = emit (listing_of T); schedule = S; state = s; lent = X }

-- what tick n is lent suits it, where before it Giotto's configuration is C and the machine's state is s
pub record Suited (T : Tables) (code : List ℕ) (S : List ℤ) (F : Function) (n : ℕ) (C : Configuration) (s : State) (X : Lent) : Type 0 where
  pub readings-length : length X.readings ≡ max_ports
  pub results-length : length X.results ≡ max_ports
  pub times-length : length X.times ≡ max_tasks
  -- the execution time of a task that is released in the tick lies in 1..worst case
  pub times : (t : ℕ) → member t (released_by (program_of T) F n X.readings C) ≡ true
      → InRange (num_at X.times t) (task (program_of T) t).worst
  -- the results of a task that completes in the tick, at its outputs and private ports, are the function of the task, its inputs and its
  -- private ports
  pub results : (u : State) (t p : ℕ)
      → ready (program_of T) (instructions code) X.readings X.times s ≡ ok u
      → running S u ≡ one t
      → left_of u.left t ≡ 1
      → member p (task (program_of T) t).gives ≡ true
      → value_of X.results p ≡ F t (values_of u.ports (task (program_of T) t).takes) p
