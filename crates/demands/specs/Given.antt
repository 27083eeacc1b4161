-- The composed run by Giotto's execution alone: what is lent to a tick is asked for without the machine, its code or its schedules, and
-- can be computed without them. Proved of these definitions in proofs/Given.antt.
use Rattle.std.specs.Prelude.{ℕ, suc, ◌≤◌, ◌≡◌, true, List, ℤ, pos, length, replicate}
use Rattle.theory.specs.Lists.{those, gather, member, Put, puts}
use Rattle.theory.specs.Verdict.{accepted_number}
use Rattle.cells.specs.Cell.{num_at}
use Rattle.cells.specs.Limits.{max_ports, max_tasks}
use Rattle.program.specs.Tables.{Tables}
use Rattle.program.specs.Program.{Program, program_of, task}
use Rattle.program.specs.Ports.{value_of, values_of, assigned}
use Rattle.rules.specs.Fields.{InRange}
use Rattle.rules.specs.Verdict.{program_verdict}
use Rattle.giotto.specs.Instant.{Configuration, Function, results}
use Rattle.giotto.specs.Execution.{execution, released_at, ports_in_tick}
use Rattle.machine.specs.Advance.{Lent}
use Rattle.demands.specs.Composed.{System, Accepted, SuitedAt, Right}

-- What is asked of tick n: whole slices; the time of a task that is released in it from 1 to its worst case; and for every task that is
-- active in Giotto's configuration after the tick's instant, and each of its outputs and private ports, the result that F gives for the
-- values of the task's inputs and private ports
pub record Given (P : Program) (F : Function) (lents : ℕ → Lent) (n : ℕ) : Type 0 where
  pub readings-length : length (lents n).readings ≡ max_ports
  pub results-length : length (lents n).results ≡ max_ports
  pub times-length : length (lents n).times ≡ max_tasks
  pub times : (t : ℕ) → member t (released_at P F (λ k. (lents k).readings) n) ≡ true → InRange (num_at (lents n).times t) (task P t).worst
  pub results : (t p : ℕ) → (execution P F (λ k. (lents k).readings) (suc n)).active t ≡ true → member p (task P t).gives ≡ true
      → value_of (lents n).results p ≡ F t (values_of (ports_in_tick P F (λ k. (lents k).readings) n) (task P t).takes) p

-- What is asked of ticks is enough for the composed run: a tick is suited, and so right, as long as all ticks up to it are lent it
abbrev pub GivenFair : Type 0
GivenFair =
    (Y : System) → Accepted Y → (F : Function) (lents : ℕ → Lent) (n : ℕ)
    → ((k : ℕ) → k ≤ n → Given (program_of Y.tables) F lents k) → SuitedAt Y F lents n

abbrev pub GivenRight : Type 0
GivenRight =
    (Y : System) → Accepted Y → (F : Function) (lents : ℕ → Lent) (n : ℕ)
    → ((k : ℕ) → k ≤ n → Given (program_of Y.tables) F lents k) → Right Y F lents n

-- the results that the active tasks of a configuration give
abbrev pub result_puts : Program → Function → Configuration → List Put
result_puts P F C = gather (λ t. assigned (results P F C.ports t) (task P t).gives) (those C.active (λ t. t) max_tasks 0)

-- the results by port: what the active tasks of a configuration give; 0 elsewhere
abbrev pub results_of : Program → Function → Configuration → List ℤ
results_of P F C = puts (result_puts P F C) (replicate max_ports (pos 0))

-- what is lent to tick n, computed from Giotto's execution
abbrev pub lent_by : Program → Function → (ℕ → List ℤ) → (ℕ → List ℤ) → ℕ → Lent
lent_by P F readings times n =
    record { readings = readings n; results = results_of P F (execution P F readings (suc n)); times = times n }

-- readings and times have their lengths, and the times of the tasks released are in range
pub record LentFits (P : Program) (F : Function) (readings times : ℕ → List ℤ) : Type 0 where
  pub readings-length : (n : ℕ) → length (readings n) ≡ max_ports
  pub times-length : (n : ℕ) → length (times n) ≡ max_tasks
  pub in-range : (n t : ℕ) → member t (released_at P F readings n) ≡ true → InRange (num_at (times n) t) (task P t).worst

-- The results computed from Giotto's execution are what is asked of every tick: no two active tasks give one port
abbrev pub GivenMet : Type 0
GivenMet =
    (T : Tables) → program_verdict T ≡ accepted_number → (F : Function) (readings times : ℕ → List ℤ)
    → LentFits (program_of T) F readings times → (n : ℕ) → Given (program_of T) F (lent_by (program_of T) F readings times) n

-- Every accepted system runs as Giotto's execution, for any task function, any readings and any times in range, with the results that
-- are computed from that execution
abbrev pub ExecutionRight : Type 0
ExecutionRight =
    (Y : System) → Accepted Y → (F : Function) (readings times : ℕ → List ℤ) → LentFits (program_of Y.tables) F readings times
    → (n : ℕ) → Right Y F (lent_by (program_of Y.tables) F readings times) n
