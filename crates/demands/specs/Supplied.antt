-- A run with results that are a task function of the tasks' inputs and private ports: for any readings, times and function. It meets the
-- premises of the composed run, so it is Giotto's (proofs/Supplied.antt).
use Rattle.std.specs.Prelude.{ℕ, zero, suc, ◌≡◌, true, List, ℤ, pos, length, replicate}
use Rattle.theory.specs.Lists.{each, member, puts}
use Rattle.cells.specs.Cell.{num_at}
use Rattle.cells.specs.Limits.{max_ports, max_tasks}
use Rattle.program.specs.Program.{Program, program_of, task}
use Rattle.program.specs.Ports.{assigned}
use Rattle.rules.specs.Fields.{InRange}
use Rattle.code.specs.Op.{instructions}
use Rattle.giotto.specs.Instant.{Function, results}
use Rattle.giotto.specs.Execution.{released_at}
use Rattle.machine.specs.Instant.{Outcome, ok, stop}
use Rattle.machine.specs.Schedules.{Who, nobody, one, several, running}
use Rattle.machine.specs.Advance.{Lent, fresh_answer, ready}
use Rattle.machine.specs.declared.State.{State}
use Rattle.demands.specs.Composed.{System, Accepted, joined, code, advanced, Right}

-- the results by port: what the task that runs gives; 0 elsewhere
abbrev pub given_by : Program → Function → State → Who → List ℤ
given_by P F u nobody = replicate max_ports (pos 0)
given_by P F u (one t) = puts (assigned (results P F u.ports t) (task P t).gives) (replicate max_ports (pos 0))
given_by P F u several = replicate max_ports (pos 0)

module _ (Y : System) (F : Function) (readings times : ℕ → List ℤ) where
  abbrev pub given_in : Outcome → List ℤ
  given_in (ok u) = given_by (program_of Y.tables) F u (running (joined Y) u)
  given_in (stop n) = replicate max_ports (pos 0)

  -- what is lent to tick n in state s
  abbrev pub lent_to : ℕ → State → Lent
  lent_to n s = record {
    readings = readings n;
    results = given_in (ready (program_of Y.tables) (instructions (code Y)) (readings n) (times n) s);
    times = times n;
  }

  -- the state before tick n (`history`), and so what is lent to every tick
  abbrev pub history : ℕ → State
  history zero = (fresh_answer Y.tables).state
  history (suc n) = (advanced Y (lent_to n (history n)) (history n)).state

  abbrev pub supplied : ℕ → Lent
  supplied n = lent_to n (history n)

-- each task's worst-case time, as it is lent
abbrev pub worst_times : Program → List ℤ
worst_times P = each (λ t. pos (task P t).worst) max_tasks 0

-- Every accepted system runs as Giotto's execution, for any task function, any readings and any times in range
abbrev pub SuppliedRight : Type 0
SuppliedRight =
    (Y : System) → Accepted Y → (F : Function) (readings times : ℕ → List ℤ)
    → ((n : ℕ) → length (readings n) ≡ max_ports)
    → ((n : ℕ) → length (times n) ≡ max_tasks)
    → ((n t : ℕ) → member t (released_at (program_of Y.tables) F readings n) ≡ true
    → InRange (num_at (times n) t) (task (program_of Y.tables) t).worst)
    → (n : ℕ) → Right Y F (supplied Y F readings times) n
