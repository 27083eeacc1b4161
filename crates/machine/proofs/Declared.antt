-- The task that runs in a tick is a declared one: some supplier's block dispatches it.
-- Assumes that the schedule's rows fit.
use Prim.Native.Nat.{ℕ, ◌<◌}
use mathlib.Core.Path.{◌≡◌, subst}
use mathlib.Core.List.{List}
use lib.IntN.{ℤ}
use Rattle.cells.specs.Limits.{suppliers}
use Rattle.program.specs.Tables.{Tables, task_count}
use Rattle.runs.specs.Schedule.{block_of}
use Rattle.runs.proofs.Tick.{tick-job}
use Rattle.suppliers.specs.Schedule.{Rows}
use Rattle.suppliers.proofs.Dispatched.{declared-rows}
use Rattle.machine.specs.declared.State.{State}
use Rattle.machine.specs.Schedules.{one, place_of, act_of, running}
use Rattle.machine.proofs.Collide.{Known, known}

-- the one task that runs is declared
pub running-declared : (T : Tables) (S : List ℤ) (s : State) (t : ℕ) → Rows T S → running S s ≡ one t → t < task_count T
running-declared T S s t r e =
    let k : Known (act_of S s) suppliers (one t) = subst (Known (act_of S s) suppliers) e (known (act_of S s) suppliers) in
    tick-job (λ t. t < task_count T) (block_of S k.0 s.current) s.elapsed (place_of S s k.0) t
    (declared-rows T S r k.0 s.current) k.2
