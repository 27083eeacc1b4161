-- The local outputs after a tick of a task, by the rows of the task ports. Assumes that the task is declared.
use Rattle.std.proofs.Common.{◌≡◌, ℕ, ◌<◌, List, ℤ, sym, ap}
use Rattle.program.specs.Tables.{Tables, task_count}
use Rattle.program.specs.Program.{Task, program_of}
use Rattle.program.proofs.Decoded.{task-row}
use Rattle.machine.specs.declared.State.{State}
use Rattle.machine.specs.Schedules.{outputs_at, outputs_after}
use Rattle.ticking.specs.Joined.{outputs_by}

-- the local outputs after a tick of a declared task are those that its rows of the task ports give
pub outputs-declared : (T : Tables) (results : List ℤ) (s : State) (t : ℕ) → t < task_count T
    → outputs_by T results s t ≡ outputs_after (program_of T) results s t
outputs-declared T results s t l =
    ap (λ (k : Task). outputs_at k.gives results s t) (sym (task-row T t l))
