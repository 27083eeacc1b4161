-- How the code joins the turns of a tick and takes what a task puts out in it, whatever it is handed. For what a tick hands on, the
-- one is `join` and the other `outputs_after` (Schedules).
use Rattle.std.specs.Prelude.{ℕ, List, ℤ, Option, Some, None}
use Rattle.cells.specs.declared.kinds.Task.{Task}
use Rattle.program.specs.Tables.{Tables}
use Rattle.program.specs.Sets.{may_give}
use Rattle.program.specs.Program.{ports_of}
use Rattle.machine.specs.declared.State.{State}
use Rattle.machine.specs.declared.Running.{Running}
use Rattle.machine.specs.declared.Running.TheVariants.{Nobody, One, Several}
use Rattle.machine.specs.Schedules.{outputs_at}

-- who runs, of the suppliers before and the one of whose tasks this runs, or none
abbrev pub join_told : Running → Option Task → Running
join_told before None = before
join_told Nobody (Some job) = One job
join_told (One other) (Some job) = Several
join_told Several (Some job) = Several

-- the local outputs after a tick of task t, by the rows of the task ports
abbrev pub outputs_by : Tables → List ℤ → State → ℕ → List ℤ
outputs_by T results s t = outputs_at (ports_of T (may_give T) t) results s t
