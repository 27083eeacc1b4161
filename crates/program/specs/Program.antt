-- A program as 001 has it (section 3.1), decoded from its tables: tasks, drivers and modes with their parts.
-- Every list is in table order.
use Rattle.std.specs.Prelude.{ℕ, suc, ◌/◌, Bool, true, false, ◌&&◌, List, [], map, eqb, ℤ, get_or}
use Rattle.theory.specs.Lists.{those, each, keep}
use Rattle.cells.specs.Limits.{max_ports}
use Rattle.program.specs.Tables.{Tables, start_mode, port_count, port_first, sensor, task_count, task_supplier, task_worst}
use Rattle.program.specs.Tables.{task_port_count, task_port_task, task_port_port, driver_count, copy_count, copy_driver, copy_source}
use Rattle.program.specs.Tables.{copy_destination}
use Rattle.program.specs.Tables.{mode_count, mode_period, mode_port_count, mode_port_mode, mode_port_port, invocation_count, invocation_mode}
use Rattle.program.specs.Tables.{invocation_frequency}
use Rattle.program.specs.Tables.{invocation_task, invocation_driver, update_count, update_mode, update_frequency, update_driver}
use Rattle.program.specs.Tables.{switch_count, switch_mode}
use Rattle.program.specs.Tables.{switch_frequency, switch_target, switch_driver}
use Rattle.program.specs.Guard.{Guard, always, guard_of}
use Rattle.program.specs.Sets.{is_kind, may_take, may_give}
use Rattle.program.specs.Units.{units, due}

pub record Copy : Type 0 where
  pub source : ℕ
  pub destination : ℕ

-- a driver (d, Src, g, Dst, h) of 001: the copies are h
pub record Driver : Type 0 where
  pub guard : Guard
  pub copies : List Copy

-- a task (t, In, Out, Priv, f) of 001, with what document 01 adds: f takes In ∪ Priv and gives Out ∪ Priv
pub record Task : Type 0 where
  pub supplier : ℕ
  pub worst : ℕ
  pub takes : List ℕ
  pub gives : List ℕ

pub record Invocation : Type 0 where
  pub frequency : ℕ
  pub task : ℕ
  pub driver : ℕ

pub record Update : Type 0 where
  pub frequency : ℕ
  pub driver : ℕ

pub record Switch : Type 0 where
  pub frequency : ℕ
  pub target : ℕ
  pub driver : ℕ

-- a mode (m, π, ModePorts, Invokes, Updates, Switches) of 001, and its units
pub record Mode : Type 0 where
  pub period : ℕ
  pub units : ℕ
  pub ports : List ℕ
  pub invocations : List Invocation
  pub updates : List Update
  pub switches : List Switch

-- a program; `first` is the first value of each of the 64 ports, 0 where none is declared
pub record Program : Type 0 where
  pub start : ℕ
  pub first : List ℤ
  pub sensors : List ℕ
  pub tasks : List Task
  pub drivers : List Driver
  pub modes : List Mode

-- the parts of a program that the tables declare
abbrev pub copy_row : Tables → ℕ → Copy
copy_row T c = record { source = copy_source T c; destination = copy_destination T c }

abbrev pub driver_row : Tables → ℕ → Driver
driver_row T d = record { guard = guard_of T d; copies = those (λ c. eqb (copy_driver T c) d) (copy_row T) (copy_count T) 0 }

-- the ports of task t that pass
abbrev pub ports_of : Tables → (ℕ → Bool) → ℕ → List ℕ
ports_of T passes t = those (λ k. eqb (task_port_task T k) t && passes (task_port_port T k)) (task_port_port T) (task_port_count T) 0

abbrev pub task_row : Tables → ℕ → Task
task_row T t =
    record {
      supplier = task_supplier T t;
      worst = task_worst T t;
      takes = ports_of T (may_take T) t;
      gives = ports_of T (may_give T) t;
    }

abbrev pub invocation_row : Tables → ℕ → Invocation
invocation_row T i = record { frequency = invocation_frequency T i; task = invocation_task T i; driver = invocation_driver T i }

abbrev pub update_row : Tables → ℕ → Update
update_row T i = record { frequency = update_frequency T i; driver = update_driver T i }

abbrev pub switch_row : Tables → ℕ → Switch
switch_row T i = record { frequency = switch_frequency T i; target = switch_target T i; driver = switch_driver T i }

abbrev pub mode_row : Tables → ℕ → Mode
mode_row T m = record {
  period = mode_period T m;
  units = units T m;
  ports = those (λ k. eqb (mode_port_mode T k) m) (mode_port_port T) (mode_port_count T) 0;
  invocations = those (λ i. eqb (invocation_mode T i) m) (invocation_row T) (invocation_count T) 0;
  updates = those (λ i. eqb (update_mode T i) m) (update_row T) (update_count T) 0;
  switches = those (λ i. eqb (switch_mode T i) m) (switch_row T) (switch_count T) 0;
}

abbrev pub program_of : Tables → Program
program_of T = record {
  start = start_mode T;
  first = each (port_first T) max_ports 0;
  sensors = those (is_kind T sensor) (λ p. p) (port_count T) 0;
  tasks = each (task_row T) (task_count T) 0;
  drivers = each (driver_row T) (driver_count T) 0;
  modes = each (mode_row T) (mode_count T) 0;
}

-- a task, driver or mode by its number; one without parts where there is none
abbrev pub task : Program → ℕ → Task
task P t = get_or P.tasks t (record { supplier = 0; worst = 0; takes = []; gives = [] })

abbrev pub driver : Program → ℕ → Driver
driver P d = get_or P.drivers d (record { guard = always; copies = [] })

abbrev pub mode : Program → ℕ → Mode
mode P m = get_or P.modes m (record { period = 0; units = 0; ports = []; invocations = []; updates = []; switches = [] })

-- how many ticks a unit of a mode has: period / units
abbrev pub ticks_of : Mode → ℕ
ticks_of M = M.period / M.units

-- the unit after unit k of u, around the round
abbrev pub next_of : ℕ → ℕ → ℕ
next_of u k = elim (eqb (suc k) u) [ true ↦ 0 | false ↦ suc k ]

abbrev pub next_unit : Mode → ℕ → ℕ
next_unit M k = next_of M.units k

-- the unit at which a switch taken at unit k enters its target
abbrev pub entered_unit : ℕ → Switch → ℕ
entered_unit k w = 0

-- the rows of a mode that are due at unit k
abbrev pub due_invocations : Mode → ℕ → List Invocation
due_invocations M k = keep (λ r. due M.units r.frequency k) M.invocations

abbrev pub due_updates : Mode → ℕ → List Update
due_updates M k = keep (λ r. due M.units r.frequency k) M.updates

abbrev pub due_switches : Mode → ℕ → List Switch
due_switches M k = keep (λ r. due M.units r.frequency k) M.switches

-- the tasks that are due at unit k
abbrev pub due_tasks : Mode → ℕ → List ℕ
due_tasks M k = map (λ r. r.task) (due_invocations M k)
