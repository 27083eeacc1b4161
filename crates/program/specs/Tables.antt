-- The ten tables of a program and its start mode, as they are lent: tables by their place, columns by name, rows by number.
use Rattle.std.specs.Prelude.{ℕ, List, [], ◌∷◌, ℤ, get_or}
use Rattle.cells.specs.declared.tables.ProgramTables.{ProgramTables}
use Rattle.cells.specs.Cell.{index_of, name_of, rows_in, field_at, named_at, value_at}
pub use Rattle.cells.specs.Columns.{port_width, port_kind_column, port_first_column, task_width, task_supplier_column, task_worst_column}
pub use Rattle.cells.specs.Columns.{task_port_width, task_port_task_column, task_port_port_column, driver_width, guard_kind_column, guard_port_column}
pub use Rattle.cells.specs.Columns.{guard_low_column, guard_high_column, copy_width, copy_driver_column, copy_source_column, copy_destination_column}
pub use Rattle.cells.specs.Columns.{mode_width, mode_period_column, mode_port_width, mode_port_mode_column, mode_port_port_column, mode_column}
pub use Rattle.cells.specs.Columns.{frequency_column, invocation_width, invocation_task_column, invocation_driver_column, update_width}
pub use Rattle.cells.specs.Columns.{update_driver_column, switch_width, switch_target_column, switch_driver_column}

pub record Tables : Type 0 where
  pub ports : List ℤ
  pub tasks : List ℤ
  pub task_ports : List ℤ
  pub drivers : List ℤ
  pub copies : List ℤ
  pub modes : List ℤ
  pub mode_ports : List ℤ
  pub invocations : List ℤ
  pub updates : List ℤ
  pub switches : List ℤ
  pub start : ℤ

abbrev pub tables : List ℤ → List ℤ → List ℤ → List ℤ → List ℤ → List ℤ → List ℤ → List ℤ → List ℤ → List ℤ → ℤ → Tables
tables ports tasks task_ports drivers copies modes mode_ports invocations updates switches start =
    record {
      ports = ports;
      tasks = tasks;
      task_ports = task_ports;
      drivers = drivers;
      copies = copies;
      modes = modes;
      mode_ports = mode_ports;
      invocations = invocations;
      updates = updates;
      switches = switches;
      start = start;
    }

-- the places of the tables, in 01's order: they number the tables
abbrev pub ports_at : ℕ
ports_at = 0

abbrev pub tasks_at : ℕ
tasks_at = 1

abbrev pub task_ports_at : ℕ
task_ports_at = 2

abbrev pub drivers_at : ℕ
drivers_at = 3

abbrev pub copies_at : ℕ
copies_at = 4

abbrev pub modes_at : ℕ
modes_at = 5

abbrev pub mode_ports_at : ℕ
mode_ports_at = 6

abbrev pub invocations_at : ℕ
invocations_at = 7

abbrev pub updates_at : ℕ
updates_at = 8

abbrev pub switches_at : ℕ
switches_at = 9

-- the numbers of what is lent beside the tables, as a place names it: windows, schedule; the start mode; the supplier asked about
abbrev pub windows_at : ℕ
windows_at = 10

abbrev pub schedule_at : ℕ
schedule_at = 11

abbrev pub start_at : ℕ
start_at = 12

abbrev pub supplier_at : ℕ
supplier_at = 13

-- the numbers of the table that stands at a place of what is lent; none past the last table
abbrev pub table_at : ProgramTables → ℕ → List ℤ
table_at lent place =
    get_or
    (lent.ports.now ∷ lent.tasks.now ∷ lent.task_ports.now ∷ lent.drivers.now ∷ lent.copies.now ∷ lent.modes.now ∷ lent.mode_ports.now
    ∷ lent.invocations.now ∷ lent.updates.now ∷ lent.switches.now ∷ [])
    place []

-- ten tables lent as one value, with a start mode
abbrev pub tables_in : ProgramTables → ℤ → Tables
tables_in lent start =
    tables lent.ports.now lent.tasks.now lent.task_ports.now lent.drivers.now lent.copies.now lent.modes.now lent.mode_ports.now
    lent.invocations.now lent.updates.now lent.switches.now start

-- ports, counted, and by row: kind (0 sensor, 1 actuator, 2 task input, 3 task output, 4 private), first value
abbrev pub port_count : Tables → ℕ
port_count T = rows_in port_width T.ports

abbrev pub port_kind : Tables → ℕ → ℕ
port_kind T = field_at port_width port_kind_column T.ports

abbrev pub port_first : Tables → ℕ → ℤ
port_first T = value_at port_width port_first_column T.ports

abbrev pub sensor : ℕ
sensor = 0

abbrev pub actuator : ℕ
actuator = 1

abbrev pub input : ℕ
input = 2

abbrev pub output : ℕ
output = 3

abbrev pub private : ℕ
private = 4

-- tasks, counted, and by row: supplier 0..7, worst-case time 1..4,096
abbrev pub task_count : Tables → ℕ
task_count T = rows_in task_width T.tasks

abbrev pub task_supplier : Tables → ℕ → ℕ
task_supplier T = field_at task_width task_supplier_column T.tasks

abbrev pub task_worst : Tables → ℕ → ℕ
task_worst T = field_at task_width task_worst_column T.tasks

-- task ports, counted, and by row: task, port
abbrev pub task_port_count : Tables → ℕ
task_port_count T = rows_in task_port_width T.task_ports

abbrev pub task_port_task : Tables → ℕ → ℕ
task_port_task T = named_at task_port_width task_port_task_column T.task_ports

abbrev pub task_port_port : Tables → ℕ → ℕ
task_port_port T = named_at task_port_width task_port_port_column T.task_ports

-- drivers, counted, and by row: guard kind (0 always, 1 interval), port, low, high
abbrev pub driver_count : Tables → ℕ
driver_count T = rows_in driver_width T.drivers

abbrev pub guard_kind : Tables → ℕ → ℕ
guard_kind T = field_at driver_width guard_kind_column T.drivers

abbrev pub guard_port : Tables → ℕ → ℕ
guard_port T = named_at driver_width guard_port_column T.drivers

abbrev pub guard_low : Tables → ℕ → ℤ
guard_low T = value_at driver_width guard_low_column T.drivers

abbrev pub guard_high : Tables → ℕ → ℤ
guard_high T = value_at driver_width guard_high_column T.drivers

abbrev pub kind_always : ℕ
kind_always = 0

abbrev pub kind_interval : ℕ
kind_interval = 1

-- copies, counted, and by row: driver, source, destination
abbrev pub copy_count : Tables → ℕ
copy_count T = rows_in copy_width T.copies

abbrev pub copy_driver : Tables → ℕ → ℕ
copy_driver T = named_at copy_width copy_driver_column T.copies

abbrev pub copy_source : Tables → ℕ → ℕ
copy_source T = named_at copy_width copy_source_column T.copies

abbrev pub copy_destination : Tables → ℕ → ℕ
copy_destination T = named_at copy_width copy_destination_column T.copies

-- modes, counted, and by row: period 1..4,096 ticks
abbrev pub mode_count : Tables → ℕ
mode_count T = rows_in mode_width T.modes

abbrev pub mode_period : Tables → ℕ → ℕ
mode_period T = field_at mode_width mode_period_column T.modes

-- mode ports, counted, and by row: mode, port
abbrev pub mode_port_count : Tables → ℕ
mode_port_count T = rows_in mode_port_width T.mode_ports

abbrev pub mode_port_mode : Tables → ℕ → ℕ
mode_port_mode T = named_at mode_port_width mode_port_mode_column T.mode_ports

abbrev pub mode_port_port : Tables → ℕ → ℕ
mode_port_port T = named_at mode_port_width mode_port_port_column T.mode_ports

-- Invocations, updates and switches begin alike: a mode, and a frequency in it.
abbrev pub row_mode : ℕ → List ℤ → ℕ → ℕ
row_mode width = named_at width mode_column

abbrev pub row_frequency : ℕ → List ℤ → ℕ → ℕ
row_frequency width = field_at width frequency_column

-- invocations, counted, and by row: mode, frequency, task, driver
abbrev pub invocation_count : Tables → ℕ
invocation_count T = rows_in invocation_width T.invocations

abbrev pub invocation_mode : Tables → ℕ → ℕ
invocation_mode T = row_mode invocation_width T.invocations

abbrev pub invocation_frequency : Tables → ℕ → ℕ
invocation_frequency T = row_frequency invocation_width T.invocations

abbrev pub invocation_task : Tables → ℕ → ℕ
invocation_task T = named_at invocation_width invocation_task_column T.invocations

abbrev pub invocation_driver : Tables → ℕ → ℕ
invocation_driver T = named_at invocation_width invocation_driver_column T.invocations

-- updates, counted, and by row: mode, frequency, driver
abbrev pub update_count : Tables → ℕ
update_count T = rows_in update_width T.updates

abbrev pub update_mode : Tables → ℕ → ℕ
update_mode T = row_mode update_width T.updates

abbrev pub update_frequency : Tables → ℕ → ℕ
update_frequency T = row_frequency update_width T.updates

abbrev pub update_driver : Tables → ℕ → ℕ
update_driver T = named_at update_width update_driver_column T.updates

-- switches, counted, and by row: mode, frequency, target mode, driver
abbrev pub switch_count : Tables → ℕ
switch_count T = rows_in switch_width T.switches

abbrev pub switch_mode : Tables → ℕ → ℕ
switch_mode T = row_mode switch_width T.switches

abbrev pub switch_frequency : Tables → ℕ → ℕ
switch_frequency T = row_frequency switch_width T.switches

abbrev pub switch_target : Tables → ℕ → ℕ
switch_target T = named_at switch_width switch_target_column T.switches

abbrev pub switch_driver : Tables → ℕ → ℕ
switch_driver T = named_at switch_width switch_driver_column T.switches

-- the rows of the table at a place, counted; none past the last table
abbrev pub rows_at : Tables → ℕ → ℕ
rows_at T place =
    get_or
    (port_count T
    ∷ task_count T
    ∷ task_port_count T
    ∷ driver_count T
    ∷ copy_count T
    ∷ mode_count T
    ∷ mode_port_count T
    ∷ invocation_count T
    ∷ update_count T
    ∷ switch_count T
    ∷ [])
    place
    0

-- the start mode, a number that is lent beside the tables
abbrev pub start_mode : Tables → ℕ
start_mode T = name_of (index_of T.start)
