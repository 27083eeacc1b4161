-- The columns of each of document 01's tables, by name, and how many a row has. They are the constants of `columns` in the code.
use Rattle.std.specs.Prelude.{ℕ}

-- ports: kind (0 sensor, 1 actuator, 2 task input, 3 task output), first value
abbrev pub port_width : ℕ
port_width = 2

abbrev pub port_kind_column : ℕ
port_kind_column = 0

abbrev pub port_first_column : ℕ
port_first_column = 1

-- tasks: supplier 0..7, worst-case time 1..4,096
abbrev pub task_width : ℕ
task_width = 2

abbrev pub task_supplier_column : ℕ
task_supplier_column = 0

abbrev pub task_worst_column : ℕ
task_worst_column = 1

-- task ports: task, port
abbrev pub task_port_width : ℕ
task_port_width = 2

abbrev pub task_port_task_column : ℕ
task_port_task_column = 0

abbrev pub task_port_port_column : ℕ
task_port_port_column = 1

-- drivers: guard kind (0 always, 1 interval), port, low, high
abbrev pub driver_width : ℕ
driver_width = 4

abbrev pub guard_kind_column : ℕ
guard_kind_column = 0

abbrev pub guard_port_column : ℕ
guard_port_column = 1

abbrev pub guard_low_column : ℕ
guard_low_column = 2

abbrev pub guard_high_column : ℕ
guard_high_column = 3

-- copies: driver, source, destination
abbrev pub copy_width : ℕ
copy_width = 3

abbrev pub copy_driver_column : ℕ
copy_driver_column = 0

abbrev pub copy_source_column : ℕ
copy_source_column = 1

abbrev pub copy_destination_column : ℕ
copy_destination_column = 2

-- modes: period 1..4,096 ticks
abbrev pub mode_width : ℕ
mode_width = 1

abbrev pub mode_period_column : ℕ
mode_period_column = 0

-- mode ports: mode, port
abbrev pub mode_port_width : ℕ
mode_port_width = 2

abbrev pub mode_port_mode_column : ℕ
mode_port_mode_column = 0

abbrev pub mode_port_port_column : ℕ
mode_port_port_column = 1

-- Invocations, updates and switches begin alike: a mode, and a frequency in it.
abbrev pub mode_column : ℕ
mode_column = 0

abbrev pub frequency_column : ℕ
frequency_column = 1

-- invocations: mode, frequency, task, driver
abbrev pub invocation_width : ℕ
invocation_width = 4

abbrev pub invocation_task_column : ℕ
invocation_task_column = 2

abbrev pub invocation_driver_column : ℕ
invocation_driver_column = 3

-- updates: mode, frequency, driver
abbrev pub update_width : ℕ
update_width = 3

abbrev pub update_driver_column : ℕ
update_driver_column = 2

-- switches: mode, frequency, target mode, driver
abbrev pub switch_width : ℕ
switch_width = 4

abbrev pub switch_target_column : ℕ
switch_target_column = 2

abbrev pub switch_driver_column : ℕ
switch_driver_column = 3
