-- The limits of document 01, one name for each meaning. They are the constants of `Program` in the code.
use Rattle.std.specs.Prelude.{ℕ}

-- the number of tables that a program has
abbrev pub table_count : ℕ
table_count = 10

-- the most rows that each table may have
abbrev pub max_ports : ℕ
max_ports = 64

abbrev pub max_tasks : ℕ
max_tasks = 32

abbrev pub max_task_ports : ℕ
max_task_ports = 128

abbrev pub max_drivers : ℕ
max_drivers = 64

abbrev pub max_copies : ℕ
max_copies = 256

abbrev pub max_modes : ℕ
max_modes = 32

abbrev pub max_mode_ports : ℕ
max_mode_ports = 256

abbrev pub max_invocations : ℕ
max_invocations = 64

abbrev pub max_updates : ℕ
max_updates = 64

abbrev pub max_switches : ℕ
max_switches = 64

abbrev pub max_windows : ℕ
max_windows = 256

-- the most schedule rows of one supplier, and of all together
abbrev pub max_part : ℕ
max_part = 256

abbrev pub max_schedule : ℕ
max_schedule = 2048

-- the number of suppliers: they are 0..7
abbrev pub suppliers : ℕ
suppliers = 8

-- the greatest number that a field may have
abbrev pub max_worst : ℕ
max_worst = 4096

abbrev pub max_period : ℕ
max_period = 4096

abbrev pub max_frequency : ℕ
max_frequency = 64

abbrev pub max_units : ℕ
max_units = 256

-- the most instructions of E code, the words of one, the longest delay of a `future`
abbrev pub max_code : ℕ
max_code = 16384

abbrev pub words_each : ℕ
words_each = 3

abbrev pub max_delay : ℕ
max_delay = 4096

-- the most instructions that the shipped program holds
abbrev pub max_held : ℕ
max_held = 4096

-- the most that a state may hold: elapsed and remaining ticks of a unit, remaining time of a task
abbrev pub max_elapsed : ℕ
max_elapsed = 4096

abbrev pub max_remaining : ℕ
max_remaining = 4096

abbrev pub max_left : ℕ
max_left = 4096

-- the first call number of an output copy, and of a sensor reading; those of drivers begin at 0
abbrev pub first_output_call : ℕ
first_output_call = 1000

abbrev pub first_sensor_call : ℕ
first_sensor_call = 2000
