-- Number 2: a field of the program's tables, or the start mode, is out of range or names nothing.
-- A row's test says "bad"; beside it stands what a row must be.
use Rattle.std.specs.Prelude.{ℕ, ◌≤◌, ◌<◌, ◌≡◌, Bool, not, ◌&&◌, ◌||◌, ◌⊎◌, eqb, ltb, leb, pos, List, [], ◌∷◌}
use Rattle.std.specs.Int.Signed.{le_z}
use Rattle.theory.specs.Rows.{RowTests, testing, some_bad, RowRules, asking}
use Rattle.theory.specs.Order.{◌≤Z◌}
use Rattle.cells.specs.Cell.{eq_z}
use Rattle.readings.specs.Reading.{is_missing, no_reading, Value, is_value}
use Rattle.cells.specs.Limits.{suppliers, max_worst, max_period, max_frequency}
use Rattle.program.specs.Tables.{ports_at, tasks_at, task_ports_at, drivers_at, copies_at, modes_at, mode_ports_at, invocations_at, updates_at}
use Rattle.program.specs.Tables.{switches_at, start_at}
use Rattle.program.specs.Tables.{Tables, port_count, port_kind, private, task_count, task_supplier, task_worst, task_port_count, task_port_task}
use Rattle.program.specs.Tables.{task_port_port}
use Rattle.program.specs.Tables.{driver_count, guard_kind, guard_port, guard_low, guard_high, kind_always, kind_interval, copy_count, copy_driver}
use Rattle.program.specs.Tables.{copy_source, copy_destination, mode_count, mode_period, mode_port_count, mode_port_mode, mode_port_port}
use Rattle.program.specs.Tables.{invocation_count}
use Rattle.program.specs.Tables.{invocation_mode, invocation_frequency, invocation_task, invocation_driver, update_count, update_mode}
use Rattle.program.specs.Tables.{update_frequency, update_driver, switch_count}
use Rattle.program.specs.Tables.{switch_mode, switch_frequency, switch_target, switch_driver, start_mode}

-- the test that a number is from 1 to the limit
unfoldable pub in_range : ℕ → ℕ → Bool
in_range n limit = leb 1 n && leb n limit

-- a number is from 1 to the limit
abbrev pub InRange : ℕ → ℕ → Type 0
InRange n limit = (1 ≤ n) × (n ≤ limit)

-- the kind of port p is none of 0 to 4
unfoldable pub port_bad : Tables → ℕ → Bool
port_bad T p = ltb private (port_kind T p)

-- the supplier of task t is none of 0..7, or its worst-case time none of 1..4,096
unfoldable pub task_bad : Tables → ℕ → Bool
task_bad T t = not (ltb (task_supplier T t) suppliers && in_range (task_worst T t) max_worst)

-- the supplier of task t is one of 0..7, and its worst-case time one of 1..4,096
pub record TaskFits (T : Tables) (t : ℕ) : Type 0 where
  pub supplier : task_supplier T t < suppliers
  pub worst : InRange (task_worst T t) max_worst

-- row k of the task ports names no task or no port
unfoldable pub task_port_bad : Tables → ℕ → Bool
task_port_bad T k = not (ltb (task_port_task T k) (task_count T) && ltb (task_port_port T k) (port_count T))

-- row k of the task ports names a task and a port
pub record TaskPortFits (T : Tables) (k : ℕ) : Type 0 where
  pub task : task_port_task T k < task_count T
  pub port : task_port_port T k < port_count T

-- driver d has guard kind 0, always, and 0 in its other three fields
unfoldable pub always_fits : Tables → ℕ → Bool
always_fits T d = eqb (guard_kind T d) kind_always && eqb (guard_port T d) 0 && eq_z (guard_low T d) (pos 0) && eq_z (guard_high T d) (pos 0)

-- driver d has guard kind 1, interval, with a port, values low ≤ high, and low no reading only if high is too. (A number of a
-- lent slice is always a value; what is none is out of range, so that the rules speak of every list of numbers.)
unfoldable pub interval_fits : Tables → ℕ → Bool
interval_fits T d =
    is_value (guard_low T d)
    && is_value (guard_high T d)
    && eqb (guard_kind T d) kind_interval
    && ltb (guard_port T d) (port_count T)
    && le_z (guard_low T d) (guard_high T d)
    && (not (is_missing (guard_low T d)) || is_missing (guard_high T d))

-- neither kind of guard fits the row of driver d
unfoldable pub driver_bad : Tables → ℕ → Bool
driver_bad T d = not (always_fits T d || interval_fits T d)

-- the row of driver d is a guard that always holds: 0 in every field
pub record AlwaysFits (T : Tables) (d : ℕ) : Type 0 where
  pub kind : guard_kind T d ≡ kind_always
  pub port : guard_port T d ≡ 0
  pub low : guard_low T d ≡ pos 0
  pub high : guard_high T d ≡ pos 0

-- the row of driver d is a guard by an interval: a port, values low ≤ high, and low no reading only if high is too
pub record IntervalFits (T : Tables) (d : ℕ) : Type 0 where
  pub low : Value (guard_low T d)
  pub high : Value (guard_high T d)
  pub kind : guard_kind T d ≡ kind_interval
  pub port : guard_port T d < port_count T
  pub ordered : guard_low T d ≤Z guard_high T d
  pub missing : guard_low T d ≡ no_reading → guard_high T d ≡ no_reading

-- row c of the copies names no driver, or no port as its source or its destination
unfoldable pub copy_bad : Tables → ℕ → Bool
copy_bad T c = not (ltb (copy_driver T c) (driver_count T) && ltb (copy_source T c) (port_count T) && ltb (copy_destination T c) (port_count T))

-- row c of the copies names a driver, and ports as its source and its destination
pub record CopyFits (T : Tables) (c : ℕ) : Type 0 where
  pub driver : copy_driver T c < driver_count T
  pub source : copy_source T c < port_count T
  pub destination : copy_destination T c < port_count T

-- the period of mode m is none of 1..4,096
unfoldable pub mode_bad : Tables → ℕ → Bool
mode_bad T m = not (in_range (mode_period T m) max_period)

-- row k of the mode ports names no mode or no port
unfoldable pub mode_port_bad : Tables → ℕ → Bool
mode_port_bad T k = not (ltb (mode_port_mode T k) (mode_count T) && ltb (mode_port_port T k) (port_count T))

-- row k of the mode ports names a mode and a port
pub record ModePortFits (T : Tables) (k : ℕ) : Type 0 where
  pub mode : mode_port_mode T k < mode_count T
  pub port : mode_port_port T k < port_count T

-- row i of the invocations names no mode, task or driver, or its frequency is none of 1..64
unfoldable pub invocation_bad : Tables → ℕ → Bool
invocation_bad T i =
    not
    (ltb (invocation_mode T i) (mode_count T)
    && in_range (invocation_frequency T i) max_frequency
    && ltb (invocation_task T i) (task_count T)
    && ltb (invocation_driver T i) (driver_count T))

-- row i of the invocations names a mode, a task and a driver, and its frequency is one of 1..64
pub record InvocationFits (T : Tables) (i : ℕ) : Type 0 where
  pub mode : invocation_mode T i < mode_count T
  pub frequency : InRange (invocation_frequency T i) max_frequency
  pub task : invocation_task T i < task_count T
  pub driver : invocation_driver T i < driver_count T

-- row i of the updates names no mode or driver, or its frequency is none of 1..64
unfoldable pub update_bad : Tables → ℕ → Bool
update_bad T i =
    not
    (ltb (update_mode T i) (mode_count T)
    && in_range (update_frequency T i) max_frequency
    && ltb (update_driver T i) (driver_count T))

-- row i of the updates names a mode and a driver, and its frequency is one of 1..64
pub record UpdateFits (T : Tables) (i : ℕ) : Type 0 where
  pub mode : update_mode T i < mode_count T
  pub frequency : InRange (update_frequency T i) max_frequency
  pub driver : update_driver T i < driver_count T

-- row i of the switches names no mode, target mode or driver, or its frequency is none of 1..64
unfoldable pub switch_bad : Tables → ℕ → Bool
switch_bad T i =
    not
    (ltb (switch_mode T i) (mode_count T)
    && in_range (switch_frequency T i) max_frequency
    && ltb (switch_target T i) (mode_count T)
    && ltb (switch_driver T i) (driver_count T))

-- row i of the switches names a mode, a target mode and a driver, and its frequency is one of 1..64
pub record SwitchFits (T : Tables) (i : ℕ) : Type 0 where
  pub mode : switch_mode T i < mode_count T
  pub frequency : InRange (switch_frequency T i) max_frequency
  pub target : switch_target T i < mode_count T
  pub driver : switch_driver T i < driver_count T

-- the start mode is not declared
unfoldable pub start_bad : Tables → Bool
start_bad T = leb (mode_count T) (start_mode T)

-- number 2, row by row: the tables in order, and after all of them the start mode, which is row 0 of its place
abbrev pub field_tests : Tables → List RowTests
field_tests T =
    testing ports_at (port_count T) (port_bad T)
    ∷ testing tasks_at (task_count T) (task_bad T)
    ∷ testing task_ports_at (task_port_count T) (task_port_bad T)
    ∷ testing drivers_at (driver_count T) (driver_bad T)
    ∷ testing copies_at (copy_count T) (copy_bad T)
    ∷ testing modes_at (mode_count T) (mode_bad T)
    ∷ testing mode_ports_at (mode_port_count T) (mode_port_bad T)
    ∷ testing invocations_at (invocation_count T) (invocation_bad T)
    ∷ testing updates_at (update_count T) (update_bad T)
    ∷ testing switches_at (switch_count T) (switch_bad T)
    ∷ testing start_at 1 (λ r. start_bad T)
    ∷ []

-- number 2: some row of a table is bad, or the start mode is not declared
unfoldable pub fields_bad : Tables → Bool
fields_bad T = some_bad (field_tests T)

-- rule 2: every row of every table is in range and names what is declared, and so does the start mode
pub record Fields (T : Tables) : Type 0 where
  pub ports : (p : ℕ) → p < port_count T → port_kind T p ≤ private
  pub tasks : (t : ℕ) → t < task_count T → TaskFits T t
  pub task-ports : (k : ℕ) → k < task_port_count T → TaskPortFits T k
  pub drivers : (d : ℕ) → d < driver_count T → AlwaysFits T d ⊎ IntervalFits T d
  pub copies : (c : ℕ) → c < copy_count T → CopyFits T c
  pub modes : (m : ℕ) → m < mode_count T → InRange (mode_period T m) max_period
  pub mode-ports : (k : ℕ) → k < mode_port_count T → ModePortFits T k
  pub invocations : (i : ℕ) → i < invocation_count T → InvocationFits T i
  pub updates : (i : ℕ) → i < update_count T → UpdateFits T i
  pub switches : (i : ℕ) → i < switch_count T → SwitchFits T i
  pub start : start_mode T < mode_count T

-- rule 2, row by row
abbrev pub field_rules : Tables → List RowRules
field_rules T =
    asking ports_at (port_count T) (λ p. port_kind T p ≤ private)
    ∷ asking tasks_at (task_count T) (TaskFits T)
    ∷ asking task_ports_at (task_port_count T) (TaskPortFits T)
    ∷ asking drivers_at (driver_count T) (λ d. AlwaysFits T d ⊎ IntervalFits T d)
    ∷ asking copies_at (copy_count T) (CopyFits T)
    ∷ asking modes_at (mode_count T) (λ m. InRange (mode_period T m) max_period)
    ∷ asking mode_ports_at (mode_port_count T) (ModePortFits T)
    ∷ asking invocations_at (invocation_count T) (InvocationFits T)
    ∷ asking updates_at (update_count T) (UpdateFits T)
    ∷ asking switches_at (switch_count T) (SwitchFits T)
    ∷ asking start_at 1 (λ r. start_mode T < mode_count T)
    ∷ []
