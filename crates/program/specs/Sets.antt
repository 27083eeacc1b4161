-- The sets of 001 that the tables declare: ports by kind, inputs, outputs and private ports of a task, mode ports, sources and
-- destinations of a driver. Each twice: as a test, and as a claim with its quantifier over rows.
use Rattle.std.specs.Prelude.{ℕ, ◌<◌, ◌≡◌, Bool, ◌&&◌, ◌||◌, List, ◌⊎◌, eqb, ltb, ℤ}
use Rattle.theory.specs.Search.{any}
use Rattle.theory.specs.Lists.{those}
use Rattle.cells.specs.Cell.{rows_in, field_at}
use Rattle.program.specs.Tables.{Tables, port_width, port_count, port_kind, sensor, actuator, input, output, private, task_port_count}
use Rattle.program.specs.Tables.{task_port_task, task_port_port, guard_kind, guard_port, kind_interval, copy_count, copy_driver}
use Rattle.program.specs.Tables.{copy_source, copy_destination, mode_port_count, mode_port_mode, mode_port_port}

-- port p is declared and of this kind
unfoldable pub is_kind : Tables → ℕ → ℕ → Bool
is_kind T kind p = ltb p (port_count T) && eqb (port_kind T p) kind

-- The two questions of a port's kind that are asked for a task: its function takes the values of inputs and private ports, and gives a
-- value for each output and private port.
unfoldable pub may_take : Tables → ℕ → Bool
may_take T p = is_kind T input p || is_kind T private p

unfoldable pub may_give : Tables → ℕ → Bool
may_give T p = is_kind T output p || is_kind T private p

-- row k of the task ports says that task t has port p; row k of the mode ports says that mode m has port p
unfoldable pub is_task_port : Tables → ℕ → ℕ → ℕ → Bool
is_task_port T t p k = eqb (task_port_task T k) t && eqb (task_port_port T k) p

unfoldable pub mode_port_at : Tables → ℕ → ℕ → ℕ → Bool
mode_port_at T m p k = eqb (mode_port_mode T k) m && eqb (mode_port_port T k) p

-- port p is an input of task t; port p is an output of task t
unfoldable pub is_input : Tables → ℕ → ℕ → Bool
is_input T t p = is_kind T input p && any (is_task_port T t p) (task_port_count T)

unfoldable pub is_output : Tables → ℕ → ℕ → Bool
is_output T t p = is_kind T output p && any (is_task_port T t p) (task_port_count T)

-- port p is a port of mode m
unfoldable pub is_mode_port : Tables → ℕ → ℕ → Bool
is_mode_port T m p = any (mode_port_at T m p) (mode_port_count T)

-- row c of the copies is a copy of driver d from port p; row c is a copy of driver d to port p
unfoldable pub copies_from : Tables → ℕ → ℕ → ℕ → Bool
copies_from T d p c = eqb (copy_driver T c) d && eqb (copy_source T c) p

unfoldable pub copies_to : Tables → ℕ → ℕ → ℕ → Bool
copies_to T d p c = eqb (copy_driver T c) d && eqb (copy_destination T c) p

-- port p is a source of driver d, of a copy or as its interval guard's port; port p is a destination of driver d
unfoldable pub is_source : Tables → ℕ → ℕ → Bool
is_source T d p = any (copies_from T d p) (copy_count T) || (eqb (guard_kind T d) kind_interval && eqb (guard_port T d) p)

unfoldable pub is_destination : Tables → ℕ → ℕ → Bool
is_destination T d p = any (copies_to T d p) (copy_count T)

-- port p of this table of ports is a sensor
abbrev pub is_sensor : List ℤ → ℕ → Bool
is_sensor ports p = eqb (field_at port_width 0 ports p) sensor

-- what `row` gives of each port that is a sensor, in table order
abbrev pub sensor_rows : {A : Type 0} → List ℤ → (ℕ → A) → List A
sensor_rows ports row = those (is_sensor ports) row (rows_in port_width ports) 0

-- Each set as a claim: port p is declared and of this kind, a sensor, an actuator; task t has port p.
abbrev pub OfKind : Tables → ℕ → ℕ → Type 0
OfKind T kind p = (p < port_count T) × (port_kind T p ≡ kind)

abbrev pub Sensor : Tables → ℕ → Type 0
Sensor T = OfKind T sensor

abbrev pub Actuator : Tables → ℕ → Type 0
Actuator T = OfKind T actuator

-- port p is one that a task's function takes, an input or a private port; one that it gives, an output or a private port
abbrev pub MayTake : Tables → ℕ → Type 0
MayTake T p = OfKind T input p ⊎ OfKind T private p

abbrev pub MayGive : Tables → ℕ → Type 0
MayGive T p = OfKind T output p ⊎ OfKind T private p

abbrev pub TaskPort : Tables → ℕ → ℕ → Type 0
TaskPort T t p = (k : ℕ) × (k < task_port_count T) × ((task_port_task T k ≡ t) × (task_port_port T k ≡ p))

-- port p is in In[t] of 001; in Out[t]; in Priv[t]
abbrev pub Input : Tables → ℕ → ℕ → Type 0
Input T t p = OfKind T input p × TaskPort T t p

abbrev pub Output : Tables → ℕ → ℕ → Type 0
Output T t p = OfKind T output p × TaskPort T t p

abbrev pub Private : Tables → ℕ → ℕ → Type 0
Private T t p = OfKind T private p × TaskPort T t p

-- task t takes port p: it is in In[t] ∪ Priv[t]; task t gives port p: it is in Out[t] ∪ Priv[t]
abbrev pub Takes : Tables → ℕ → ℕ → Type 0
Takes T t p = Input T t p ⊎ Private T t p

abbrev pub Gives : Tables → ℕ → ℕ → Type 0
Gives T t p = Output T t p ⊎ Private T t p

-- port p is in ModePorts[m] of 001
abbrev pub ModePort : Tables → ℕ → ℕ → Type 0
ModePort T m p = (k : ℕ) × (k < mode_port_count T) × ((mode_port_mode T k ≡ m) × (mode_port_port T k ≡ p))

-- port p is in Src[d] of 001; port p is in Dst[d]
abbrev pub Source : Tables → ℕ → ℕ → Type 0
Source T d p =
    ((c : ℕ) × (c < copy_count T) × ((copy_driver T c ≡ d) × (copy_source T c ≡ p)))
    ⊎ ((guard_kind T d ≡ kind_interval) × (guard_port T d ≡ p))

abbrev pub Destination : Tables → ℕ → ℕ → Type 0
Destination T d p = (c : ℕ) × (c < copy_count T) × ((copy_driver T c ≡ d) × (copy_destination T c ≡ p))
