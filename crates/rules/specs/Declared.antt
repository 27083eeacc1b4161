-- Numbers 3, 4 and 5: task ports, guards and copies, and mode ports; each row by itself and against the rows before it.
use Rattle.std.specs.Prelude.{ℕ, ◌<◌, ◌≡◌, Bool, not, ◌&&◌, ◌||◌, List, [], ◌∷◌, eqb}
use Rattle.theory.specs.Search.{any}
use Rattle.theory.specs.Rows.{RowTests, testing, some_bad, RowRules, asking}
use Rattle.program.specs.Tables.{Tables, sensor, actuator, output, private, task_port_count, task_port_task, task_port_port, driver_count}
use Rattle.program.specs.Tables.{guard_kind, guard_port, kind_interval, copy_count, copy_driver, copy_source, copy_destination, mode_port_count}
use Rattle.program.specs.Tables.{mode_port_mode, mode_port_port, task_ports_at, drivers_at, copies_at, mode_ports_at}
use Rattle.program.specs.Sets.{is_kind, may_take, is_task_port, mode_port_at, copies_to, OfKind, MayTake, Input, Private}

-- row k of the task ports names port p
unfoldable pub same_port : Tables → ℕ → ℕ → Bool
same_port T p k = eqb (task_port_port T k) p

-- 3: task port row k repeats an earlier row, names a sensor or an actuator, or names an input or private port that an earlier row names
unfoldable pub task_port_clash : Tables → ℕ → Bool
task_port_clash T k =
    let repeats = any (is_task_port T (task_port_task T k) (task_port_port T k)) k in
    let serves = any (same_port T (task_port_port T k)) k in
    repeats
    || is_kind T sensor (task_port_port T k)
    || is_kind T actuator (task_port_port T k)
    || (may_take T (task_port_port T k) && serves)

-- number 3, row by row
abbrev pub task_port_tests : Tables → List RowTests
task_port_tests T = testing task_ports_at (task_port_count T) (task_port_clash T) ∷ []

-- 3: some task port row repeats, names a sensor or an actuator, or names an input or private port that serves two tasks
unfoldable pub task_ports_bad : Tables → Bool
task_ports_bad T = some_bad (task_port_tests T)

-- rule 3: task port rows do not repeat and name no sensor or actuator, and no input port and no private port serves two tasks
pub record TaskPorts (T : Tables) : Type 0 where
  pub no-repeat : (j k : ℕ) → j < k → k < task_port_count T → task_port_task T j ≡ task_port_task T k → task_port_port T j ≡ task_port_port T k → ⊥
  pub no-sensor : (k : ℕ) → k < task_port_count T → OfKind T sensor (task_port_port T k) → ⊥
  pub no-actuator : (k : ℕ) → k < task_port_count T → OfKind T actuator (task_port_port T k) → ⊥
  -- two tasks share no input port: In[t] ∩ In[t'] = ∅
  pub inputs_apart : (t u p : ℕ) → Input T t p → Input T u p → t ≡ u
  -- and no private port: Priv[t] ∩ Priv[t'] = ∅
  pub privates-apart : (t u p : ℕ) → Private T t p → Private T u p → t ≡ u

-- what rule 3 asks of task port row k: it repeats no earlier row, names no sensor or actuator, and no input or private port that an
-- earlier row names
pub record TaskPortRow (T : Tables) (k : ℕ) : Type 0 where
  pub no-repeat : (j : ℕ) → j < k → task_port_task T j ≡ task_port_task T k → task_port_port T j ≡ task_port_port T k → ⊥
  pub no-sensor : OfKind T sensor (task_port_port T k) → ⊥
  pub no-actuator : OfKind T actuator (task_port_port T k) → ⊥
  pub serves-one : MayTake T (task_port_port T k) → (j : ℕ) → j < k → task_port_port T j ≡ task_port_port T k → ⊥

-- rule 3, row by row
abbrev pub task_port_rules : Tables → List RowRules
task_port_rules T = asking task_ports_at (task_port_count T) (TaskPortRow T) ∷ []

-- 4: the interval guard of driver d names a private port
unfoldable pub guard_wrong : Tables → ℕ → Bool
guard_wrong T d = eqb (guard_kind T d) kind_interval && is_kind T private (guard_port T d)

-- 4: copy c names a private port, or an earlier copy of its driver has its destination
unfoldable pub copy_clash : Tables → ℕ → Bool
copy_clash T c =
    is_kind T private (copy_source T c)
    || is_kind T private (copy_destination T c)
    || any (copies_to T (copy_driver T c) (copy_destination T c)) c

-- number 4, row by row: guards stand in the table of drivers, before the copies
abbrev pub copy_tests : Tables → List RowTests
copy_tests T = testing drivers_at (driver_count T) (guard_wrong T) ∷ testing copies_at (copy_count T) (copy_clash T) ∷ []

-- 4: some guard or copy names a private port, or one driver has two copies to one destination
unfoldable pub copies_bad : Tables → Bool
copies_bad T = some_bad (copy_tests T)

-- rule 4: no guard and no copy names a private port, and no two copies of one driver have one destination
pub record Copies (T : Tables) : Type 0 where
  pub no-private-guard : (d : ℕ) → d < driver_count T → guard_kind T d ≡ kind_interval → OfKind T private (guard_port T d) → ⊥
  pub no-private-source : (c : ℕ) → c < copy_count T → OfKind T private (copy_source T c) → ⊥
  pub no-private-destination : (c : ℕ) → c < copy_count T → OfKind T private (copy_destination T c) → ⊥
  pub apart : (b c : ℕ) → b < c → c < copy_count T → copy_driver T b ≡ copy_driver T c → copy_destination T b ≡ copy_destination T c → ⊥

-- what rule 4 asks of driver d: its guard names no private port
abbrev pub GuardRow : Tables → ℕ → Type 0
GuardRow T d = guard_kind T d ≡ kind_interval → OfKind T private (guard_port T d) → ⊥

-- what rule 4 asks of copy c: it names no private port, and no earlier copy of its driver has its destination
pub record CopyRow (T : Tables) (c : ℕ) : Type 0 where
  pub no-private-source : OfKind T private (copy_source T c) → ⊥
  pub no-private-destination : OfKind T private (copy_destination T c) → ⊥
  pub apart : (b : ℕ) → b < c → copy_driver T b ≡ copy_driver T c → copy_destination T b ≡ copy_destination T c → ⊥

-- rule 4, row by row
abbrev pub copy_rules : Tables → List RowRules
copy_rules T = asking drivers_at (driver_count T) (GuardRow T) ∷ asking copies_at (copy_count T) (CopyRow T) ∷ []

-- 5: mode port row k repeats an earlier row or names no output port
unfoldable pub mode_port_clash : Tables → ℕ → Bool
mode_port_clash T k = any (mode_port_at T (mode_port_mode T k) (mode_port_port T k)) k || not (is_kind T output (mode_port_port T k))

-- number 5, row by row
abbrev pub mode_port_tests : Tables → List RowTests
mode_port_tests T = testing mode_ports_at (mode_port_count T) (mode_port_clash T) ∷ []

-- 5: some mode port row repeats or names no output port
unfoldable pub mode_ports_bad : Tables → Bool
mode_ports_bad T = some_bad (mode_port_tests T)

-- rule 5: mode port rows do not repeat, and each names an output port
pub record ModePorts (T : Tables) : Type 0 where
  pub no-repeat : (j k : ℕ) → j < k → k < mode_port_count T → mode_port_mode T j ≡ mode_port_mode T k → mode_port_port T j ≡ mode_port_port T k → ⊥
  pub outputs : (k : ℕ) → k < mode_port_count T → OfKind T output (mode_port_port T k)

-- what rule 5 asks of mode port row k: it repeats no earlier row and names an output port
pub record ModePortRow (T : Tables) (k : ℕ) : Type 0 where
  pub no-repeat : (j : ℕ) → j < k → mode_port_mode T j ≡ mode_port_mode T k → mode_port_port T j ≡ mode_port_port T k → ⊥
  pub output : OfKind T output (mode_port_port T k)

-- rule 5, row by row
abbrev pub mode_port_rules : Tables → List RowRules
mode_port_rules T = asking mode_ports_at (mode_port_count T) (ModePortRow T) ∷ []
