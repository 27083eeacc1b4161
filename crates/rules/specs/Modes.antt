-- Numbers 6, 7 and 8: invocations, updates and switches, each row with the ports of its driver and against the rows before it.
-- The claims are those of 001, section 3.1, point 4 (a), (b), (c).
use Rattle.std.specs.Prelude.{ℕ, ◌<◌, ◌≡◌, Bool, not, ◌&&◌, ◌||◌, List, [], ◌∷◌, ◌⊎◌, ◌↔◌, eqb}
use Rattle.theory.specs.Search.{any}
use Rattle.theory.specs.Rows.{RowTests, testing, some_bad, RowRules, asking}
use Rattle.program.specs.Tables.{Tables, sensor, actuator, input, output, task_port_count, task_port_task, task_port_port, guard_kind, guard_port}
use Rattle.program.specs.Tables.{kind_always}
use Rattle.program.specs.Tables.{kind_interval, copy_count, copy_driver, copy_source, copy_destination, mode_port_count, mode_port_mode}
use Rattle.program.specs.Tables.{mode_port_port}
use Rattle.program.specs.Tables.{invocation_count, invocation_mode, invocation_task, invocation_driver, update_count, update_mode, update_driver}
use Rattle.program.specs.Tables.{switch_count, switch_mode}
use Rattle.program.specs.Tables.{switch_target, switch_driver, invocations_at, updates_at, switches_at}
use Rattle.program.specs.Guard.{guard_of, meet, Meet}
use Rattle.program.specs.Sets.{is_kind, is_input, is_output, is_mode_port, is_destination, Sensor, Actuator, Input, Output, ModePort, Source}
use Rattle.program.specs.Sets.{Destination}

-- row k of the task ports is one of task t, and its port is of this kind
unfoldable pub own_port : Tables → ℕ → ℕ → ℕ → Bool
own_port T kind t k = eqb (task_port_task T k) t && is_kind T kind (task_port_port T k)

-- row k of the task ports names an output of task t that is bad
unfoldable pub output_with : Tables → (ℕ → Bool) → ℕ → ℕ → Bool
output_with T bad t k = let b = bad (task_port_port T k) in own_port T output t k && b

-- row k of the task ports names an input of task t that is bad
unfoldable pub input_with : Tables → (ℕ → Bool) → ℕ → ℕ → Bool
input_with T bad t k = let b = bad (task_port_port T k) in own_port T input t k && b

-- row k of the mode ports names a port of mode m that is bad
unfoldable pub port_with : Tables → (ℕ → Bool) → ℕ → ℕ → Bool
port_with T bad m k = let b = bad (mode_port_port T k) in eqb (mode_port_mode T k) m && b

-- row c of the copies names a source of driver d that is bad
unfoldable pub source_with : Tables → (ℕ → Bool) → ℕ → ℕ → Bool
source_with T bad d c = let b = bad (copy_source T c) in eqb (copy_driver T c) d && b

-- row c of the copies names a destination of driver d that is bad
unfoldable pub destination_with : Tables → (ℕ → Bool) → ℕ → ℕ → Bool
destination_with T bad d c = let b = bad (copy_destination T c) in eqb (copy_driver T c) d && b

-- some output of task t is bad
unfoldable pub some_output : Tables → (ℕ → Bool) → ℕ → Bool
some_output T bad t = any (output_with T bad t) (task_port_count T)

-- some input of task t is bad
unfoldable pub some_input : Tables → (ℕ → Bool) → ℕ → Bool
some_input T bad t = any (input_with T bad t) (task_port_count T)

-- some port of mode m is bad
unfoldable pub some_port : Tables → (ℕ → Bool) → ℕ → Bool
some_port T bad m = any (port_with T bad m) (mode_port_count T)

-- some source of driver d, of a copy or of its guard, is bad
unfoldable pub some_source : Tables → (ℕ → Bool) → ℕ → Bool
some_source T bad d = any (source_with T bad d) (copy_count T) || (eqb (guard_kind T d) kind_interval && bad (guard_port T d))

-- some destination of driver d is bad
unfoldable pub some_destination : Tables → (ℕ → Bool) → ℕ → Bool
some_destination T bad d = any (destination_with T bad d) (copy_count T)

-- a task driver or a mode driver of mode m may not read port p: it is neither a port of the mode nor a sensor
unfoldable pub unreadable : Tables → ℕ → ℕ → Bool
unreadable T m p = not (is_mode_port T m p || is_kind T sensor p)

-- 6: invocation rows i and j are of one mode, and have one task or share an output
unfoldable pub invocation_clash : Tables → ℕ → ℕ → Bool
invocation_clash T i j =
    let shared = some_output T (is_output T (invocation_task T j)) (invocation_task T i) in
    eqb (invocation_mode T j) (invocation_mode T i) && (eqb (invocation_task T j) (invocation_task T i) || shared)

-- 6: an output of the task of invocation row i is no mode port; a source is neither mode port nor sensor; destinations are not
-- exactly the task's inputs; the guard is not always; or an earlier row of the mode has the task or shares an output
unfoldable pub invocation_wrong : Tables → ℕ → Bool
invocation_wrong T i =
    some_output T (λ p. not (is_mode_port T (invocation_mode T i) p)) (invocation_task T i)
    || some_source T (unreadable T (invocation_mode T i)) (invocation_driver T i)
    || some_destination T (λ p. not (is_input T (invocation_task T i) p)) (invocation_driver T i)
    || some_input T (λ p. not (is_destination T (invocation_driver T i) p)) (invocation_task T i)
    || not (eqb (guard_kind T (invocation_driver T i)) kind_always)
    || any (invocation_clash T i) i

-- number 6, row by row: the invocation is named, wherever the fault lies
abbrev pub invocation_tests : Tables → List RowTests
invocation_tests T = testing invocations_at (invocation_count T) (invocation_wrong T) ∷ []

-- number 6: some invocation row breaks 001's condition on task invocations
unfoldable pub invocations_bad : Tables → Bool
invocations_bad T = some_bad (invocation_tests T)

-- what 001 asks of invocation row i by itself
pub record Invokes (T : Tables) (i : ℕ) : Type 0 where
  -- every output of the task is a port of the mode: Out[t] ⊆ ModePorts[m]
  pub outputs : (p : ℕ) → Output T (invocation_task T i) p → ModePort T (invocation_mode T i) p
  -- every source of the driver is a port of the mode or a sensor: Src[d] ⊆ ModePorts[m] ∪ SensePorts
  pub sources : (p : ℕ) → Source T (invocation_driver T i) p → ModePort T (invocation_mode T i) p ⊎ Sensor T p
  -- the destinations of the driver are the inputs of the task: Dst[d] = In[t]
  pub destinations : (p : ℕ) → Destination T (invocation_driver T i) p ↔ Input T (invocation_task T i) p
  pub guard : guard_kind T (invocation_driver T i) ≡ kind_always

-- rule 6: 001's condition on task invocations, of each row and of any two of one mode
pub record Invocations (T : Tables) : Type 0 where
  pub each : (i : ℕ) → i < invocation_count T → Invokes T i
  -- two invocations of one mode have two tasks, which share no output: t ≠ t', and Out[t] ∩ Out[t'] = ∅
  pub tasks-apart : (i j : ℕ) → j < i → i < invocation_count T → invocation_mode T j ≡ invocation_mode T i
      → invocation_task T j ≡ invocation_task T i → ⊥
  pub outputs-apart : (i j p : ℕ) → j < i → i < invocation_count T → invocation_mode T j ≡ invocation_mode T i
      → Output T (invocation_task T i) p → Output T (invocation_task T j) p → ⊥

-- what rule 6 asks of invocation row i, by itself and against the rows before it
pub record InvocationRow (T : Tables) (i : ℕ) : Type 0 where
  pub itself : Invokes T i
  pub task-apart : (j : ℕ) → j < i → invocation_mode T j ≡ invocation_mode T i → invocation_task T j ≡ invocation_task T i → ⊥
  pub outputs-apart : (j p : ℕ) → j < i → invocation_mode T j ≡ invocation_mode T i
      → Output T (invocation_task T i) p → Output T (invocation_task T j) p → ⊥

-- rule 6, row by row
abbrev pub invocation_rules : Tables → List RowRules
invocation_rules T = asking invocations_at (invocation_count T) (InvocationRow T) ∷ []

-- 7: update rows i and j are of one mode and share a destination
unfoldable pub update_clash : Tables → ℕ → ℕ → Bool
update_clash T i j =
    let shared = some_destination T (is_destination T (update_driver T j)) (update_driver T i) in
    eqb (update_mode T j) (update_mode T i) && shared

-- 7: a source of update row i is no mode port, a destination no actuator, or an earlier row of the mode shares a destination
unfoldable pub update_wrong : Tables → ℕ → Bool
update_wrong T i =
    some_source T (λ p. not (is_mode_port T (update_mode T i) p)) (update_driver T i)
    || some_destination T (λ p. not (is_kind T actuator p)) (update_driver T i)
    || any (update_clash T i) i

-- number 7, row by row
abbrev pub update_tests : Tables → List RowTests
update_tests T = testing updates_at (update_count T) (update_wrong T) ∷ []

-- number 7: some update row breaks 001's condition on actuator updates
unfoldable pub updates_bad : Tables → Bool
updates_bad T = some_bad (update_tests T)

-- rule 7: 001's condition on actuator updates
pub record Updates (T : Tables) : Type 0 where
  -- the driver reads ports of the mode and sets actuators: Src[d] ⊆ ModePorts[m], Dst[d] ⊆ ActPorts
  pub sources : (i p : ℕ) → i < update_count T → Source T (update_driver T i) p → ModePort T (update_mode T i) p
  pub destinations : (i p : ℕ) → i < update_count T → Destination T (update_driver T i) p → Actuator T p
  -- two updates of one mode share no destination: Dst[d] ∩ Dst[d'] = ∅
  pub apart : (i j p : ℕ) → j < i → i < update_count T → update_mode T j ≡ update_mode T i
      → Destination T (update_driver T i) p → Destination T (update_driver T j) p → ⊥

-- what rule 7 asks of update row i, by itself and against the rows before it
pub record UpdateRow (T : Tables) (i : ℕ) : Type 0 where
  pub sources : (p : ℕ) → Source T (update_driver T i) p → ModePort T (update_mode T i) p
  pub destinations : (p : ℕ) → Destination T (update_driver T i) p → Actuator T p
  pub apart : (j p : ℕ) → j < i → update_mode T j ≡ update_mode T i
      → Destination T (update_driver T i) p → Destination T (update_driver T j) p → ⊥

-- rule 7, row by row
abbrev pub update_rules : Tables → List RowRules
update_rules T = asking updates_at (update_count T) (UpdateRow T) ∷ []

-- 8: switch rows i and j are of one mode, and their guards can hold for one valuation
unfoldable pub switch_clash : Tables → ℕ → ℕ → Bool
switch_clash T i j = eqb (switch_mode T j) (switch_mode T i) && meet (guard_of T (switch_driver T j)) (guard_of T (switch_driver T i))

-- 8: a source of switch row i is neither a port of the old mode nor a sensor; destinations are not exactly the target's mode
-- ports; or the guard of an earlier row of the mode can hold for one valuation with its own
unfoldable pub switch_wrong : Tables → ℕ → Bool
switch_wrong T i =
    some_source T (unreadable T (switch_mode T i)) (switch_driver T i)
    || some_destination T (λ p. not (is_mode_port T (switch_target T i) p)) (switch_driver T i)
    || some_port T (λ p. not (is_destination T (switch_driver T i) p)) (switch_target T i)
    || any (switch_clash T i) i

-- number 8, row by row
abbrev pub switch_tests : Tables → List RowTests
switch_tests T = testing switches_at (switch_count T) (switch_wrong T) ∷ []

-- number 8: some switch row breaks 001's condition on mode switches
unfoldable pub switches_bad : Tables → Bool
switches_bad T = some_bad (switch_tests T)

-- rule 8: 001's condition on mode switches
pub record Switches (T : Tables) : Type 0 where
  -- the driver reads ports of the mode and sensors, and sets just the target's ports:
  -- Src[d] ⊆ ModePorts[m] ∪ SensePorts, Dst[d] = ModePorts[m']
  pub sources : (i p : ℕ) → i < switch_count T → Source T (switch_driver T i) p → ModePort T (switch_mode T i) p ⊎ Sensor T p
  pub destinations : (i p : ℕ) → i < switch_count T → Destination T (switch_driver T i) p ↔ ModePort T (switch_target T i) p
  -- of two switches of one mode, for all valuations, g[d] or g[d'] is false
  pub apart : (i j : ℕ) → j < i → i < switch_count T → switch_mode T j ≡ switch_mode T i
      → Meet (guard_of T (switch_driver T j)) (guard_of T (switch_driver T i)) → ⊥

-- what rule 8 asks of switch row i, by itself and against the rows before it
pub record SwitchRow (T : Tables) (i : ℕ) : Type 0 where
  pub sources : (p : ℕ) → Source T (switch_driver T i) p → ModePort T (switch_mode T i) p ⊎ Sensor T p
  pub destinations : (p : ℕ) → Destination T (switch_driver T i) p ↔ ModePort T (switch_target T i) p
  pub apart : (j : ℕ) → j < i → switch_mode T j ≡ switch_mode T i → Meet (guard_of T (switch_driver T j)) (guard_of T (switch_driver T i)) → ⊥

-- rule 8, row by row
abbrev pub switch_rules : Tables → List RowRules
switch_rules T = asking switches_at (switch_count T) (SwitchRow T) ∷ []
