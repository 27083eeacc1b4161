-- What a call comes to, by its tests: it names nothing (19), its task is still running (17), or it is done; of each of the three
-- kinds of call. Assumes of what a call names that there are no more ports, tasks and drivers than the limits.
use Prim.Native.Nat.{ℕ, ◌+◌, ◌-◌, ◌≤◌, ◌<◌}
use mathlib.Core.Path.{◌≡◌, refl, sym, subst, ap, ◌∙◌}
use mathlib.Core.Bool.{Bool, true, false, not}
use mathlib.Core.List.{List}
use native.Mathlib.Omega.{arith}
use lib.Dec.{ltb}
use lib.IntN.{ℤ}
use lib.ListN.{set}
use borrow.Author.Tests.{le-leb, lt-leb}
use Rattle.theory.specs.Lists.{puts}
use Rattle.theory.specs.Verdict.{accepted_number}
use Rattle.cells.specs.Cell.{name_of, rows_in}
use Rattle.cells.specs.Limits.{max_ports, max_tasks, max_drivers, first_output_call, first_sensor_call}
use Rattle.cells.specs.Refusals.{overrun_refused, faulty_refused}
use Rattle.program.specs.Tables.{Tables, port_width, port_count, sensor, task_width, task_count, driver_width, driver_count}
use Rattle.program.specs.Sets.{is_kind, may_give}
use Rattle.program.specs.Program.{Task, Driver, Program, driver_row, ports_of, program_of}
use Rattle.program.specs.Ports.{value_of, assigned, drive}
use Rattle.program.proofs.Decoded.{task-row, driver-row}
use Rattle.runs.specs.Tick.{left_of}
use Rattle.machine.specs.declared.State.{State}
use Rattle.machine.specs.Advance.{Advanced}
use Rattle.machine.specs.Change.{with_ports}
use Rattle.machine.specs.Instruction.{Call, driver_call, output_call, sensor_call, call_of, names_nothing, still_called, called}
use Rattle.machine.proofs.Instructions.{driver-range, output-range, sensor-range}
use Rattle.instants.specs.Step.{call_answer}
use Rattle.instants.proofs.Declared.{row_named, task-past, driver-past, sensor-named, sensor-is}

-- a call number in the range of drivers names that driver
pub driver-numbered : (n : ℕ) → n < first_output_call → driver_call n ≡ call_of n
driver-numbered n l = sym (driver-range n l)

-- a call number in the range of output copies names that output copy
pub output-numbered : (n : ℕ) → first_output_call ≤ n → n < first_sensor_call → output_call (n - first_output_call) ≡ call_of n
output-numbered n l h =
    let e : first_output_call + (n - first_output_call) ≡ n = omega arith in
    sym (output-range (n - first_output_call) (omega arith)) ∙ ap call_of e

-- a call number in the range of sensors names the reading of that sensor
pub sensor-numbered : (n : ℕ) → first_sensor_call ≤ n → sensor_call (n - first_sensor_call) ≡ call_of n
sensor-numbered n l =
    let e : first_sensor_call + (n - first_sensor_call) ≡ n = omega arith in
    sym (sensor-range (n - first_sensor_call)) ∙ ap call_of e

module _ (P : Program) (readings times : List ℤ) (s : State) (c : Call) where
  -- what a call comes to, by whether it names nothing and whether its task is still running
  abbrev pub answered : Bool → Bool → Advanced
  answered nothing running = elim nothing [
    | true ↦ record { number = faulty_refused; state = s }
    | false ↦ elim running [
      | true ↦ record { number = overrun_refused; state = s }
      | false ↦ record { number = accepted_number; state = called P readings times s c }
    ]
  ]

  -- what the two tests decide is what the call answers
  pub answered-call : answered (names_nothing P c) (still_called s c) ≡ call_answer P readings times s c
  unfolding call_answer
  answered-call = refl

  -- a call that names nothing is refused with 19
  pub call-nothing : names_nothing P c ≡ true → record { number = faulty_refused; state = s } ≡ call_answer P readings times s c
  call-nothing e = (λ i. answered (sym e i) (still_called s c)) ∙ answered-call

  -- a call whose task is still running is refused with 17
  pub call-running : names_nothing P c ≡ false → still_called s c ≡ true
      → record { number = overrun_refused; state = s } ≡ call_answer P readings times s c
  call-running e f = (λ i. answered (sym e i) (sym f i)) ∙ answered-call

  -- a call that passes both tests is done
  pub call-done : names_nothing P c ≡ false → still_called s c ≡ false
      → record { number = accepted_number; state = called P readings times s c } ≡ call_answer P readings times s c
  call-done e f = (λ i. answered (sym e i) (sym f i)) ∙ answered-call

module _ (T : Tables) (readings times : List ℤ) (s : State) where
  -- the driver of number d, its name, and whether it is declared
  module _ {drivers : List ℤ} (d name : ℕ) (b : Bool) (e : T.drivers ≡ drivers) (few : rows_in driver_width drivers ≤ max_drivers)
      (n : name ≡ name_of d) (is_b : b ≡ ltb name (rows_in driver_width drivers)) where
    -- a driver that is not declared is refused with 19
    pub driver-nothing : not b ≡ true → record { number = faulty_refused; state = s } ≡ call_answer (program_of T) readings times s (driver_call d)
    driver-nothing h = call-nothing (program_of T) readings times s (driver_call d) (driver-past T d name b e few n is_b ∙ h)

    -- a declared driver moves what its row says
    pub driver-done : (v : List ℤ) → not b ≡ false → v ≡ drive (driver_row T name) s.ports
        → record { number = accepted_number; state = with_ports s v } ≡ call_answer (program_of T) readings times s (driver_call d)
    driver-done v h o =
        let (l, named) = row_named (rows_in driver_width drivers) d name (omega arith) n b is_b h in
        let declared : d < driver_count T = subst (λ (t : List ℤ). d < rows_in driver_width t) (sym e) l in
        ap (λ (w : List ℤ). record { number = accepted_number; state = with_ports s w })
        (o ∙ ap (λ (k : ℕ). drive (driver_row T k) s.ports) named ∙ ap (λ (D : Driver). drive D s.ports) (sym (driver-row T d declared)))
        ∙ call-done (program_of T) readings times s (driver_call d) (driver-past T d name b e few n is_b ∙ h) refl

  -- the task of number t, its name, and whether it is declared
  module _ {tasks : List ℤ} (t name : ℕ) (b : Bool) (e : T.tasks ≡ tasks) (few : rows_in task_width tasks ≤ max_tasks)
      (n : name ≡ name_of t) (is_b : b ≡ ltb name (rows_in task_width tasks)) where
    -- a task that is not declared is refused with 19
    pub output-nothing : not b ≡ true → record { number = faulty_refused; state = s } ≡ call_answer (program_of T) readings times s (output_call t)
    output-nothing h = call-nothing (program_of T) readings times s (output_call t) (task-past T t name b e few n is_b ∙ h)

    -- a declared task has its number as name
    named-task : not b ≡ false → (t < rows_in task_width tasks) × (name ≡ t)
    named-task = row_named (rows_in task_width tasks) t name (omega arith) n b is_b

    -- a task that is still running is refused with 17
    pub output-running : not b ≡ false → (rest : ℕ) → rest ≡ left_of s.left name → 0 < rest
        → record { number = overrun_refused; state = s } ≡ call_answer (program_of T) readings times s (output_call t)
    output-running d rest r h =
        call-running (program_of T) readings times s (output_call t) (task-past T t name b e few n is_b ∙ d)
        (le-leb 1 _ (subst (λ (k : ℕ). 1 ≤ k) (r ∙ ap (left_of s.left) (named-task d).1) h))

    -- what a task that has ended gives is taken from beside the local outputs
    pub output-done : not b ≡ false → (rest : ℕ) (v : List ℤ) → rest ≡ left_of s.left name → rest ≤ 0
        → v ≡ puts (assigned (value_of s.outputs) (ports_of T (may_give T) name)) s.ports
        → record { number = accepted_number; state = with_ports s v } ≡ call_answer (program_of T) readings times s (output_call t)
    output-done d rest v r h o =
        let (l, named) = named-task d in
        let declared : t < task_count T = subst (λ (t' : List ℤ). t < rows_in task_width t') (sym e) l in
        ap (λ (w : List ℤ). record { number = accepted_number; state = with_ports s w })
        (o ∙ ap (λ (k : ℕ). puts (assigned (value_of s.outputs) (ports_of T (may_give T) k)) s.ports) named
        ∙ ap (λ (K : Task). puts (assigned (value_of s.outputs) K.gives) s.ports) (sym (task-row T t declared)))
        ∙ call-done (program_of T) readings times s (output_call t) (task-past T t name b e few n is_b ∙ d)
        (lt-leb 1 _ (subst (λ (k : ℕ). k < 1) (r ∙ ap (left_of s.left) named) (omega arith)))

  module _ {ports : List ℤ} (p name : ℕ) (e : T.ports ≡ ports) (few : rows_in port_width ports ≤ max_ports) (n : name ≡ name_of p) where
    -- the tables have no more ports than the limit
    few-ports : port_count T ≤ max_ports
    few-ports = subst (λ (t : List ℤ). rows_in port_width t ≤ max_ports) (sym e) few

    -- the reading of a port that is no sensor is refused with 19
    pub sensor-nothing : is_kind T sensor name ≡ false → record { number = faulty_refused; state = s } ≡ call_answer (program_of T) readings times s (sensor_call p)
    sensor-nothing h =
        call-nothing (program_of T) readings times s (sensor_call p)
        (ap not (sym (ap (is_kind T sensor) n ∙ sensor-is T few-ports p) ∙ h))

    -- a sensor takes its reading
    pub sensor-done : (v : List ℤ) → is_kind T sensor name ≡ true → v ≡ set s.ports name (value_of readings name)
        → record { number = accepted_number; state = with_ports s v } ≡ call_answer (program_of T) readings times s (sensor_call p)
    sensor-done v h o =
        let named : name ≡ p = n ∙ sensor-named T few-ports p (sym (ap (is_kind T sensor) n) ∙ h) in
        ap (λ (w : List ℤ). record { number = accepted_number; state = with_ports s w })
        (o ∙ ap (λ (k : ℕ). set s.ports k (value_of readings k)) named)
        ∙ call-done (program_of T) readings times s (sensor_call p) (ap not (sym (ap (is_kind T sensor) n ∙ sensor-is T few-ports p) ∙ h)) refl
