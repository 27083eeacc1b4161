-- One instruction of E code: when it is faulty (19), lent a bad time (16), or ends or releases a task that is still running
-- (17), in that order; and what it does otherwise. Each condition as a test and as a claim.
use Rattle.std.specs.Prelude.{ℕ, suc, ◌-◌, ◌≤◌, ◌≡◌, Bool, true, false, not, ◌||◌, List, [], ◌∷◌, ◌⊎◌, ltb, leb, ℤ, length, set, replicate}
use Rattle.theory.specs.Lists.{member, puts}
use Rattle.theory.specs.Verdict.{Refusal, unplaced}
use Rattle.cells.specs.Cell.{num_at}
use Rattle.cells.specs.Limits.{suppliers, max_delay, first_output_call, first_sensor_call}
use Rattle.cells.specs.Refusals.{time_refused, overrun_refused, faulty_refused}
use Rattle.program.specs.Guard.{holds}
use Rattle.program.specs.Program.{Program, task, driver}
use Rattle.program.specs.Ports.{value_of, assigned, drive}
use Rattle.rules.specs.Fields.{in_range, InRange}
use Rattle.runs.specs.Tick.{left_of}
use Rattle.code.specs.Op.{Op, call, schedule, branch, jump, future, return, faulty}
use Rattle.machine.specs.declared.State.{State}
use Rattle.machine.specs.declared.At.{At}
use Rattle.machine.specs.Change.{with_ports, with_left}

-- "call numbers fall into three ranges": what a call number names
pub data Call : Type 0 where
  driver_call : ℕ → Call
  output_call : ℕ → Call
  sensor_call : ℕ → Call

abbrev pub call_of : ℕ → Call
call_of n = elim (ltb n first_output_call) [
  | true ↦ driver_call n
  | false ↦ elim (ltb n first_sensor_call) [ true ↦ output_call (n - first_output_call) | false ↦ sensor_call (n - first_sensor_call) ]
]

module _ (P : Program) where
  -- a call names nothing: no declared driver, no declared task, no declared sensor
  abbrev pub names_nothing : Call → Bool
  names_nothing (driver_call d) = leb (length P.drivers) d
  names_nothing (output_call t) = leb (length P.tasks) t
  names_nothing (sensor_call p) = not (member p P.sensors)

  abbrev pub NamesNothing : Call → Type 0
  NamesNothing (driver_call d) = length P.drivers ≤ d
  NamesNothing (output_call t) = length P.tasks ≤ t
  NamesNothing (sensor_call p) = member p P.sensors ≡ false

  -- 19, where the code has n instructions and `planned` says that a `future` was executed: an unknown number or a non-zero
  -- unused word (`faulty`), an argument that names nothing, an address past the end, taken or not, a second `future` in an
  -- instant, a delay outside 1..4,096, `return` without `future`
  abbrev pub is_faulty : ℕ → Bool → Op → Bool
  is_faulty n planned (call c) = names_nothing (call_of c)
  is_faulty n planned (schedule t) = leb (length P.tasks) t
  is_faulty n planned (branch d a) = leb (length P.drivers) d || leb n a
  is_faulty n planned (jump a) = leb n a
  is_faulty n planned (future d a) = planned || not (in_range d max_delay) || leb n a
  is_faulty n planned return = not planned
  is_faulty n planned faulty = true

  abbrev pub Faulty : ℕ → Bool → Op → Type 0
  Faulty n planned (call c) = NamesNothing (call_of c)
  Faulty n planned (schedule t) = length P.tasks ≤ t
  Faulty n planned (branch d a) = (length P.drivers ≤ d) ⊎ (n ≤ a)
  Faulty n planned (jump a) = n ≤ a
  Faulty n planned (future d a) = (planned ≡ true) ⊎ ((InRange d max_delay → ⊥) ⊎ (n ≤ a))
  Faulty n planned return = planned ≡ false
  Faulty n planned faulty = Unit {0}

  -- 16: the execution time lent for a task being released is outside 1..worst case
  abbrev pub time_bad : List ℤ → Op → Bool
  time_bad times (call c) = false
  time_bad times (schedule t) = not (in_range (num_at times t) (task P t).worst)
  time_bad times (branch d a) = false
  time_bad times (jump a) = false
  time_bad times (future d a) = false
  time_bad times return = false
  time_bad times faulty = false

  abbrev pub TimeBad : List ℤ → Op → Type 0
  TimeBad times (call c) = ⊥
  TimeBad times (schedule t) = InRange (num_at times t) (task P t).worst → ⊥
  TimeBad times (branch d a) = ⊥
  TimeBad times (jump a) = ⊥
  TimeBad times (future d a) = ⊥
  TimeBad times return = ⊥
  TimeBad times faulty = ⊥

-- 17: the task that a call or an instruction ends or releases is still running
abbrev pub still_called : State → Call → Bool
still_called s (driver_call d) = false
still_called s (output_call t) = leb 1 (left_of s.left t)
still_called s (sensor_call p) = false

abbrev pub still_running : State → Op → Bool
still_running s (call c) = still_called s (call_of c)
still_running s (schedule t) = leb 1 (left_of s.left t)
still_running s (branch d a) = false
still_running s (jump a) = false
still_running s (future d a) = false
still_running s return = false
still_running s faulty = false

abbrev pub StillCalled : State → Call → Type 0
StillCalled s (driver_call d) = ⊥
StillCalled s (output_call t) = 1 ≤ left_of s.left t
StillCalled s (sensor_call p) = ⊥

abbrev pub StillRunning : State → Op → Type 0
StillRunning s (call c) = StillCalled s (call_of c)
StillRunning s (schedule t) = 1 ≤ left_of s.left t
StillRunning s (branch d a) = ⊥
StillRunning s (jump a) = ⊥
StillRunning s (future d a) = ⊥
StillRunning s return = ⊥
StillRunning s faulty = ⊥

-- "readings are used only when E code reads, times only at `schedule`"
module _ (P : Program) (readings times : List ℤ) where
  -- the refusals of one instruction, "the order is 20, 19, 16, 17": the last three (20 counts instructions, in Instant.antt)
  abbrev pub instruction_refusals : ℕ → Op → List (Refusal At)
  instruction_refusals n o =
      unplaced faulty_refused (λ a. is_faulty P n a.planned o)
      ∷ unplaced time_refused (λ a. time_bad P times o)
      ∷ unplaced overrun_refused (λ a. still_running a.state o)
      ∷ []

  -- what a call does: a driver copies only when its guard holds; an output copy takes what the task gave, which stands in the local
  -- outputs; a sensor is read
  abbrev pub called : State → Call → State
  called s (driver_call d) = with_ports s (drive (driver P d) s.ports)
  called s (output_call t) = with_ports s (puts (assigned (value_of s.outputs) (task P t).gives) s.ports)
  called s (sensor_call p) = with_ports s (set s.ports p (value_of readings p))

  -- the state after `future` at an address: a block begins there
  abbrev pub plan_at : ℕ → ℕ → ℕ → State → State
  plan_at here delay address s = record {
    ports = s.ports;
    outputs = s.outputs;
    time = s.time;
    pending = address;
    current = here;
    elapsed = 0;
    remaining = delay;
    left = s.left;
    positions = replicate suppliers 0;
  }

  -- the machine after one instruction that is not refused; `return` stays where it is
  abbrev pub executes : Op → At → At
  executes (call c) a = record { address = suc a.address; planned = a.planned; state = called a.state (call_of c) }
  executes (schedule t) a = record {
    address = suc a.address;
    planned = a.planned;
    state = with_left a.state (set a.state.left t (num_at times t));
  }
  executes (branch d to) a = record {
    address = elim (holds (driver P d).guard (value_of a.state.ports)) [ true ↦ to | false ↦ suc a.address ];
    planned = a.planned;
    state = a.state;
  }
  executes (jump to) a = record { address = to; planned = a.planned; state = a.state }
  executes (future d to) a = record { address = suc a.address; planned = true; state = plan_at a.address d to a.state }
  executes return a = a
  executes faulty a = a
