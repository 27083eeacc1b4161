-- The refusal numbers of document 01 by name. They are the numbers of `Refusal` in the code; accepted is `accepted_number` in
-- theory/specs/Verdict.
use Rattle.std.specs.Prelude.{ℕ}
use Rattle.cells.specs.declared.refusals.Refusal.{Refusal}
use Rattle.cells.specs.declared.refusals.Refusal.TheVariants.{Shape, Fields, TaskPorts, Copies, ModePorts, Invocations, Updates, Switches, Units, Whole, Code, Windows, Schedule, Outside, Late, Time, Overrun, Collision, Faulty, Count, State, Gap}

abbrev pub shape_refused : ℕ
shape_refused = 1

abbrev pub fields_refused : ℕ
fields_refused = 2

abbrev pub task_ports_refused : ℕ
task_ports_refused = 3

abbrev pub copies_refused : ℕ
copies_refused = 4

abbrev pub mode_ports_refused : ℕ
mode_ports_refused = 5

abbrev pub invocations_refused : ℕ
invocations_refused = 6

abbrev pub updates_refused : ℕ
updates_refused = 7

abbrev pub switches_refused : ℕ
switches_refused = 8

-- a mode's units are too many, or do not divide its period
abbrev pub units_refused : ℕ
units_refused = 9

-- a task's frequency over a switch's is not whole
abbrev pub whole_refused : ℕ
whole_refused = 10

-- the E code exceeds its limit or the lent slice
abbrev pub code_refused : ℕ
code_refused = 11

abbrev pub windows_refused : ℕ
windows_refused = 12

abbrev pub schedule_refused : ℕ
schedule_refused = 13

-- a supplier runs outside its windows
abbrev pub outside_refused : ℕ
outside_refused = 14

-- a task is unfinished at its termination
abbrev pub late_refused : ℕ
late_refused = 15

-- the execution time lent for a task being released is out of range
abbrev pub time_refused : ℕ
time_refused = 16

-- a task that is ended or released is still running
abbrev pub overrun_refused : ℕ
overrun_refused = 17

-- two suppliers run in one tick
abbrev pub collision_refused : ℕ
collision_refused = 18

-- the E code is faulty
abbrev pub faulty_refused : ℕ
faulty_refused = 19

-- an instant runs more instructions than the E code has
abbrev pub count_refused : ℕ
count_refused = 20

-- the state is out of range
abbrev pub state_refused : ℕ
state_refused = 21

-- a mode's switches look at a sensor, and none of them is for its missing reading alone; tested after 10
abbrev pub gap_refused : ℕ
gap_refused = 24

-- the number of a refusal
abbrev pub number_of : Refusal → ℕ
number_of Shape = shape_refused
number_of Fields = fields_refused
number_of TaskPorts = task_ports_refused
number_of Copies = copies_refused
number_of ModePorts = mode_ports_refused
number_of Invocations = invocations_refused
number_of Updates = updates_refused
number_of Switches = switches_refused
number_of Units = units_refused
number_of Whole = whole_refused
number_of Code = code_refused
number_of Windows = windows_refused
number_of Schedule = schedule_refused
number_of Outside = outside_refused
number_of Late = late_refused
number_of Time = time_refused
number_of Overrun = overrun_refused
number_of Collision = collision_refused
number_of Faulty = faulty_refused
number_of Count = count_refused
number_of State = state_refused
number_of Gap = gap_refused
