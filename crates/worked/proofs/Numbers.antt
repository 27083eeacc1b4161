-- Document 01's numbers, where a name stands for them elsewhere: the most rows of each table, the refusal and table numbers, F's tables and
-- code as plain numbers, a program for each refusal of a program and of windows with the row that it names, and the fields at their limits.
use Prim.Native.Nat.{ℕ}
use mathlib.Core.Path.{◌≡◌, refl}
use mathlib.Core.List.{List, [], ◌∷◌}
use lib.IntN.{ℤ}
use Rattle.theory.specs.Rows.{placeless, at_row}
use Rattle.theory.specs.Verdict.{accepted_number, Rule}
use Rattle.theory.specs.declared.Answer.{Answer}
use Rattle.cells.specs.Limits.{max_ports, max_tasks, max_task_ports, max_drivers, max_copies, max_modes, max_mode_ports, max_invocations}
use Rattle.cells.specs.Limits.{max_updates, max_switches, max_windows, max_part, max_schedule, max_units, max_code, max_delay, max_elapsed}
use Rattle.cells.specs.Limits.{max_remaining, max_left, max_held}
use Rattle.cells.specs.Refusals.{shape_refused, fields_refused, task_ports_refused, copies_refused, mode_ports_refused, invocations_refused}
use Rattle.cells.specs.Refusals.{updates_refused, switches_refused, units_refused, whole_refused, code_refused, windows_refused, schedule_refused}
use Rattle.cells.specs.Refusals.{outside_refused, late_refused, time_refused, overrun_refused, collision_refused, faulty_refused}
use Rattle.cells.specs.Refusals.{count_refused, state_refused, gap_refused}
use Rattle.program.specs.Tables.{ports_at, tasks_at, task_ports_at, drivers_at, copies_at, modes_at, mode_ports_at, invocations_at, updates_at}
use Rattle.program.specs.Tables.{switches_at, windows_at, schedule_at, start_at, supplier_at}
use Rattle.rules.specs.Verdict.{program_answer, program_rules}
use Rattle.code.specs.Op.{emit}
use Rattle.code.specs.Compile.{listing_of, compile_rules}
use Rattle.suppliers.specs.Windows.{windows_answer, windows_verdict_rules}
use Rattle.suppliers.specs.Supplier.{at_tick, part_rules}
use Rattle.machine.specs.Advance.{advance_rules}
use Rattle.worked.specs.Computed.{computed}
use Rattle.worked.specs.Programs.{numbers, program_f}
use Rattle.worked.specs.Broken.{extended, bounded, two_windows}

-- the numbers of some rules, in the order in which they are asked
abbrev numbers_of : {A : Type 0} → List (Rule A) → List ℕ
numbers_of [] = []
numbers_of (g ∷ gs) = g.number ∷ numbers_of gs

-- most rows, in the order of 01's table: ports to switches, windows, schedule rows a supplier and in all
most-rows :
    max_ports ∷ max_tasks ∷ max_task_ports ∷ max_drivers ∷ max_copies ∷ max_modes ∷ max_mode_ports ∷ max_invocations ∷ max_updates ∷ max_switches
    ∷ max_windows ∷ max_part ∷ max_schedule ∷ []
    ≡ 64 ∷ 32 ∷ 128 ∷ 64 ∷ 256 ∷ 32 ∷ 256 ∷ 64 ∷ 64 ∷ 64 ∷ 256 ∷ 256 ∷ 2048 ∷ []
most-rows = refl

-- 9: 256 units; 11 and code lent to run: 16,384 instructions; 19: delays to 4,096; 21: elapsed, remaining, a task's remaining time;
-- what the shipped program holds
most-else :
    max_units ∷ max_code ∷ max_delay ∷ max_elapsed ∷ max_remaining ∷ max_left ∷ max_held ∷ []
    ≡ 256 ∷ 16384 ∷ 4096 ∷ 4096 ∷ 4096 ∷ 4096 ∷ 4096 ∷ []
most-else = refl

-- accepted, then the refusal numbers in the order of 01's table, and the one that a change request adds
refusal-numbers :
    accepted_number ∷ shape_refused ∷ fields_refused ∷ task_ports_refused ∷ copies_refused ∷ mode_ports_refused ∷ invocations_refused
    ∷ updates_refused ∷ switches_refused ∷ units_refused ∷ whole_refused ∷ code_refused ∷ windows_refused ∷ schedule_refused ∷ outside_refused
    ∷ late_refused ∷ time_refused ∷ overrun_refused ∷ collision_refused ∷ faulty_refused ∷ count_refused ∷ state_refused ∷ gap_refused ∷ []
    ≡ 0 ∷ 1 ∷ 2 ∷ 3 ∷ 4 ∷ 5 ∷ 6 ∷ 7 ∷ 8 ∷ 9 ∷ 10 ∷ 11 ∷ 12 ∷ 13 ∷ 14 ∷ 15 ∷ 16 ∷ 17 ∷ 18 ∷ 19 ∷ 20 ∷ 21 ∷ 24 ∷ []
refusal-numbers = refl

-- the tables as a place names them, in the order of 01's table; then the start mode, and the supplier asked about
table-numbers :
    ports_at ∷ tasks_at ∷ task_ports_at ∷ drivers_at ∷ copies_at ∷ modes_at ∷ mode_ports_at ∷ invocations_at ∷ updates_at ∷ switches_at ∷ windows_at
    ∷ schedule_at ∷ start_at ∷ supplier_at ∷ []
    ≡ 0 ∷ 1 ∷ 2 ∷ 3 ∷ 4 ∷ 5 ∷ 6 ∷ 7 ∷ 8 ∷ 9 ∷ 10 ∷ 11 ∷ 12 ∷ 13 ∷ []
table-numbers = refl

-- an answer in three numbers: without a place 0 and 0; table and row; mode and tick
answers-in-numbers :
    placeless 11 ∷ at_row 6 7 3 ∷ at_tick 15 2 10 ∷ []
    ≡ record { number = 11; outer = 0; inner = 0 }
    ∷ record { number = 6; outer = 7; inner = 3 }
    ∷ record { number = 15; outer = 2; inner = 10 }
    ∷ []
answers-in-numbers = refl

-- the order in which each call asks: the program verdict and a fresh state, compiling, windows, a supplier, an advance
program-order : numbers_of program_rules ≡ 1 ∷ 2 ∷ 3 ∷ 4 ∷ 5 ∷ 6 ∷ 7 ∷ 8 ∷ 9 ∷ 10 ∷ 24 ∷ []
program-order = refl

compile-order : numbers_of compile_rules ≡ 1 ∷ 2 ∷ 3 ∷ 4 ∷ 5 ∷ 6 ∷ 7 ∷ 8 ∷ 9 ∷ 10 ∷ 24 ∷ 11 ∷ []
compile-order = refl

windows-order : numbers_of windows_verdict_rules ≡ 1 ∷ 2 ∷ 3 ∷ 4 ∷ 5 ∷ 6 ∷ 7 ∷ 8 ∷ 9 ∷ 10 ∷ 24 ∷ 11 ∷ 12 ∷ []
windows-order = refl

supplier-order : numbers_of part_rules ≡ 1 ∷ 2 ∷ 3 ∷ 4 ∷ 5 ∷ 6 ∷ 7 ∷ 8 ∷ 9 ∷ 10 ∷ 24 ∷ 11 ∷ 12 ∷ 13 ∷ []
supplier-order = refl

advance-order : numbers_of advance_rules ≡ 1 ∷ 2 ∷ 3 ∷ 4 ∷ 5 ∷ 6 ∷ 7 ∷ 8 ∷ 9 ∷ 10 ∷ 24 ∷ 11 ∷ 13 ∷ 21 ∷ []
advance-order = refl

-- F's ports: 0 sensor, 1 actuator, 2 task input, 3 task output, each with its first value 0; its drivers: guard kind 0 and three zeros
F-ports : (program_f 6 2).ports
    ≡ numbers (0 ∷ 0 ∷ 1 ∷ 0 ∷ 2 ∷ 0 ∷ 2 ∷ 0 ∷ 2 ∷ 0 ∷ 2 ∷ 0 ∷ 2 ∷ 0 ∷ 3 ∷ 0 ∷ 3 ∷ 0 ∷ 3 ∷ 0 ∷ 3 ∷ 0 ∷ 3 ∷ 0 ∷ [])
F-ports = refl

F-drivers : (program_f 6 2).drivers ≡ numbers (0 ∷ 0 ∷ 0 ∷ 0 ∷ 0 ∷ 0 ∷ 0 ∷ 0 ∷ 0 ∷ 0 ∷ 0 ∷ 0 ∷ [])
F-drivers = refl

-- F's code in words: 0 call, 1 schedule, 3 jump, 4 future, 5 return, unused words 0
F-words : emit (listing_of (program_f 6 2))
    ≡ 3 ∷ 1 ∷ 0
    ∷ 0 ∷ 1000 ∷ 0
    ∷ 0 ∷ 1001 ∷ 0
    ∷ 0 ∷ 2 ∷ 0
    ∷ 0 ∷ 2000 ∷ 0
    ∷ 0 ∷ 0 ∷ 0
    ∷ 0 ∷ 1 ∷ 0
    ∷ 1 ∷ 0 ∷ 0
    ∷ 1 ∷ 1 ∷ 0
    ∷ 4 ∷ 5 ∷ 11
    ∷ 5 ∷ 0 ∷ 0
    ∷ 0 ∷ 1001 ∷ 0
    ∷ 0 ∷ 2000 ∷ 0
    ∷ 0 ∷ 1 ∷ 0
    ∷ 1 ∷ 1 ∷ 0
    ∷ 4 ∷ 5 ∷ 1
    ∷ 5 ∷ 0 ∷ 0
    ∷ []
unfolding computed
F-words = refl

-- F with nothing added is accepted
untouched : program_answer (extended [] [] [] [] [] 0) ≡ placeless 0
unfolding computed
untouched = refl

-- 2: a start mode that is none
no-such-mode : program_answer (extended [] [] [] [] [] 1) ≡ at_row 2 12 0
unfolding computed
no-such-mode = refl

-- 3: a task port row repeats; names the actuator; an input of the first task serves the second too
task-port-repeats : program_answer (extended (0 ∷ 2 ∷ []) [] [] [] [] 0) ≡ at_row 3 2 9
unfolding computed
task-port-repeats = refl

task-port-actuator : program_answer (extended (0 ∷ 1 ∷ []) [] [] [] [] 0) ≡ at_row 3 2 9
unfolding computed
task-port-actuator = refl

input-of-two : program_answer (extended (1 ∷ 2 ∷ []) [] [] [] [] 0) ≡ at_row 3 2 9
unfolding computed
input-of-two = refl

-- 4: the update's driver has two copies to the actuator
two-copies : program_answer (extended [] (2 ∷ 9 ∷ 1 ∷ []) [] [] [] 0) ≡ at_row 4 4 6
unfolding computed
two-copies = refl

-- 5: a mode port row repeats; names an input
mode-port-repeats : program_answer (extended [] [] (0 ∷ 7 ∷ []) [] [] 0) ≡ at_row 5 6 5
unfolding computed
mode-port-repeats = refl

mode-port-input : program_answer (extended [] [] (0 ∷ 2 ∷ []) [] [] 0) ≡ at_row 5 6 5
unfolding computed
mode-port-input = refl

-- 6: a task twice in a mode; a driver that copies to another place too
task-twice : program_answer (extended [] [] [] (0 ∷ 1 ∷ 0 ∷ 0 ∷ []) [] 0) ≡ at_row 6 7 2
unfolding computed
task-twice = refl

too-many-inputs : program_answer (extended [] (0 ∷ 7 ∷ 4 ∷ []) [] [] [] 0) ≡ at_row 6 7 0
unfolding computed
too-many-inputs = refl

-- 7: two updates share the actuator; one copies to an input
actuator-of-two : program_answer (extended [] [] [] [] (0 ∷ 1 ∷ 2 ∷ []) 0) ≡ at_row 7 8 1
unfolding computed
actuator-of-two = refl

update-of-input : program_answer (extended [] (2 ∷ 9 ∷ 2 ∷ []) [] [] [] 0) ≡ at_row 7 8 0
unfolding computed
update-of-input = refl

-- fields at their limits pass, and one beyond is 2: supplier 7, worst-case time 4,096, period 4,096, frequency 64
at-limits : program_answer (bounded 7 4096 4096 64) ≡ placeless 0
unfolding computed
at-limits = refl

supplier-8 : program_answer (bounded 8 4096 4096 64) ≡ at_row 2 1 0
unfolding computed
supplier-8 = refl

worst-4097 : program_answer (bounded 7 4097 4096 64) ≡ at_row 2 1 0
unfolding computed
worst-4097 = refl

worst-0 : program_answer (bounded 7 0 4096 64) ≡ at_row 2 1 0
unfolding computed
worst-0 = refl

period-4097 : program_answer (bounded 7 4096 4097 1) ≡ at_row 2 5 0
unfolding computed
period-4097 = refl

frequency-65 : program_answer (bounded 7 4096 4096 65) ≡ at_row 2 8 0
unfolding computed
frequency-65 = refl

frequency-0 : program_answer (bounded 7 4096 4096 0) ≡ at_row 2 8 0
unfolding computed
frequency-0 = refl

-- 12: windows of two suppliers may meet, and may not share a tick, be empty or leave the round
windows : List ℤ → Answer
windows W = windows_answer (record { tables = program_f 6 2; windows = W })

windows-meet : windows (two_windows 0 5 5 10) ≡ placeless 0
unfolding computed windows
windows-meet = refl

windows-share : windows (two_windows 0 6 5 10) ≡ at_row 12 10 1
unfolding computed windows
windows-share = refl

window-empty : windows (two_windows 5 5 5 10) ≡ at_row 12 10 0
unfolding computed windows
window-empty = refl

window-too-long : windows (two_windows 0 5 5 11) ≡ at_row 12 10 1
unfolding computed windows
window-too-long = refl
