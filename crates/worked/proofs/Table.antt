-- Document 01's worked table: every row marked (P), as a theorem about the definitions, with the place that a refusal names. The rows with
-- guards on a sensor have the switch for its missing reading besides, which document 02, K6, asks for.
use mathlib.Core.Path.{◌≡◌, refl}
use mathlib.Core.Bool.{false}
use mathlib.Core.List.{[], ◌∷◌}
use lib.IntN.{pos, negsuc}
use lib.ListN.{length}
use Rattle.readings.specs.Reading.{no_reading, inside}
use Rattle.program.specs.Units.{units}
use Rattle.theory.specs.Rows.{placeless, at_row}
use Rattle.rules.specs.Verdict.{program_verdict, program_answer}
use Rattle.code.specs.Op.{call, schedule, jump, future, return}
use Rattle.code.specs.Compile.{listing_of}
use Rattle.suppliers.specs.Supplier.{at_tick, supplier_verdict}
use Rattle.worked.specs.Computed.{computed}
use Rattle.worked.specs.Programs.{program_f, bare, updated, guarded, interval_row, missing_row, switching, window, asked}
use Rattle.worked.specs.Programs as programs

-- F is accepted, and has 2 units
F-accepted : program_verdict (program_f 6 2) ≡ 0
unfolding computed
F-accepted = refl

F-units : units (program_f 6 2) 0 ≡ 2
unfolding computed
F-units = refl

-- F: 17 instructions, and the whole listing
pub F-length : length (listing_of (program_f 6 2)) ≡ 17
unfolding computed
F-length = refl

F-listing : listing_of (program_f 6 2)
    ≡ jump 1
    ∷ call 1000
    ∷ call 1001
    ∷ call 2
    ∷ call 2000
    ∷ call 0
    ∷ call 1
    ∷ schedule 0
    ∷ schedule 1
    ∷ future 5 11
    ∷ return
    ∷ call 1001
    ∷ call 2000
    ∷ call 1
    ∷ schedule 1
    ∷ future 5 1
    ∷ return
    ∷ []
unfolding computed
F-listing = refl

-- a mode without rows, no sensor: accepted, and 3 instructions
bare-length : (program_verdict bare ≡ 0) × (length (listing_of bare) ≡ 3)
unfolding computed
bare-length = (refl, refl)

-- frequencies 3 and 64: 192 units, which pass where the period allows; frequencies 7, 8 and 9: 9; frequency 2, period 9: 9
frequencies-3-and-64 : (units (updated 384 (3 ∷ 64 ∷ [])) 0 ≡ 192) × (program_verdict (updated 384 (3 ∷ 64 ∷ [])) ≡ 0)
unfolding computed
frequencies-3-and-64 = (refl, refl)

frequencies-3-and-64-period-200 : program_answer (updated 200 (3 ∷ 64 ∷ [])) ≡ at_row 9 5 0
unfolding computed
frequencies-3-and-64-period-200 = refl

frequencies-7-8-and-9 : program_answer (updated 504 (7 ∷ 8 ∷ 9 ∷ [])) ≡ at_row 9 5 0
unfolding computed
frequencies-7-8-and-9 = refl

-- the most units that frequencies within their limit have: 255 pass, and the next, 258, exceed the limit
most-units : (units (updated 255 (15 ∷ 17 ∷ [])) 0 ≡ 255) × (program_verdict (updated 255 (15 ∷ 17 ∷ [])) ≡ 0)
unfolding computed
most-units = (refl, refl)

frequencies-6-and-43 : program_answer (updated 258 (6 ∷ 43 ∷ [])) ≡ at_row 9 5 0
unfolding computed
frequencies-6-and-43 = refl

frequency-2-period-9 : program_answer (updated 9 (2 ∷ [])) ≡ at_row 9 5 0
unfolding computed
frequency-2-period-9 = refl

-- guards 0..5 and 6..9 on one port pass with a switch for its missing reading, and without it: 24; 0..5 and 5..9: 8; on two ports: 8
guards-apart : program_verdict (guarded (interval_row 0 (pos 0) (pos 5) ∷ interval_row 0 (pos 6) (pos 9) ∷ missing_row 0 ∷ [])) ≡ 0
unfolding computed
guards-apart = refl

guards-leave-gap : program_answer (guarded (interval_row 0 (pos 0) (pos 5) ∷ interval_row 0 (pos 6) (pos 9) ∷ [])) ≡ placeless 24
unfolding computed
guards-leave-gap = refl

guards-meet : program_answer (guarded (interval_row 0 (pos 0) (pos 5) ∷ interval_row 0 (pos 5) (pos 9) ∷ missing_row 0 ∷ [])) ≡ at_row 8 9 1
unfolding computed
guards-meet = refl

guards-on-two-ports : program_answer (guarded (interval_row 0 (pos 0) (pos 5) ∷ interval_row 1 (pos 6) (pos 9) ∷ missing_row 0 ∷ []))
    ≡ at_row 8 9 1
unfolding computed
guards-on-two-ports = refl

-- no reading is outside -2147483647..2147483647; low no-reading, high 0: 2
no-reading-outside : inside (negsuc 2147483646) no_reading (pos 2147483647) ≡ false
unfolding computed
no-reading-outside = refl

low-no-reading-high-0 : program_answer (guarded (interval_row 0 no_reading (pos 0) ∷ interval_row 0 (pos 6) (pos 9) ∷ missing_row 0 ∷ []))
    ≡ at_row 2 3 0
unfolding computed
low-no-reading-high-0 = refl

-- period 12: task 2, switch 1 pass; task 3, switch 2: 10
task-2-switch-1 : program_verdict (switching 2 1) ≡ 0
unfolding computed
task-2-switch-1 = refl

task-3-switch-2 : program_answer (switching 3 2) ≡ at_row 10 9 0
unfolding computed
task-3-switch-2 = refl

-- F, one supplier, t2 worst 2, both blocks dispatch t2 then t1 unless it says so, all timeouts 5
-- t1 worst 6 passes
pub t1-worst-6 : supplier_verdict (asked 6 (window 0 10) (programs.schedule 1 0)) ≡ placeless 0
unfolding computed
t1-worst-6 = refl

-- t1 worst 7: 15 at tick 10
pub t1-worst-7 : supplier_verdict (asked 7 (window 0 10) (programs.schedule 1 0)) ≡ at_tick 15 0 10
unfolding computed
t1-worst-7 = refl

-- t1 worst 6, window 0..9: 14 at tick 9
pub window-to-9 : supplier_verdict (asked 6 (window 0 9) (programs.schedule 1 0)) ≡ at_tick 14 0 9
unfolding computed
window-to-9 = refl

-- t1 first, t1 worst 4: 15 at tick 5
pub t1-first : supplier_verdict (asked 4 (window 0 10) (programs.schedule 0 1)) ≡ at_tick 15 0 5
unfolding computed
t1-first = refl
