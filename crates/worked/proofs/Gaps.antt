-- Number 24, case by case: which switches leave a gap for a missing reading and which do not, where 24 stands in the order of every call,
-- and that it names no place.
use Prim.Native.Nat.{ℕ, suc}
use mathlib.Core.Path.{◌≡◌, refl}
use mathlib.Core.List.{List, [], ◌∷◌, ◌++◌}
use lib.IntN.{ℤ, pos}
use Rattle.theory.specs.Rows.{placeless, at_row}
use Rattle.program.specs.Tables.{Tables, tables, sensor, output}
use Rattle.rules.specs.Verdict.{program_answer}
use Rattle.code.specs.Compile.{Compiling, compile_answer}
use Rattle.suppliers.specs.Windows.{Windowed, windows_answer}
use Rattle.suppliers.specs.Supplier.{Asked, supplier_verdict}
use Rattle.machine.specs.Advance.{Advance, fresh_answer, advance_answer}
use Rattle.worked.specs.Computed.{computed}
use Rattle.worked.specs.Programs.{numbers, ports, always_row, interval_row, missing_row, driver_rows, guarded, window}
use Rattle.worked.specs.Systems.{F-first}

-- every driver hands on port 2
abbrev handing : List (List ℤ) → ℕ → List ℤ
handing [] d = []
handing (row ∷ rows) d = numbers (d ∷ 2 ∷ 2 ∷ []) ++ handing rows (suc d)

-- a program of sensors 0 and 1 and of two modes that have the task output 2: drivers with these rows, and these switches (mode, frequency,
-- target mode, driver)
abbrev watching : List (List ℤ) → List ℕ → Tables
watching rows switches =
    tables (ports 2 sensor ++ ports 1 output) [] [] (driver_rows rows) (handing rows 0) (numbers (12 ∷ 12 ∷ []))
    (numbers (0 ∷ 2 ∷ 1 ∷ 2 ∷ [])) [] [] (numbers switches) (pos 0)

-- an interval switch on a sensor, and no other
abbrev gap : Tables
gap = guarded (interval_row 0 (pos 0) (pos 5) ∷ [])

alone : program_answer gap ≡ placeless 24
unfolding computed
alone = refl

-- two drivers: 0 for a reading 0..5 of sensor 0, 1 for its missing reading
abbrev both : List (List ℤ)
both = interval_row 0 (pos 0) (pos 5) ∷ missing_row 0 ∷ []

-- the switch for the missing reading may have another frequency and another target, and stand before the other or behind it
other-frequency : program_answer (watching both (0 ∷ 1 ∷ 0 ∷ 0 ∷ 0 ∷ 2 ∷ 1 ∷ 1 ∷ [])) ≡ placeless 0
unfolding computed
other-frequency = refl

before-it : program_answer (watching both (0 ∷ 3 ∷ 0 ∷ 1 ∷ 0 ∷ 1 ∷ 1 ∷ 0 ∷ [])) ≡ placeless 0
unfolding computed
before-it = refl

-- a switch for the missing reading in another mode does not help
in-another-mode : program_answer (watching both (0 ∷ 1 ∷ 1 ∷ 0 ∷ 1 ∷ 1 ∷ 0 ∷ 1 ∷ [])) ≡ placeless 24
unfolding computed
in-another-mode = refl

-- the gap may be in any mode: mode 0 has both switches, mode 1 one
in-the-second-mode : program_answer (watching both (0 ∷ 1 ∷ 1 ∷ 0 ∷ 0 ∷ 1 ∷ 0 ∷ 1 ∷ 1 ∷ 1 ∷ 0 ∷ 0 ∷ [])) ≡ placeless 24
unfolding computed
in-the-second-mode = refl

-- an interval switch on a task output asks for nothing more
on-an-output : program_answer (watching (interval_row 2 (pos 0) (pos 5) ∷ []) (0 ∷ 1 ∷ 1 ∷ 0 ∷ [])) ≡ placeless 0
unfolding computed
on-an-output = refl

-- the switch for the missing reading asks for no other; nor does one that is always taken
missing-alone : program_answer (guarded (missing_row 0 ∷ [])) ≡ placeless 0
unfolding computed
missing-alone = refl

always-taken : program_answer (guarded (always_row ∷ [])) ≡ placeless 0
unfolding computed
always-taken = refl

-- an interval on a sensor asks for nothing where no switch has its driver: driver 0 is there, and the switch has driver 1
of-no-switch : program_answer (watching (interval_row 0 (pos 0) (pos 5) ∷ always_row ∷ []) (0 ∷ 1 ∷ 1 ∷ 1 ∷ [])) ≡ placeless 0
unfolding computed
of-no-switch = refl

-- a switch for the missing reading of another sensor is no help: both guards can hold, which is 8, at the later row
of-another-sensor : program_answer (guarded (interval_row 0 (pos 0) (pos 5) ∷ missing_row 1 ∷ [])) ≡ at_row 8 9 1
unfolding computed
of-another-sensor = refl

-- 10 comes first, whatever the modes: mode 0 leaves a gap, and in mode 1 a task of frequency 3 meets a switch of frequency 2
ten-before : program_answer (tables (ports 1 sensor) (numbers (0 ∷ 1 ∷ [])) []
    (driver_rows (interval_row 0 (pos 0) (pos 5) ∷ always_row ∷ [])) [] (numbers (12 ∷ 12 ∷ [])) []
    (numbers (1 ∷ 3 ∷ 0 ∷ 1 ∷ [])) [] (numbers (0 ∷ 1 ∷ 0 ∷ 0 ∷ 1 ∷ 2 ∷ 0 ∷ 1 ∷ [])) (pos 0)) ≡ at_row 10 9 1
unfolding computed
ten-before = refl

-- the gap closed, for what each call asks next
abbrev closed : Tables
closed = guarded both

-- compiling into an empty slice: 24 comes before 11
abbrev into-nothing : Tables → Compiling
into-nothing T = record { tables = T; slice = [] }

compiling-gap : ((compile_answer (into-nothing gap)).answer ≡ placeless 24) × ((compile_answer (into-nothing closed)).answer ≡ placeless 11)
unfolding computed
compiling-gap = (refl, refl)

-- an empty window: 24 comes before 12
abbrev empty-window : Tables → Windowed
empty-window T = record { tables = T; windows = window 5 5 }

windows-gap : (windows_answer (empty-window gap) ≡ placeless 24) × (windows_answer (empty-window closed) ≡ at_row 12 10 0)
unfolding computed
windows-gap = (refl, refl)

-- a supplier that is none: 24 comes before 13
abbrev stranger : Tables → Asked
stranger T = record { tables = T; windows = []; part = []; supplier = pos 8 }

supplier-gap : (supplier_verdict (stranger gap) ≡ placeless 24) × (supplier_verdict (stranger closed) ≡ at_row 13 13 0)
unfolding computed
supplier-gap = (refl, refl)

-- a fresh state is refused with 24
fresh-gap : ((fresh_answer gap).answer ≡ placeless 24) × ((fresh_answer closed).answer ≡ placeless 0)
unfolding computed
fresh-gap = (refl, refl)

-- an advance without code, so that no address of its state is inside: 24 comes before 21
abbrev codeless : Tables → Advance
codeless T = record { tables = T; code = []; schedule = []; state = F-first.state; lent = F-first.lent }

advance-gap : ((advance_answer (codeless gap)).answer ≡ placeless 24) × ((advance_answer (codeless closed)).answer ≡ placeless 21)
unfolding computed
advance-gap = (refl, refl)
