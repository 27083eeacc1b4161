-- The programs of document 01's worked table. All first values are 0, the start mode is 0.
use Rattle.std.specs.Prelude.{ℕ, zero, suc, List, [], ◌∷◌, ◌++◌, map, ℤ, pos}
use Rattle.readings.specs.Reading.{no_reading}
use Rattle.program.specs.Tables.{Tables, tables, sensor, actuator, input, output, kind_always, kind_interval}
use Rattle.suppliers.specs.Supplier.{Asked}
use Rattle.text.specs.Decimal.{newline, decimal}

-- a table of numbers that are not negative
abbrev pub numbers : List ℕ → List ℤ
numbers ns = map pos ns

-- n ports of a kind, each with first value 0
abbrev pub ports : ℕ → ℕ → List ℤ
ports zero kind = []
ports (suc n) kind = pos kind ∷ pos 0 ∷ ports n kind

-- the row of a driver that copies always, that of one that copies where a port is in an interval, and that of one that copies where the
-- reading of a sensor is missing
abbrev pub always_row : List ℤ
always_row = pos kind_always ∷ pos 0 ∷ pos 0 ∷ pos 0 ∷ []

abbrev pub interval_row : ℕ → ℤ → ℤ → List ℤ
interval_row port low high = pos kind_interval ∷ pos port ∷ low ∷ high ∷ []

abbrev pub missing_row : ℕ → List ℤ
missing_row port = interval_row port no_reading no_reading

-- Program F, with the worst-case times of t1 and t2, both of supplier 0.
-- Ports: 0 s, 1 a, 2..6 i1..i5, 7..11 o1..o5
abbrev pub program_f : ℕ → ℕ → Tables
program_f worst1 worst2 =
    tables
    (ports 1 sensor ++ (ports 1 actuator ++ (ports 5 input ++ ports 5 output)))
    (numbers (0 ∷ worst1 ∷ 0 ∷ worst2 ∷ []))
    (numbers (0 ∷ 2 ∷ 0 ∷ 3 ∷ 0 ∷ 8 ∷ 0 ∷ 9 ∷ 1 ∷ 4 ∷ 1 ∷ 5 ∷ 1 ∷ 6 ∷ 1 ∷ 10 ∷ 1 ∷ 11 ∷ []))
    (always_row ++ (always_row ++ always_row))
    (numbers (0 ∷ 7 ∷ 2 ∷ 0 ∷ 10 ∷ 3 ∷ 1 ∷ 9 ∷ 4 ∷ 1 ∷ 0 ∷ 5 ∷ 1 ∷ 11 ∷ 6 ∷ 2 ∷ 8 ∷ 1 ∷ []))
    (numbers (10 ∷ []))
    (numbers (0 ∷ 7 ∷ 0 ∷ 8 ∷ 0 ∷ 9 ∷ 0 ∷ 10 ∷ 0 ∷ 11 ∷ []))
    (numbers (0 ∷ 1 ∷ 0 ∷ 0 ∷ 0 ∷ 2 ∷ 1 ∷ 1 ∷ []))
    (numbers (0 ∷ 1 ∷ 2 ∷ []))
    []
    (pos 0)

-- a program of one mode without rows, and without a sensor
abbrev pub bare : Tables
bare = tables [] [] [] [] [] (numbers (10 ∷ [])) [] [] [] [] (pos 0)

-- a program of updates of these frequencies, by a driver that moves nothing, in a mode of this period
abbrev pub update_rows : List ℕ → List ℤ
update_rows [] = []
update_rows (f ∷ fs) = pos 0 ∷ pos f ∷ pos 0 ∷ update_rows fs

abbrev pub updated : ℕ → List ℕ → Tables
updated period frequencies =
    tables [] [] [] always_row [] (numbers (period ∷ [])) [] [] (update_rows frequencies) [] (pos 0)

-- drivers with these rows; switches of mode 0 to itself, one for each of them, from driver d on
abbrev pub driver_rows : List (List ℤ) → List ℤ
driver_rows [] = []
driver_rows (row ∷ rows) = row ++ driver_rows rows

abbrev pub self_switches : List (List ℤ) → ℕ → List ℤ
self_switches [] d = []
self_switches (row ∷ rows) d = pos 0 ∷ pos 1 ∷ pos 0 ∷ pos d ∷ self_switches rows (suc d)

-- a program of two sensors, and a mode that switches to itself by drivers with these rows
abbrev pub guarded : List (List ℤ) → Tables
guarded rows = tables (ports 2 sensor) [] [] (driver_rows rows) [] (numbers (10 ∷ [])) [] [] [] (self_switches rows 0) (pos 0)

-- a program of one mode of period 12, with a task and a switch of these frequencies
abbrev pub switching : ℕ → ℕ → Tables
switching per_task per_switch =
    tables [] (numbers (0 ∷ 1 ∷ [])) [] always_row [] (numbers (12 ∷ [])) []
    (numbers (0 ∷ per_task ∷ 0 ∷ 0 ∷ []))
    []
    (numbers (0 ∷ per_switch ∷ 0 ∷ 0 ∷ []))
    (pos 0)

-- F's schedule code: in both blocks, at addresses 9 and 15, dispatch one task, then the other, all timeouts 5
abbrev pub schedule : ℕ → ℕ → List ℤ
schedule one other =
    numbers
    (0 ∷ 9 ∷ 0 ∷ one ∷ 5 ∷ 0 ∷ 9 ∷ 0 ∷ other ∷ 5 ∷ 0 ∷ 15 ∷ 0 ∷ one ∷ 5 ∷ 0 ∷ 15 ∷ 0 ∷ other ∷ 5 ∷ [])

-- one window of supplier 0 in mode 0
abbrev pub window : ℕ → ℕ → List ℤ
window from to = numbers (0 ∷ 0 ∷ from ∷ to ∷ [])

-- what is asked about F's supplier, with this worst-case time of t1, and 2 of t2
abbrev pub asked : ℕ → List ℤ → List ℤ → Asked
asked worst1 windows part = record { tables = program_f worst1 2; windows = windows; part = part; supplier = pos 0 }

-- numbers as a text, one a line
abbrev pub text_of : List ℕ → List ℕ
text_of [] = []
text_of (n ∷ ns) = decimal n ++ (newline ∷ text_of ns)

-- a program of n sensors, and one mode of 255 units of a tick each with updates of these frequencies besides 15 and 17
abbrev pub sampling : ℕ → List ℕ → Tables
sampling n frequencies =
    tables (ports n sensor) [] [] always_row [] (numbers (255 ∷ [])) [] [] (update_rows (15 ∷ 17 ∷ frequencies)) [] (pos 0)
