-- A program in which order shows: two sensors, two tasks and two updates due at once, two switches of each mode, a start mode that is not
-- the first, task and driver numbers that differ.
use Rattle.std.specs.Prelude.{[], ◌∷◌, pos}
use Rattle.program.specs.Tables.{Tables, tables}
use Rattle.worked.specs.Programs.{numbers, always_row, interval_row, missing_row, driver_rows}

-- Ports: 0 and 2 sensors, 1 and 3 actuators, 4 and 5 inputs, 6 and 7 outputs of tasks 0 and 1.
-- Drivers: 0 and 2 for updates, 1 and 3 for tasks 1 and 0, 4 to 7 for switches.
-- Mode 0, period 12, four units: task 1 twice, task 0 four times; updates 2 four times, 0 twice; to mode 1 twice, to itself once.
-- Mode 1, period 6, two units: task 0 once, task 1 twice; update 0 twice; back to mode 0 once, to itself once. The program starts in
-- mode 1. Each mode looks at one sensor, mode 0 at port 0 and mode 1 at port 2, and has a switch for its missing reading.
abbrev pub crowded : Tables
crowded =
    tables
    (numbers (0 ∷ 0 ∷ 1 ∷ 0 ∷ 0 ∷ 0 ∷ 1 ∷ 0 ∷ 2 ∷ 0 ∷ 2 ∷ 0 ∷ 3 ∷ 0 ∷ 3 ∷ 0 ∷ []))
    (numbers (1 ∷ 3 ∷ 0 ∷ 2 ∷ []))
    (numbers (0 ∷ 4 ∷ 0 ∷ 6 ∷ 1 ∷ 5 ∷ 1 ∷ 7 ∷ []))
    (driver_rows
    (always_row ∷ always_row ∷ always_row ∷ always_row ∷ missing_row 0 ∷ interval_row 0 (pos 0) (pos 5) ∷ interval_row 2 (pos 1) (pos 1)
    ∷ missing_row 2 ∷ []))
    (numbers
    (0 ∷ 6 ∷ 1 ∷ 1 ∷ 0 ∷ 5 ∷ 2 ∷ 7 ∷ 3 ∷ 3 ∷ 2 ∷ 4 ∷ 4 ∷ 6 ∷ 6 ∷ 4 ∷ 7 ∷ 7 ∷ 5 ∷ 6 ∷ 6 ∷ 5 ∷ 7 ∷ 7 ∷ 6 ∷ 6 ∷ 6 ∷ 6 ∷ 7 ∷ 7 ∷ 7 ∷ 6 ∷ 6
    ∷ 7 ∷ 7 ∷ 7 ∷ []))
    (numbers (12 ∷ 6 ∷ []))
    (numbers (0 ∷ 6 ∷ 0 ∷ 7 ∷ 1 ∷ 6 ∷ 1 ∷ 7 ∷ []))
    (numbers (0 ∷ 2 ∷ 1 ∷ 1 ∷ 0 ∷ 4 ∷ 0 ∷ 3 ∷ 1 ∷ 1 ∷ 0 ∷ 3 ∷ 1 ∷ 2 ∷ 1 ∷ 1 ∷ []))
    (numbers (0 ∷ 4 ∷ 2 ∷ 0 ∷ 2 ∷ 0 ∷ 1 ∷ 2 ∷ 0 ∷ []))
    (numbers (0 ∷ 2 ∷ 1 ∷ 4 ∷ 0 ∷ 1 ∷ 0 ∷ 5 ∷ 1 ∷ 1 ∷ 0 ∷ 6 ∷ 1 ∷ 1 ∷ 1 ∷ 7 ∷ []))
    (pos 1)
