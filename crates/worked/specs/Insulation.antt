-- The insulation monitor of examples/ as a system: a sensor, a filter, an evaluation and a relay, from three suppliers, in two modes; the
-- rows of its tables, in their order, and its windows and parts. Ticks of its runs at which a missing reading is to be taken.
use Rattle.std.specs.Prelude.{ℕ, zero, suc, ◌%◌, ◌≤◌, ◌≡◌, true, false, ◌&&◌, List, [], ◌∷◌, ◌++◌, eqb, ltb, ℤ, pos, negsuc, replicate}
use Rattle.readings.specs.Reading.{no_reading}
use Rattle.program.specs.Tables.{Tables, tables, sensor, actuator, input, output, private}
use Rattle.program.specs.Program.{program_of}
use Rattle.program.specs.Ports.{value_of}
use Rattle.giotto.specs.Instant.{Function}
use Rattle.giotto.specs.Execution.{execution}
use Rattle.machine.specs.Advance.{Lent}
use Rattle.demands.specs.Composed.{System, state_at, configuration_at}
use Rattle.demands.specs.Supplied.{supplied, worst_times}
use Rattle.worked.specs.Programs.{numbers, ports, always_row, interval_row, missing_row, driver_rows}
use Rattle.worked.specs.Systems.{room}
use Rattle.worked.specs.Example.{insulation_windows, insulation_part0, insulation_part1, insulation_part2}

-- Ports: 0 the resistance in kilo-ohms, at first without a reading; 1 the relay; 2 to 5 what the tasks read; 6 to 8 filtered, judged, coil;
-- 9 the reading before, which the filter remembers, at first none.
-- Tasks: 0 filter, 1 evaluation, 2 relay, 3 signal. Drivers 5 to 7 are for a missing reading, one below 50, one of at least 60.
-- Mode 0, normal, period 20: a missing reading and one below 50 switch to mode 1. Mode 1, alarm, period 10, has these switches.
abbrev pub insulation_with : List ℕ → Tables
insulation_with alarm_switches =
    tables
    (pos sensor ∷ no_reading ∷ (ports 1 actuator ++ (ports 4 input ++ (ports 3 output ++ (pos private ∷ no_reading ∷ [])))))
    (numbers (0 ∷ 2 ∷ 1 ∷ 3 ∷ 2 ∷ 1 ∷ 2 ∷ 1 ∷ []))
    (numbers (0 ∷ 2 ∷ 0 ∷ 6 ∷ 0 ∷ 9 ∷ 1 ∷ 3 ∷ 1 ∷ 7 ∷ 2 ∷ 4 ∷ 2 ∷ 8 ∷ 3 ∷ 5 ∷ 3 ∷ 8 ∷ []))
    (driver_rows
    (always_row ∷ always_row ∷ always_row ∷ always_row ∷ always_row ∷ missing_row 0 ∷ interval_row 0 (negsuc 2147483646) (pos 49)
    ∷ interval_row 0 (pos 60) (pos 2147483647) ∷ []))
    (numbers
    (0 ∷ 0 ∷ 2 ∷ 1 ∷ 6 ∷ 3 ∷ 2 ∷ 7 ∷ 4 ∷ 3 ∷ 7 ∷ 5 ∷ 4 ∷ 8 ∷ 1 ∷ 5 ∷ 6 ∷ 6 ∷ 5 ∷ 7 ∷ 7 ∷ 5 ∷ 8 ∷ 8 ∷ 6 ∷ 6 ∷ 6 ∷ 6 ∷ 7 ∷ 7 ∷ 6 ∷ 8 ∷ 8
    ∷ 7 ∷ 6 ∷ 6 ∷ 7 ∷ 7 ∷ 7 ∷ 7 ∷ 8 ∷ 8 ∷ []))
    (numbers (20 ∷ 10 ∷ []))
    (numbers (0 ∷ 6 ∷ 0 ∷ 7 ∷ 0 ∷ 8 ∷ 1 ∷ 6 ∷ 1 ∷ 7 ∷ 1 ∷ 8 ∷ []))
    (numbers (0 ∷ 2 ∷ 0 ∷ 0 ∷ 0 ∷ 1 ∷ 1 ∷ 1 ∷ 0 ∷ 1 ∷ 2 ∷ 2 ∷ 1 ∷ 1 ∷ 0 ∷ 0 ∷ 1 ∷ 1 ∷ 1 ∷ 1 ∷ 1 ∷ 1 ∷ 3 ∷ 3 ∷ []))
    (numbers (0 ∷ 1 ∷ 4 ∷ 1 ∷ 1 ∷ 4 ∷ []))
    (numbers (0 ∷ 1 ∷ 1 ∷ 5 ∷ 0 ∷ 1 ∷ 1 ∷ 6 ∷ []) ++ numbers alarm_switches)
    (pos 0)

-- in the alarm mode a good reading leads back to the normal mode, and a missing one keeps the alarm
abbrev pub insulation : Tables
insulation = insulation_with (1 ∷ 1 ∷ 0 ∷ 7 ∷ 1 ∷ 1 ∷ 1 ∷ 5 ∷ [])

-- the same without the switch for the missing reading in the alarm mode
abbrev pub silent : Tables
silent = insulation_with (1 ∷ 1 ∷ 0 ∷ 7 ∷ [])

-- the parts of the three suppliers; the blocks are at 14 and 24 in the normal mode, and at 39 in the alarm mode
abbrev pub insulation_parts : ℕ → List ℤ
insulation_parts zero = numbers insulation_part0
insulation_parts (suc zero) = numbers insulation_part1
insulation_parts (suc (suc zero)) = numbers insulation_part2
insulation_parts (suc (suc (suc s))) = []

abbrev pub insulation-system : System
insulation-system = record { tables = insulation; windows = numbers insulation_windows; parts = insulation_parts; slice = room }

-- what is lent to the ticks of a run with this task function and these readings, and with worst-case times
abbrev pub insulation_lent : Function → (ℕ → List ℤ) → ℕ → Lent
insulation_lent F readings = supplied insulation-system F readings (λ k. worst_times (program_of insulation))

-- tick n of a run with this task function and these readings is to start a round of mode m, and the resistance is missing in it
pub record MissingAt (F : Function) (readings : ℕ → List ℤ) (n m : ℕ) : Type 0 where
  pub instant : (execution (program_of insulation) F readings n).time ≡ n
  pub mode : (execution (program_of insulation) F readings n).mode ≡ m
  pub unit : (execution (program_of insulation) F readings n).unit ≡ 0
  pub missing : value_of (readings n) 0 ≡ no_reading

-- readings that are good, and missing from tick r on
abbrev pub lost_from : ℕ → ℕ → List ℤ
lost_from r n = elim (ltb n r) [ true ↦ pos 80 ∷ replicate 63 (pos 0) | false ↦ no_reading ∷ replicate 63 (pos 0) ]

-- missing from tick 5 on
abbrev pub lost : ℕ → List ℤ
lost = lost_from 5

-- missing at every tenth tick but the first, and good between
abbrev pub flickers : ℕ → List ℤ
flickers n = elim (ltb 0 n && eqb (n % 10) 0) [ true ↦ no_reading ∷ replicate 63 (pos 0) | false ↦ pos 80 ∷ replicate 63 (pos 0) ]

-- good at tick 0, and 30 kilo-ohms from tick 1 on: inside the interval of switch row 1, and at neither of its ends
abbrev pub sinks : ℕ → List ℤ
sinks n = elim (ltb n 1) [ true ↦ pos 80 ∷ replicate 63 (pos 0) | false ↦ pos 30 ∷ replicate 63 (pos 0) ]

-- the signal releases the coil: what task 3 gives for port 8 is 0, whatever it takes
abbrev pub Releases : Function → Type 0
Releases F = (values : List ℤ) → F 3 values 8 ≡ pos 0

-- the relay is released at an instant from tick r to tick t
pub record RelayReleased (F : Function) (lents : ℕ → Lent) (r t : ℕ) : Type 0 where
  pub tick : ℕ
  pub not-before : r ≤ tick
  pub in-time : tick ≤ t
  pub instant : (configuration_at insulation-system F lents tick).time ≡ tick
  pub released : value_of (state_at insulation-system lents (suc tick)).ports 1 ≡ pos 0
