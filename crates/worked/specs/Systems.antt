-- Three systems that run: F; a monitor of two modes whose switches are taken; a pair of suppliers that share one round. What a run shows,
-- tick by tick.
use Rattle.std.specs.Prelude.{ℕ, zero, suc, ◌+◌, ◌*◌, ◌-◌, ◌/◌, ◌%◌, Bool, true, false, List, [], ◌∷◌, ◌++◌, map, eqb, ℤ, pos, nat_abs, replicate}
use Rattle.cells.specs.Cell.{eq_z}
use Rattle.cells.specs.Limits.{words_each}
use Rattle.readings.specs.Reading.{no_reading}
use Rattle.program.specs.Tables.{Tables, tables, sensor, actuator, input, output, private}
use Rattle.program.specs.Program.{program_of}
use Rattle.suppliers.specs.Supplier.{Asked}
use Rattle.code.specs.Op.{instructions}
use Rattle.giotto.specs.Instant.{Configuration, Function}
use Rattle.giotto.specs.Execution.{initial, pass}
use Rattle.machine.specs.declared.State.{State}
use Rattle.machine.specs.Instant.{Outcome, ok, stop}
use Rattle.machine.specs.Schedules.{Who, nobody, running}
use Rattle.machine.specs.Advance.{Advance, fresh_answer, ready}
use Rattle.demands.specs.Composed.{System, joined, code, advanced}
use Rattle.demands.specs.Supplied.{lent_to}
use Rattle.worked.specs.Programs.{numbers, ports, always_row, interval_row, missing_row, program_f, schedule, window}
use Rattle.worked.specs.Programs.{asked}

-- the parts of a system of two suppliers: these for suppliers 0 and 1, no rows for the others
abbrev pub parts_of : List ℤ → List ℤ → ℕ → List ℤ
parts_of one other zero = one
parts_of one other (suc zero) = other
parts_of one other (suc (suc s)) = []

-- a slice that has room for 64 instructions
abbrev pub room : List ℕ
room = replicate (words_each * 64) 0

abbrev pub F-system : System
F-system = record { tables = program_f 6 2; windows = window 0 10; parts = parts_of (schedule 1 0) []; slice = room }

-- what F's supplier is asked about
abbrev pub F-asked : Asked
F-asked = asked 6 F-system.windows (F-system.parts 0)

-- The monitor. Ports: 0 the measured resistance, 1 the relay, 2 and 3 the tasks' inputs, 4 their output, 5 what task 0 remembers.
-- Mode 0, period 4: task 0 of supplier 0, twice; a missing reading switches to mode 1.
-- Mode 1, period 2: task 1 of supplier 1, once, with this worst-case time; a reading 0..100 switches back, a missing one to mode 1 again.
abbrev pub monitor : ℕ → Tables
monitor worst1 =
    tables
    (ports 1 sensor ++ (ports 1 actuator ++ (ports 2 input ++ (ports 1 output ++ ports 1 private))))
    (numbers (0 ∷ 1 ∷ 1 ∷ worst1 ∷ []))
    (numbers (0 ∷ 2 ∷ 0 ∷ 4 ∷ 1 ∷ 3 ∷ 1 ∷ 4 ∷ 0 ∷ 5 ∷ []))
    (always_row ++ (always_row ++ (always_row ++ (missing_row 0 ++ interval_row 0 (pos 0) (pos 100)))))
    (numbers (0 ∷ 0 ∷ 2 ∷ 1 ∷ 0 ∷ 3 ∷ 2 ∷ 4 ∷ 1 ∷ 3 ∷ 4 ∷ 4 ∷ 4 ∷ 4 ∷ 4 ∷ []))
    (numbers (4 ∷ 2 ∷ []))
    (numbers (0 ∷ 4 ∷ 1 ∷ 4 ∷ []))
    (numbers (0 ∷ 2 ∷ 0 ∷ 0 ∷ 1 ∷ 1 ∷ 1 ∷ 1 ∷ []))
    (numbers (0 ∷ 1 ∷ 2 ∷ 1 ∷ 1 ∷ 2 ∷ []))
    (numbers (0 ∷ 1 ∷ 1 ∷ 3 ∷ 1 ∷ 1 ∷ 0 ∷ 4 ∷ 1 ∷ 1 ∷ 1 ∷ 3 ∷ []))
    (pos 0)

-- The monitor's blocks are at 7 and 15 in mode 0 and at 24 in mode 1; supplier 1's window goes to this tick.
abbrev pub monitor_windows : ℕ → List ℤ
monitor_windows to1 = numbers (0 ∷ 0 ∷ 0 ∷ 4 ∷ 1 ∷ 1 ∷ 0 ∷ to1 ∷ [])

abbrev pub monitor-system : System
monitor-system = record {
  tables = monitor 2;
  windows = monitor_windows 2;
  parts = parts_of (numbers (0 ∷ 7 ∷ 0 ∷ 0 ∷ 2 ∷ 0 ∷ 15 ∷ 0 ∷ 0 ∷ 2 ∷ [])) (numbers (1 ∷ 24 ∷ 0 ∷ 1 ∷ 2 ∷ []));
  slice = room;
}

-- The pair. Ports: 0 a sensor, 1 an actuator, 2 and 3 the tasks' inputs, 4 and 5 their outputs.
-- One mode, period 8, two units: task 0 of supplier 0 twice, worst case 2; task 1 of supplier 1 once, worst case 4.
abbrev pub pair : Tables
pair =
    tables
    (ports 1 sensor ++ (ports 1 actuator ++ (ports 2 input ++ ports 2 output)))
    (numbers (0 ∷ 2 ∷ 1 ∷ 4 ∷ []))
    (numbers (0 ∷ 2 ∷ 0 ∷ 4 ∷ 1 ∷ 3 ∷ 1 ∷ 5 ∷ []))
    (always_row ++ (always_row ++ always_row))
    (numbers (0 ∷ 0 ∷ 2 ∷ 1 ∷ 4 ∷ 3 ∷ 2 ∷ 5 ∷ 1 ∷ []))
    (numbers (8 ∷ []))
    (numbers (0 ∷ 4 ∷ 0 ∷ 5 ∷ []))
    (numbers (0 ∷ 2 ∷ 0 ∷ 0 ∷ 0 ∷ 1 ∷ 1 ∷ 1 ∷ []))
    (numbers (0 ∷ 1 ∷ 2 ∷ []))
    []
    (pos 0)

-- In each unit supplier 0 has the first two ticks and supplier 1 the other two: it idles till then, and what is left of its task at the
-- unit's end goes on in the second block. The blocks are at 9 and 15.
abbrev pub pair-system : System
pair-system = record {
  tables = pair;
  windows = numbers (0 ∷ 0 ∷ 0 ∷ 2 ∷ 1 ∷ 0 ∷ 2 ∷ 4 ∷ 0 ∷ 0 ∷ 4 ∷ 6 ∷ 1 ∷ 0 ∷ 6 ∷ 8 ∷ []);
  parts = parts_of (numbers (0 ∷ 9 ∷ 0 ∷ 0 ∷ 2 ∷ 0 ∷ 15 ∷ 0 ∷ 0 ∷ 2 ∷ []))
      (numbers (1 ∷ 9 ∷ 1 ∷ 0 ∷ 2 ∷ 1 ∷ 9 ∷ 0 ∷ 1 ∷ 4 ∷ 1 ∷ 15 ∷ 1 ∷ 0 ∷ 2 ∷ 1 ∷ 15 ∷ 0 ∷ 1 ∷ 4 ∷ []));
  slice = room;
}

-- a task function that tells tasks, ports and inputs apart
abbrev pub weigh : List ℤ → ℕ
weigh [] = 0
weigh (x ∷ xs) = nat_abs x + 2 * weigh xs

abbrev pub mix : Function
mix t values p = pos (100 * t + 10 * p + weigh values)

-- readings that change from tick to tick
abbrev pub readings : ℕ → List ℤ
readings n = pos n ∷ replicate 63 (pos 0)

-- readings that change from tick to tick, and are missing at ticks 4 and 6
abbrev pub gaps : ℕ → List ℤ
gaps n = elim (eqb n 4) [
  | true ↦ no_reading ∷ replicate 63 (pos 0)
  | false ↦ elim (eqb n 6) [ true ↦ no_reading ∷ replicate 63 (pos 0) | false ↦ readings n ]
]

-- execution times by task, the same in every tick
abbrev pub times : List ℕ → ℕ → List ℤ
times ts n = map pos ts ++ replicate 30 (pos 0)

-- execution times that change from tick to tick: of the pair's releases, task 0 gets 1, 2, 1, 2, .., and task 1 gets 4, 3, 2, 1, 4, ..
abbrev pub changing : ℕ → List ℤ
changing n = pos (1 + (n + n / 4) % 2) ∷ pos (4 - (n + n / 8) % 4) ∷ replicate 30 (pos 0)

-- two lists of values are equal
abbrev pub same : List ℤ → List ℤ → Bool
same [] [] = true
same [] (y ∷ ys) = false
same (x ∷ xs) [] = false
same (x ∷ xs) (y ∷ ys) = elim (eq_z x y) [ true ↦ same xs ys | false ↦ false ]

-- in k ticks from tick n on, the machine in state s and Giotto in configuration C, no advance is refused, and after each the
-- ports are Giotto's
abbrev pub agrees : System → Function → (ℕ → List ℤ) → (ℕ → List ℤ) → ℕ → ℕ → State → Configuration → Bool
agrees Y F rs ts zero n s C = true
agrees Y F rs ts (suc k) n s C =
    let a = advanced Y (lent_to Y F rs ts n s) s in
    let D = pass (program_of Y.tables) F n (rs n) C in
    elim a.answer.number [
      | zero ↦ elim (same a.state.ports D.ports) [ true ↦ agrees Y F rs ts k (suc n) a.state D | false ↦ false ]
      | suc v ↦ false
    ]

-- in k ticks from a fresh state no advance is refused, and after each the ports are Giotto's
abbrev pub runs_as_giotto : System → Function → (ℕ → List ℤ) → (ℕ → List ℤ) → ℕ → Bool
runs_as_giotto Y F rs ts k = agrees Y F rs ts k 0 (fresh_answer Y.tables).state (initial (program_of Y.tables) F)

-- who runs in the tick after its E part came to this
abbrev pub running_in : System → Outcome → Who
running_in Y (ok u) = running (joined Y) u
running_in Y (stop n) = nobody

-- who runs in each of k ticks from tick n on, the machine in state s
abbrev pub who_from : System → Function → (ℕ → List ℤ) → (ℕ → List ℤ) → ℕ → ℕ → State → List Who
who_from Y F rs ts zero n s = []
who_from Y F rs ts (suc k) n s =
    running_in Y (ready (program_of Y.tables) (instructions (code Y)) (rs n) (ts n) s)
    ∷ who_from Y F rs ts k (suc n) (advanced Y (lent_to Y F rs ts n s) s).state

-- who runs in each of k ticks from a fresh state
abbrev pub who_each : System → Function → (ℕ → List ℤ) → (ℕ → List ℤ) → ℕ → List Who
who_each Y F rs ts k = who_from Y F rs ts k 0 (fresh_answer Y.tables).state

-- F's first advance: from a fresh state, with the longest execution times
abbrev pub F-fresh : State
F-fresh = (fresh_answer (program_f 6 2)).state

abbrev pub F-first : Advance
F-first = record {
  tables = program_f 6 2;
  code = code F-system;
  schedule = joined F-system;
  state = F-fresh;
  lent = lent_to F-system mix readings (times (6 ∷ 2 ∷ [])) 0 F-fresh;
}
