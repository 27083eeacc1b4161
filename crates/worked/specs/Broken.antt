-- F with one thing wrong: a program for each of the numbers 2 to 7, tables and windows at a limit and one beyond; F with private ports.
use Rattle.std.specs.Prelude.{ℕ, List, [], ◌∷◌, ◌++◌, ℤ, pos}
use Rattle.program.specs.Tables.{Tables, tables}
use Rattle.worked.specs.Programs.{numbers, program_f, always_row}

-- F with these rows behind its task ports, its copies, its mode ports, its invocations and its updates, and with this start mode
abbrev pub extended : List ℕ → List ℕ → List ℕ → List ℕ → List ℕ → ℕ → Tables
extended task_ports copies mode_ports invocations updates start =
    let T = program_f 6 2 in
    tables T.ports T.tasks (T.task_ports ++ numbers task_ports) T.drivers (T.copies ++ numbers copies) T.modes
    (T.mode_ports ++ numbers mode_ports) (T.invocations ++ numbers invocations) (T.updates ++ numbers updates) T.switches (pos start)

-- F with these ports, and with these rows behind its task ports, its drivers, its copies and its mode ports: the ports begin with number
-- 12, the drivers with 3
abbrev pub remembering : List ℕ → List ℕ → List ℤ → List ℕ → List ℕ → Tables
remembering more task_ports drivers copies mode_ports =
    let T = program_f 6 2 in
    tables (T.ports ++ numbers more) T.tasks (T.task_ports ++ numbers task_ports) (T.drivers ++ drivers) (T.copies ++ numbers copies)
    T.modes (T.mode_ports ++ numbers mode_ports) T.invocations T.updates T.switches (pos 0)

-- a task of this supplier with this worst-case time, once in a mode of this period with an update of this frequency that moves nothing
abbrev pub bounded : ℕ → ℕ → ℕ → ℕ → Tables
bounded supplier worst period frequency =
    tables [] (numbers (supplier ∷ worst ∷ [])) [] always_row [] (numbers (period ∷ [])) []
    (numbers (0 ∷ 1 ∷ 0 ∷ 0 ∷ [])) (numbers (0 ∷ frequency ∷ 0 ∷ [])) [] (pos 0)

-- two windows of F's mode, of suppliers 0 and 1
abbrev pub two_windows : ℕ → ℕ → ℕ → ℕ → List ℤ
two_windows from1 to1 from2 to2 = numbers (0 ∷ 0 ∷ from1 ∷ to1 ∷ 1 ∷ 0 ∷ from2 ∷ to2 ∷ [])
