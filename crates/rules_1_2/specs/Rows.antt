-- Number 2 by the place of a table: which row of it is bad.
use Rattle.std.specs.Prelude.{ℕ, Bool, false, List, [], ◌∷◌, get_or}
use Rattle.theory.specs.Rows.{RowTests, testing}
use Rattle.program.specs.Tables.{Tables, start_at}
use Rattle.rules.specs.Fields.{port_bad, task_bad, task_port_bad, driver_bad, copy_bad, mode_bad, mode_port_bad, invocation_bad, update_bad, switch_bad}
use Rattle.rules.specs.Fields.{start_bad}

-- the tests of the rows of each table, in the order of the tables
abbrev pub tests_by_table : Tables → List (ℕ → Bool)
tests_by_table T =
    port_bad T
    ∷ task_bad T
    ∷ task_port_bad T
    ∷ driver_bad T
    ∷ copy_bad T
    ∷ mode_bad T
    ∷ mode_port_bad T
    ∷ invocation_bad T
    ∷ update_bad T
    ∷ switch_bad T
    ∷ []

-- row i of the table at a place is bad; at a place past the last table no row is
unfoldable pub row_bad : Tables → ℕ → ℕ → Bool
row_bad T place i = get_or (tests_by_table T) place (λ j. false) i

-- number 2 of the start mode, which is row 0 of its place
abbrev pub start_tests : Tables → List RowTests
start_tests T = testing start_at 1 (λ r. start_bad T) ∷ []
