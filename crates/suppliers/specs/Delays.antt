-- Number 13 as the code asks it: the rows held against the delay at each address, whatever these are; they are counted from the
-- program's tables.
use Rattle.std.specs.Prelude.{ℕ, Bool, List, ℤ}
use Rattle.theory.specs.Rows.{RowTests}
use Rattle.program.specs.Tables.{Tables}
use Rattle.suppliers.specs.Schedule.{delay_fits, wrong_row, part_tests_by, joined_tests_by}

-- row i breaks number 13, by the delay at each address
unfoldable pub row_wrong_by : Tables → (ℕ → ℕ) → List ℤ → ℕ → Bool
row_wrong_by T delays S i = wrong_row (delay_fits delays) T S i

-- number 13 of the part of supplier s, row by row, by the delay at each address
abbrev pub part_tests_in : Tables → (ℕ → ℕ) → List ℤ → ℕ → List RowTests
part_tests_in T delays S s = part_tests_by (row_wrong_by T delays S) S s

-- number 13 of the joined schedule, row by row, by the delay at each address
abbrev pub joined_tests_in : Tables → (ℕ → ℕ) → List ℤ → List RowTests
joined_tests_in T delays S = joined_tests_by (row_wrong_by T delays S) S
