-- What the two calls are lent; numbers 2 to 12, which both ask after their own 1.
use Rattle.std.specs.Prelude.{List, ℤ}
use Rattle.theory.specs.Verdict.{rows_answer, or_next}
use Rattle.theory.specs.declared.Answer.{Answer}
use Rattle.cells.specs.Refusals.{windows_refused}
use Rattle.program.specs.Tables.{Tables}
use Rattle.verdict_2_11.specs.Tables.{tables_and_code_answer}
use Rattle.suppliers.specs.Windows.{Windowed, window_tests}
use Rattle.suppliers.specs.Supplier.{Asked}

-- tables and windows, as the windows verdict is lent them
abbrev pub windowed : Tables → List ℤ → Windowed
windowed T W = record { tables = T; windows = W }

-- tables, windows, a supplier's part and its number, as the supplier's verdict is lent them
abbrev pub asked : Tables → List ℤ → List ℤ → ℤ → Asked
asked T W S s = record { tables = T; windows = W; part = S; supplier = s }

-- the answer of numbers 2 to 12 and 24 on tables and windows that have their shape: 2 to 11 and 24 of the tables, then 12
unfoldable pub shaped_answer : Windowed → Answer
shaped_answer L = or_next (tables_and_code_answer L.tables) (rows_answer windows_refused (window_tests L))
