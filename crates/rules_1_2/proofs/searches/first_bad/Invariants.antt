-- `rules_1_2::searches::first_bad` meets its contract: the rows that the loop has passed are not bad.
use lib.IntN.{ℤ}
use Rattle.theory.proofs.Search.{Passed}
use Rattle.program.specs.Tables.{tables_in}
use Rattle.rules_1_2.specs.Rows.{row_bad}
use Rattle.rules_1_2.proofs.searches.first_bad.Given as goal

abbrev pub invariant-loop-row : goal.invariant-loop-row
invariant-loop-row l = (start : ℤ) → Passed (row_bad (tables_in l.tables start) l.place) l.n l.row
