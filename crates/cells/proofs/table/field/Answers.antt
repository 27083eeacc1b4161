-- `cells::table::field` meets its contract: the place of a column does not wrap, and past the last row stands 0.
use mathlib.Core.Path.{sym}
use Rattle.cells.proofs.Names.{past_end}
use Rattle.cells.proofs.Place.{place-past}
use Rattle.cells.proofs.table.field.Goals as goal

pub returns : goal.returns
returns c = sym (past_end _ _ (place-past c.requires c.if-row-t.false))
