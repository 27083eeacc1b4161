-- `runs::turn::at_row` meets its contract: a dispatch runs its task, and nothing else runs.
use Rattle.runs.proofs.Rows.{runs-at, rests-at}
use Rattle.runs.proofs.turn.at_row.Goals as goal

pub returns-then-i-n : goal.returns-then-i-n
returns-then-i-n c = runs-at _ _ _ _ c.field-kind.ensures (rw c.from.ensures at c.if-i-n.true) c.named.ensures

pub returns-else-i-n : goal.returns-else-i-n
returns-else-i-n c = rests-at _ _ _ c.field-kind.ensures (rw c.from.ensures at c.if-i-n.false)
