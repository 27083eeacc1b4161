-- `rules_1_2::searches::first_bad` meets its contract: the rows that the loop has passed are not bad.
use mathlib.Core.Path.{sym, ◌∙◌}
use Rattle.theory.proofs.Search.{passed_none, passed-more, lowest-found, lowest-none}
use Rattle.rules_1_2.proofs.searches.first_bad.Goals as goal

pub loop-row-init : goal.loop-row-init
loop-row-init c start = passed_none _ _

pub returns-then-row_bad : goal.returns-then-row_bad
returns-then-row_bad c start =
    sym (lowest-found _ _ _ (c.loop-row.invariant start) c.loop-row-test.true (sym (c.row_bad.ensures start) ∙ c.if-row_bad.true))

pub loop-row-preserved : goal.loop-row-preserved
loop-row-preserved c start =
    passed-more _ _ _ (c.loop-row.invariant start) c.loop-row-test.true (sym (c.row_bad.ensures start) ∙ c.if-row_bad.false)

pub returns : goal.returns
returns c start = sym (lowest-none _ _ _ (c.loop-row.invariant start) c.loop-row-test.false)
