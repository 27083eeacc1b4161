-- `runs::turn::moved` meets its contract: from every row passed it comes to the same position.
use mathlib.Core.Path.{sym, ◌∙◌}
use Rattle.runs.proofs.Rows.{comes-more, comes-stop, comes-last}
use Rattle.runs.proofs.turn.moved.Goals as goal

pub returns-then-not-skipped : goal.returns-then-not-skipped
returns-then-not-skipped c =
    comes-stop _ _ _ _ c.loop-i-test.true (sym c.skipped.ensures ∙ c.if-not-skipped.true)
    ∙ c.loop-i.invariant

pub loop-i-preserved : goal.loop-i-preserved
loop-i-preserved c =
    comes-more _ _ _ _ c.loop-i-test.true (sym c.skipped.ensures ∙ c.if-not-skipped.false)
    ∙ c.loop-i.invariant

pub returns : goal.returns
returns c = c.max.ensures ∙ comes-last _ _ _ _ c.loop-i.i c.loop-i.auto.i-end c.loop-i-test.false c.loop-i.invariant
