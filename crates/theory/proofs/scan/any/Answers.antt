-- `theory::scan::any` meets its contract: what a call of the test answers is what p says of its number.
use mathlib.Core.Path.{sym, ◌∙◌}
use Rattle.theory.proofs.Search.{passed_none, passed-more, passed-all, any_at}
use Rattle.theory.proofs.scan.any.Goals as goal

pub loop-k-init : goal.loop-k-init
loop-k-init g c p t = passed_none _ _

pub returns-then-test : goal.returns-then-test
returns-then-test g c p t = sym (any_at _ _ _ c.loop-k-test.true (sym (t _ c.loop-k-test.true _ c.test.ensures) ∙ c.if-test.true))

pub loop-k-preserved : goal.loop-k-preserved
loop-k-preserved g c p t =
    passed-more _ _ _ (c.loop-k.invariant p t) c.loop-k-test.true (sym (t _ c.loop-k-test.true _ c.test.ensures) ∙ c.if-test.false)

pub returns : goal.returns
returns g c p t = sym (passed-all _ _ _ (c.loop-k.invariant p t) c.loop-k-test.false)
