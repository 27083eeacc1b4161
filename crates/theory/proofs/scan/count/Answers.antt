-- `theory::scan::count` meets its contract: a number that passes is counted, any other is not.
use Rattle.std.proofs.Common.{arith, ◌+◌}
use mathlib.Core.Path.{sym, subst, ◌∙◌}
use Rattle.theory.proofs.Counting.{Counted, one_more, no_more}
use Rattle.theory.proofs.scan.count.Goals as goal
use Rattle.theory.proofs.scan.count.Goals.{then-test, else-test}

pub loop-k-preserved : goal.loop-k-preserved
loop-k-preserved g c =
    let k = c.loop-k.k in
    let n = c.args.n in
    let l = c.loop-k-test.true in
    let h = c.loop-k.invariant in
    elim c.if-test.branch [
      | then-test w ↦ (
        omega (arith, h.0, w.count-is),
        λ p t. subst (Counted p n (k + 1)) (sym w.count-is)
            (one_more p n k _ l (sym (t _ l _ c.test.ensures) ∙ w.if-test.true) (h.1 p t)),
      )
      | else-test w ↦ (
        omega (arith, h.0, w.count-is),
        λ p t. subst (Counted p n (k + 1)) (sym w.count-is)
            (no_more p n k _ l (sym (t _ l _ c.test.ensures) ∙ w.if-test.false) (h.1 p t)),
      )
    ]
