-- `ticking::values::copied` meets its contract: from every row on, the copies left come to what all copies come to.
use Rattle.std.proofs.Common.{◌∙◌, rules}
use Rattle.ticking.proofs.Rowwise.{rows_more, rows-ended}
use Rattle.ticking.proofs.Assigned.{copies-all}
use Rattle.ticking.proofs.values.copied.Goals as goal

pub loop-i-preserved : goal.loop-i-preserved
loop-i-preserved c =
    let size = c.loop-i.invariant.0 in
    (search rules, λ T e. rows_more _ c.loop-i-test.true (c.copy_row.ensures T e) (c.loop-i.invariant.1 T e))

pub returns : goal.returns
returns c T e =
    let a = c.args in
    rows-ended c.loop-i-test.false (c.loop-i.invariant.1 T e) ∙ copies-all T a.d.0 a.values a.copies.now e
