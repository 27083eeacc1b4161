-- `ticking::values::gives_taken` meets its contract: from every row on, the outputs left come to what all outputs come to.
use Rattle.std.proofs.Common.{◌∙◌, rules}
use Rattle.ticking.proofs.Rowwise.{rows_more, rows-ended}
use Rattle.ticking.proofs.Assigned.{outputs-all}
use Rattle.ticking.proofs.values.gives_taken.Goals as goal

pub loop-k-preserved : goal.loop-k-preserved
loop-k-preserved c =
    let size = c.loop-k.invariant.0 in
    (search rules, λ T e f. rows_more _ c.loop-k-test.true (c.gives_row.ensures T e f) (c.loop-k.invariant.1 T e f))

pub returns : goal.returns
returns c T e f =
    let a = c.args in
    rows-ended c.loop-k-test.false (c.loop-k.invariant.1 T e f) ∙ outputs-all T a.t.0 a.given.now a.values a.tables.now.task_ports.now f
