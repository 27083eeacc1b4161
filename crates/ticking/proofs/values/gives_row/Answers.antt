-- `ticking::values::gives_row` meets its contract: the row names its task and its port.
use Rattle.std.proofs.Common.{◌≡◌, ◌&&◌, ◌∙◌}
use Rattle.cells.proofs.Ints.{back}
use Rattle.program.specs.Tables.{Tables, task_port_port}
use Rattle.program.specs.Ports.{value_of}
use Rattle.ticking.specs.Values.{gives_row, gives_put}
use Rattle.ticking.proofs.Rowwise.{row_put, row_kept}
use Rattle.ticking.proofs.values.gives_row.Lts
use Rattle.ticking.proofs.values.gives_row.Tie
use Rattle.ticking.proofs.values.gives_row.Reads
use Rattle.ticking.proofs.values.gives_row.Goals as goal

-- the row is one of a port that the task gives exactly where both tests say so
own : (c : Lts.After-may_give Tie.the-claims Reads.Pre Reads.Post) (T : Tables) → T.ports ≡ c.args.tables.now.ports.now
    → T.task_ports ≡ c.args.tables.now.task_ports.now → gives_row T c.args.t.0 c.args.k ≡ c.eq.result && c.may_give.result
unfolding gives_row
own c T e f = simp (c.may_give.ensures T e, c.eq.ensures, c.named-p.ensures, c.named-own.ensures, f)

pub returns-then-eq-may_give : goal.returns-then-eq-may_give
returns-then-eq-may_give c T e f =
    let after-may_give = c.before.before.before.before.before in
    let port = c.named-p in
    let a = c.args in
    let place : port.result.0 ≡ task_port_port T a.k = simp (port.ensures, f) in
    let value : c.value.result ≡ value_of a.given.now (task_port_port T a.k) = simp (c.value.ensures, port.ensures, f) in
    c.put.ensures
    ∙ row_put _ (gives_put T a.given.now a.k) a.values.now _ _ (own after-may_give T e f ∙ c.if-eq-may_give.true) place
    (back c.value.result c.value.type_inv ∙ value)

pub returns-else-eq-may_give : goal.returns-else-eq-may_give
returns-else-eq-may_give c T e f =
    let a = c.args in
    row_kept _ (gives_put T a.given.now a.k) a.values.now (own c.before T e f ∙ c.if-eq-may_give.false)
