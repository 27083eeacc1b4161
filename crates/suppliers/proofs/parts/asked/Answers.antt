-- `suppliers::parts::asked` meets its contract: one row, which is bad or not.
use mathlib.Core.Path.{sym, ap, ◌∙◌}
use mathlib.Core.Bool.{Bool, cond}
use borrow.Author.Tests.{le-leb, lt-leb}
use Rattle.theory.specs.Rows.{placeless, at_row}
use Rattle.theory.specs.Verdict.{accepted_number}
use Rattle.cells.specs.Refusals.{schedule_refused}
use Rattle.program.specs.Tables.{supplier_at}
use Rattle.theory.proofs.Placing.{one-row}
use Rattle.suppliers.proofs.parts.asked.Goals as goal

pub returns-then-supplier-ge-SUPPLIERS : goal.returns-then-supplier-ge-SUPPLIERS
returns-then-supplier-ge-SUPPLIERS c =
    sym (one-row schedule_refused supplier_at _
    ∙ ap (λ (b : Bool). cond b (at_row schedule_refused supplier_at 0) (placeless accepted_number)) (le-leb _ _ c.if-supplier-ge-SUPPLIERS.true))

pub returns : goal.returns
returns c =
    sym (one-row schedule_refused supplier_at _
    ∙ ap (λ (b : Bool). cond b (at_row schedule_refused supplier_at 0) (placeless accepted_number)) (lt-leb _ _ c.if-supplier-ge-SUPPLIERS.false))
