-- `intake::lines::counted` meets its contract: the cases of `counted_of`, and the numbers of a table within its limit fit.
use Prim.Native.Nat.{◌*◌}
use mathlib.Core.Path.{sym, ap, ap₂, ◌∙◌}
use native.Mathlib.Omega.{arith}
use Rattle.cells.specs.Cell.{index_of}
use Rattle.cells.proofs.Ints.{back}
use Rattle.intake.specs.Change.{with_table}
use Rattle.intake.proofs.Shapes.{numbers-small}
use Rattle.intake.proofs.Steps.{counted-last, counted-within, counted-past}
use Rattle.intake.proofs.lines.counted.Goals as goal

pub returns-then-k-ge-TABLES : goal.returns-then-k-ge-TABLES
returns-then-k-ge-TABLES c = c.as_bad.ensures ∙ sym (counted-last c.args.i c.args.z c.if-k-ge-TABLES.true)

pub overflow_mul-rows : goal.overflow_mul-rows
overflow_mul-rows c =
    let k = c.args.i.table in
    let rows = c.index-rows.result in
    let small = numbers-small k rows (omega (arith, c.limit.ensures, c.if-rows-limit.true)) in
    rw c.width.ensures (record { fits = omega (arith, small) })

pub returns-then-rows-limit : goal.returns-then-rows-limit
returns-then-rows-limit c =
    let i = c.args.i in
    let z = c.args.z in
    let rows = c.index-rows.ensures ∙ ap index_of (back z c.ranges.z.sfits) in
    let limit = c.limit.ensures in
    c.opened.ensures
    ∙ ap (with_table i) (ap₂ ◌*◌ rows c.width.ensures)
    ∙ sym (counted-within i z c.if-k-ge-TABLES.false (rw (limit, rows) at c.if-rows-limit.true))

pub returns : goal.returns
returns c =
    let z = c.args.z in
    let rows = c.index-rows.ensures ∙ ap index_of (back z c.ranges.z.sfits) in
    let limit = c.limit.ensures in
    c.as_too_many.ensures
    ∙ sym (counted-past c.args.i z c.if-k-ge-TABLES.false (rw (limit, rows) at c.if-rows-limit.false))
