-- `answering::pages::rest` meets its contract: both ends are cut to what there is.
use Rattle.answering.specs.Writing.{rest_of}
use Rattle.cells.proofs.Held.{between_is}
use Rattle.answering.proofs.pages.rest.Goals as goal

pub returns : goal.returns
unfolding rest_of
returns c =
    let a = c.args in
    between_is a.sheet.from a.sheet.len c.min-from.result c.min-end.result a.buffer.now c.min-end.ensures c.min-from.ensures
