-- `answering::pages::wrote` meets its contract: the rest of the page, or the next one.
use mathlib.Core.Path.{ap}
use native.Mathlib.Omega.{arith}
use lib.ListN.{length, take, length-drop, length-take}
use borrow.Author.Tests.{lt-ltb, le-ltb}
use Rattle.answering.specs.Writing.{rest_of, wrote_of}
use Rattle.answering.proofs.pages.wrote.Goals as goal

pub overflow_add-result : goal.overflow_add-result
unfolding rest_of
overflow_add-result c =
    let a = c.args in
    omega
    (arith, c.if-n-left.true, ap length c.rest-left.ensures, length-drop a.sheet.from (take a.sheet.len a.buffer.now), length-take a.sheet.len a.buffer.now)

pub returns-then-n-left : goal.returns-then-n-left
unfolding wrote_of
returns-then-n-left c = simp (← c.rest-left.ensures, lt-ltb _ _ c.if-n-left.true)

pub returns : goal.returns
unfolding wrote_of
returns c = simp (← c.rest-left.ensures, le-ltb _ _ c.if-n-left.false) c.later.ensures
