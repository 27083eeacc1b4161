-- `answering::pages::first` meets its contract: what the answer begins with is laid.
use native.Mathlib.Omega.{arith}
use Rattle.answering.specs.Answer.{answered}
use Rattle.answering.proofs.Handing.{opening-line, laid-page}
use Rattle.answering.proofs.pages.first.Goals as goal

pub lay-len-requires-clause-len_le_room : goal.lay-len-requires-clause-len_le_room
lay-len-requires-clause-len_le_room c = omega (arith, c.opening.ensures.len, (opening-line c.args.shown).few)

pub returns : goal.returns
returns c code from = laid-page (answered c.args.shown code) from c.args.buffer.now _ _ _ c.lay-len.ensures c.opening.ensures
