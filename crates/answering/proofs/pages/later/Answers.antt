-- `answering::pages::later` meets its contract: a page of lines is filled.
use Rattle.answering.specs.Answer.{answered}
use Rattle.answering.proofs.Handing.{filled-page}
use Rattle.answering.proofs.pages.later.Goals as goal

pub returns : goal.returns
returns c =
    filled-page (answered c.args.shown c.args.code.now) c.args.from c.args.buffer.now _ _ _ c.lines.ensures c.fill-filled.ensures
