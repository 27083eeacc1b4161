-- `text::page::line_at` meets its contract: the three words of the instruction are read.
use mathlib.Core.Path.{subst, ap}
use Rattle.code.proofs.Fetch.{instruction-read}
use Rattle.text.specs.Listing.{line_of}
use Rattle.text.specs.Line.{Holds}
use Rattle.text.proofs.page.line_at.Goals as goal

pub returns : goal.returns
returns c =
    let read = instruction-read c.args.code.now c.args.i _ _ _ c.requires c.word-number.ensures c.word-first.ensures c.word-second.ensures in
    subst (Holds _) (ap (line_of c.args.i) read) c.line.ensures
