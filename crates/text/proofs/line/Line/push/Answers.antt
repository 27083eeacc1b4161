-- `text::line::Line::push` meets its contract: the byte is put behind those that are said.
use mathlib.Core.Path.{◌≡◌}
use native.Mathlib.Omega.{arith}
use lib.ListN.{length}
use borrow.Author.Rules.{rules}
use Rattle.text.specs.Line.{room}
use Rattle.text.proofs.Lines.{appended-byte}
use Rattle.text.proofs.line.Line.push.Goals as goal

pub returns : goal.returns
returns c =
    let whole : length c.args.self.bytes ≡ room = search rules in
    appended-byte c.args.self c.args.b (omega (arith, c.requires))
