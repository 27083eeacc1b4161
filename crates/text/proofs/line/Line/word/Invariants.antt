-- `text::line::Line::word` meets its contract: after i turns the first i bytes are appended.
use lib.ListN.{take}
use Rattle.text.specs.Line.{Appended}
use Rattle.text.proofs.line.Line.word.Given as goal

abbrev pub invariant-loop-b : goal.invariant-loop-b
invariant-loop-b l = Appended l.initial.self l.self (take l.b-index l.more)
