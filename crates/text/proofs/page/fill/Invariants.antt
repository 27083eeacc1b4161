-- `text::page::fill` meets its contract: a line a turn, as long as there is an instruction and room for any line.
use lib.ListN.{length}
use Rattle.code.specs.Op.{instructions}
use Rattle.text.specs.Page.{PageWritten}
use Rattle.text.proofs.Filling.{Paged}
use Rattle.text.proofs.page.fill.Given as goal

abbrev pub invariant-loop-next : goal.invariant-loop-next
invariant-loop-next l =
    PageWritten (instructions l.code) l.from l.initial.out l.out l.next l.len × Paged (instructions l.code) (length l.initial.out) l.from l.next l.len
