-- `text::listing::larger_lines` meets its contract: the number 11 and its line's end, the words, between them the most that is held.
use Prim.Native.Nat.{ℕ}
use mathlib.Core.Path.{subst}
use mathlib.Core.List.{[]}
use Rattle.cells.specs.Limits.{max_held}
use Rattle.cells.specs.Refusals.{code_refused}
use Rattle.text.specs.Decimal.{decimal}
use Rattle.text.specs.Line.{Appended}
use Rattle.text.specs.Shipped.{answer_line}
use Rattle.text.proofs.Lines.{holds_more}
use Rattle.text.proofs.listing.larger_lines.Goals as goal

pub returns : goal.returns
unfolding answer_line
returns c =
    let number = subst (λ (n : ℕ). Appended c.new.result c.number-number.result (decimal n)) c.from.ensures c.number-number.ensures in
    let h1 = holds_more [] (decimal code_refused) c.new.ensures number in
    let h2 = holds_more (decimal code_refused) _ h1 c.word.ensures in
    let h3 = holds_more _ (decimal max_held) h2 c.number-most.ensures in
    holds_more _ _ h3 c.word-2.ensures
