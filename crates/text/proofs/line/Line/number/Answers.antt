-- `text::line::Line::number` meets its contract: the digits at the end of their room are appended.
use Prim.Native.Nat.{◌-◌, ◌≤◌}
use mathlib.Core.Path.{subst, ◌∙◌}
use native.Mathlib.Omega.{arith}
use lib.ListN.{length, drop, length-drop}
use lib.Seq.{take_all}
use Rattle.text.specs.Digits.{most_digits, digits_in}
use Rattle.text.specs.Line.{Appended}
use Rattle.text.proofs.line.Line.number.Goals as goal

pub returns : goal.returns
unfolding digits_in
returns c =
    let of = c.of-digits in
    let bytes = of.result.bytes in
    let from = of.result.from in
    let end : length (drop from bytes) ≤ most_digits - from = omega (arith, length-drop from bytes, of.ensures.whole) in
    subst (Appended _ c.word.result) (take_all (most_digits - from) (drop from bytes) end ∙ of.ensures.digits) c.word.ensures
