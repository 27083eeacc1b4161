-- `text::decimal::Digits::of` meets its contract: the digits are written from the last to the first.
use Rattle.text.proofs.Decimals.{Writing}
use Rattle.text.proofs.decimal.Digits.of.Given as goal

abbrev pub invariant-loop-from : goal.invariant-loop-from
invariant-loop-from l = Writing l.n l.bytes l.from l.rest
