-- The digits of a number as the code holds them: at the end of a room for the most of them.
use Rattle.std.specs.Prelude.{ℕ, ◌-◌, ◌≡◌, List, length, take, drop, replicate}
use Rattle.text.specs.Decimal.{decimal}
use Rattle.text.specs.declared.decimal.Digits.{Digits}

-- no number of 32 bits has more digits
abbrev pub most_digits : ℕ
most_digits = 10

-- the digits that the room holds
unfoldable pub digits_in : Digits → List ℕ
digits_in d = drop d.from d.bytes

-- these are the digits of n, as many as it has; in front of them stand zeros
pub record Spelled (n : ℕ) (d : Digits) : Type 0 where
  pub digits : digits_in d ≡ decimal n
  pub front : take d.from d.bytes ≡ take d.from (replicate most_digits 0)
  pub place : d.from ≡ most_digits - length (decimal n)
  pub whole : length d.bytes ≡ most_digits
