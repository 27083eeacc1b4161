-- The order of signed numbers.
use Rattle.std.specs.Prelude.{◌≡◌, true, ℤ}
use Rattle.std.specs.Int.Signed.{le_z}

infix 50 ◌≤Z◌
abbrev pub ◌≤Z◌ : ℤ → ℤ → Type 0
a ≤Z b = le_z a b ≡ true
