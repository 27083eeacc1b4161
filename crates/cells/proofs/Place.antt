-- The place of a column of a row: it does not wrap, and past the last row it is past the end of the table.
use Prim.Native.Nat.{ℕ, ◌+◌, ◌*◌, ◌^◌, ◌<◌, ◌≤◌}
use mathlib.Core.Path.{◌≡◌, ap, ◌∙◌}
use mathlib.Core.List.{List}
use native.Mathlib.Nat.{mul-le-mul_left}
use native.Mathlib.Omega.{arith}
use lib.IntN.{ℤ}
use Rattle.cells.specs.Cell.{Column, num_at, name_of, name_at}

module _ {width column row n : ℕ} (c : Column width column) where
  -- the place of a row below the length of a slice of i32
  pub place-fits : row < n → n * 4 < 2 ^ 63 → row * width + column < 2 ^ 64
  place-fits l f = omega (arith, mul-le-mul_left row c.few, c.within)

  -- the place of a row from the length of the slice on
  pub place-past : n ≤ row → n ≤ row * width + column
  place-past l = omega (arith, mul-le-mul_left row c.some)

-- what the number at a place names is the name at that place: for each kind
pub named : {r n : ℕ} (t : List ℤ) (i : ℕ) → n ≡ num_at t i → r ≡ name_of n → r ≡ name_at t i
unfolding name_at
named t i e f = f ∙ ap name_of e
