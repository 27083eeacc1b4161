-- A value of digits that is too large, with a sign and without, is no number of 32 bits.
use Prim.Native.Nat.{ℕ, zero, suc, ◌<◌, ◌≤◌}
use mathlib.Core.Path.{◌≡◌, ap}
use mathlib.Core.Bool.{Bool, true, false}
use mathlib.Core.Option.{none, some}
use native.Mathlib.Omega.{arith}
use lib.IntN.{ℤ, pos, negsuc}
use borrow.Author.Tests.{lt-leb}
use Rattle.std.specs.Prelude.{Option as Told, None}
use Rattle.cells.specs.Cell.{greatest_word}
use Rattle.text.specs.Decimal.{farthest, negative, not_negative, as_word}
use Rattle.text.specs.Part.{too_large, signed_as, word_as}

-- a number that is taken where a test passes
unfoldable taken : Bool → ℤ → Told ℤ
taken b z = signed_as (elim b [ true ↦ some z | false ↦ none ])

unfoldable taken_word : Bool → ℕ → Told ℕ
taken_word b n = word_as (elim b [ true ↦ some n | false ↦ none ])

module _ (m : ℕ) where
  pub past-greatest : farthest < m → signed_as (not_negative (some m)) ≡ None
  unfolding taken
  past-greatest h = ap (λ (b : Bool). taken b (pos m)) (lt-leb m farthest h)

  pub past_word : too_large ≤ m → word_as (as_word (some m)) ≡ None
  unfolding taken_word
  past_word h = ap (λ (b : Bool). taken_word b m) (lt-leb m greatest_word (omega arith))

pub past-least : (m : ℕ) → suc farthest < m → signed_as (negative (some m)) ≡ None
unfolding taken
past-least zero h = absurd (omega arith)
past-least (suc n) h = ap (λ (b : Bool). taken b (negsuc n)) (lt-leb n farthest (omega arith))
