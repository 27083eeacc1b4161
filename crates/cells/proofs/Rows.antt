-- A search of a table's rows is the same search of the rows of the slice that is lent as that table.
use Prim.Native.Nat.{ℕ}
use mathlib.Core.Path.{◌≡◌, ap}
use mathlib.Core.Bool.{Bool}
use mathlib.Core.List.{List}
use lib.IntN.{ℤ}
use Rattle.theory.specs.Search.{any, first}
use Rattle.cells.specs.Cell.{rows_in}

module _ (p : ℕ → Bool) (width : ℕ) {t lent : List ℤ} where
  -- whether some row of the table passes is whether some row of the slice does
  pub any-rows : t ≡ lent → any p (rows_in width t) ≡ any p (rows_in width lent)
  any-rows e = ap (λ (l : List ℤ). any p (rows_in width l)) e

  -- the lowest row of the table that passes is the lowest of the slice
  pub first_rows : t ≡ lent → first p (rows_in width t) ≡ first p (rows_in width lent)
  first_rows e = ap (λ (l : List ℤ). first p (rows_in width l)) e
