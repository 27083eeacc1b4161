-- Assignments made row by row: a row puts its value or leaves the values as they are, and from every row on, the rows left
-- come to what all rows come to.
use Rattle.std.proofs.Common.{◌≡◌, ℕ, ◌+◌, ◌-◌, ◌<◌, ◌≤◌, Bool, true, false, List, set, ℤ, sym, refl, ap, ◌∙◌, ap₂, arith}
use Rattle.theory.specs.Lists.{Put, puts, those}
use Rattle.theory.proofs.Lists.{those-yes, those-no, those-end}
use Rattle.ticking.specs.Values.{put_row}

-- a row that is asked for puts its value at its place
pub row_put : (b : Bool) (a : Put) (v : List ℤ) (at : ℕ) (x : ℤ) → b ≡ true → at ≡ a.place → x ≡ a.value → set v at x ≡ put_row b a v
row_put b a v at x e f g = ap₂ (set v) f g ∙ rw (e, put_row) refl

-- a row that is not asked for leaves the values as they are
pub row_kept : (b : Bool) (a : Put) (v : List ℤ) → b ≡ false → v ≡ put_row b a v
row_kept b a v e = rw (e, put_row) refl

-- of n rows, those from row i on put into the values so far come to what all put into the first values come to
pub record RowsPut (asked : ℕ → Bool) (put : ℕ → Put) (n : ℕ) (first : List ℤ) (i : ℕ) (so_far : List ℤ) : Type 0 where
  pub rest : puts (those asked put (n - i) i) so_far ≡ puts (those asked put n 0) first

module _ {asked : ℕ → Bool} {put : ℕ → Put} {n : ℕ} {first : List ℤ} where
  -- before any row is put, all rows are left
  pub rows-begun : RowsPut asked put n first 0 first
  rows-begun =
      let z : n - 0 ≡ n = omega arith in record { rest = ap (λ (k : ℕ). puts (those asked put k 0) first) z }

  module _ {i : ℕ} {so_far : List ℤ} where
    -- after one row more, the rows left come to the same
    pub rows_more : (next : List ℤ) → i < n → next ≡ put_row (asked i) (put i) so_far
        → RowsPut asked put n first i so_far → RowsPut asked put n first (i + 1) next
    rows_more next l e h = record { rest = go (asked i) refl e }
      where
        left : List Put
        left = those asked put (n - (i + 1)) (i + 1)

        go : (b : Bool) → asked i ≡ b → next ≡ put_row b (put i) so_far → puts left next ≡ puts (those asked put n 0) first
        go true f g =
            ap (puts left) g ∙ sym (ap (λ (rows : List Put). puts rows so_far) (those-yes asked put n i l f)) ∙ h.rest
        go false f g =
            ap (puts left) g ∙ sym (ap (λ (rows : List Put). puts rows so_far) (those-no asked put n i l f)) ∙ h.rest

    -- after all rows are put, the values are what all rows come to
    pub rows-ended : n ≤ i → RowsPut asked put n first i so_far → so_far ≡ puts (those asked put n 0) first
    rows-ended l h = sym (ap (λ (rows : List Put). puts rows so_far) (those-end asked put n i l)) ∙ h.rest
