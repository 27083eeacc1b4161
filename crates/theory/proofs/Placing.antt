-- The answer that the rows of several tables give for one number: that of the first table where it has a bad row, else that of the others;
-- that of a table of one row; and where it accepts no row is bad, if the number is not that of acceptance.
use Prim.Native.Nat.{ℕ}
use mathlib.Core.Path.{◌≡◌, refl, sym, ap, ◌∙◌}
use mathlib.Core.Bool.{Bool, true, false, ◌||◌, cond}
use mathlib.Core.List.{List, [], ◌∷◌}
use Rattle.theory.specs.Search.{any, first, first_from}
use Rattle.theory.specs.declared.Answer.{Answer}
use Rattle.theory.specs.Rows.{RowTests, testing, placeless, at_row, some_bad, lowest_bad}
use Rattle.theory.specs.Verdict.{accepted_number, rows_answer, or_next}
use Rattle.theory.proofs.Rows.{placed-number}
use Rattle.theory.proofs.Verdict.{next-given}

module _ (n : ℕ) where
  -- where the first table has a bad row, its lowest is named
  pub rows-first : (t : RowTests) (ts : List RowTests) → any t.bad t.count ≡ true
      → rows_answer n (t ∷ ts) ≡ at_row n t.table (first t.bad t.count)
  rows-first t ts e =
      let x = at_row n t.table (first t.bad t.count) in
      λ i. cond (e i || some_bad ts) (cond (e i) x (lowest_bad n ts)) (placeless accepted_number)

  -- where the first table has no bad row, the others decide
  pub rows_next : (t : RowTests) (ts : List RowTests) → any t.bad t.count ≡ false → rows_answer n (t ∷ ts) ≡ rows_answer n ts
  rows_next t ts e =
      let x = at_row n t.table (first t.bad t.count) in
      λ i. cond (e i || some_bad ts) (cond (e i) x (lowest_bad n ts)) (placeless accepted_number)

  -- the answer is that of the first table, and that of the others where it accepts
  pub rows-after : (t : RowTests) (ts : List RowTests) → (n ≡ accepted_number → ⊥)
      → rows_answer n (t ∷ ts) ≡ or_next (rows_answer n (t ∷ [])) (rows_answer n ts)
  rows-after t ts d = go (any t.bad t.count) refl
    where
      first-table : Answer
      first-table = rows_answer n (t ∷ [])

      go : (b : Bool) → any t.bad t.count ≡ b → rows_answer n (t ∷ ts) ≡ or_next first-table (rows_answer n ts)
      go true e =
          let here = rows-first t [] e in
          rows-first t ts e ∙ sym here ∙ sym (next-given first-table _ (λ z. d (sym (ap (λ (x : Answer). x.number) here) ∙ z)))
      go false e = rows_next t ts e ∙ sym (ap (λ (x : Answer). or_next x (rows_answer n ts)) (rows_next t [] e))

  -- a table of one row that is bad or not
  pub one-row : (t : ℕ) (b : Bool) → rows_answer n (testing t 1 (λ k. b) ∷ []) ≡ cond b (at_row n t 0) (placeless accepted_number)
  unfolding any first first_from
  one-row t true = refl
  one-row t false = refl

  -- where the answer of a refusal accepts, no row is bad
  pub rows-clear : (ts : List RowTests) → (n ≡ accepted_number → ⊥) → (rows_answer n ts).number ≡ accepted_number → some_bad ts ≡ false
  rows-clear ts d e = go (some_bad ts) refl e
    where
      go : (b : Bool) → some_bad ts ≡ b → (cond b (lowest_bad n ts) (placeless accepted_number)).number ≡ accepted_number → some_bad ts ≡ false
      go true q e = absurd (d (sym (placed-number n ts) ∙ e))
      go false q e = q
