-- A loop that writes instructions for the rows that pass a test: those of the rows so far, and of one row more.
use Prim.Native.Nat.{ℕ, ◌+◌}
use mathlib.Core.Path.{◌≡◌, sym, ap, ◌∙◌}
use mathlib.Core.Bool.{Bool, true, false}
use mathlib.Core.List.{List, [], ◌∷◌, ◌++◌, append-nil}
use native.Mathlib.Nat.{zero-add}
use Rattle.theory.specs.Lists.{those}
use Rattle.theory.proofs.Lists.{those-split}
use Rattle.words.specs.Written.{Words, Written, writes}
use Rattle.words.proofs.Written.{writes_then}

module _ {A : Type 0} (p : ℕ → Bool) (row : ℕ → A) where
  -- of one row that passes there is what stands in it
  pub one-yes : (i : ℕ) → p i ≡ true → those p row 1 i ≡ row i ∷ []
  one-yes i e = rw (e, those)

  -- of one row that does not pass there is nothing
  pub one-no : (i : ℕ) → p i ≡ false → those p row 1 i ≡ []
  one-no i e = rw (e, those)

  -- what passes of one row more is what passed of those before it, and then what passes of this one
  pub those-more : (k : ℕ) → those p row (k + 1) 0 ≡ those p row k 0 ++ those p row 1 k
  those-more k = those-split p row k 1 0 ∙ ap (λ (i : ℕ). those p row k 0 ++ those p row 1 i) (zero-add k)

-- after k rows the loop is at `here`: it has written what `words` says of each that passed
pub record Passing (p : ℕ → Bool) (words : ℕ → Words) (k : ℕ) (start here : Written) : Type 0 where
  pub same : here ≡ writes (those p words k 0) start

module _ {p : ℕ → Bool} {words : ℕ → Words} {k : ℕ} {start here : Written} (h : Passing p words k start here) where
  -- the row passes, and its instruction is written
  pub passing-yes : {o : Words} {there : Written} → p k ≡ true → o ≡ words k → there ≡ writes (o ∷ []) here → Passing p words (k + 1) start there
  passing-yes {o} e r q =
      let so = those p words k 0 in
      let more : so ++ (o ∷ []) ≡ those p words (k + 1) 0 =
      ap (λ (x : Words). so ++ (x ∷ [])) r
      ∙ ap (λ (l : List Words). so ++ l) (sym (one-yes p words k e))
      ∙ sym (those-more p words k) in
      record { same = writes_then start so (o ∷ []) h.same q ∙ ap (λ (l : List Words). writes l start) more }

  -- the row does not pass, and nothing is written
  pub passing-no : p k ≡ false → Passing p words (k + 1) start here
  passing-no e =
      let so = those p words k 0 in
      let more : so ≡ those p words (k + 1) 0 = sym (append-nil so) ∙ ap (λ (l : List Words). so ++ l) (sym (one-no p words k e)) ∙ sym (those-more p words k) in
      record { same = h.same ∙ ap (λ (l : List Words). writes l start) more }
