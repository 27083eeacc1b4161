-- A loop over rows of which those that pass a test name a task that is released: after i rows, what is left from there on comes to what
-- all come to. And a search among the tasks that such rows name.
use Prim.Native.Nat.{ℕ, zero, suc, ◌+◌, ◌-◌, ◌<◌}
use mathlib.Core.Path.{◌≡◌, refl, sym, ap, ◌∙◌}
use mathlib.Core.Bool.{Bool, true, false, ◌&&◌, ◌||◌, or_assoc, or-false}
use mathlib.Core.List.{List, [], ◌∷◌, ◌++◌}
use native.Mathlib.Numerals.{add-one}
use native.Mathlib.Omega.{arith}
use lib.ListN.{length, set, length-set}
use Rattle.theory.specs.Lists.{those, some}
use Rattle.theory.specs.Search.{any}
use Rattle.theory.proofs.Lists.{those-yes, those-no, those-split}
use Rattle.runs.specs.Round.{release}

module _ (p : ℕ → Bool) (row : ℕ → ℕ) (n : ℕ) where
  -- before the first row, the rows that are left are all
  all_left : those p row (n - 0) 0 ≡ those p row n 0
  all_left = let z : n - 0 ≡ n = omega arith in ap (λ (k : ℕ). those p row k 0) z

  module _ (time : ℕ → ℕ) (left : List ℕ) where
    -- after i rows the remaining times are these: as many as at the start, and releases of the rows left come to what all come to
    pub record Releasing (i : ℕ) (now : List ℕ) : Type 0 where
      pub many : length now ≡ length left
      pub same : release (those p row (n - i) i) time now ≡ release (those p row n 0) time left

    -- row i passes the test, and its task is released
    pub releasing-one : (i : ℕ) {b : Bool} {t : ℕ} {now next : List ℕ} → i < n → b ≡ p i → b ≡ true → t ≡ row i → next ≡ set now t (time t)
        → Releasing i now → Releasing (i + 1) next
    releasing-one i {t} {now} l d e f g h =
        record {
          many = ap length g ∙ length-set now t (time t) ∙ h.many;
          same =
              ap (release (those p row (n - (i + 1)) (i + 1)) time) (g ∙ (λ j. set now (f j) (time (f j))))
              ∙ sym (ap (λ (js : List ℕ). release js time now) (those-yes p row n i l (sym d ∙ e)))
              ∙ h.same;
        }

    -- row i does not pass the test, and nothing is released
    pub releasing-no : (i : ℕ) {b : Bool} {now next : List ℕ} → i < n → b ≡ p i → b ≡ false → next ≡ now → Releasing i now → Releasing (i + 1) next
    releasing-no i {now} l d e g h =
        record {
          many = ap length g ∙ h.many;
          same =
              ap (release (those p row (n - (i + 1)) (i + 1)) time) g
              ∙ sym (ap (λ (js : List ℕ). release js time now) (those-no p row n i l (sym d ∙ e)))
              ∙ h.same;
        }

module _ {A : Type 0} (q : A → Bool) where
  -- some element of two lists joined passes exactly where one of either does
  some-append : (xs ys : List A) → some q (xs ++ ys) ≡ (some q xs || some q ys)
  some-append [] ys = refl
  some-append (x ∷ xs) ys = ap (λ (b : Bool). q x || b) (some-append xs ys) ∙ sym (or_assoc (q x) (some q xs) (some q ys))

  -- of rows that pass one test, some names what passes the other exactly where some row passes both
  pub any-those : (p : ℕ → Bool) (row : ℕ → A) (n : ℕ) → any (λ i. p i && q (row i)) n ≡ some q (those p row n 0)
  unfolding any
  any-those p row zero = refl
  any-those p row (suc n) =
      let z : n ≡ 0 + n = omega arith in
      ap (λ (b : Bool). b || (p n && q (row n))) (any-those p row n)
      ∙ ap (λ (b : Bool). some q (those p row n 0) || b) (last (p n))
      ∙ ap (λ (i : ℕ). some q (those p row n 0) || some q (those p row 1 i)) z
      ∙ sym (some-append (those p row n 0) (those p row 1 (0 + n)))
      ∙ ap (some q) (sym (those-split p row n 1 0) ∙ ap (λ (m : ℕ). those p row m 0) (add-one n))
    where
      last : (b : Bool) → (b && q (row n)) ≡ some q (elim b as (λ b. List A) [ true ↦ row n ∷ [] | false ↦ [] ])
      last true = sym (or-false (q (row n)))
      last false = refl
