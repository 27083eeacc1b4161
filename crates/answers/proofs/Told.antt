-- What a search over the rows of one table comes to is the answer that these rows give; and with what is asked after it, the answer that
-- these rows give and those after them.
use Prim.Native.Nat.{ℕ}
use mathlib.Core.Path.{◌≡◌, refl, sym, ap, ◌∙◌}
use mathlib.Core.Bool.{Bool, true, false, ◌||◌, cond}
use mathlib.Core.List.{List, [], ◌∷◌}
use native.Mathlib.Omega.{arith}
use Rattle.std.specs.Prelude.{Option, Some, None, Result, Ok, Err}
use Rattle.theory.specs.Search.{any, first, lowest_passing}
use Rattle.theory.specs.Rows.{RowTests, placeless, at_row}
use Rattle.theory.specs.Verdict.{accepted_number, rows_answer, or_next}
use Rattle.theory.specs.declared.Answer.{Answer}
use Rattle.theory.proofs.Verdict.{next-given}
use Rattle.theory.proofs.Placing.{rows-after}
use Rattle.cells.specs.declared.refusals.Refusal.{Refusal}
use Rattle.cells.specs.Refusals.{number_of}
use Rattle.cells.proofs.Numbers.{number-some}
use Rattle.answers.specs.declared.Refused.{Refused}
use Rattle.answers.specs.Answers.{answer_of, told_at, told_where}

module _ (k : Refusal) (t : RowTests) {o : Option ℕ} (e : o ≡ lowest_passing t.bad t.count) where
  -- a search over the rows of one table comes to the answer that these rows give
  pub told-rows : told_at o k t.table ≡ rows_answer (number_of k) (t ∷ [])
  told-rows = ap (λ (o : Option ℕ). told_at o k t.table) e ∙ go (any t.bad t.count)
    where
      row : ℕ
      row = first t.bad t.count

      go : (b : Bool) → told_at (cond b (Some row) None) k t.table
          ≡ cond (b || false) (cond b (at_row (number_of k) t.table row) (placeless (number_of k))) (placeless accepted_number)
      go true = refl
      go false = refl

  -- where the rows of more tables are asked, those of the first come before the others
  pub told-before : (ts : List RowTests) → (number_of k ≡ accepted_number → ⊥) → {x : Answer} → x ≡ told_at o k t.table
      → or_next x (rows_answer (number_of k) ts) ≡ rows_answer (number_of k) (t ∷ ts)
  told-before ts d h =
      ap (λ (x : Answer). or_next x (rows_answer (number_of k) ts)) (h ∙ told-rows) ∙ sym (rows-after (number_of k) t ts d)

-- no refusal has the number of acceptance
pub refusal-some : (k : Refusal) → number_of k ≡ accepted_number → ⊥
refusal-some k e = omega (arith, e, number-some k)

-- where the first of two answers refuses, it is the answer
pub refused-given : (e : Refused) (x : Answer) → or_next (answer_of {A = Unit {0}} (Err e)) x ≡ answer_of {A = Unit {0}} (Err e)
refused-given e x = next-given (answer_of {A = Unit {0}} (Err e)) x (refusal-some e.refusal)

-- where the first of two answers accepts, the second is the answer of both
pub went-on : {A : Type 0} {r : Result A Refused} {v : A} {x y w : Answer} (z : Answer) → w ≡ or_next x z → answer_of r ≡ x → r ≡ Ok v → y ≡ z → y ≡ w
went-on z j h e f = f ∙ ap (λ (x : Answer). or_next x z) (sym (ap answer_of e) ∙ h) ∙ sym j

-- where the first of two answers refuses, it is the answer of both
pub stopped : {A : Type 0} {r : Result A Refused} {e : Refused} {x w : Answer} (z : Answer) → w ≡ or_next x z → answer_of r ≡ x → r ≡ Err e
    → answer_of {A = Unit {0}} (Err e) ≡ w
stopped {e} z j h f =
    sym (refused-given e z) ∙ ap (λ (x : Answer). or_next x z) (sym (ap answer_of f) ∙ h) ∙ sym j

-- a refusal that is told where it applies does not apply where that accepts
pub told-none : (b : Bool) (k : Refusal) → placeless accepted_number ≡ told_where b k → b ≡ false
told-none true k h = absurd (refusal-some k (sym (ap (λ (x : Answer). x.number) h)))
told-none false k h = refl
