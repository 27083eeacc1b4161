-- Refusals that are asked one after the other, each by its number: the first that applies gives the answer.
-- Assumes that no number stands twice in the list.
use Prim.Native.Nat.{ℕ, zero, suc, ◌+◌, ◌<◌}
use mathlib.Core.Path.{◌≡◌, refl, sym, ap, ◌∙◌}
use mathlib.Core.Bool.{Bool, false, ◌||◌}
use mathlib.Core.List.{List, [], ◌∷◌, map}
use native.Mathlib.Numerals.{add-one}
use native.Mathlib.Omega.{arith}
use lib.Dec.{eqb}
use lib.ListN.{length, drop, get_or}
use borrow.Author.Tests.{eq-eqb}
use Rattle.theory.specs.Lists.{some}
use Rattle.theory.specs.Verdict.{accepted_number, Refusal, first_refusal, or_next}
use Rattle.theory.specs.declared.Answer.{Answer}
use Rattle.theory.proofs.Bools.{neither}
use Rattle.theory.proofs.Conditions.{cond_yes, cond_no}
use Rattle.theory.proofs.Verdict.{Refused, answer-append}
use Rattle.verdict.specs.Asked.{answer_by}

-- some number stands twice in a list
abbrev pub twice : List ℕ → Bool
twice [] = false
twice (n ∷ ns) = some (λ m. eqb m n) ns || twice ns

-- where no number of a list passes, the one at a place does not
none-at : (p : ℕ → Bool) (ns : List ℕ) (k d : ℕ) → k < length ns → some p ns ≡ false → p (get_or ns k d) ≡ false
none-at p [] k d l e = absurd (omega arith)
none-at p (n ∷ ns) zero d l e = (neither (p n) (some p ns) e).0
none-at p (n ∷ ns) (suc k) d l e = none-at p ns k d (omega arith) (neither (p n) (some p ns) e).1

module _ {A : Type 0} where
  -- the numbers of refusals, in the order in which they are asked
  abbrev pub numbers : List (Refusal A) → List ℕ
  numbers = map (λ (r : Refusal A). r.number)

  -- the number of the refusal at a place, and that of acceptance past the last
  abbrev pub number_at : List (Refusal A) → ℕ → ℕ
  number_at rs k = get_or (numbers rs) k accepted_number

  -- the answer from a place on: that of the number there, else the answer from the next place on
  pub answer-from : (rs : List (Refusal A)) (a : A) (k : ℕ) → Refused rs → twice (numbers rs) ≡ false → k < length (numbers rs)
      → first_refusal (drop k rs) a ≡ or_next (answer_by rs (number_at rs k) a) (first_refusal (drop (k + 1) rs) a)
  answer-from rs a k w t l =
      go rs k w t l ∙ ap (λ (j : ℕ). or_next (answer_by rs (number_at rs k) a) (first_refusal (drop j rs) a)) (sym (add-one k))
    where
      go : (qs : List (Refusal A)) (j : ℕ) → Refused qs → twice (numbers qs) ≡ false → j < length (numbers qs)
          → first_refusal (drop j qs) a ≡ or_next (answer_by qs (number_at qs j) a) (first_refusal (drop (suc j) qs) a)
      go [] j v u m = absurd (omega arith)
      go (q ∷ qs) zero v u m =
          answer-append (q ∷ []) qs a (v.0, tt)
          ∙ sym (ap (λ (x : Answer). or_next x (first_refusal qs a)) (cond_yes (first_refusal (q ∷ []) a) _ (eq-eqb q.number q.number refl)))
      go (q ∷ qs) (suc j) v u m =
          let once = neither (some (λ n. eqb n q.number) (numbers qs)) (twice (numbers qs)) u in
          let later = none-at (λ n. eqb n q.number) (numbers qs) j accepted_number (omega arith) once.0 in
          go qs j v.1 once.1 (omega arith)
          ∙ sym (ap (λ (x : Answer). or_next x (first_refusal (drop (suc j) qs) a)) (cond_no (first_refusal (q ∷ []) a) _ later))
