-- A loop over the modes up to the first whose run breaks: after m of them, what is left from there on answers for all.
use Prim.Native.Nat.{ℕ, suc, ◌+◌, ◌-◌, ◌≤◌, ◌<◌}
use mathlib.Core.Path.{◌≡◌, refl, sym, ap, ◌∙◌}
use native.Mathlib.Omega.{arith}
use Rattle.theory.specs.Rows.{placeless}
use Rattle.theory.specs.Verdict.{accepted_number}
use Rattle.theory.specs.declared.Answer.{Answer}
use Rattle.runs.specs.Round.{Break, none, outside, late}
use Rattle.suppliers.specs.Supplier.{answer_of, answer_from}

module _ (breaks : ℕ → Break) (n : ℕ) where
  -- after m modes of n none broke: the modes from m on answer for all
  pub record Answering (m : ℕ) : Type 0 where
    pub same : answer_from breaks (n - m) m ≡ answer_from breaks n 0

  -- before the first mode, the modes that are left are all
  pub answering-none : Answering 0
  answering-none = let z : n - 0 ≡ n = omega arith in record { same = λ j. answer_from breaks (z j) 0 }

  -- the answer of mode m and the k modes after it, by the break of mode m
  abbrev this : ℕ → ℕ → Break → Answer
  this k m b = elim b [
    | none ↦ answer_from breaks k (suc m)
    | outside t ↦ answer_of m (outside t)
    | late t ↦ answer_of m (late t)
  ]

  -- the answer of the modes from mode m on, by the break of mode m
  rest : (m : ℕ) → m < n → answer_from breaks (n - m) m ≡ this (n - suc m) m (breaks m)
  rest m l = let z : n - m ≡ suc (n - suc m) = omega arith in ap (λ (k : ℕ). answer_from breaks k m) z

  module _ (m : ℕ) (l : m < n) (h : Answering m) where
    -- a mode that does not break leaves the answer to the modes from the next on
    pub answering-more : breaks m ≡ none → Answering (m + 1)
    answering-more e =
        let z : m + 1 ≡ suc m = omega arith in
        record { same = (λ j. answer_from breaks (n - z j) (z j)) ∙ sym (rest m l ∙ ap (this (n - suc m) m) e) ∙ h.same }

    -- a mode that breaks gives the answer
    pub answering-found : (breaks m ≡ none → ⊥) → answer_of m (breaks m) ≡ answer_from breaks n 0
    answering-found d = go (breaks m) d ∙ sym (rest m l) ∙ h.same
      where
        go : (b : Break) → (b ≡ none → ⊥) → answer_of m b ≡ this (n - suc m) m b
        go none d = absurd (d refl)
        go (outside t) d = refl
        go (late t) d = refl

  -- after the last mode the answer is 0, without a place
  pub answering-all : (m : ℕ) → n ≤ m → Answering m → placeless accepted_number ≡ answer_from breaks n 0
  answering-all m l h = let z : n - m ≡ 0 = omega arith in sym (ap (λ (k : ℕ). answer_from breaks k m) z) ∙ h.same
