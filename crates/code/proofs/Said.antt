-- Three words say an instruction exactly where they are its own, unused words 0; so each instruction of a code is told from its words.
-- Assumes of an instruction by number that the code has so many.
use Prim.Native.Nat.{ℕ, zero, suc, ◌+◌, ◌*◌, ◌/◌, ◌<◌}
use mathlib.Core.Path.{◌≡◌, refl, sym, ap, ◌∙◌}
use mathlib.Core.Bool.{Bool, true, false}
use mathlib.Core.List.{List, [], ◌∷◌}
use mathlib.Core.Logic.{◌⊎◌, inl, inr, ◌↔◌}
use native.Mathlib.Omega.{arith}
use lib.Dec.{eqb}
use lib.ListN.{length, get_or}
use borrow.Author.Tests.{eqb-true}
use Rattle.cells.specs.Cell.{word_at}
use Rattle.cells.specs.Limits.{words_each}
use Rattle.code.specs.Op.{Op, call, schedule, branch, jump, future, return, faulty, call_number, schedule_number, if_number}
use Rattle.code.specs.Op.{jump_number, future_number, return_number, words, unused, decode, instructions}
use Rattle.code.proofs.Fetch.{instruction-at}

module _ (n a b : ℕ) where
  -- the instruction is faulty, or these three words are its own
  abbrev Right : Op → Type 0
  Right o = (o ≡ faulty) ⊎ (words o ≡ n ∷ a ∷ b ∷ [])

  -- an instruction that is chosen by a test is right where both are
  either : (t : Bool) (o p : Op) → (t ≡ true → Right o) → (t ≡ false → Right p) → Right (elim t [ true ↦ o | false ↦ p ])
  either true o p f g = f refl
  either false o p f g = g refl

  -- an instruction with an unused word is right where its words with a 0 there are its own
  if-unused : (c : ℕ) (o : Op) → (c ≡ 0 → words o ≡ n ∷ a ∷ b ∷ []) → Right (unused c o)
  if-unused zero o f = inr (f refl)
  if-unused (suc c) o f = inl refl

  -- a number, an argument and 0 are these three words where the number is the first and the third is 0
  three : {k : ℕ} → n ≡ k → b ≡ 0 → k ∷ a ∷ 0 ∷ [] ≡ n ∷ a ∷ b ∷ []
  three e z = λ i. sym e i ∷ a ∷ sym z i ∷ []

  -- what three words say is faulty, or the three words are its own
  decoded : Right (decode n a b)
  decoded =
      either (eqb n call_number) _ _
      (λ e. if-unused b (call a) (λ z. three (eqb-true n call_number e) z))
      λ _. either (eqb n schedule_number) _ _
      (λ e. if-unused b (schedule a) (λ z. three (eqb-true n schedule_number e) z))
      λ _. either (eqb n if_number) _ _
      (λ e. inr (ap (λ k. k ∷ a ∷ b ∷ []) (sym (eqb-true n if_number e))))
      λ _. either (eqb n jump_number) _ _
      (λ e. if-unused b (jump a) (λ z. three (eqb-true n jump_number e) z))
      λ _. either (eqb n future_number) _ _
      (λ e. inr (ap (λ k. k ∷ a ∷ b ∷ []) (sym (eqb-true n future_number e))))
      λ _. either (eqb n return_number) _ _
      (λ e. if-unused (a + b) return (both e))
      λ _. inl refl
    where
      both : eqb n return_number ≡ true → a + b ≡ 0 → words return ≡ n ∷ a ∷ b ∷ []
      both e z =
          let p : 0 ≡ a = omega arith in
          let q : 0 ≡ b = omega arith in
          λ i. sym (eqb-true n return_number e) i ∷ p i ∷ q i ∷ []

  -- the words of an instruction say it
  back : (o : Op) → words o ≡ n ∷ a ∷ b ∷ [] → decode n a b ≡ o
  back o e = ap (λ (ws : List ℕ). get_or (instructions ws) 0 faulty) (sym e) ∙ first o
    where
      first : (o : Op) → get_or (instructions (words o)) 0 faulty ≡ o
      first (call c) = refl
      first (schedule t) = refl
      first (branch d to) = refl
      first (jump to) = refl
      first (future d to) = refl
      first return = refl
      first faulty = refl

  -- three words say an instruction exactly where they are its own
  pub decode-says : (o : Op) → (o ≡ faulty → ⊥) → (decode n a b ≡ o) ↔ (words o ≡ n ∷ a ∷ b ∷ [])
  decode-says o d = (λ e. there decoded e, back o)
    where
      there : Right (decode n a b) → decode n a b ≡ o → words o ≡ n ∷ a ∷ b ∷ []
      there (inl f) e = absurd (d (sym e ∙ f))
      there (inr w) e = ap words (sym e) ∙ w

-- instruction i of a code is o exactly where its three words are those of o
pub code-says : (code : List ℕ) (i : ℕ) → i < length code / words_each → (o : Op) → (o ≡ faulty → ⊥)
    → (get_or (instructions code) i faulty ≡ o)
    ↔ (words o ≡ word_at code (i * words_each) ∷ word_at code (i * words_each + 1) ∷ word_at code (i * words_each + 2) ∷ [])
code-says code i l o d =
    let w = decode-says (word_at code (i * words_each)) (word_at code (i * words_each + 1)) (word_at code (i * words_each + 2)) o d in
    let e = instruction-at code i l in
    (λ q. w.0 (sym e ∙ q), λ q. e ∙ w.1 q)
