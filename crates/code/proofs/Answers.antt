-- What compiling answers: the number and the place of its verdict; refused, nothing is written and the length is 0.
-- Assumes of what a refusal leaves that the number is not 0.
use Prim.Native.Nat.{ℕ, zero, suc}
use mathlib.Core.Path.{◌≡◌, refl, sym, ap, ◌∙◌}
use native.Mathlib.Omega.{arith}
use Rattle.theory.specs.Verdict.{accepted_number, first_refusal}
use Rattle.theory.specs.declared.Answer.{Answer}
use Rattle.theory.proofs.Verdict.{answer-number, accepted-answer}
use Rattle.code.specs.Compile.{Compiling, compile_refusals, compile_verdict, compile_answer, compile_slice}

module _ (L : Compiling) where
  -- what is answered is the first refusal that applies, with its place
  pub compile-answer : (compile_answer L).answer ≡ first_refusal compile_refusals L
  unfolding compile_verdict
  compile-answer = go (compile_verdict L) refl
    where
      go : (n : ℕ) → compile_verdict L ≡ n → (compile_answer L).answer ≡ first_refusal compile_refusals L
      go zero e = rw (e, compile_answer) (sym (accepted-answer compile_refusals L (omega arith) e))
      go (suc n) e = rw (e, compile_answer)

  -- the number answered is that of the first rule that is broken
  pub compile-number : (compile_answer L).answer.number ≡ compile_verdict L
  unfolding compile_verdict
  compile-number = ap (λ (x : Answer). x.number) compile-answer ∙ answer-number compile_refusals L

  -- accepted is answered only where no rule is broken
  pub compile-passes : (compile_answer L).answer.number ≡ accepted_number → compile_verdict L ≡ accepted_number
  compile-passes e = sym compile-number ∙ e

  -- where compiling refuses, nothing is written, and the length is 0
  pub compile-refused : ((compile_answer L).answer.number ≡ accepted_number → ⊥) → (compile_slice L ≡ L.slice) × ((compile_answer L).length ≡ 0)
  compile-refused h = go (compile_verdict L) refl
    where
      go : (n : ℕ) → compile_verdict L ≡ n → (compile_slice L ≡ L.slice) × ((compile_answer L).length ≡ 0)
      go zero e = absurd (h (compile-number ∙ e))
      go (suc n) e = (rw (e, compile_slice), rw (e, compile_answer))
