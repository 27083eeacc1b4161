-- Refusals that are asked one after the other: one that does not apply leaves those behind it, and one that applies gives the answer.
-- Assumes that no refusal has the number of acceptance.
use Prim.Native.Nat.{ℕ, zero, suc}
use mathlib.Core.Path.{◌≡◌, refl}
use mathlib.Core.List.{List, [], ◌∷◌}
use lib.ListN.{take, drop}
use Rattle.std.specs.Prelude.{Result, Ok, Err}
use Rattle.theory.specs.Verdict.{Refusal, first_refusal, or_next}
use Rattle.theory.specs.declared.Answer.{Answer}
use Rattle.theory.proofs.Verdict.{Refused, answer-append}
use Rattle.answers.specs.declared.Refused as answers
use Rattle.answers.specs.Answers.{answer_of}
use Rattle.answers.proofs.Told.{went-on, stopped}

module _ {A : Type 0} (a : A) where
  -- the answer of the refusal at a place by itself
  abbrev pub at : List (Refusal A) → ℕ → Answer
  at rs k = first_refusal (take 1 (drop k rs)) a

  -- the answer of the refusals from a place on
  abbrev pub from : List (Refusal A) → ℕ → Answer
  from rs k = first_refusal (drop k rs) a

  -- the refusal at a place comes before those behind it
  in_order : (rs : List (Refusal A)) (k : ℕ) → Refused rs → from rs k ≡ or_next (at rs k) (from rs (suc k))
  in_order [] zero w = refl
  in_order [] (suc k) w = refl
  in_order (r ∷ rs) zero w = answer-append (r ∷ []) rs a (w.0, tt)
  in_order (r ∷ rs) (suc k) w = in_order rs k w.1

  -- where the refusal at a place does not apply, those behind it give the answer
  pub on : {B : Type 0} {r : Result B answers.Refused} {v : B} {x : Answer} (rs : List (Refusal A)) (k : ℕ) → Refused rs
      → answer_of r ≡ at rs k → r ≡ Ok v → x ≡ from rs (suc k) → x ≡ from rs k
  on rs k w h e f = went-on (from rs (suc k)) (in_order rs k w) h e f

  -- where the refusal at a place applies, it gives the answer
  pub off : {B : Type 0} {r : Result B answers.Refused} {e : answers.Refused} (rs : List (Refusal A)) (k : ℕ) → Refused rs
      → answer_of r ≡ at rs k → r ≡ Err e → answer_of {A = Unit {0}} (Err e) ≡ from rs k
  off rs k w h e = stopped (from rs (suc k)) (in_order rs k w) h e
