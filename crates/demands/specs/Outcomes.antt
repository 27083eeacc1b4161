-- What a call came to is said whole by its answer in numbers: whether it accepted, else which refusal it is, and at which place.
-- So an equation of answers fixes what a call hands on. Proved in proofs/Outcomes.antt.
use Rattle.std.specs.Prelude.{◌≡◌, Ok, Err}
use Rattle.answers.specs.declared.Refused.{Refused}
use Rattle.answers.specs.Answers.{answer_of}

-- two refusals of one answer are one, and none has the answer of a call that accepts
pub record OutcomeTold (A : Type 0) : Type 0 where
  pub refused : (e d : Refused) → answer_of {A = A} (Err e) ≡ answer_of {A = A} (Err d) → e ≡ d
  pub accepted : (v : A) (e : Refused) → answer_of {A = A} (Ok v) ≡ answer_of {A = A} (Err e) → ⊥
