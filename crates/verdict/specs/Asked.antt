-- Refusals that are asked one after the other, each by its number.
use Rattle.std.specs.Prelude.{ℕ, cond, List, [], ◌∷◌, eqb}
use Rattle.theory.specs.Rows.{placeless}
use Rattle.theory.specs.Verdict.{accepted_number, Refusal, first_refusal}
use Rattle.theory.specs.declared.Answer.{Answer}

-- what the refusal of number n comes to by itself; accepted where the list has no such number
abbrev pub answer_by : {A : Type 0} → List (Refusal A) → ℕ → A → Answer
answer_by [] n a = placeless accepted_number
answer_by (r ∷ rs) n a = cond (eqb n r.number) (first_refusal (r ∷ []) a) (answer_by rs n a)
