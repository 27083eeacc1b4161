-- What a call comes to, in numbers: accepted, or the number of the refusal and its place; and what a test or a search comes to.
use Rattle.std.specs.Prelude.{ℕ, Bool, cond, Option, Some, None, Result, Ok, Err}
use Rattle.theory.specs.Rows.{placeless, at_row}
use Rattle.theory.specs.Verdict.{accepted_number}
use Rattle.theory.specs.declared.Answer.{Answer}
use Rattle.cells.specs.declared.refusals.Refusal.{Refusal}
use Rattle.cells.specs.Refusals.{number_of}
use Rattle.answers.specs.declared.Refused.{Refused}

-- the answer of a call that gives something where it accepts
abbrev pub answer_of : {A : Type 0} → Result A Refused → Answer
answer_of (Ok x) = placeless accepted_number
answer_of (Err e) = at_row (number_of e.refusal) e.outer e.inner

-- the answer of a refusal without a place, where it applies
abbrev pub told_where : Bool → Refusal → Answer
told_where applies r = cond applies (placeless (number_of r)) (placeless accepted_number)

-- the answer of a refusal at the row of a table that a search found
abbrev pub told_at : Option ℕ → Refusal → ℕ → Answer
told_at (Some row) r table = at_row (number_of r) table row
told_at None r table = placeless accepted_number
