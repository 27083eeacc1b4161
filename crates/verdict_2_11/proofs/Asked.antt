-- What every call that is lent the tables and more asks of them after its own 1: it comes before the call's own numbers, and tables
-- that pass it are those of an accepted program whose code is within the limit. Assumes of accepted tables that they have
-- their shape.
use mathlib.Core.Path.{◌≡◌, sym, ap, ◌∙◌}
use mathlib.Core.Bool.{false}
use mathlib.Core.List.{List, [], ◌∷◌, ◌++◌, map}
use native.Mathlib.Omega.{arith}
use lib.ListN.{length}
use borrow.Author.Tests.{ltb-false}
use Rattle.theory.specs.Verdict.{accepted_number, Refusal, within, verdict, first_refusal, or_next}
use Rattle.theory.specs.declared.Answer.{Answer}
use Rattle.theory.proofs.Conditions.{or-else-no}
use Rattle.theory.proofs.Verdict.{verdict-clear, verdict-both, answer-number, answer-append, answer-within}
use Rattle.cells.specs.Limits.{max_code}
use Rattle.cells.specs.Refusals.{shape_refused}
use Rattle.program.specs.Tables.{Tables}
use Rattle.rules.specs.Shape.{shape_bad}
use Rattle.rules.specs.Verdict.{table_refusals, program_verdict}
use Rattle.code.specs.Compile.{listing_of, code_long, long_refusal, CodeFits}
use Rattle.verdict_2_11.specs.Tables.{tables_and_code_answer}

-- the answer of a call after its own 1 is that on the tables, and then that of its own numbers
pub call-answer : {A : Type 0} (tables : A → Tables) (own : List (Refusal A)) (x : A)
    → first_refusal (map (within tables) (table_refusals ++ (long_refusal ∷ [])) ++ own) x ≡ or_next (tables_and_code_answer (tables x)) (first_refusal own x)
unfolding tables_and_code_answer
call-answer tables own x =
    answer-append (map (within tables) (table_refusals ++ (long_refusal ∷ []))) own x (omega arith)
    ∙ ap (λ (y : Answer). or_next y (first_refusal own x)) (answer-within tables (table_refusals ++ (long_refusal ∷ [])) x)

-- tables with their shape that no number up to 11 refuses: the program is accepted, and its code is within the limit
pub call-accepted : (T : Tables) → shape_bad T ≡ false → (tables_and_code_answer T).number ≡ accepted_number
    → (program_verdict T ≡ accepted_number) × CodeFits T
unfolding tables_and_code_answer program_verdict code_long
call-accepted T s e =
    let v = verdict-both table_refusals (long_refusal ∷ []) T (omega arith) (sym (answer-number (table_refusals ++ (long_refusal ∷ [])) T) ∙ e) in
    let f = (verdict-clear (long_refusal ∷ []) T (omega arith) v.1).0 in
    (or-else-no shape_refused (verdict table_refusals T) s ∙ v.0, ltb-false max_code (length (listing_of T)) f)
