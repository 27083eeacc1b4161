-- The answer of an advance before anything runs: its own 1, what every call asks of the tables, then 13 and 21; and what is known where
-- there is none.
-- Assumes of what runs that its number is 0.
use Prim.Native.Nat.{◌/◌, ◌≤◌}
use mathlib.Core.Path.{◌≡◌, refl, ap, ◌∙◌}
use mathlib.Core.Bool.{Bool, true, false, cond}
use mathlib.Core.List.{List, [], ◌∷◌, ◌++◌, map}
use native.Mathlib.Omega.{arith}
use lib.ListN.{length}
use Rattle.theory.specs.Rows.{placeless}
use Rattle.theory.specs.Verdict.{accepted_number, Refusal, unplaced, within, first_refusal, rows_answer, or_next}
use Rattle.theory.specs.declared.Answer.{Answer}
use Rattle.theory.proofs.Bools.{bars-iff}
use Rattle.theory.proofs.Verdict.{answer-append, verdict-clear, verdict-both}
use Rattle.cells.specs.Limits.{max_code, words_each}
use Rattle.cells.specs.declared.refusals.Refusal.TheVariants.{Shape, State}
use Rattle.cells.specs.Refusals.{shape_refused, schedule_refused, state_refused}
use Rattle.answers.specs.Answers.{told_where}
use Rattle.rules.specs.Shape.{shape_bad}
use Rattle.rules.specs.Verdict.{table_refusals}
use Rattle.rules.proofs.Shape.{shape-bars, whole-few}
use Rattle.code.specs.Compile.{long_refusal}
use Rattle.verdict_2_11.specs.Tables.{tables_and_code_answer}
use Rattle.verdict_2_11.proofs.Asked.{call-answer}
use Rattle.suppliers.specs.Schedule.{joined_tests, joined_bad, Rows}
use Rattle.suppliers.proofs.Schedule.{joined-bars}
use Rattle.machine.specs.Advance.{Advance, advance_shape_bad, state_bad, StateFits, joined_refusal, run_refusals, advance_refusals, advance_verdict}
use Rattle.machine.proofs.Fits.{advance-shape-bars, state-bars}
use Rattle.operation.specs.Advancing.{judged_answer}

-- the answer of 21 by itself
abbrev pub state_answer : Advance → Answer
state_answer L = told_where (state_bad L) State

-- the answer of 13, and then that of 21
abbrev pub own_answer : Advance → Answer
own_answer L = or_next (rows_answer schedule_refused (joined_tests L.tables L.schedule)) (state_answer L)

-- 13 and 21 are asked in this order
own-order : (L : Advance) → first_refusal run_refusals L ≡ own_answer L
unfolding joined_bad
own-order L = answer-append (joined_refusal ∷ []) (unplaced state_refused state_bad ∷ []) L (omega arith)

-- the answer of an advance before anything runs is 1, then that of 2 to 11 and 24 of the tables, then that of 13 and 21
judged-order : (L : Advance)
    → judged_answer L ≡ cond (advance_shape_bad L) (placeless shape_refused) (or_next (tables_and_code_answer L.tables) (own_answer L))
unfolding judged_answer
judged-order L =
    ap (cond (advance_shape_bad L) (placeless shape_refused))
    (call-answer (λ (L : Advance). L.tables) run_refusals L ∙ ap (or_next (tables_and_code_answer L.tables)) (own-order L))

module _ (L : Advance) where
  -- where everything that is lent has its shape, so have the tables
  pub advance-shaped : advance_shape_bad L ≡ false → shape_bad L.tables ≡ false
  advance-shaped e = (bars-iff (shape-bars L.tables)).1 ((advance-shape-bars L).ok e).tables

  -- 1 is asked first, and then what is asked of what has its shape
  pub shape-order : judged_answer L ≡ or_next (told_where (advance_shape_bad L) Shape) (or_next (tables_and_code_answer L.tables) (own_answer L))
  shape-order = judged-order L ∙ go (advance_shape_bad L)
    where
      rest : Answer
      rest = or_next (tables_and_code_answer L.tables) (own_answer L)

      go : (b : Bool) → cond b (placeless shape_refused) rest ≡ or_next (told_where b Shape) rest
      go true = refl
      go false = refl

-- what an advance asks before 13
abbrev before : List (Refusal Advance)
before =
    unplaced shape_refused advance_shape_bad ∷ map (within (λ (L : Advance). L.tables)) (table_refusals ++ (long_refusal ∷ []))

module _ (L : Advance) (e : advance_verdict L ≡ accepted_number) where
  -- of an advance that runs, everything that is lent has its shape
  in-shape : advance_shape_bad L ≡ false
  unfolding advance_verdict
  in-shape = (verdict-clear advance_refusals L (omega arith) e).0

  -- of an advance that runs, the tables have their shape
  pub runs-shaped : shape_bad L.tables ≡ false
  runs-shaped = advance-shaped L in-shape

  -- of an advance that runs, the code has no more instructions than the limit
  pub runs-few : length L.code / words_each ≤ max_code
  runs-few = whole-few words_each max_code L.code ((advance-shape-bars L).ok in-shape).code

  -- of an advance that runs, neither 13 nor 21 applies
  own-clear : (joined_bad L.tables L.schedule ≡ false) × (state_bad L ≡ false)
  unfolding advance_verdict
  own-clear =
      let c = verdict-clear run_refusals L (omega arith) (verdict-both before run_refusals L (omega arith) e).1 in (c.0, c.1.0)

  -- of an advance that runs, the schedule's rows are right
  pub runs-rows : Rows L.tables L.schedule
  runs-rows = ((joined-bars L.tables L.schedule).ok own-clear.0).rows

  -- of an advance that runs, the state is within its limits
  pub runs-state : StateFits L
  runs-state = (state-bars L).ok own-clear.1
