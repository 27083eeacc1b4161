-- `suppliers::joined::answer` meets its contract: the search against the delays that are counted gives the row.
use Prim.Native.Nat.{ℕ}
use mathlib.Core.Path.{◌≡◌, refl, ap, ap₂, ◌∙◌}
use mathlib.Core.Bool.{◌||◌}
use mathlib.Core.List.{List}
use lib.IntN.{ℤ}
use Rattle.theory.specs.Rows.{testing}
use Rattle.theory.specs.Verdict.{rows_answer}
use Rattle.cells.specs.declared.refusals.Refusal.TheVariants.{Schedule}
use Rattle.cells.specs.Refusals.{schedule_refused}
use Rattle.answers.specs.Answers.{answer_of}
use Rattle.program.specs.Tables.{tables_in, schedule_at}
use Rattle.runs.specs.Schedule.{schedule_count}
use Rattle.layout.specs.Delays.{delays_of, counted_delays}
use Rattle.suppliers.specs.Schedule.{past_part}
use Rattle.suppliers.specs.Delays.{row_wrong_by, joined_tests_in}
use Rattle.suppliers.proofs.Delays.{joined-counted}
use Rattle.answers.proofs.Told.{told-rows}
use Rattle.suppliers.proofs.joined.answer.Goals as goal

pub returns : goal.returns
returns c =
    let lent = c.args.tables.now in
    let S = c.args.rows.now in
    let counted : (start : ℤ) → let T = tables_in lent start in
    answer_of c.refused_at.result ≡ rows_answer schedule_refused (joined_tests_in T (counted_delays T) S) =
    λ start.
    let T = tables_in lent start in
    c.refused_at.ensures
    ∙ told-rows Schedule (testing schedule_at (schedule_count S) (λ i. row_wrong_by T _ S i || past_part S i)) (c.first_wrong_joined-wrong.ensures T refl)
    ∙ ap₂ (λ (marks ticks : List ℕ). rows_answer schedule_refused (joined_tests_in T (delays_of marks ticks) S)) (c.fill.ensures.marks start) (c.fill.ensures.ticks start) in
    record { counted = counted; listed = λ start v l. counted start ∙ ap (rows_answer schedule_refused) (joined-counted (tables_in lent start) v l S) }
