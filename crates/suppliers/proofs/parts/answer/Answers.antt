-- `suppliers::parts::answer` meets its contract: the search against the delays that are counted gives the row, else the supplier decides.
use Prim.Native.Nat.{ℕ}
use mathlib.Core.Path.{◌≡◌, refl, sym, ap, ap₂, ◌∙◌}
use mathlib.Core.Bool.{not, ◌||◌}
use mathlib.Core.List.{List, [], ◌∷◌}
use lib.Dec.{eqb, leb}
use lib.IntN.{ℤ}
use Rattle.std.specs.Prelude.{Err}
use Rattle.std.proofs.lemmas.Result.{err_from_is_err_and}
use Rattle.theory.specs.Rows.{RowTests, testing}
use Rattle.theory.specs.Verdict.{rows_answer}
use Rattle.cells.specs.declared.refusals.Refusal.TheVariants.{Schedule}
use Rattle.cells.specs.Limits.{suppliers}
use Rattle.cells.specs.Refusals.{schedule_refused}
use Rattle.answers.specs.Answers.{answer_of}
use Rattle.program.specs.Tables.{Tables, tables_in, schedule_at, supplier_at}
use Rattle.runs.specs.Schedule.{schedule_count, row_supplier}
use Rattle.layout.specs.Delays.{delays_of, counted_delays}
use Rattle.suppliers.specs.Delays.{row_wrong_by, part_tests_in}
use Rattle.suppliers.proofs.Delays.{part-counted}
use Rattle.answers.proofs.Told.{told-before, refusal-some, refused-given}
use Rattle.suppliers.proofs.parts.answer.Goals as goal

-- the tests of the rows of a part, and of the supplier asked about
abbrev of_rows : Tables → (ℕ → ℕ) → List ℤ → ℕ → RowTests
of_rows T delays S s = testing schedule_at (schedule_count S) (λ i. row_wrong_by T delays S i || not (eqb (row_supplier S i) s))

abbrev of_supplier : ℕ → List RowTests
of_supplier s = testing supplier_at 1 (λ r. leb suppliers s) ∷ []

pub returns-in_err-refused_at : goal.returns-in_err-refused_at
returns-in_err-refused_at c =
    let lent = c.args.tables.now in
    let S = c.args.rows.now in
    let k = c.args.supplier in
    let e = c.in_err-refused_at.field-0.0 in
    let p = err_from_is_err_and c.from_residual.result c.from_residual.ensures.1 in
    let counted : (start : ℤ) → let T = tables_in lent start in
    answer_of c.from_residual.result ≡ rows_answer schedule_refused (part_tests_in T (counted_delays T) S k) =
    λ start.
    let T = tables_in lent start in
    ap answer_of (p.1 ∙ ap Err p.2)
    ∙ sym (refused-given e (rows_answer schedule_refused (of_supplier k)))
    ∙ told-before Schedule (of_rows T _ S k) (c.first_wrong_in_part-wrong.ensures T refl) (of_supplier k) (refusal-some Schedule) c.in_err-refused_at.ensures
    ∙ ap₂ (λ (marks ticks : List ℕ). rows_answer schedule_refused (part_tests_in T (delays_of marks ticks) S k)) (c.fill.ensures.marks start) (c.fill.ensures.ticks start) in
    record { counted = counted; listed = λ start v l. counted start ∙ ap (rows_answer schedule_refused) (part-counted (tables_in lent start) v l S k) }

pub returns : goal.returns
returns c =
    let lent = c.args.tables.now in
    let S = c.args.rows.now in
    let k = c.args.supplier in
    let counted : (start : ℤ) → let T = tables_in lent start in
    answer_of c.asked.result ≡ rows_answer schedule_refused (part_tests_in T (counted_delays T) S k) =
    λ start.
    let T = tables_in lent start in
    c.asked.ensures
    ∙ told-before Schedule (of_rows T _ S k) (c.first_wrong_in_part-wrong.ensures T refl) (of_supplier k) (refusal-some Schedule) c.in_ok-refused_at.ensures
    ∙ ap₂ (λ (marks ticks : List ℕ). rows_answer schedule_refused (part_tests_in T (delays_of marks ticks) S k)) (c.fill.ensures.marks start) (c.fill.ensures.ticks start) in
    record { counted = counted; listed = λ start v l. counted start ∙ ap (rows_answer schedule_refused) (part-counted (tables_in lent start) v l S k) }
