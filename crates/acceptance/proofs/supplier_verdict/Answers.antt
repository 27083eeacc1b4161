-- `acceptance::supplier_verdict` meets its contract: 1, what both calls ask, 13, then the run of every mode as it was counted; the
-- supplier goes through its bits once.
use Rattle.std.specs.Prelude.{Err}
use Rattle.std.proofs.lemmas.Result.{err_from_is_err_and}
use Prim.Native.Nat.{ℕ}
use mathlib.Core.Path.{◌≡◌, refl, sym, ap, ◌∙◌}
use mathlib.Core.Bool.{Bool, false, ◌||◌}
use native.Mathlib.Omega.{arith}
use lib.IntN.{ℤ}
use lib.ListN.{length}
use Rattle.theory.specs.Verdict.{accepted_number, rows_answer, or_next}
use Rattle.theory.specs.declared.Answer.{Answer}
use Rattle.theory.proofs.Placing.{rows-clear}
use Rattle.cells.specs.declared.refusals.Refusal.TheVariants.{Shape}
use Rattle.cells.specs.Cell.{index_of}
use Rattle.cells.specs.Refusals.{schedule_refused}
use Rattle.cells.proofs.Ints.{back}
use Rattle.answers.specs.Answers.{answer_of, told_where}
use Rattle.answers.proofs.Told.{told-none, went-on, stopped}
use Rattle.program.specs.Tables.{tables_in, mode_count}
use Rattle.program.proofs.Decoded.{sensors-rows}
use Rattle.rules.specs.Shape.{InShape}
use Rattle.rules.specs.Verdict.{program_verdict}
use Rattle.rules.proofs.Accepted.{accepted-fields}
use Rattle.code.specs.Compile.{CodeFits}
use Rattle.layout.specs.Layout.{start_in}
use Rattle.layout.proofs.Limits.{told-most, few-ports, few-sensors}
use Rattle.runs.specs.Round.{worst_break, nothing}
use Rattle.suppliers.specs.Schedule.{part_tests, part_bad, Part}
use Rattle.suppliers.specs.Supplier.{supplier_of, windowed_of, answer_from, part_shape_bad, part_verdict}
use Rattle.suppliers.proofs.Schedule.{part-bars}
use Rattle.suppliers.proofs.Accepted.{windows-shaped, part-shaped}
use Rattle.suppliers.proofs.Answers.{supplier-judged}
use Rattle.rounds.specs.Course.{course_on}
use Rattle.rounds.proofs.Courses.{judged-counted}
use Rattle.acceptance.specs.Judged.{asked, shaped_answer}
use Rattle.acceptance.proofs.Calls.{own_answer, shape-lent, shaped-accepted, part-in-order, refused-is, part-passes}
use Rattle.acceptance.proofs.supplier_verdict.Goals as goal
use Rattle.acceptance.proofs.supplier_verdict.Goals.{After-refused_where, In_ok-refused_where, After-shaped_verdict, In_ok-shaped_verdict, After-index-own, After-answer, In_ok-answer}

-- what was told of number 1 holds whatever the start mode
shape-told : (c : After-refused_where) (start : ℤ)
    → let L = asked (tables_in c.args.tables.now start) c.args.windows.now c.args.part.now c.args.supplier in (c.shape_bad.result || c.bad_slice.result) ≡ part_shape_bad L
shape-told c start = shape-lent (tables_in c.args.tables.now start) c.args.windows.now c.args.part.now c.args.supplier (c.shape_bad.ensures start) c.bad_slice.ensures

one-told : (c : After-refused_where) → let L = asked (tables_in c.args.tables.now c.args.program.start) c.args.windows.now c.args.part.now c.args.supplier in answer_of c.refused_where.result ≡ told_where (part_shape_bad L) Shape
one-told c = c.refused_where.ensures ∙ ap (λ (b : Bool). told_where b Shape) (shape-told c c.args.program.start)

-- number 1 did not apply to what was lent
shaped : (c : In_ok-refused_where) (start : ℤ) → part_shape_bad (asked (tables_in c.args.tables.now start) c.args.windows.now c.args.part.now c.args.supplier) ≡ false
shaped c start =
    sym (shape-told c.before.before start)
    ∙ told-none (c.shape_bad.result || c.bad_slice.result) Shape (sym (ap answer_of c.in_ok-refused_where.was) ∙ c.refused_where.ensures)

in-shape : (c : In_ok-refused_where) → InShape c.args.tables.now
in-shape c start =
    let L = asked (tables_in c.args.tables.now start) c.args.windows.now c.args.part.now c.args.supplier in windows-shaped (windowed_of L) (part-shaped L (shaped c start))

-- what both calls ask for accepted: the program is accepted
none : (c : In_ok-shaped_verdict) → (shaped_answer (windowed_of (asked (tables_in c.args.tables.now c.args.program.start) c.args.windows.now c.args.part.now c.args.supplier))).number ≡ accepted_number
none c = ap (λ (x : Answer). x.number) (sym c.shaped_verdict.ensures ∙ ap answer_of c.in_ok-shaped_verdict.was)

accepted : (c : In_ok-shaped_verdict) → let L = asked (tables_in c.args.tables.now c.args.program.start) c.args.windows.now c.args.part.now c.args.supplier in (program_verdict L.tables ≡ accepted_number) × CodeFits L.tables
accepted c =
    let L = asked (tables_in c.args.tables.now c.args.program.start) c.args.windows.now c.args.part.now c.args.supplier in
    shaped-accepted (windowed_of L) (in-shape c.before.before.before L.tables.start) (none c)

-- the supplier asked about is the one whose number was lent
own : (c : After-index-own) → c.index-own.result ≡ supplier_of (asked (tables_in c.args.tables.now c.args.program.start) c.args.windows.now c.args.part.now c.args.supplier)
own c = c.index-own.ensures ∙ ap index_of (back c.args.supplier c.ranges.supplier.sfits)

-- what was answered on number 13 is the answer on the part that was lent
part-told : (c : After-answer) → answer_of c.answer.result ≡ own_answer (asked (tables_in c.args.tables.now c.args.program.start) c.args.windows.now c.args.part.now c.args.supplier)
part-told c =
    let L = asked (tables_in c.args.tables.now c.args.program.start) c.args.windows.now c.args.part.now c.args.supplier in
    let a = accepted c.before.before in
    c.answer.ensures.listed L.tables.start a.0 a.1
    ∙ ap (λ (s : ℕ). rows_answer schedule_refused (part_tests L.tables L.part s)) (own c.before)

-- number 13 did not apply to the part that was lent
own-none : (c : In_ok-answer) → (own_answer (asked (tables_in c.args.tables.now c.args.program.start) c.args.windows.now c.args.part.now c.args.supplier)).number ≡ accepted_number
own-none c = ap (λ (x : Answer). x.number) (sym (part-told c.before.before) ∙ ap answer_of c.in_ok-answer.was)

part-fits : (c : In_ok-answer) → let L = asked (tables_in c.args.tables.now c.args.program.start) c.args.windows.now c.args.part.now c.args.supplier in Part L.tables L.part (supplier_of L)
unfolding part_bad
part-fits c =
    let L = asked (tables_in c.args.tables.now c.args.program.start) c.args.windows.now c.args.part.now c.args.supplier in
    (part-bars L.tables L.part (supplier_of L)).ok (rows-clear schedule_refused (part_tests L.tables L.part (supplier_of L)) (λ z. omega arith) (own-none c))

part-passed : (c : In_ok-answer) → part_verdict (asked (tables_in c.args.tables.now c.args.program.start) c.args.windows.now c.args.part.now c.args.supplier) ≡ accepted_number
part-passed c =
    let L = asked (tables_in c.args.tables.now c.args.program.start) c.args.windows.now c.args.part.now c.args.supplier in
    let both = c.before.before.before.before in
    part-passes L (shaped both.before.before.before L.tables.start) (none both) (own-none c)

pub returns-in_err-refused_where : goal.returns-in_err-refused_where
returns-in_err-refused_where c =
    let L = asked (tables_in c.args.tables.now c.args.program.start) c.args.windows.now c.args.part.now c.args.supplier in
    let p = err_from_is_err_and c.from_residual.result c.from_residual.ensures.1 in
    ap answer_of (p.1 ∙ ap Err p.2)
    ∙ refused-is L _ (stopped (or_next (shaped_answer (windowed_of L)) (own_answer L)) (part-in-order L) (one-told c.before.before.before) c.in_err-refused_where.was)

pub shaped_verdict-requires : goal.shaped_verdict-requires
shaped_verdict-requires c = in-shape c

pub returns-in_err-shaped_verdict : goal.returns-in_err-shaped_verdict
returns-in_err-shaped_verdict c =
    let L = asked (tables_in c.args.tables.now c.args.program.start) c.args.windows.now c.args.part.now c.args.supplier in
    let p = err_from_is_err_and c.from_residual-in_err-shaped_verdict.result c.from_residual-in_err-shaped_verdict.ensures.1 in
    let both = or_next (shaped_answer (windowed_of L)) (own_answer L) in
    ap answer_of (p.1 ∙ ap Err p.2)
    ∙ refused-is L _
    (went-on both (part-in-order L) (one-told c.before.before.before.before.before.before) c.in_ok-refused_where.was
    (stopped (own_answer L) refl c.shaped_verdict.ensures c.in_err-shaped_verdict.was))

pub answer-requires : goal.answer-requires
answer-requires c = in-shape c.before.before.before.before

pub returns-in_err-answer : goal.returns-in_err-answer
returns-in_err-answer c =
    let L = asked (tables_in c.args.tables.now c.args.program.start) c.args.windows.now c.args.part.now c.args.supplier in
    let p = err_from_is_err_and c.from_residual-in_err-answer.result c.from_residual-in_err-answer.ensures.1 in
    let told = c.before.before.before in
    let both = or_next (shaped_answer (windowed_of L)) (own_answer L) in
    ap answer_of (p.1 ∙ ap Err p.2)
    ∙ refused-is L _
    (went-on both (part-in-order L) (one-told told.before.before.before.before.before.before.before) c.in_ok-refused_where.was
    (went-on (own_answer L) refl c.shaped_verdict.ensures c.in_ok-shaped_verdict.was (sym (ap answer_of c.in_err-answer.was) ∙ part-told told)))

pub sensors-sensors-requires : goal.sensors-sensors-requires
sensors-sensors-requires c =
    let L = asked (tables_in c.args.tables.now c.args.program.start) c.args.windows.now c.args.part.now c.args.supplier in
    few-ports L.tables (in-shape c.before.before.before.before.before.before.before.before L.tables.start)

pub answer-requires-2 : goal.answer-requires-2
answer-requires-2 c =
    let L = asked (tables_in c.args.tables.now c.args.program.start) c.args.windows.now c.args.part.now c.args.supplier in
    let both = c.before.before.before.before.before.before in
    let shape = in-shape both.before.before.before in
    record {
      in_shape = shape;
      sensors_le_max_ports = told-most c.sensors-sensors.ensures (few-sensors L.tables (shape L.tables.start));
      periods = λ m l. ((accepted-fields L.tables (accepted both).0).modes m l).1;
      sorted = (part-fits c.before.before).rows.sorted;
    }

pub returns : goal.returns
returns c =
    let L = asked (tables_in c.args.tables.now c.args.program.start) c.args.windows.now c.args.part.now c.args.supplier in
    let n = c.sensors-sensors.result in
    let T = L.tables in
    let passed = part-passed c.before.before.before in
    c.answer-2.ensures T.start
    ∙ ap (λ (s : ℕ). answer_from (λ m. worst_break (course_on T L.windows L.part s n m (start_in T n m)) nothing) (mode_count T) 0) (own c.before.before.before.before.before.before)
    ∙ judged-counted L passed n (c.sensors-sensors.ensures ∙ ap length (sym (sensors-rows T)))
    ∙ supplier-judged L passed
