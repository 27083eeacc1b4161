-- `operation::judged::answer` meets its contract: 1, what every call asks of the tables, then 13 and 21, each with its place.
use mathlib.Core.Path.{◌≡◌, refl, sym, ap, ◌∙◌}
use mathlib.Core.Bool.{Bool, false}
use Rattle.std.specs.Prelude.{Result, Ok, Err}
use Rattle.std.proofs.lemmas.Result.{err_from_is_err_and}
use Rattle.theory.specs.Verdict.{accepted_number, or_next}
use Rattle.theory.specs.declared.Answer.{Answer}
use Rattle.cells.specs.declared.refusals.Refusal.TheVariants.{Shape, State}
use Rattle.answers.specs.declared.Refused.{Refused}
use Rattle.answers.specs.Answers.{answer_of, told_where}
use Rattle.answers.proofs.Told.{went-on, stopped, told-none}
use Rattle.program.specs.Tables.{tables_in}
use Rattle.rules.specs.Verdict.{program_verdict}
use Rattle.code.specs.Compile.{CodeFits}
use Rattle.rules.proofs.Shape.{any-start}
use Rattle.verdict_2_11.specs.Tables.{tables_and_code_answer}
use Rattle.verdict_2_11.proofs.Asked.{call-accepted}
use Rattle.machine.specs.Advance.{Advance, advance_shape_bad}
use Rattle.operation.specs.Advancing.{lent_of, advancing}
use Rattle.operation.proofs.Numbers.{own_answer, state_answer, shape-order, advance-shaped}
use Rattle.operation.proofs.judged.answer.Goals as goal

-- what is asked after 1
abbrev rest : Advance → Answer
rest L = or_next (tables_and_code_answer L.tables) (own_answer L)

-- 1 as it was asked
one : (L : Advance) {b : Bool} {x : Answer} → x ≡ told_where b Shape → b ≡ advance_shape_bad L → x ≡ told_where (advance_shape_bad L) Shape
one L h e = h ∙ ap (λ (b : Bool). told_where b Shape) e

-- where 1 was asked and accepted, all that was lent has its shape
shaped : (L : Advance) {r : Result (Unit {0}) Refused} → answer_of r ≡ told_where (advance_shape_bad L) Shape → r ≡ Ok tt → advance_shape_bad L ≡ false
shaped L h w = told-none (advance_shape_bad L) Shape (sym (ap answer_of w) ∙ h)

-- where what every call asks was asked and accepted, the program is accepted and its code within the limit
passed : (L : Advance) {r : Result (Unit {0}) Refused} → advance_shape_bad L ≡ false → answer_of r ≡ tables_and_code_answer L.tables → r ≡ Ok tt
    → (program_verdict L.tables ≡ accepted_number) × CodeFits L.tables
passed L s h w = call-accepted L.tables (advance-shaped L s) (ap (λ (x : Answer). x.number) (sym h ∙ ap answer_of w))

pub returns-in_err-refused_where : goal.returns-in_err-refused_where
returns-in_err-refused_where c =
    let L = advancing (tables_in c.args.tables.now c.args.program.start) c.args.code.now c.args.schedule.now c.args.s (lent_of c.args.readings.now c.args.results.now c.args.times.now) in
    let p = err_from_is_err_and c.from_residual.result c.from_residual.ensures.1 in
    ap answer_of (p.1 ∙ ap Err p.2) ∙ stopped (rest L) (shape-order L) (one L c.refused_where.ensures (c.shape_bad-bad.ensures c.args.program.start c.args.s)) c.in_err-refused_where.was

pub tables_and_code-requires : goal.tables_and_code-requires
tables_and_code-requires c =
    let L = advancing (tables_in c.args.tables.now c.args.program.start) c.args.code.now c.args.schedule.now c.args.s (lent_of c.args.readings.now c.args.results.now c.args.times.now) in
    any-start c.args.tables.now c.args.program.start
    (advance-shaped L (shaped L (one L c.refused_where.ensures (c.shape_bad-bad.ensures c.args.program.start c.args.s)) c.in_ok-refused_where.was))

pub returns-in_err-tables_and_code : goal.returns-in_err-tables_and_code
returns-in_err-tables_and_code c =
    let L = advancing (tables_in c.args.tables.now c.args.program.start) c.args.code.now c.args.schedule.now c.args.s (lent_of c.args.readings.now c.args.results.now c.args.times.now) in
    let p = err_from_is_err_and c.from_residual-in_err-tables_and_code.result c.from_residual-in_err-tables_and_code.ensures.1 in
    went-on (rest L) (shape-order L) (one L c.refused_where.ensures (c.shape_bad-bad.ensures c.args.program.start c.args.s)) c.in_ok-refused_where.was
    (ap answer_of (p.1 ∙ ap Err p.2) ∙ stopped (own_answer L) refl c.tables_and_code.ensures c.in_err-tables_and_code.was)

pub answer-requires : goal.answer-requires
answer-requires c =
    let L = advancing (tables_in c.args.tables.now c.args.program.start) c.args.code.now c.args.schedule.now c.args.s (lent_of c.args.readings.now c.args.results.now c.args.times.now) in
    any-start c.args.tables.now c.args.program.start
    (advance-shaped L (shaped L (one L c.refused_where.ensures (c.shape_bad-bad.ensures c.args.program.start c.args.s)) c.in_ok-refused_where.was))

pub returns-in_err-answer : goal.returns-in_err-answer
returns-in_err-answer c =
    let L = advancing (tables_in c.args.tables.now c.args.program.start) c.args.code.now c.args.schedule.now c.args.s (lent_of c.args.readings.now c.args.results.now c.args.times.now) in
    let w = one L c.refused_where.ensures (c.shape_bad-bad.ensures c.args.program.start c.args.s) in
    let a = passed L (shaped L w c.in_ok-refused_where.was) c.tables_and_code.ensures c.in_ok-tables_and_code.was in
    let p = err_from_is_err_and c.from_residual-in_err-answer.result c.from_residual-in_err-answer.ensures.1 in
    went-on (rest L) (shape-order L) w c.in_ok-refused_where.was
    (went-on (own_answer L) refl c.tables_and_code.ensures c.in_ok-tables_and_code.was
    (ap answer_of (p.1 ∙ ap Err p.2) ∙ stopped (state_answer L) refl (c.answer.ensures.listed c.args.program.start a.0 a.1) c.in_err-answer.was))

pub returns : goal.returns
returns c =
    let L = advancing (tables_in c.args.tables.now c.args.program.start) c.args.code.now c.args.schedule.now c.args.s (lent_of c.args.readings.now c.args.results.now c.args.times.now) in
    let w = one L c.refused_where.ensures (c.shape_bad-bad.ensures c.args.program.start c.args.s) in
    let a = passed L (shaped L w c.in_ok-refused_where.was) c.tables_and_code.ensures c.in_ok-tables_and_code.was in
    went-on (rest L) (shape-order L) w c.in_ok-refused_where.was
    (went-on (own_answer L) refl c.tables_and_code.ensures c.in_ok-tables_and_code.was
    (went-on (state_answer L) refl (c.answer.ensures.listed c.args.program.start a.0 a.1) c.in_ok-answer.was
    (c.refused_where-2.ensures ∙ ap (λ (b : Bool). told_where b State) c.out_of_range.ensures)))
