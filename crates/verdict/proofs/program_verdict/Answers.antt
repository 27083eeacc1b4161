-- `verdict::program_verdict` meets its contract: number 1, then the rest of tables that have their shape.
use Rattle.std.specs.Prelude.{Err}
use Rattle.std.proofs.lemmas.Result.{err_from_is_err_and}
use mathlib.Core.Path.{sym, ap, ◌∙◌}
use mathlib.Core.Bool.{Bool}
use mathlib.Core.List.{◌∷◌}
use native.Mathlib.Omega.{arith}
use Rattle.cells.specs.declared.refusals.Refusal.TheVariants.{Shape}
use Rattle.answers.specs.Answers.{answer_of, told_where}
use Rattle.answers.proofs.Told.{told-none}
use Rattle.program.specs.Tables.{tables_in}
use Rattle.rules.specs.Verdict.{shape_refusal, table_refusals, program_answer}
use Rattle.verdict.proofs.Parts.{on, off}
use Rattle.verdict.proofs.program_verdict.Goals as goal

pub returns-in_err-refused_where : goal.returns-in_err-refused_where
unfolding program_answer
returns-in_err-refused_where c =
    let T = tables_in c.args.tables.now c.args.program.start in
    let p = err_from_is_err_and c.from_residual.result c.from_residual.ensures.1 in
    let one = c.refused_where.ensures ∙ ap (λ (b : Bool). told_where b Shape) (c.shape_bad.ensures c.args.program.start) in
    ap answer_of (p.1 ∙ ap Err p.2) ∙ off T (shape_refusal ∷ table_refusals) 0 (omega arith) one c.in_err-refused_where.was

pub table_verdict-requires : goal.table_verdict-requires
table_verdict-requires c = λ start.
    sym (c.shape_bad.ensures start) ∙ told-none c.shape_bad.result Shape (sym (ap answer_of c.in_ok-refused_where.was) ∙ c.refused_where.ensures)

pub returns : goal.returns
unfolding program_answer
returns c =
    let T = tables_in c.args.tables.now c.args.program.start in
    let one = c.refused_where.ensures ∙ ap (λ (b : Bool). told_where b Shape) (c.shape_bad.ensures c.args.program.start) in
    on T (shape_refusal ∷ table_refusals) 0 (omega arith) one c.in_ok-refused_where.was c.table_verdict.ensures
