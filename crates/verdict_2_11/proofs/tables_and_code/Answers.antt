-- `verdict_2_11::tables_and_code` meets its contract: a number up to 10 with its place, else 11 where the code is long.
use Rattle.std.specs.Prelude.{Err}
use Rattle.std.proofs.lemmas.Result.{err_from_is_err_and}
use mathlib.Core.Path.{ap, ◌∙◌}
use mathlib.Core.Bool.{Bool}
use mathlib.Core.List.{[], ◌∷◌}
use native.Mathlib.Omega.{arith}
use Rattle.theory.specs.Verdict.{first_refusal}
use Rattle.theory.proofs.Verdict.{answer-append}
use Rattle.cells.specs.declared.refusals.Refusal.TheVariants.{Code}
use Rattle.answers.specs.Answers.{answer_of, told_where}
use Rattle.answers.proofs.Told.{went-on, stopped}
use Rattle.program.specs.Tables.{tables_in}
use Rattle.rules.specs.Verdict.{table_refusals}
use Rattle.code.specs.Compile.{long_refusal}
use Rattle.verdict_2_11.specs.Tables.{tables_and_code_answer}
use Rattle.verdict_2_11.proofs.tables_and_code.Goals as goal

pub returns-in_err-table_verdict : goal.returns-in_err-table_verdict
unfolding tables_and_code_answer
returns-in_err-table_verdict c =
    let T = tables_in c.args.tables.now c.args.program.start in
    let p = err_from_is_err_and c.from_residual.result c.from_residual.ensures.1 in
    ap answer_of (p.1 ∙ ap Err p.2)
    ∙ stopped (first_refusal (long_refusal ∷ []) T) (answer-append table_refusals (long_refusal ∷ []) T (omega arith)) c.table_verdict.ensures c.in_err-table_verdict.was

pub returns : goal.returns
unfolding tables_and_code_answer
returns c =
    let T = tables_in c.args.tables.now c.args.program.start in
    went-on (first_refusal (long_refusal ∷ []) T) (answer-append table_refusals (long_refusal ∷ []) T (omega arith)) c.table_verdict.ensures c.in_ok-table_verdict.was
    (c.refused_where.ensures ∙ ap (λ (b : Bool). told_where b Code) (c.code_long.ensures c.args.program.start))
