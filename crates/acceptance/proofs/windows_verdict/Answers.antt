-- `acceptance::windows_verdict` meets its contract: 1, then what both calls ask.
use Rattle.std.specs.Prelude.{Err}
use Rattle.std.proofs.lemmas.Result.{err_from_is_err_and}
use mathlib.Core.Path.{sym, ap, ◌∙◌}
use mathlib.Core.Bool.{Bool}
use Rattle.cells.specs.declared.refusals.Refusal.TheVariants.{Shape}
use Rattle.answers.specs.Answers.{answer_of, told_where}
use Rattle.answers.proofs.Told.{told-none, went-on, stopped}
use Rattle.program.specs.Tables.{tables_in}
use Rattle.suppliers.proofs.Accepted.{windows-shaped}
use Rattle.acceptance.specs.Judged.{windowed, shaped_answer}
use Rattle.acceptance.proofs.Calls.{windows-answer}
use Rattle.acceptance.proofs.windows_verdict.Goals as goal

pub returns-in_err-refused_where : goal.returns-in_err-refused_where
returns-in_err-refused_where c =
    let L = windowed (tables_in c.args.tables.now c.args.program.start) c.args.windows.now in
    let p = err_from_is_err_and c.from_residual.result c.from_residual.ensures.1 in
    let one = c.refused_where.ensures ∙ ap (λ (b : Bool). told_where b Shape) (c.shape_bad.ensures c.args.program.start) in
    ap answer_of (p.1 ∙ ap Err p.2) ∙ stopped (shaped_answer L) (windows-answer L) one c.in_err-refused_where.was

pub shaped_verdict-requires : goal.shaped_verdict-requires
shaped_verdict-requires c start =
    let none = told-none c.shape_bad.result Shape (sym (ap answer_of c.in_ok-refused_where.was) ∙ c.refused_where.ensures) in
    windows-shaped (windowed (tables_in c.args.tables.now start) c.args.windows.now) (sym (c.shape_bad.ensures start) ∙ none)

pub returns : goal.returns
returns c =
    let L = windowed (tables_in c.args.tables.now c.args.program.start) c.args.windows.now in
    let one = c.refused_where.ensures ∙ ap (λ (b : Bool). told_where b Shape) (c.shape_bad.ensures c.args.program.start) in
    went-on (shaped_answer L) (windows-answer L) one c.in_ok-refused_where.was c.shaped_verdict.ensures
