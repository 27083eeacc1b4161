-- `acceptance::shaped_verdict` meets its contract: a number up to 11 with its place, else 12 at the window that the search found.
use Rattle.std.specs.Prelude.{Err}
use Rattle.std.proofs.lemmas.Result.{err_from_is_err_and}
use mathlib.Core.Path.{refl, ap, ◌∙◌}
use Rattle.theory.specs.Rows.{testing}
use Rattle.theory.specs.Verdict.{rows_answer}
use Rattle.cells.specs.declared.refusals.Refusal.TheVariants.{Windows}
use Rattle.cells.specs.Refusals.{windows_refused}
use Rattle.answers.specs.Answers.{answer_of}
use Rattle.answers.proofs.Told.{told-rows, went-on, stopped}
use Rattle.program.specs.Tables.{tables_in, windows_at}
use Rattle.runs.specs.Windows.{window_count}
use Rattle.suppliers.specs.Windows.{window_wrong, window_tests}
use Rattle.acceptance.specs.Judged.{windowed, shaped_answer}
use Rattle.acceptance.proofs.shaped_verdict.Goals as goal

pub returns-in_err-tables_and_code : goal.returns-in_err-tables_and_code
unfolding shaped_answer
returns-in_err-tables_and_code c =
    let L = windowed (tables_in c.args.tables.now c.args.program.start) c.args.windows.now in
    let p = err_from_is_err_and c.from_residual.result c.from_residual.ensures.1 in
    ap answer_of (p.1 ∙ ap Err p.2)
    ∙ stopped (rows_answer windows_refused (window_tests L)) refl c.tables_and_code.ensures c.in_err-tables_and_code.was

pub returns : goal.returns
unfolding shaped_answer
returns c =
    let L = windowed (tables_in c.args.tables.now c.args.program.start) c.args.windows.now in
    let window = testing windows_at (window_count L.windows) (window_wrong L.tables L.windows) in
    went-on (rows_answer windows_refused (window_tests L)) refl c.tables_and_code.ensures c.in_ok-tables_and_code.was
    (c.refused_at.ensures ∙ told-rows Windows window (c.first_wrong_window-window.ensures L.tables refl))
