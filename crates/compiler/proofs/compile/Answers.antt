-- `compiler::compile` meets its contract: a number up to 10 refuses with its place, else 11 or the listing follows.
use Rattle.std.proofs.Common.{Err, rules}
use Rattle.std.proofs.lemmas.Result.{err_from_is_err_and}
use mathlib.Core.Path.{◌≡◌, ap, ◌∙◌}
use Rattle.cells.specs.Cell.{name_of, index_of}
use Rattle.program.specs.Tables.{tables_in}
use Rattle.rules.proofs.Shape.{any-start}
use Rattle.rules.proofs.Accepted.{accepted-clear, accepted-fields}
use Rattle.compiler.specs.Listed.{Compilation, compiling}
use Rattle.compiler.proofs.Outcomes.{compiled-listed, verdict-refused, verdict-passed}
use Rattle.compiler.proofs.compile.Goals as goal

pub returns-in_err-program_verdict-clause-answer : goal.returns-in_err-program_verdict-clause-answer
returns-in_err-program_verdict-clause-answer c =
    let a = c.args in
    let p = err_from_is_err_and c.from_residual.result c.from_residual.ensures.1 in
    ap (λ (o : Compilation). o.answer)
    (verdict-refused (tables_in a.tables.now a.program.start) a.code.now c.program_verdict.ensures c.in_err-program_verdict.was (p.1 ∙ ap Err p.2))

pub returns-in_err-program_verdict-clause-slice : goal.returns-in_err-program_verdict-clause-slice
returns-in_err-program_verdict-clause-slice c =
    let a = c.args in
    let p = err_from_is_err_and c.from_residual.result c.from_residual.ensures.1 in
    ap (λ (o : Compilation). o.slice)
    (verdict-refused (tables_in a.tables.now a.program.start) a.code.now c.program_verdict.ensures c.in_err-program_verdict.was (p.1 ∙ ap Err p.2))

pub listed-requires-clause-in_shape : goal.listed-requires-clause-in_shape
listed-requires-clause-in_shape c =
    let a = c.args in
    let T = tables_in a.tables.now a.program.start in
    any-start a.tables.now a.program.start (accepted-clear T (verdict-passed T c.program_verdict.ensures c.in_ok-program_verdict.was)).0

pub listed-requires-clause-periods : goal.listed-requires-clause-periods
listed-requires-clause-periods c m l =
    let a = c.args in
    let T = tables_in a.tables.now a.program.start in
    ((accepted-fields T (verdict-passed T c.program_verdict.ensures c.in_ok-program_verdict.was)).modes m l).1

pub returns-clause-answer : goal.returns-clause-answer
returns-clause-answer c =
    let a = c.args in
    let T = tables_in a.tables.now a.program.start in
    let passed = verdict-passed T c.program_verdict.ensures c.in_ok-program_verdict.was in
    let told : c.index.result ≡ index_of a.program.start = search rules in
    ap (λ (o : Compilation). o.answer)
    (c.listed.ensures a.program.start (c.of.ensures ∙ ap name_of told) passed ∙ compiled-listed (compiling T a.code.now) passed)

pub returns-clause-slice : goal.returns-clause-slice
returns-clause-slice c =
    let a = c.args in
    let T = tables_in a.tables.now a.program.start in
    let passed = verdict-passed T c.program_verdict.ensures c.in_ok-program_verdict.was in
    let told : c.index.result ≡ index_of a.program.start = search rules in
    ap (λ (o : Compilation). o.slice)
    (c.listed.ensures a.program.start (c.of.ensures ∙ ap name_of told) passed ∙ compiled-listed (compiling T a.code.now) passed)
