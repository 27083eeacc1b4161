-- `verdict::declared` meets its contract: each number of what is declared that does not apply leaves those after it.
use Rattle.std.specs.Prelude.{Err}
use Rattle.std.proofs.lemmas.Result.{err_from_is_err_and}
use mathlib.Core.Path.{ap, ◌∙◌}
use native.Mathlib.Omega.{arith}
use Rattle.theory.specs.Rows.{testing}
use Rattle.cells.specs.declared.refusals.Refusal.TheVariants.{TaskPorts, ModePorts}
use Rattle.answers.specs.Answers.{answer_of}
use Rattle.answers.proofs.Told.{told-rows}
use Rattle.program.specs.Tables.{tables_in, rows_at, task_ports_at, mode_ports_at}
use Rattle.rules.specs.Fields.{fields_bad}
use Rattle.rules.specs.Declared.{task_ports_bad, copies_bad, mode_ports_bad, task_port_clash, mode_port_clash}
use Rattle.verdict.specs.Parts.{declared_refusals}
use Rattle.verdict.proofs.Parts.{on, off}
use Rattle.verdict.proofs.declared.Goals as goal

pub returns-in_err-bad_field : goal.returns-in_err-bad_field
unfolding fields_bad task_ports_bad copies_bad mode_ports_bad
returns-in_err-bad_field c =
    let T = tables_in c.args.tables.now c.args.program.start in
    let p = err_from_is_err_and c.from_residual.result c.from_residual.ensures.1 in
    ap answer_of (p.1 ∙ ap Err p.2)
    ∙ off T declared_refusals 0 (omega arith) c.bad_field.ensures c.in_err-bad_field.was

pub returns-in_err-refused_at : goal.returns-in_err-refused_at
unfolding fields_bad task_ports_bad copies_bad mode_ports_bad
returns-in_err-refused_at c =
    let T = tables_in c.args.tables.now c.args.program.start in
    let p = err_from_is_err_and c.from_residual-in_err-refused_at.result c.from_residual-in_err-refused_at.ensures.1 in
    ap answer_of (p.1 ∙ ap Err p.2)
    ∙ on T declared_refusals 0 (omega arith) c.bad_field.ensures c.in_ok-bad_field.was
    (off T declared_refusals 1 (omega arith) (c.refused_at.ensures ∙ told-rows TaskPorts (testing task_ports_at (rows_at T task_ports_at) (task_port_clash T)) (c.first_task_port_clash-task_port.ensures c.args.program.start)) c.in_err-refused_at.was)

pub returns-in_err-guards_and_copies : goal.returns-in_err-guards_and_copies
unfolding fields_bad task_ports_bad copies_bad mode_ports_bad
returns-in_err-guards_and_copies c =
    let T = tables_in c.args.tables.now c.args.program.start in
    let p = err_from_is_err_and c.from_residual-in_err-guards_and_copies.result c.from_residual-in_err-guards_and_copies.ensures.1 in
    ap answer_of (p.1 ∙ ap Err p.2)
    ∙ on T declared_refusals 0 (omega arith) c.bad_field.ensures c.in_ok-bad_field.was
    (on T declared_refusals 1 (omega arith) (c.refused_at.ensures ∙ told-rows TaskPorts (testing task_ports_at (rows_at T task_ports_at) (task_port_clash T)) (c.first_task_port_clash-task_port.ensures c.args.program.start)) c.in_ok-refused_at.was
    (off T declared_refusals 2 (omega arith) (c.guards_and_copies.ensures c.args.program.start) c.in_err-guards_and_copies.was))

pub returns : goal.returns
unfolding fields_bad task_ports_bad copies_bad mode_ports_bad
returns c =
    let T = tables_in c.args.tables.now c.args.program.start in
    on T declared_refusals 0 (omega arith) c.bad_field.ensures c.in_ok-bad_field.was
    (on T declared_refusals 1 (omega arith) (c.refused_at.ensures ∙ told-rows TaskPorts (testing task_ports_at (rows_at T task_ports_at) (task_port_clash T)) (c.first_task_port_clash-task_port.ensures c.args.program.start)) c.in_ok-refused_at.was
    (on T declared_refusals 2 (omega arith) (c.guards_and_copies.ensures c.args.program.start) c.in_ok-guards_and_copies.was
    (c.refused_at-2.ensures ∙ told-rows ModePorts (testing mode_ports_at (rows_at T mode_ports_at) (mode_port_clash T)) (c.first_mode_port_clash-mode_port.ensures c.args.program.start))))
