-- `verdict::modes` meets its contract: each number of what the modes do that does not apply leaves those after it.
use Rattle.std.specs.Prelude.{Err}
use Rattle.std.proofs.lemmas.Result.{err_from_is_err_and}
use mathlib.Core.Path.{ap, ◌∙◌}
use mathlib.Core.Bool.{Bool}
use native.Mathlib.Omega.{arith}
use Rattle.theory.specs.Rows.{testing}
use Rattle.cells.specs.declared.refusals.Refusal.TheVariants.{Invocations, Updates, Switches, Units, Whole, Gap}
use Rattle.answers.specs.Answers.{answer_of, told_where}
use Rattle.answers.proofs.Told.{told-rows}
use Rattle.program.specs.Tables.{tables_in, rows_at, invocations_at, updates_at, switches_at, modes_at}
use Rattle.rules.specs.Modes.{invocations_bad, updates_bad, switches_bad, invocation_wrong, update_wrong, switch_wrong}
use Rattle.rules.specs.Timing.{units_bad, whole_bad, units_wrong, whole_wrong}
use Rattle.verdict.specs.Parts.{mode_refusals}
use Rattle.verdict.proofs.Parts.{on, off}
use Rattle.verdict.proofs.modes.Goals as goal

pub returns-in_err-refused_at : goal.returns-in_err-refused_at
unfolding invocations_bad updates_bad switches_bad units_bad whole_bad
returns-in_err-refused_at c start =
    let T = tables_in c.args.tables.now start in
    let p = err_from_is_err_and c.from_residual.result c.from_residual.ensures.1 in
    ap answer_of (p.1 ∙ ap Err p.2)
    ∙ off T mode_refusals 0 (omega arith) (c.refused_at.ensures ∙ told-rows Invocations (testing invocations_at (rows_at T invocations_at) (invocation_wrong T)) (c.first_wrong_invocation-invocation.ensures start)) c.in_err-refused_at.was

pub returns-in_err-refused_at-2 : goal.returns-in_err-refused_at-2
unfolding invocations_bad updates_bad switches_bad units_bad whole_bad
returns-in_err-refused_at-2 c start =
    let T = tables_in c.args.tables.now start in
    let p = err_from_is_err_and c.from_residual-in_err-refused_at-2.result c.from_residual-in_err-refused_at-2.ensures.1 in
    ap answer_of (p.1 ∙ ap Err p.2)
    ∙ on T mode_refusals 0 (omega arith) (c.refused_at.ensures ∙ told-rows Invocations (testing invocations_at (rows_at T invocations_at) (invocation_wrong T)) (c.first_wrong_invocation-invocation.ensures start)) c.in_ok-refused_at.was
    (off T mode_refusals 1 (omega arith) (c.refused_at-2.ensures ∙ told-rows Updates (testing updates_at (rows_at T updates_at) (update_wrong T)) (c.first_wrong_update-update.ensures start)) c.in_err-refused_at-2.was)

pub returns-in_err-refused_at-3 : goal.returns-in_err-refused_at-3
unfolding invocations_bad updates_bad switches_bad units_bad whole_bad
returns-in_err-refused_at-3 c start =
    let T = tables_in c.args.tables.now start in
    let p = err_from_is_err_and c.from_residual-in_err-refused_at-3.result c.from_residual-in_err-refused_at-3.ensures.1 in
    ap answer_of (p.1 ∙ ap Err p.2)
    ∙ on T mode_refusals 0 (omega arith) (c.refused_at.ensures ∙ told-rows Invocations (testing invocations_at (rows_at T invocations_at) (invocation_wrong T)) (c.first_wrong_invocation-invocation.ensures start)) c.in_ok-refused_at.was
    (on T mode_refusals 1 (omega arith) (c.refused_at-2.ensures ∙ told-rows Updates (testing updates_at (rows_at T updates_at) (update_wrong T)) (c.first_wrong_update-update.ensures start)) c.in_ok-refused_at-2.was
    (off T mode_refusals 2 (omega arith) (c.refused_at-3.ensures ∙ told-rows Switches (testing switches_at (rows_at T switches_at) (switch_wrong T)) (c.first_wrong_switch-switch.ensures start)) c.in_err-refused_at-3.was))

pub returns-in_err-refused_at-4 : goal.returns-in_err-refused_at-4
unfolding invocations_bad updates_bad switches_bad units_bad whole_bad
returns-in_err-refused_at-4 c start =
    let T = tables_in c.args.tables.now start in
    let p = err_from_is_err_and c.from_residual-in_err-refused_at-4.result c.from_residual-in_err-refused_at-4.ensures.1 in
    ap answer_of (p.1 ∙ ap Err p.2)
    ∙ on T mode_refusals 0 (omega arith) (c.refused_at.ensures ∙ told-rows Invocations (testing invocations_at (rows_at T invocations_at) (invocation_wrong T)) (c.first_wrong_invocation-invocation.ensures start)) c.in_ok-refused_at.was
    (on T mode_refusals 1 (omega arith) (c.refused_at-2.ensures ∙ told-rows Updates (testing updates_at (rows_at T updates_at) (update_wrong T)) (c.first_wrong_update-update.ensures start)) c.in_ok-refused_at-2.was
    (on T mode_refusals 2 (omega arith) (c.refused_at-3.ensures ∙ told-rows Switches (testing switches_at (rows_at T switches_at) (switch_wrong T)) (c.first_wrong_switch-switch.ensures start)) c.in_ok-refused_at-3.was
    (off T mode_refusals 3 (omega arith) (c.refused_at-4.ensures ∙ told-rows Units (testing modes_at (rows_at T modes_at) (units_wrong T)) (c.first_wrong_units-mode.ensures start)) c.in_err-refused_at-4.was)))

pub returns-in_err-refused_at-5 : goal.returns-in_err-refused_at-5
unfolding invocations_bad updates_bad switches_bad units_bad whole_bad
returns-in_err-refused_at-5 c start =
    let T = tables_in c.args.tables.now start in
    let p = err_from_is_err_and c.from_residual-in_err-refused_at-5.result c.from_residual-in_err-refused_at-5.ensures.1 in
    ap answer_of (p.1 ∙ ap Err p.2)
    ∙ on T mode_refusals 0 (omega arith) (c.refused_at.ensures ∙ told-rows Invocations (testing invocations_at (rows_at T invocations_at) (invocation_wrong T)) (c.first_wrong_invocation-invocation.ensures start)) c.in_ok-refused_at.was
    (on T mode_refusals 1 (omega arith) (c.refused_at-2.ensures ∙ told-rows Updates (testing updates_at (rows_at T updates_at) (update_wrong T)) (c.first_wrong_update-update.ensures start)) c.in_ok-refused_at-2.was
    (on T mode_refusals 2 (omega arith) (c.refused_at-3.ensures ∙ told-rows Switches (testing switches_at (rows_at T switches_at) (switch_wrong T)) (c.first_wrong_switch-switch.ensures start)) c.in_ok-refused_at-3.was
    (on T mode_refusals 3 (omega arith) (c.refused_at-4.ensures ∙ told-rows Units (testing modes_at (rows_at T modes_at) (units_wrong T)) (c.first_wrong_units-mode.ensures start)) c.in_ok-refused_at-4.was
    (off T mode_refusals 4 (omega arith) (c.refused_at-5.ensures ∙ told-rows Whole (testing switches_at (rows_at T switches_at) (whole_wrong T)) (c.first_not_whole-not_whole.ensures start)) c.in_err-refused_at-5.was))))

pub returns : goal.returns
unfolding invocations_bad updates_bad switches_bad units_bad whole_bad
returns c start =
    let T = tables_in c.args.tables.now start in
    on T mode_refusals 0 (omega arith) (c.refused_at.ensures ∙ told-rows Invocations (testing invocations_at (rows_at T invocations_at) (invocation_wrong T)) (c.first_wrong_invocation-invocation.ensures start)) c.in_ok-refused_at.was
    (on T mode_refusals 1 (omega arith) (c.refused_at-2.ensures ∙ told-rows Updates (testing updates_at (rows_at T updates_at) (update_wrong T)) (c.first_wrong_update-update.ensures start)) c.in_ok-refused_at-2.was
    (on T mode_refusals 2 (omega arith) (c.refused_at-3.ensures ∙ told-rows Switches (testing switches_at (rows_at T switches_at) (switch_wrong T)) (c.first_wrong_switch-switch.ensures start)) c.in_ok-refused_at-3.was
    (on T mode_refusals 3 (omega arith) (c.refused_at-4.ensures ∙ told-rows Units (testing modes_at (rows_at T modes_at) (units_wrong T)) (c.first_wrong_units-mode.ensures start)) c.in_ok-refused_at-4.was
    (on T mode_refusals 4 (omega arith) (c.refused_at-5.ensures ∙ told-rows Whole (testing switches_at (rows_at T switches_at) (whole_wrong T)) (c.first_not_whole-not_whole.ensures start)) c.in_ok-refused_at-5.was
    (c.refused_where.ensures ∙ ap (λ (b : Bool). told_where b Gap) (c.has_gap.ensures start))))))
