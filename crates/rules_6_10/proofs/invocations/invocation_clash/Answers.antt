-- `rules_6_10::invocations::invocation_clash` meets its contract: the test is made only for two rows of one mode.
use Rattle.rules.specs.Modes.{invocation_clash, some_output, output_with}
use mathlib.Core.Path.{refl, sym, ◌∙◌}
use Rattle.std.proofs.Common.{rules}
use Rattle.program.specs.Sets.{is_output}
use Rattle.program.specs.Tables.{tables_in}
use Rattle.rules_6_10.proofs.invocations.invocation_clash.Goals as goal

pub returns-then-one_mode : goal.returns-then-one_mode
unfolding invocation_clash some_output output_with
returns-then-one_mode c start =
    let T = tables_in c.args.tables.now start in
    let shared = c.some_task_port-shared.ensures start (is_output T c.named-u.result.0) (λ p l b r. search (rules)) in
    simp (shared, c.eq.ensures, c.named-u.ensures, c.named-t.ensures, sym c.one_mode.ensures ∙ c.if-one_mode.true) refl

pub returns : goal.returns
unfolding invocation_clash
returns c start =
    let T = tables_in c.args.tables.now start in
    simp (sym c.one_mode.ensures ∙ c.if-one_mode.false)
