-- `rules_6_10::switches::switch_clash` meets its contract: the test is made only for two rows of one mode.
use Rattle.rules.specs.Modes.{switch_clash}
use mathlib.Core.Path.{refl, sym, ◌∙◌}
use Rattle.program.specs.Tables.{tables_in}
use Rattle.rules_6_10.proofs.switches.switch_clash.Goals as goal

pub returns-then-one_mode : goal.returns-then-one_mode
unfolding switch_clash
returns-then-one_mode c start =
    let T = tables_in c.args.tables.now start in
    simp (c.guards_meet.ensures T refl, c.named-e.ensures, c.named-d.ensures, sym c.one_mode.ensures ∙ c.if-one_mode.true) refl

pub returns : goal.returns
unfolding switch_clash
returns c start =
    let T = tables_in c.args.tables.now start in
    simp (sym c.one_mode.ensures ∙ c.if-one_mode.false)
