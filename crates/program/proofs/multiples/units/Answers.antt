-- `program::multiples::units` meets its contract: the search tries 1, 2, .. up to the limit.
use Prim.Native.Nat.{suc}
use mathlib.Core.Path.{sym, ap, ◌∙◌}
use native.Mathlib.Numerals.{add-one}
use Rattle.theory.proofs.Search.{passed_none, passed-more, first_found, first-none}
use Rattle.program.specs.Tables.{tables_in}
use Rattle.program.specs.Units.{is_multiple, units}
use Rattle.program.proofs.multiples.units.Goals as goal

pub loop-u-init : goal.loop-u-init
loop-u-init c start = passed_none _ _

pub returns-then-is_multiple : goal.returns-then-is_multiple
unfolding units
returns-then-is_multiple c start =
    add-one _ ∙ ap suc (first_found _ _ _ (c.loop-u.invariant start) c.loop-u-test.true (ap (is_multiple (tables_in c.args.tables.now start) _) (sym (add-one _)) ∙ sym (c.is_multiple.ensures start) ∙ c.if-is_multiple.true))

pub loop-u-preserved : goal.loop-u-preserved
loop-u-preserved c start =
    passed-more _ _ _ (c.loop-u.invariant start) c.loop-u-test.true (ap (is_multiple (tables_in c.args.tables.now start) _) (sym (add-one _)) ∙ sym (c.is_multiple.ensures start) ∙ c.if-is_multiple.false)

pub returns : goal.returns
unfolding units
returns c start = ap suc (first-none _ _ _ (c.loop-u.invariant start) c.loop-u-test.false)
