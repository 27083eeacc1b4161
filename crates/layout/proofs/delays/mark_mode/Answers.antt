-- `layout::delays::mark_mode` meets its contract: a mode has at least one unit, and its units are marked one after the other.
use Prim.Native.Nat.{ℕ, ◌+◌}
use mathlib.Core.Path.{refl, ap, ◌∙◌}
use Rattle.program.specs.Tables.{tables_in}
use Rattle.layout.proofs.Limits.{units-told}
use Rattle.layout.proofs.Laid.{size-lent}
use Rattle.layout.proofs.Marks.{marks-told}
use Rattle.layout.proofs.delays.mark_mode.Goals as goal

pub nonzero_div-period : goal.nonzero_div-period
nonzero_div-period c = (units-told c.args.tables.now c.args.m.0 c.units-u.ensures).0

pub mark_units-requires-clause-u_bound : goal.mark_units-requires-clause-u_bound
mark_units-requires-clause-u_bound c = (units-told c.args.tables.now c.args.m.0 c.units-u.ensures).1

pub returns-clause-marks : goal.returns-clause-marks
returns-clause-marks c start =
    let T = tables_in c.args.tables.now start in
    c.mark_units.ensures.marks start ∙ marks-told T c.args.m.0 c.args.sensors c.args.at _ (c.units-u.ensures start)

pub returns-clause-end : goal.returns-clause-end
returns-clause-end c start =
    let T = tables_in c.args.tables.now start in
    c.mark_units.ensures.end start
    ∙ ap (λ (n : ℕ). c.args.at + n) (size-lent T c.args.m.0 c.args.sensors refl refl refl (c.units-u.ensures start))
