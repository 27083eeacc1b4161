-- `compiler::listing::one_mode` meets its contract: the round has the mode's units and ticks.
use mathlib.Core.Path.{refl, ap, ◌∙◌}
use mathlib.Core.List.{List}
use Rattle.program.specs.Tables.{tables_in}
use Rattle.layout.proofs.Limits.{units-told}
use Rattle.words.specs.Written.{Words, written, writes}
use Rattle.compiler.proofs.Modes.{mode-told}
use Rattle.compiler.proofs.listing.one_mode.Goals as goal

pub nonzero_div-round : goal.nonzero_div-round
nonzero_div-round c = (units-told c.args.source.tables.now c.args.m.0 c.units-u.ensures).0

pub all_blocks-requires-clause-units_bound : goal.all_blocks-requires-clause-units_bound
all_blocks-requires-clause-units_bound c = (units-told c.args.source.tables.now c.args.m.0 c.units-u.ensures).1

pub returns : goal.returns
returns c start =
    let a = c.args in
    let T = tables_in a.source.tables.now start in
    c.all_blocks.ensures start
    ∙ ap (λ (os : List Words). writes os (written a.code.now a.at))
    (mode-told T a.source.entries.now a.m a.at (c.units-u.ensures start) c.period-period.ensures)
