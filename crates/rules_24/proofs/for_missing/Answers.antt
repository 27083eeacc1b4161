-- `rules_24::for_missing` meets its contract: the row says its mode and its driver, and the driver its guard.
use mathlib.Core.Path.{refl}
use Rattle.rules.specs.Missing.{for_missing}
use Rattle.program.specs.Tables.{tables_in}
use Rattle.rules_24.proofs.for_missing.Goals as goal

pub returns : goal.returns
unfolding for_missing
returns c start =
    let T = tables_in c.args.tables.now start in
    simp (
      c.is_missing_alone.ensures T refl,
      c.looks_at.ensures T refl,
      c.eq.ensures,
      c.named-d.ensures,
      c.named-n.ensures,
    )
    refl
