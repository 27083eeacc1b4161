-- `rules_1_2::ranges::interval_fits` meets its contract: each field read is the definition's column, and low and high came back through
-- their bits.
use mathlib.Core.Path.{◌≡◌, sym, ap, ◌∙◌}
use lib.Signed.{le_z}
use mir.Syntax.{w32}
use mir.Val.{of_z, to_z}
use Rattle.readings.specs.Reading.{is_missing, is_value}
use Rattle.cells.proofs.Ints.{back, back₂}
use Rattle.readings.proofs.Readings.{fits-is-value}
use Rattle.rules.specs.Fields.{interval_fits}
use Rattle.program.specs.Tables.{tables_in}
use Rattle.rules_1_2.proofs.ranges.interval_fits.Goals as goal

pub returns : goal.returns
unfolding interval_fits
returns c start =
    let T = tables_in c.args.tables.now start in
    let low = c.low-low in
    let high = c.high-high in
    let told-low : c.is_missing.result ≡ is_missing (to_z w32 (of_z w32 low.result)) = c.is_missing.ensures in
    let told-high : c.is_missing-2.result ≡ is_missing (to_z w32 (of_z w32 high.result)) = c.is_missing-2.ensures in
    let of_low = sym (ap is_value low.ensures) ∙ fits-is-value low.result low.type_inv in
    let of-high = sym (ap is_value high.ensures) ∙ fits-is-value high.result high.type_inv in
    simp (told-high ∙ ap is_missing (back high.result high.type_inv), told-low ∙ ap is_missing (back low.result low.type_inv), back₂ le_z low.result high.result low.type_inv high.type_inv)
    (simp (
      c.declared.ensures,
      high.ensures,
      low.ensures,
      c.port-p.ensures,
      c.is.ensures,
      of_low,
      of-high,
    ))
