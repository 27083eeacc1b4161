-- `rules_1_2::ranges::always_fits` meets its contract: each field read is the definition's column, and two numbers are compared by their
-- bits.
use mathlib.Core.Path.{◌∙◌}
use native.Mathlib.Omega.{arith}
use lib.IntN.{pos}
use Rattle.cells.proofs.Ints.{bits-eq}
use Rattle.cells.proofs.Names.{name-small}
use Rattle.rules.specs.Fields.{always_fits}
use Rattle.rules_1_2.proofs.ranges.always_fits.Goals as goal

pub returns : goal.returns
unfolding always_fits
returns c T e =
    let low = c.low-low in
    let high = c.high-high in
    let l = bits-eq low.result (pos 0) (record { sfits = low.type_inv }) (record { sfits = omega arith }) in
    let h = bits-eq high.result (pos 0) (record { sfits = high.type_inv }) (record { sfits = omega arith }) in
    simp (h, l)
    (simp (
      c.eq.ensures,
      c.of.ensures ∙ name-small 0 (omega arith),
      high.ensures,
      low.ensures,
      c.port-p.ensures,
      c.is.ensures,
      e,
    ))
