-- `layout::counts::mode_size` meets its contract: the sizes of the units so far, each no more than the most.
use native.Mathlib.Omega.{arith}
use lib.IntN.{pos}
use Rattle.theory.proofs.Summing.{summed-most, summed-more, summed-all}
use Rattle.layout.specs.Counts.{most_block}
use Rattle.layout.proofs.Limits.{unit-most}
use Rattle.layout.proofs.counts.mode_size.Goals as goal

pub overflow_add-total : goal.overflow_add-total
overflow_add-total c =
    let r = c.requires in
    let most = summed-most _ most_block _ _ _ _ (λ k l. unit-most _ _ _ _ _ _ r.few r.sensors_le_max_ports k) c.loop-k-test.true (c.unit_size-total.ensures (pos 0)) c.loop-k.invariant in
    record { fits = omega (arith, r.u_bound, most) }

pub loop-k-preserved : goal.loop-k-preserved
loop-k-preserved c = summed-more _ _ _ _ _ c.loop-k-test.true (c.unit_size-total.ensures (pos 0)) c.loop-k.invariant

pub returns : goal.returns
returns c start = summed-all _ _ _ _ c.loop-k-test.false c.loop-k.invariant
