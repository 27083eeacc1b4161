-- `layout::delays::mark_units` meets its contract: after k units the marks are those of the first k, and the next block begins behind
-- them.
use native.Mathlib.Nat.{le_trans}
use lib.IntN.{pos}
use Rattle.program.specs.Tables.{tables_in}
use Rattle.layout.specs.Counts.{most_mode, most_code}
use Rattle.layout.proofs.Limits.{few-rows, told-sized, mode-most}
use Rattle.layout.proofs.Walked.{walked_near, walked_all}
use Rattle.layout.proofs.delays.mark_units.Goals as goal

pub mark_block-next-requires-clause-sized : goal.mark_block-next-requires-clause-sized
mark_block-next-requires-clause-sized c =
    let few = few-rows (tables_in c.args.tables.now (pos 0)) (c.requires.in_shape (pos 0)) in
    told-sized _ _ _ _ _ _ few c.requires.sensors_le_max_ports c.loop-k.k c.count-c.ensures

pub mark_block-next-requires-clause-at_le_most_code : goal.mark_block-next-requires-clause-at_le_most_code
mark_block-next-requires-clause-at_le_most_code c =
    let r = c.requires in
    let l = c.loop-k in
    let few = few-rows (tables_in c.args.tables.now (pos 0)) (r.in_shape (pos 0)) in
    walked_near _ _ _ l.invariant most_code most_mode
    (mode-most _ _ _ _ _ _ few r.sensors_le_max_ports l.k (le_trans l.invariant.in-range r.u_bound)) r.most_mode_bound

pub returns-clause-marks : goal.returns-clause-marks
returns-clause-marks c start = (walked_all _ _ _ _ _ _ _ _ c.loop-k-test.false c.loop-k.invariant).0

pub returns-clause-end : goal.returns-clause-end
returns-clause-end c start = (walked_all _ _ _ _ _ _ _ _ c.loop-k-test.false c.loop-k.invariant).1
