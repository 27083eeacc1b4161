-- `ticking::range::out_of_range` meets its contract: the state says its addresses and ticks, the two searches the rest.
use Rattle.std.proofs.Common.{Bool, ◌||◌, ltb, leb, ap₂}
use Rattle.cells.specs.Limits.{max_elapsed, max_remaining}
use Rattle.machine.specs.Advance.{state_out}
use Rattle.ticking.proofs.range.out_of_range.Goals as goal

pub returns : goal.returns
unfolding state_out
returns c =
    let a = c.args in
    ap₂
    (λ (long far : Bool).
    (leb a.instructions a.s.pending || leb a.instructions a.s.current)
    || (ltb max_elapsed a.s.elapsed || ltb max_remaining a.s.remaining)
    || long
    || far)
    c.some_long.ensures c.some_far.ensures
