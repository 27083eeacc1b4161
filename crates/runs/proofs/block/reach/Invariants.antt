-- `runs::block::reach` meets its contract: each row asked leaves at most half of the rows, and the row sought is among them.
use Prim.Native.Nat.{◌-◌, ◌≤◌}
use Rattle.runs.specs.Schedule.{schedule_count, Sorted, reaches}
use Rattle.runs.proofs.Halving.{Halved, halvings}
use Rattle.runs.proofs.block.reach.Given as goal

abbrev pub invariant-loop-low : goal.invariant-loop-low
invariant-loop-low l =
    (l.from ≤ l.low) × (l.low ≤ l.high) × (l.high ≤ schedule_count l.rows)
    × (Sorted l.rows → Halved (reaches l.rows l.supplier l.address) (schedule_count l.rows) l.from l.low l.high)

abbrev pub decreases-loop-low : goal.decreases-loop-low
decreases-loop-low l = halvings (l.high - l.low)
