-- `runs::turn::moved` meets its contract: from every row passed it comes to the same position.
use mathlib.Core.Path.{◌≡◌}
use Rattle.runs.proofs.Rows.{comes}
use Rattle.runs.proofs.turn.moved.Given as goal

abbrev pub invariant-loop-i : goal.invariant-loop-i
invariant-loop-i l = comes l.block l.elapsed l.left l.i ≡ comes l.block l.elapsed l.left l.position
