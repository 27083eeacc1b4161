-- `answering::printing::print` meets its contract: in each turn what some writes have come to. The measure is what is still to come.
use mathlib.Core.Path.{◌≡◌}
use lib.ListN.{length}
use Rattle.answering.specs.Answer.{answered}
use Rattle.answering.specs.Writing.{spread, pending_of, AfterWrites}
use Rattle.answering.proofs.printing.print.Given as goal

abbrev pub invariant-loop-shown : goal.invariant-loop-shown
invariant-loop-shown g l =
    (length l.buffer ≡ length l.initial.buffer)
    × AfterWrites (answered l.shown l.code) (spread l.initial.sheet l.initial.buffer) (spread l.sheet l.buffer)

abbrev pub decreases-loop-shown : goal.decreases-loop-shown
decreases-loop-shown g l = length (pending_of (answered l.shown l.code) (spread l.sheet l.buffer))
