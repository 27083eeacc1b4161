-- `rounds::own::Course::released` meets its contract: what is left of the rows is still to be released.
use mathlib.Core.Path.{ap, ◌∙◌}
use lib.ListN.{set}
use Rattle.rounds.proofs.Releases.{releasing-one, releasing-no}
use Rattle.rounds.proofs.own.Course.released.Goals as goal
use Rattle.rounds.proofs.own.Course.released.Goals.{then-own_due, else-own_due}

pub loop-i-preserved : goal.loop-i-preserved
loop-i-preserved c =
    let l = c.loop-i in
    let below = c.loop-i-test.true in
    let test = c.own_due.ensures in
    elim c.if-own_due.branch [
      | then-own_due w ↦ releasing-one _ _ _ _ _ l.i below test w.if-own_due.true w.named-own.ensures
          (w.left-is ∙ w.put_left.ensures ∙ ap (set l.left w.named-own.result.0) w.worst.ensures) l.invariant
      | else-own_due w ↦ releasing-no _ _ _ _ _ l.i below test w.if-own_due.false w.left-is l.invariant
    ]
