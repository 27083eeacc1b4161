-- `intake::state::Intake::feed_all` meets its contract. The loop's invariant: the bytes that are left, fed to what there is, come to
-- what all bytes come to.
use mathlib.Core.Path.{◌≡◌}
use lib.ListN.{drop}
use Rattle.intake.specs.Line.{fed}
use Rattle.intake.specs.Bytes.{fed_all}
use Rattle.intake.proofs.state.Intake.feed_all.Given as goal

abbrev pub invariant-loop-b : goal.invariant-loop-b
invariant-loop-b l = fed_all (fed l.next l.room) (drop l.b-index l.bytes) ≡ fed_all (fed l.initial.next l.initial.room) l.bytes
