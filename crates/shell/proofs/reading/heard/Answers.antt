-- `shell::reading::heard` meets its contract: a turn is one read more, and where the turns run out the text is bad, as after a failure.
use mathlib.Core.Path.{refl, ap}
use mathlib.Core.Bool.{true, false}
use Rattle.intake.specs.Line.{fed}
use Rattle.intake.specs.declared.state.Intake.{Intake}
use Rattle.shell.specs.Reading.{failure, hearing, after_read}
use Rattle.shell.proofs.Hearing.{some_more}
use Rattle.shell.proofs.reading.heard.Goals as goal

pub returns-in-Break : goal.returns-in-Break
returns-in-Break g c =
    let l = c.loop in
    some_more _ (fed l.intake l.room) _ false false _ l.invariant c.in-Break.ensures refl

pub loop-preserved : goal.loop-preserved
loop-preserved g c =
    let l = c.loop in
    some_more _ (fed l.intake l.room) _ true true _ l.invariant c.in-Continue.ensures refl

pub returns : goal.returns
unfolding after_read
returns g c =
    let l = c.loop in
    some_more _ (fed l.intake l.room) _ false false failure l.invariant (ap (λ (i : Intake). hearing (fed i l.room) false) c.as_bad.ensures) refl
