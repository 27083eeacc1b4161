-- `runs::unit::watch` meets its contract: after every tick, those left come to what all come to.
use Rattle.runs.proofs.Watching.{watch-outside, watch-more}
use Rattle.runs.proofs.unit.watch.Goals as goal

pub returns-then-runs-until : goal.returns-then-runs-until
returns-then-runs-until c =
    let l = c.loop-e in
    let t = c.tick-turn in
    let n = c.open_until-until in
    watch-outside _ _ _ _ _ _ _ l.rest l.position l.until l.e t.result _ n.result c.loop-e-test.true l.invariant
    t.ensures c.is_some-runs.ensures n.ensures c.if-runs-until.true

pub loop-e-preserved : goal.loop-e-preserved
loop-e-preserved c =
    let l = c.loop-e in
    let t = c.tick-turn in
    let n = c.open_until-until in
    watch-more _ _ _ _ _ _ _ l.rest l.position l.until l.e t.result _ n.result c.loop-e-test.true l.invariant
    t.ensures c.is_some-runs.ensures n.ensures c.if-runs-until.false c.after-next.result c.after-next.ensures
