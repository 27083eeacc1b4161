-- `ticking::schedules::turns` meets its contract: each search begins where the block of the supplier before ends.
use Rattle.std.proofs.Common.{◌≡◌, length, arith, rules}
use Rattle.cells.specs.Limits.{suppliers}
use Rattle.ticking.proofs.Walking.{walk-begun, walk_more, walk-ended}
use Rattle.ticking.proofs.schedules.turns.Goals as goal

pub loop-j-init : goal.loop-j-init
loop-j-init c = (search rules, search rules, λ o. walk-begun _ _)

pub loop-j-preserved : goal.loop-j-preserved
loop-j-preserved c =
    let t = c.tick-turn in
    let b = c.rows_at in
    let f = c.find-at in
    let l = c.loop-j in
    let a = c.args in (
      f.ensures.begin_le_end.1,
      search rules,
      λ o.
          walk_more a.rows.now a.s l.positions l.running l.from l.j f.result b.result.now t.result c.join-running.result o l.invariant.0
          (f.ensures.value o) b.ensures t.ensures c.join-running.ensures (l.invariant.2 o),
    )

pub returns : goal.returns
returns c o =
    let l = c.loop-j in
    let s = c.args.s in
    let e : length s.positions ≡ suppliers = search rules in
    walk-ended _ s l.positions l.running l.from l.j (omega (arith, c.loop-j-test.false, l.invariant.1)) e (l.invariant.2 o)
