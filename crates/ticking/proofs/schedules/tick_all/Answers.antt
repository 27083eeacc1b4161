-- `ticking::schedules::tick_all` meets its contract: two that run are refused, one has its tick, and the one that has it is a declared
-- task.
use Rattle.std.proofs.Common.{◌∙◌, refl}
use Rattle.program.specs.Program.{program_of}
use Rattle.ticking.proofs.Completed.{outputs-declared}
use Rattle.ticking.proofs.Ticking.{job-declared, tick-collides, tick-rests, tick-runs}
use Rattle.ticking.proofs.schedules.tick_all.Goals as goal

pub returns-in-Nobody : goal.returns-in-Nobody
returns-in-Nobody c T e f r =
    let a = c.args in
    let t = c.turns-running in
    tick-rests a.rows.now a.s t.result (t.ensures r.sorted) (program_of T) a.results.now a.s.left a.s.outputs c.tick_passed.result
    c.tick_passed.ensures c.in-Nobody.is refl refl

pub returns-in-One : goal.returns-in-One
returns-in-One c T e f r =
    let a = c.args in
    let t = c.turns-running in
    let q = t.ensures r.sorted in
    let j = c.in-One in
    tick-runs a.rows.now a.s t.result q (program_of T) a.results.now c.after-left.result c.outputs_after-outputs.result
    c.tick_passed-in-One.result c.tick_passed-in-One.ensures j.job j.is c.after-left.ensures
    (c.outputs_after-outputs.ensures T e f ∙ outputs-declared T a.results.now a.s _ (job-declared a.rows.now a.s t.result q T j.job r j.is))

pub returns-in-Several : goal.returns-in-Several
returns-in-Several c T e f r =
    let a = c.args in
    let t = c.turns-running in
    tick-collides a.rows.now a.s t.result (t.ensures r.sorted) (program_of T) a.results.now c.in-Several.is
