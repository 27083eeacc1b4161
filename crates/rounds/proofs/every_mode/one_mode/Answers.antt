-- `rounds::every_mode::one_mode` meets its contract: its units and their length are those of the tables.
use Prim.Native.Nat.{ℕ, ◌/◌, ◌≤◌}
use mathlib.Core.Path.{refl, ◌∙◌}
use native.Mathlib.Nat.{div-le_self, le_trans}
use Rattle.std.specs.Prelude.{Result}
use Rattle.cells.specs.Limits.{max_period}
use Rattle.program.specs.Tables.{tables_in, mode_period}
use Rattle.program.specs.Units.{units}
use Rattle.layout.specs.declared.counts.Counts.{Counts}
use Rattle.layout.specs.Counts.{counts_in}
use Rattle.layout.proofs.Limits.{told-most, units-told}
use Rattle.runs.specs.Round.{worst_break, nothing}
use Rattle.rounds.specs.Course.{course_in, block_at, rows_at_future, row_before}
use Rattle.rounds.specs.declared.round.Reached.{Reached}
use Rattle.rounds.specs.declared.units.Broken.{Broken}
use Rattle.rounds.specs.Breaks.{rounded}
use Rattle.rounds.proofs.every_mode.one_mode.Goals as goal

pub nonzero_div-ticks : goal.nonzero_div-ticks
nonzero_div-ticks c = (units-told c.args.asked.tables.now _ c.units-u.ensures).0

pub one_round-requires : goal.one_round-requires
one_round-requires c =
    let r = c.requires in
    let few : c.period-period.result ≤ max_period = told-most c.period-period.ensures (r.periods c.args.m.0 r.m_bound) in
    record {
      in_shape = r.in_shape;
      sensors_le_max_ports = r.sensors_le_max_ports;
      u_bound = (units-told c.args.asked.tables.now _ c.units-u.ensures).1;
      ticks_le_max_period = le_trans (div-le_self _ _) few;
      most_mode_bound = r.most_mode_bound;
      sorted = r.sorted;
      come = r.come;
    }

pub returns : goal.returns
returns c start =
    let a = c.args in
    let T = tables_in a.asked.tables.now start in
    let n = c.units-u.ensures start in
    let come : ℕ → ℕ → Result Reached Broken =
    λ u ticks.
    let counts : ℕ → Counts = counts_in T.invocations T.updates T.switches a.asked.sensors a.m.0 u in
    let course = course_in T.tasks T.invocations a.asked.windows.now a.asked.supplier a.m.0 u ticks in
    rounded (worst_break (course (rows_at_future a.asked.part.now a.asked.supplier counts a.begin.at)) nothing) (block_at counts a.begin.at u)
    (row_before a.asked.part.now a.asked.supplier counts a.begin.at a.begin.row u) in
    ◌∙◌ {b = come c.units-u.result (c.period-period.result / c.units-u.result)} {c = come (units T a.m.0) (mode_period T a.m.0 / units T a.m.0)}
    (c.one_round.ensures start) (λ j. come (n j) (c.period-period.ensures j / n j))
