-- `layout::delays::fill` meets its contract: after k modes the marks and the ticks are those of the first k, and the next
-- one begins behind them.
use Prim.Native.Nat.{ℕ, ◌+◌}
use mathlib.Core.Path.{refl, ap, ◌∙◌}
use lib.IntN.{pos}
use lib.ListN.{set}
use Rattle.theory.proofs.Filled.{filled_more}
use Rattle.program.specs.Tables.{tables_in, mode_count}
use Rattle.program.specs.Units.{units}
use Rattle.layout.specs.Layout.{unit_counts, size_in}
use Rattle.layout.specs.Delays.{units_marked, modes_marked, ticks_in}
use Rattle.layout.proofs.Limits.{told-most, few-ports, few-sensors, mode-named}
use Rattle.layout.proofs.Laid.{mode-near}
use Rattle.layout.proofs.Walked.{walked_more, walked_all}
use Rattle.layout.proofs.delays.fill.Goals as goal

pub sensors-sensors-requires : goal.sensors-sensors-requires
sensors-sensors-requires c = few-ports (tables_in c.args.tables.now (pos 0)) (c.requires (pos 0))

pub mark_mode-at-requires-clause-sensors_le_max_ports : goal.mark_mode-at-requires-clause-sensors_le_max_ports
mark_mode-at-requires-clause-sensors_le_max_ports c =
    told-most c.sensors-sensors.ensures (few-sensors (tables_in c.args.tables.now (pos 0)) (c.requires (pos 0)))

pub mark_mode-at-requires-clause-most_mode_bound : goal.mark_mode-at-requires-clause-most_mode_bound
mark_mode-at-requires-clause-most_mode_bound c =
    let T = tables_in c.args.tables.now (pos 0) in
    let few = told-most c.sensors-sensors.ensures (few-sensors T (c.requires (pos 0))) in
    mode-near T c.sensors-sensors.result (c.requires (pos 0)) few c.loop-k.k c.loop-k-test.true (c.loop-k.invariant (pos 0)).0.ends

pub loop-k-preserved : goal.loop-k-preserved
loop-k-preserved c start =
    let T = tables_in c.args.tables.now start in
    let s = c.sensors-sensors.result in
    let l = c.loop-k in
    let w = l.invariant start in
    let told = c.mark_mode-at.ensures in
    let named = mode-named T (c.requires start) c.loop-k-test.true c.of.ensures in (
      walked_more _ _ _ _ _ _ _ _ _ _ c.loop-k-test.true
          (told.end start ∙ ap (λ (m : ℕ). l.at + size_in T s m) named)
          (told.marks start ∙ ap (λ (m : ℕ). units_marked (unit_counts T s m) m l.at (units T m) l.marks) named)
          w.0,
      told.ticks start
          ∙ ap (λ (m : ℕ). set l.ticks m (ticks_in T m)) named
          ∙ filled_more (ticks_in T) c.args.ticks.now l.k _ _ w.1 refl,
    )

pub returns-clause-marks : goal.returns-clause-marks
returns-clause-marks c start =
    let T = tables_in c.args.tables.now start in
    (walked_all _ _ _ _ _ _ _ _ c.loop-k-test.false (c.loop-k.invariant start).0).0
    ∙ ap (λ (n : ℕ). modes_marked T n (λ m. m) (mode_count T) c.args.marks.now) c.sensors-sensors.ensures
