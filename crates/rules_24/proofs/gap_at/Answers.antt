-- `rules_24::gap_at` meets its contract: the search is made only for a switch that looks at a sensor.
use Prim.Native.Nat.{ℕ}
use mathlib.Core.Path.{◌≡◌, refl, sym, ap, ap₂, ◌∙◌}
use mathlib.Core.Bool.{Bool, true, false, not, ◌&&◌}
use lib.Dec.{eqb}
use Rattle.theory.specs.Search.{any}
use Rattle.program.specs.Tables.{Tables, tables_in, sensor, guard_kind, guard_port, kind_interval, switch_count, switch_mode, switch_driver}
use Rattle.program.specs.Sets.{is_kind}
use Rattle.rules.specs.Missing.{for_missing, gap_at}
use Rattle.rules_24.proofs.gap_at.Goals as goal

-- the test of a row, of the mode, driver and port that it says
asked : (T : Tables) (i m d p : ℕ) (b : Bool) → m ≡ switch_mode T i → d ≡ switch_driver T i → p ≡ guard_port T d
    → (eqb (guard_kind T d) kind_interval && is_kind T sensor p) ≡ b → gap_at T i ≡ (b && not (any (for_missing T m p) (switch_count T)))
unfolding gap_at
asked T i m d p b u v w e = rw (sym e, w, v, u) refl

pub returns-then-is_interval-sensor : goal.returns-then-is_interval-sensor
returns-then-is_interval-sensor c start =
    let T = tables_in c.args.tables.now start in
    ap not (c.has_for_missing.ensures start)
    ∙ sym
    (asked T c.args.i _ _ _ true c.named-m.ensures c.named-d.ensures
    c.port-p.ensures (sym (ap₂ ◌&&◌ (c.is_interval.ensures T refl) (c.is_kind-sensor.ensures T refl)) ∙ c.if-is_interval-sensor.true))

pub returns-else-is_interval-sensor : goal.returns-else-is_interval-sensor
returns-else-is_interval-sensor c start =
    let T = tables_in c.args.tables.now start in
    c.if-is_interval-sensor.false
    ∙ sym
    (asked T c.args.i _ _ _ false c.named-m.ensures c.named-d.ensures
    c.port-p.ensures (sym (ap₂ ◌&&◌ (c.is_interval.ensures T refl) (c.is_kind-sensor.ensures T refl)) ∙ c.if-is_interval-sensor.false))
