-- Numbers 9 and 10: the units of a mode, and task frequencies against switch frequencies.
-- A frequency 0 has no multiple from 1 to the limit.
use Prim.Native.Nat.{ℕ, zero, suc, ◌*◌, ◌/◌, ◌≤◌, ◌<◌, ◌∣◌}
use mathlib.Core.Path.{◌≡◌, refl}
use native.Mathlib.Nat.{div-mul_cancel, zero-mul}
use native.Mathlib.Omega.{arith}
use Rattle.theory.specs.Claim.{Bars}
use Rattle.theory.proofs.Bools.{says_eq, bars-and, bars-as, ◌or◌, bars-lt}
use Rattle.theory.proofs.Search.{bars-any}
use Rattle.theory.proofs.Rows.{one_table}
use Rattle.theory.proofs.Verdict.{Rowed, bars-rows}
use Rattle.cells.specs.Limits.{max_units}
use Rattle.program.specs.Tables.{Tables, mode_count, mode_period, modes_at, switches_at}
use Rattle.program.specs.Units.{units}
use Rattle.program.proofs.Units.{misses-bars, units-least, units-only}
use Rattle.rules.specs.Fields.{Fields}
use Rattle.rules.specs.Timing.{units_wrong, unit_tests, units_bad, ModeUnits, UnitsFit, unit_rules, not_whole, whole_wrong, whole_tests}
use Rattle.rules.specs.Timing.{whole_bad, Whole, WholeRow, whole_rules}

module _ (T : Tables) where
  -- the test of a mode's units bars what rule 9 asks of it
  unit-bars : (m : ℕ) → Bars (units_wrong T m) (ModeUnits T m)
  unfolding units_wrong
  unit-bars m =
      bars-as (bars-lt max_units (units T m) or misses-bars (mode_period T m) (units T m))
      (λ (l, d). record { count = units T m; is-least = units-least T m l; few = l; divides = d })
      (λ u. let e = units-only T m u.count u.is-least u.few in (rw e u.few, rw e u.divides))

  -- number 9 and rule 9 speak of the same rows
  pub units-rowed : Rowed (units_bad T) (unit_tests T) (unit_rules T)
  unfolding units_bad
  units-rowed = (one_table modes_at (λ m h w. unit-bars m), refl)

  -- number 9 bars units, in every mode, that are within the limit and divide the period
  pub units-bar : Bars (units_bad T) (UnitsFit T)
  units-bar = bars-rows (unit_tests T) (unit_rules T) units-rowed (λ (g, _). g) (λ g. (g, tt))

  -- where rule 9 holds, the units of a declared mode are within the limit
  pub units-few : UnitsFit T → (m : ℕ) → m < mode_count T → units T m ≤ max_units
  units-few w m l = let u = w m l in rw (units-only T m u.count u.is-least u.few) u.few

  -- where rule 9 holds, the units of a declared mode divide its period
  pub units-divide : UnitsFit T → (m : ℕ) → m < mode_count T → units T m ∣ mode_period T m
  units-divide w m l = let u = w m l in rw (units-only T m u.count u.is-least u.few) u.divides

  -- where rules 2 and 9 hold, a unit of a declared mode has a tick
  pub ticks-some : Fields T → UnitsFit T → (m : ℕ) → m < mode_count T → 1 ≤ mode_period T m / units T m
  ticks-some f w m l = go (mode_period T m / units T m) (div-mul_cancel _ (units-divide w m l))
    where
      go : (n : ℕ) → n * units T m ≡ mode_period T m → 1 ≤ n
      go zero e = omega (arith, (f.modes m l).0, zero-mul (units T m))
      go (suc n) e = omega arith

  -- the test of a switch's frequency bars what rule 10 asks of it
  whole-row-bars : (s : ℕ) → Bars (whole_wrong T s) (WholeRow T s)
  unfolding whole_wrong not_whole
  whole-row-bars s = bars-any _ _ (λ i. bars-and (says_eq _ _) (misses-bars _ _)) _

  -- number 10 and rule 10 speak of the same rows
  pub whole-rowed : Rowed (whole_bad T) (whole_tests T) (whole_rules T)
  unfolding whole_bad
  whole-rowed = (one_table switches_at (λ s h w. whole-row-bars s), refl)

  -- number 10 bars task frequencies that are multiples of the switch frequencies of their mode
  pub whole-bars : Bars (whole_bad T) (Whole T)
  whole-bars = bars-rows (whole_tests T) (whole_rules T) whole-rowed (λ (g, _) s i h l. g s h i l) (λ g. (λ s h i l. g s i h l, tt))
