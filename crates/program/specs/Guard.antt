-- A driver's guard: always, or an interval on one port. When it holds, and when two can hold together.
use Rattle.std.specs.Prelude.{ℕ, ◌≡◌, Bool, true, false, not, ◌&&◌, ◌||◌, eqb, ℤ}
use Rattle.std.specs.Int.Signed.{le_z}
use Rattle.readings.specs.Reading.{inside, Value}
use Rattle.program.specs.Tables.{Tables, guard_kind, guard_port, guard_low, guard_high, kind_always}

pub data Guard : Type 0 where
  always : Guard
  interval : ℕ → ℤ → ℤ → Guard

-- the guard of driver d
abbrev pub guard_of : Tables → ℕ → Guard
guard_of T d = elim (eqb (guard_kind T d) kind_always) [ true ↦ always | false ↦ interval (guard_port T d) (guard_low T d) (guard_high T d) ]

-- the guard holds for a valuation of the ports
abbrev pub holds : Guard → (ℕ → ℤ) → Bool
holds always v = true
holds (interval p low high) v = inside low (v p) high

-- two guards can both hold for one valuation, as a test (no interval is empty where number 2 does not apply)
abbrev pub meet : Guard → Guard → Bool
meet always h = true
meet (interval p l h) always = true
meet (interval p l h) (interval q k g) = not (eqb p q) || (le_z l g && le_z k h)

-- two guards both hold for some valuation, which has any value of 32 bits at each port, no reading too
pub record Meet (g h : Guard) : Type 0 where
  pub valuation : ℕ → ℤ
  pub values : (p : ℕ) → Value (valuation p)
  pub one_holds : holds g valuation ≡ true
  pub other-holds : holds h valuation ≡ true
