-- What the tests of a reading say, and where a missing reading lies.
use Prim.Native.Nat.{◌<◌}
use mathlib.Core.Path.{◌≡◌, refl}
use mathlib.Core.Bool.{true, false}
use native.Mathlib.Omega.{arith}
use lib.IntN.{ℤ, pos, negsuc}
use lib.Signed.{mag}
use borrow.Author.Tests.{le-leb}
use Rattle.theory.specs.Claim.{Says}
use Rattle.theory.specs.Order.{◌≤Z◌}
use Rattle.theory.proofs.Bools.{is_true, says-and}
use Rattle.theory.proofs.Order.{le_z-says}
use Rattle.readings.specs.Reading.{no_reading, inside, is_missing, Inside, greatest, Value, is_value}
use Rattle.cells.proofs.Ints.{eq_z-says, le_antisym}

-- the test of an interval says that the reading lies in it
pub inside-says : (low value high : ℤ) → Says (inside low value high) (Inside low value high)
unfolding inside
inside-says low value high = says-and (le_z-says low value) (le_z-says value high)

-- the test for a missing reading says that it is the no-reading value
pub missing-says : (z : ℤ) → Says (is_missing z) (z ≡ no_reading)
unfolding is_missing
missing-says z = eq_z-says z no_reading

-- a missing reading lies in no interval but one that starts at the no-reading value
pub missing-only-its-own : (low high : ℤ) → no_reading ≤Z low → Inside low no_reading high → low ≡ no_reading
missing-only-its-own low high l w = le_antisym low no_reading w.0 l

-- 01's worked row: no reading is outside -2147483647..2147483647
pub missing-outside : inside (negsuc 2147483646) no_reading (pos 2147483647) ≡ false
unfolding inside
missing-outside = refl

-- no value is below the no-reading value
pub value-least : (z : ℤ) → Value z → no_reading ≤Z z
value-least z v = v.0

-- the test of a value says that it is of 32 bits
pub value-says : (z : ℤ) → Says (is_value z) (Value z)
unfolding is_value
value-says z = says-and (le_z-says no_reading z) (le_z-says z greatest)

-- every i32 is a value
pub fits-value : (z : ℤ) → mag z < 2147483648 → Value z
fits-value (pos n) f = (refl, le-leb n 2147483647 (omega arith))
fits-value (negsuc n) f = (le-leb n 2147483647 (omega arith), refl)

pub fits-is-value : (z : ℤ) → mag z < 2147483648 → is_value z ≡ true
fits-is-value z f = is_true (value-says z) (fits-value z f)
