-- A reading, and when it lies in an interval. A missing reading is the least number of 32 bits.
use Rattle.std.specs.Prelude.{Bool, ◌&&◌, ℤ, pos, negsuc}
use Rattle.std.specs.Int.Signed.{le_z}
use Rattle.theory.specs.Order.{◌≤Z◌}
use Rattle.cells.specs.Cell.{eq_z}

-- the no-reading value, -2147483648
abbrev pub no_reading : ℤ
no_reading = negsuc 2147483647

-- the test that a value lies in an interval: low ≤ value ≤ high
unfoldable pub inside : ℤ → ℤ → ℤ → Bool
inside low value high = le_z low value && le_z value high

-- the test that a value is the no-reading value
unfoldable pub is_missing : ℤ → Bool
is_missing value = eq_z value no_reading

-- a value lies in an interval, as a claim
abbrev pub Inside : ℤ → ℤ → ℤ → Type 0
Inside low value high = (low ≤Z value) × (value ≤Z high)

-- "a value is a signed 32-bit number"
abbrev pub greatest : ℤ
greatest = pos 2147483647

abbrev pub Value : ℤ → Type 0
Value z = (no_reading ≤Z z) × (z ≤Z greatest)

-- the test that a number is a value
unfoldable pub is_value : ℤ → Bool
is_value z = le_z no_reading z && le_z z greatest
