-- A loop that counts the rows that pass a test: how many were counted, and how many are left.
use Prim.Native.Nat.{ℕ, ◌+◌, ◌-◌, ◌≤◌, ◌<◌}
use mathlib.Core.Path.{◌≡◌, ap}
use mathlib.Core.Bool.{Bool, true, false}
use native.Mathlib.Omega.{arith}
use lib.ListN.{length}
use Rattle.theory.specs.Lists.{those}
use Rattle.theory.proofs.Lists.{those-yes, those-no, those-end}

-- after i of n rows, a loop has counted those that pass p: count of them
pub record Counted (p : ℕ → Bool) (n i count : ℕ) : Type 0 where
  pub few : count ≤ i
  pub all : count + length (those p (λ i. i) (n - i) i) ≡ length (those p (λ i. i) n 0)

-- a loop that counts begins with no row and the count 0
pub begun : (p : ℕ → Bool) (n : ℕ) → Counted p n 0 0
begun p n = let z : n - 0 ≡ n = omega arith in record { few = omega arith; all = simp (z) (omega arith) }

-- one row more passes, and the count grows by one
pub one_more : (p : ℕ → Bool) (n i count : ℕ) → i < n → p i ≡ true → Counted p n i count → Counted p n (i + 1) (count + 1)
one_more p n i count l e h =
    record { few = omega (arith, h.few); all = omega (arith, h.all, ap length (those-yes p (λ i. i) n i l e)) }

-- one row more does not pass, and the count stays
pub no_more : (p : ℕ → Bool) (n i count : ℕ) → i < n → p i ≡ false → Counted p n i count → Counted p n (i + 1) count
no_more p n i count l e h =
    record { few = omega (arith, h.few); all = omega (arith, h.all, ap length (those-no p (λ i. i) n i l e)) }

-- a loop that has been over all rows has counted those that pass
pub ended : (p : ℕ → Bool) (n i count : ℕ) → n ≤ i → Counted p n i count → count ≡ length (those p (λ i. i) n 0)
ended p n i count l h = omega (arith, h.all, ap length (those-end p (λ i. i) n i l))
