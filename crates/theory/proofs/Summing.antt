-- A loop that adds up the numbers below a bound: what was added, and that it stays small where each number does.
use Prim.Native.Nat.{ℕ, suc, ◌+◌, ◌*◌, ◌≤◌, ◌<◌}
use mathlib.Core.Path.{◌≡◌, refl, ap, ◌∙◌}
use native.Mathlib.Nat.{mul-le-mul_right, le_trans}
use native.Mathlib.Numerals.{add-one}
use native.Mathlib.Omega.{arith}
use Rattle.theory.specs.Lists.{sum}
use Rattle.theory.proofs.Lists.{sum-most}

-- after i of n numbers, a loop that adds them up has their sum as its total
pub record Summed (g : ℕ → ℕ) (n i total : ℕ) : Type 0 where
  pub in-range : i ≤ n
  pub all : total ≡ sum g i

module _ (g : ℕ → ℕ) where
  -- a loop that adds up begins with no number and the total 0
  pub summed-none : (n : ℕ) → Summed g n 0 0
  summed-none n = record { in-range = omega arith; all = refl }

  -- a loop that adds up one number more has it in its total
  pub summed-more : (n i total more : ℕ) → i < n → more ≡ g i → Summed g n i total → Summed g n (i + 1) (total + more)
  summed-more n i total more l e h = record { in-range = omega arith; all = rw (add-one i) (omega (arith, h.all)) }

  -- a loop that has been over all numbers has their sum
  pub summed-all : (n i total : ℕ) → n ≤ i → Summed g n i total → total ≡ sum g n
  summed-all n i total l h = let e : i ≡ n = omega (arith, h.in-range) in h.all ∙ ap (sum g) e

  -- where each number is at most c, one number more stays at most n times c
  pub summed-most : (c n i total more : ℕ) → ((k : ℕ) → k < n → g k ≤ c) → i < n → more ≡ g i → Summed g n i total → total + more ≤ n * c
  summed-most c n i total more h l e s =
      le_trans (omega (arith, s.all, sum-most g c (suc i) (λ k b. h k (omega arith)))) (mul-le-mul_right {m = suc i} {n = n} c l)
