-- Numbers that name rows: which numbers of a table do, and which name what.
use Prim.Native.Nat.{ℕ, suc, ◌+◌, ◌<◌, ◌≤◌}
use mathlib.Core.Path.{◌≡◌, refl, ap}
use mathlib.Core.Bool.{Bool, true, false}
use mathlib.Core.List.{List}
use mathlib.Core.Logic.{◌↔◌}
use native.Mathlib.Omega.{arith}
use lib.Dec.{ltb}
use lib.IntN.{ℤ, pos, negsuc}
use lib.ListN.{length, get_or-eq_default}
use lib.Signed.{lt_z}
use borrow.Author.Tests.{ltb-true, ltb-false, lt-ltb, le-ltb, le-leb}
use Rattle.theory.specs.Order.{◌≤Z◌}
use Rattle.theory.proofs.Bools.{clash}
use Rattle.cells.specs.Cell.{index_of, unnamed, name_of, num_at}

-- a number that names a row below k is one of 0..k-1
pub index_below : (z : ℤ) (k : ℕ) → k ≤ 2147483648 → (index_of z < k) ↔ ((pos 0 ≤Z z) × (lt_z z (pos k) ≡ true))
index_below (pos n) k h = (λ l. (le-leb 0 n (omega arith), lt-ltb n k l), λ r. ltb-true n k r.1)
index_below (negsuc n) k h = (λ l. absurd (omega arith), λ r. clash {b = false} r.0 refl)

-- a name that is not `unnamed` is the number itself
pub name-small : (n : ℕ) → n < unnamed → name_of n ≡ n
unfolding name_of
name-small n h = simp (lt-ltb n unnamed h)

-- the number after a name, as it is added
pub plus_one : (n : ℕ) → n + 1 ≡ suc n
plus_one n = omega arith

-- below some rows that a kind can name, the name after a name is the number after it
pub next-name : (n : ℕ) {k : ℕ} → n < k → k < unnamed → name_of (suc n) ≡ suc n
next-name n l h = name-small (suc n) (omega arith)

-- a number from `unnamed` on names nothing
pub name-unnamed : (n : ℕ) → unnamed ≤ n → name_of n ≡ unnamed
unfolding name_of
name-unnamed n h = simp (le-ltb n unnamed h)

-- a name below k is the name of a number below k
pub name_below : (n k : ℕ) → k ≤ unnamed → (name_of n < k) ↔ (n < k)
name_below n k h = go (ltb n unnamed) refl
  where
    go : (b : Bool) → ltb n unnamed ≡ b → (name_of n < k) ↔ (n < k)
    go true e = let s = name-small n (ltb-true n unnamed e) in (λ l. omega arith, λ l. omega arith)
    go false e =
        let s = name-unnamed n (ltb-false n unnamed e) in
        (λ l. absurd (omega arith), λ l. absurd (omega (arith, ltb-false n unnamed e)))

-- past the end of a table stands 0
pub past_end : (t : List ℤ) (i : ℕ) → length t ≤ i → num_at t i ≡ 0
unfolding num_at
past_end t i h = ap index_of (get_or-eq_default t (pos 0) h)
