-- A number that is held at the first that is too large: how far it goes, and that it does not matter when it is held.
use Prim.Native.Nat.{ℕ, ◌+◌, ◌*◌, ◌<◌, ◌≤◌}
use mathlib.Core.Path.{◌≡◌, refl, ap}
use mathlib.Core.Bool.{Bool, true, false}
use native.Mathlib.Omega.{arith}
use lib.Dec.{ltb}
use borrow.Author.Tests.{ltb-true, ltb-false, lt-ltb, le-ltb}
use Rattle.text.specs.Part.{too_large, capped}

pub capped_small : (n : ℕ) → n < too_large → capped n ≡ n
unfolding capped
capped_small n h = simp (lt-ltb n too_large h)

pub capped-large : (n : ℕ) → too_large ≤ n → capped n ≡ too_large
unfolding capped
capped-large n h = simp (le-ltb n too_large h)

pub capped-most : (n : ℕ) → capped n ≤ too_large
capped-most n = go (ltb n too_large) refl
  where
    go : (b : Bool) → ltb n too_large ≡ b → capped n ≤ too_large
    go true e = omega (arith, capped_small n (ltb-true n too_large e), ltb-true n too_large e)
    go false e = omega (arith, capped-large n (ltb-false n too_large e))

-- a number that is held already is held alike after one digit more
pub capped-more : (n d : ℕ) → capped (capped n * 10 + d) ≡ capped (n * 10 + d)
capped-more n d = go (ltb n too_large) refl
  where
    go : (b : Bool) → ltb n too_large ≡ b → capped (capped n * 10 + d) ≡ capped (n * 10 + d)
    go true e = ap (λ (k : ℕ). capped (k * 10 + d)) (capped_small n (ltb-true n too_large e))
    go false e =
        let large = capped-large n (ltb-false n too_large e) in
        let far = ltb-false n too_large e in
        let held : too_large ≤ capped n * 10 + d = omega arith in
        let past : too_large ≤ n * 10 + d = omega arith in
        simp (capped-large (capped n * 10 + d) held, capped-large (n * 10 + d) past)
