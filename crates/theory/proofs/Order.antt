-- The order of signed numbers: `omega` reads no ℤ, so each law goes by cases on the signs.
use mathlib.Core.Path.{◌≡◌, refl}
use mathlib.Core.Bool.{Bool, true, false, ◌&&◌}
use native.Mathlib.Omega.{arith}
use lib.IntN.{ℤ, pos, negsuc}
use lib.Signed.{le_z}
use borrow.Author.Tests.{le-leb, leb-true, leb-false}
use Rattle.theory.specs.Claim.{Says}
use Rattle.theory.specs.Order.{◌≤Z◌}
use Rattle.theory.proofs.Bools.{clash, says-and, says-as}

-- a signed number is at most itself
pub le_refl : (a : ℤ) → a ≤Z a
le_refl (pos a) = le-leb a a (omega arith)
le_refl (negsuc a) = le-leb a a (omega arith)

-- a signed number is at most every number that a number which it is at most is at most
pub le_trans : (a b c : ℤ) → a ≤Z b → b ≤Z c → a ≤Z c
le_trans (pos a) (pos b) (pos c) h k = le-leb a c (omega (arith, leb-true a b h, leb-true b c k))
le_trans (pos a) (pos b) (negsuc c) h k = clash {b = false} k refl
le_trans (pos a) (negsuc b) c h k = clash {b = false} h refl
le_trans (negsuc a) (pos b) (pos c) h k = refl
le_trans (negsuc a) (pos b) (negsuc c) h k = clash {b = false} k refl
le_trans (negsuc a) (negsuc b) (pos c) h k = refl
le_trans (negsuc a) (negsuc b) (negsuc c) h k = le-leb c a (omega (arith, leb-true b a h, leb-true c b k))

-- a signed number that is not at most b is at least b
pub le-other : (a b : ℤ) → le_z a b ≡ false → b ≤Z a
le-other (pos a) (pos b) h = le-leb b a (omega (arith, leb-false a b h))
le-other (pos a) (negsuc b) h = refl
le-other (negsuc a) (pos b) h = clash {b = true} refl h
le-other (negsuc a) (negsuc b) h = le-leb a b (omega (arith, leb-false b a h))

-- the test of "at most" says that a signed number is at most another
pub le_z-says : (a b : ℤ) → Says (le_z a b) (a ≤Z b)
le_z-says a b = record { yes = λ e. e; no = λ e p. clash p e }

-- two intervals that are not empty share a number exactly when each begins no later than the other ends
pub overlap : (l h l' h' : ℤ) → l ≤Z h → l' ≤Z h'
    → Says (le_z l h' && le_z l' h) ((z : ℤ) × (l ≤Z z) × (z ≤Z h) × (l' ≤Z z) × (z ≤Z h'))
overlap l h l' h' p q =
    says-as (says-and (le_z-says l h') (le_z-says l' h)) (λ e. shared (le_z l l') refl e.0 e.1)
    (λ w. (le_trans l w.0 h' w.1 w.4, le_trans l' w.0 h w.3 w.2))
  where
    shared : (b : Bool) → le_z l l' ≡ b → l ≤Z h' → l' ≤Z h → (z : ℤ) × (l ≤Z z) × (z ≤Z h) × (l' ≤Z z) × (z ≤Z h')
    shared true e a b = (l', e, b, le_refl l', q)
    shared false e a b = (l, le_refl l, p, le-other l l' e, a)
