-- Signed numbers: what the bits of one say, when two are equal, and the number that each names.
use Prim.Native.Nat.{ℕ, suc, ◌<◌, ◌≤◌, ◌-◌, ◌^◌}
use mathlib.Core.Path.{◌≡◌, refl, sym, ap, ap₂, ◌∙◌}
use mathlib.Core.Bool.{true, false}
use native.Mathlib.Omega.{arith}
use lib.Dec.{T, eqb}
use lib.IntN.{ℤ, pos, negsuc, nat_abs, pos-ne-negsuc}
use lib.Signed.{mag, non_neg, lt_z}
use borrow.Author.Tests.{ltb-true, leb-true, eq-eqb, ne_eqb, eqb-true, eqb-false}
use mir.Syntax.{w32}
use mir.Val.{SFits, of_z, to_z}
use mir.Facts.{to_z-of_z}
use Rattle.theory.specs.Claim.{Says}
use Rattle.theory.specs.Order.{◌≤Z◌}
use Rattle.theory.proofs.Bools.{clash, iff}
use Rattle.cells.specs.Cell.{eq_z, index_of}

-- a signed number that is passed on goes through its bits: read back, it is the number
pub back : (z : ℤ) → mag z < 2147483648 → to_z w32 (of_z w32 z) ≡ z
back z f = to_z-of_z {w = w32} (record { sfits = f })

-- what a function of two signed numbers says of the two that it was passed
pub back₂ : {A : Type 0} (f : ℤ → ℤ → A) (x y : ℤ) → mag x < 2147483648 → mag y < 2147483648 → f (to_z w32 (of_z w32 x)) (to_z w32 (of_z w32 y)) ≡ f x y
back₂ f x y g h = ap₂ f (back x g) (back y h)

-- what a function of three signed numbers says of the three that it was passed
pub back₃ : {A : Type 0} (f : ℤ → ℤ → ℤ → A) (x y z : ℤ) → mag x < 2147483648 → mag y < 2147483648 → mag z < 2147483648
    → f (to_z w32 (of_z w32 x)) (to_z w32 (of_z w32 y)) (to_z w32 (of_z w32 z)) ≡ f x y z
back₃ f x y z g h k = back₂ (λ (p q : ℤ). f p q (to_z w32 (of_z w32 z))) x y g h ∙ ap (f x y) (back z k)

-- the machine compares bits: they are equal exactly where the numbers are
pub bits-eq : (a b : ℤ) → SFits w32 a → SFits w32 b → eqb (of_z w32 a) (of_z w32 b) ≡ eq_z a b
bits-eq (pos a) (pos b) f g = refl
bits-eq (pos a) (negsuc b) f g = ne_eqb a (2 ^ 32 - suc b) (λ e. omega (arith, f.sfits, g.sfits))
bits-eq (negsuc a) (pos b) f g = ne_eqb (2 ^ 32 - suc a) b (λ e. omega (arith, f.sfits, g.sfits))
bits-eq (negsuc a) (negsuc b) f g =
    iff (eqb (2 ^ 32 - suc a) (2 ^ 32 - suc b)) (eqb a b)
    (λ e. eq-eqb a b (omega (arith, f.sfits, g.sfits, eqb-true (2 ^ 32 - suc a) (2 ^ 32 - suc b) e)))
    (λ e. eq-eqb (2 ^ 32 - suc a) (2 ^ 32 - suc b) (ap (λ (n : ℕ). 2 ^ 32 - suc n) (eqb-true a b e)))

-- two numbers are equal where the test says so
pub eq_z-says : (a b : ℤ) → Says (eq_z a b) (a ≡ b)
eq_z-says (pos a) (pos b) =
    record { yes = λ e. ap pos (eqb-true a b e); no = λ e p. eqb-false a b e (ap mag p) }
eq_z-says (pos a) (negsuc b) = record { yes = λ e. clash {b = false} e refl; no = λ e p. pos-ne-negsuc a b p }
eq_z-says (negsuc a) (pos b) = record { yes = λ e. clash {b = false} e refl; no = λ e p. pos-ne-negsuc b a (sym p) }
eq_z-says (negsuc a) (negsuc b) =
    record { yes = λ e. ap negsuc (eqb-true a b e); no = λ e p. eqb-false a b e (ap mag p) }

-- two numbers are equal where each is at most the other
pub le_antisym : (a b : ℤ) → a ≤Z b → b ≤Z a → a ≡ b
le_antisym (pos a) (pos b) h k = ap pos (omega (arith, leb-true a b h, leb-true b a k))
le_antisym (pos a) (negsuc b) h k = clash {b = false} h refl
le_antisym (negsuc a) (pos b) h k = clash {b = false} k refl
le_antisym (negsuc a) (negsuc b) h k = ap negsuc (omega (arith, leb-true b a h, leb-true a b k))

-- a negative number names 2147483648
pub index-neg : (z : ℤ) → lt_z z (pos 0) ≡ true → index_of z ≡ 2147483648
index-neg (pos n) e = absurd (omega (arith, ltb-true n 0 e))
index-neg (negsuc n) e = refl

-- a number that is not negative names itself
pub index-pos : (z : ℤ) → lt_z z (pos 0) ≡ false → T (non_neg z) × (nat_abs z ≡ index_of z)
index-pos (pos n) e = (tt, refl)
index-pos (negsuc n) e = clash {b = true} refl e

-- what a number of 32 bits names fits every index
pub index-small : (z : ℤ) → SFits w32 z → index_of z ≤ 2147483648
index-small (pos n) f = omega (arith, f.sfits)
index-small (negsuc n) f = omega arith
