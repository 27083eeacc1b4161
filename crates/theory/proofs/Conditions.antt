-- The laws of conditionals: what a choice by a test comes to, where it is known how the test went and where it is not.
use Prim.Native.Nat.{ℕ}
use mathlib.Core.Path.{◌≡◌, refl, ap}
use mathlib.Core.Bool.{Bool, true, false, cond}
use Rattle.theory.specs.Verdict.{or_else}

module _ {A : Type 0} where
  -- a choice by a test that passed is its first value
  pub cond_yes : {b : Bool} (x y : A) → b ≡ true → cond b x y ≡ x
  cond_yes x y e = ap (λ (c : Bool). cond c x y) e

  -- a choice by a test that failed is its second value
  pub cond_no : {b : Bool} (x y : A) → b ≡ false → cond b x y ≡ y
  cond_no x y e = ap (λ (c : Bool). cond c x y) e

  -- a choice between a value and itself is that value
  pub cond_same : (b : Bool) (x : A) → cond b x x ≡ x
  cond_same true x = refl
  cond_same false x = refl

  -- what holds of either value, as its test went, holds of the choice
  pub cond-all : (P : A → Type 0) (b : Bool) (x y : A) → (b ≡ true → P x) → (b ≡ false → P y) → P (cond b x y)
  cond-all P true x y f g = f refl
  cond-all P false x y f g = g refl

  -- a function of a choice is a choice of its values
  pub cond_of : {B : Type 0} (f : A → B) (b : Bool) (x y : A) → f (cond b x y) ≡ cond b (f x) (f y)
  cond_of f true x y = refl
  cond_of f false x y = refl

-- a refusal that does not apply leaves the rest to decide
pub or-else-no : {b : Bool} (n rest : ℕ) → b ≡ false → or_else b n rest ≡ rest
or-else-no n rest e = ap (λ (c : Bool). or_else c n rest) e
