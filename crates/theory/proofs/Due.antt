-- How often a row of frequency f is due in u units, at the units k that are multiples of u / f; when one row's being due means another's.
use Prim.Native.Nat.{ℕ, zero, suc, ◌+◌, ◌*◌, ◌/◌, ◌%◌, ◌≤◌, ◌∣◌}
use mathlib.Core.Path.{◌≡◌, sym, subst, ◌∙◌}
use mathlib.Core.Bool.{true}
use native.Mathlib.Nat.{mul-add-mod_self_right, mod-eq_of_lt, zero-mod, mod-mod_of_dvd, dvd-mul_right, suc-mul, mul_assoc, mul_comm}
use native.Mathlib.Nat.{eq_of_mul-eq-mul_right, zero-mul}
use native.Mathlib.Omega.{arith}
use lib.Dec.{eqb}
use borrow.Author.Tests.{eqb-true, eq-eqb, ne_eqb}
use Rattle.theory.specs.Lists.{sum}
use Rattle.theory.proofs.Lists.{bit, sum-split}

-- the first j + 1 units of a turn of p units have one multiple of p
one-turn : (q p j : ℕ) → suc j ≤ p → sum (λ k. bit (eqb ((q * p + k) % p) 0)) (suc j) ≡ 1
one-turn q p zero h = rw (eq-eqb ((q * p + 0) % p) 0 (mul-add-mod_self_right q p 0 ∙ zero-mod p))
one-turn q p (suc j) h =
    let e : (q * p + suc j) % p ≡ suc j = mul-add-mod_self_right q p (suc j) ∙ mod-eq_of_lt h in
    rw (ne_eqb ((q * p + suc j) % p) 0 (λ z. omega arith)) (omega (arith, one-turn q p j (omega arith)))

-- one turn of p units has one multiple of p
turn : (q p : ℕ) → 1 ≤ p → sum (λ k. bit (eqb ((q * p + k) % p) 0)) p ≡ 1
turn q zero h = omega arith
turn q (suc j) h = one-turn q (suc j) j (omega arith)

-- q turns of p units have q multiples of p
turns : (q p : ℕ) → 1 ≤ p → sum (λ k. bit (eqb (k % p) 0)) (q * p) ≡ q
turns zero p h = rw zero-mul
turns (suc q) p h =
    rw (suc-mul, sum-split (λ k. bit (eqb (k % p) 0)) (q * p) p)
    (omega (arith, turns q p h, turn q p h))

-- a row of frequency f is due at f of the u units
pub due-times : (u f : ℕ) → 1 ≤ u → (u / f) * f ≡ u → sum (λ k. bit (eqb (k % (u / f)) 0)) u ≡ f
due-times u f h e =
    let c : f * (u / f) ≡ u = mul_comm f (u / f) ∙ e in
    subst (λ n. sum (λ k. bit (eqb (k % (u / f)) 0)) n ≡ f) c (turns f (u / f) (some (u / f) e))
  where
    some : (p : ℕ) → p * f ≡ u → 1 ≤ p
    some zero z = omega (arith, zero-mul f)
    some (suc p) z = omega arith

-- every row is due at unit 0
pub due-first : (u f : ℕ) → eqb (0 % (u / f)) 0 ≡ true
due-first u f = eq-eqb (0 % (u / f)) 0 (zero-mod (u / f))

-- where frequency c divides frequency f, a row of c is due only where a row of f is
pub due-whole : (u f c k : ℕ) → 1 ≤ c → (u / f) * f ≡ u → (u / c) * c ≡ u → (f / c) * c ≡ f
    → eqb (k % (u / c)) 0 ≡ true → eqb (k % (u / f)) 0 ≡ true
due-whole u f c k hc ef ec efc d = eq-eqb (k % (u / f)) 0 (sym (mod-mod_of_dvd (u / f) k dv) ∙ rw z (zero-mod (u / f)))
  where
    z : k % (u / c) ≡ 0
    z = eqb-true (k % (u / c)) 0 d

    same : u / c ≡ (u / f) * (f / c)
    same = eq_of_mul-eq-mul_right c hc (u / c) ((u / f) * (f / c)) (ec ∙ sym (mul_assoc (u / f) (f / c) c ∙ rw efc ef))

    dv : (u / f) ∣ (u / c)
    dv = rw same (dvd-mul_right (u / f) (f / c))
