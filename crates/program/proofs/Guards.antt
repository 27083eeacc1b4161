-- Guards that hold together: two that hold for one valuation can hold for one of 32 bits, and the test of two guards says that.
-- Assumes that the bounds of intervals are of 32 bits (`Bounded`), and for the test that no interval is empty (`Sound`).
use Prim.Native.Nat.{ℕ}
use mathlib.Core.Path.{◌≡◌, refl, sym, ap, ap₂}
use mathlib.Core.Bool.{Bool, true, false, cond, not, ◌&&◌, ◌||◌}
use mathlib.Core.Logic.{◌⊎◌, inl, inr, ⊎_elim}
use lib.Dec.{eqb}
use lib.IntN.{ℤ, pos}
use lib.Signed.{le_z}
use borrow.Author.Tests.{eqb-true, eqb-false, eq-eqb, ne_eqb}
use Rattle.theory.specs.Claim.{Says}
use Rattle.theory.specs.Order.{◌≤Z◌}
use Rattle.theory.proofs.Bools.{clash, is_true, says-not, says-or, says-as, says_eq}
use Rattle.theory.proofs.Order.{le_refl, le_trans, overlap}
use Rattle.readings.specs.Reading.{inside, Inside, Value, no_reading}
use Rattle.readings.proofs.Readings.{inside-says}
use Rattle.program.specs.Tables.{Tables, guard_kind, guard_port, guard_low, guard_high, kind_always}
use Rattle.program.specs.Guard.{Guard, always, interval, guard_of, holds, meet, Meet}

-- the bounds of an interval are of 32 bits
abbrev pub Bounded : Guard → Type 0
Bounded always = Unit {0}
Bounded (interval p low high) = Value low × Value high

-- what lies between bounds of 32 bits is of 32 bits
between : (p : ℕ) (low high : ℤ) (v : ℕ → ℤ) → Bounded (interval p low high) → holds (interval p low high) v ≡ true → Value (v p)
between p low high v b h =
    let w = (inside-says low (v p) high).yes h in
    (le_trans no_reading low (v p) b.0.0 w.0, le_trans (v p) high _ w.1 b.1.1)

-- two guards that hold for one valuation, of whatever values, can hold for one of 32 bits
pub hold-meet : (g h : Guard) (v : ℕ → ℤ) → Bounded g → Bounded h → holds g v ≡ true → holds h v ≡ true → Meet g h
hold-meet always always v b c e f = record { valuation = λ r. pos 0; values = λ r. (refl, refl); one_holds = refl; other-holds = refl }
hold-meet always (interval q k j) v b c e f =
    record { valuation = λ r. v q; values = λ r. between q k j v c f; one_holds = refl; other-holds = f }
hold-meet (interval p l h) always v b c e f =
    record { valuation = λ r. v p; values = λ r. between p l h v b e; one_holds = e; other-holds = refl }
hold-meet (interval p l h) (interval q k j) v b c e f =
    record {
      valuation = λ r. cond (eqb r p) (v p) (v q);
      values = λ r. either (eqb r p);
      one_holds = rw (eq-eqb p p refl) e;
      other-holds = at-q (eqb q p) refl;
    }
  where
    either : (t : Bool) → Value (cond t (v p) (v q))
    either true = between p l h v b e
    either false = between q k j v c f

    at-q : (t : Bool) → eqb q p ≡ t → inside k (cond t (v p) (v q)) j ≡ true
    at-q true s = rw (← (eqb-true q p s)) f
    at-q false s = f

-- the bounds of an interval are of 32 bits, and some number lies between them
abbrev pub Sound : Guard → Type 0
Sound always = Unit {0}
Sound (interval p low high) = Value low × Value high × (low ≤Z high)

bounded : (g : Guard) → Sound g → Bounded g
bounded always s = tt
bounded (interval p low high) s = (s.0, s.1)

-- a test that passes says what holds
surely : {b : Bool} {P : Type 0} → b ≡ true → P → Says b P
surely e p = record { yes = λ f. p; no = λ f. clash e f }

-- an interval that is not empty has its low bound
in-own : (low high : ℤ) → low ≤Z high → inside low low high ≡ true
in-own low high o = is_true (inside-says low low high) (le_refl low, o)

-- the test of two guards says that some valuation of 32 bits makes both hold
pub meet-says : (g h : Guard) → Sound g → Sound h → Says (meet g h) (Meet g h)
meet-says always always s t = surely refl (hold-meet always always (λ r. pos 0) tt tt refl refl)
meet-says always (interval q k j) s t = surely refl (hold-meet always (interval q k j) (λ r. k) tt (t.0, t.1) refl (in-own k j t.2))
meet-says (interval p l h) always s t = surely refl (hold-meet (interval p l h) always (λ r. l) (s.0, s.1) tt (in-own l h s.2) refl)
meet-says (interval p l h) (interval q k j) s t =
    says-as (says-or (says-not (says_eq p q)) (overlap l h k j s.2 t.2)) (⊎_elim two one) (λ m. back m (eqb p q) refl)
  where
    both : (v : ℕ → ℤ) → inside l (v p) h ≡ true → inside k (v q) j ≡ true → Meet (interval p l h) (interval q k j)
    both v = hold-meet (interval p l h) (interval q k j) v (s.0, s.1) (t.0, t.1)

    -- intervals on two ports both hold where each port has its own low bound
    two : (p ≡ q → ⊥) → Meet (interval p l h) (interval q k j)
    two d =
        both (λ r. cond (eqb r p) l k) (rw (eq-eqb p p refl) (in-own l h s.2))
        (rw (ne_eqb q p (λ e. d (sym e))) (in-own k j t.2))

    -- intervals on one port meet in a number of both
    one : (z : ℤ) × (l ≤Z z) × (z ≤Z h) × (k ≤Z z) × (z ≤Z j) → Meet (interval p l h) (interval q k j)
    one (z, a, b, c, d) = both (λ r. z) (is_true (inside-says l z h) (a, b)) (is_true (inside-says k z j) (c, d))

    -- what a valuation has at the port that both guards read lies in both intervals
    back : Meet (interval p l h) (interval q k j) → (b : Bool) → eqb p q ≡ b
        → (p ≡ q → ⊥) ⊎ ((z : ℤ) × (l ≤Z z) × (z ≤Z h) × (k ≤Z z) × (z ≤Z j))
    back m false e = inl (eqb-false p q e)
    back m true e =
        let v = m.valuation in
        let a = (inside-says l (v p) h).yes m.one_holds in
        let o : Inside k (v p) j = rw (eqb-true p q e) ((inside-says k (v q) j).yes m.other-holds) in
        inr (v p, a.0, a.1, o.0, o.1)

module _ (T : Tables) where
  -- a guard of kind always holds
  pub always-holds : (d : ℕ) (v : ℕ → ℤ) → guard_kind T d ≡ kind_always → holds (guard_of T d) v ≡ true
  always-holds d v e = rw (eq-eqb (guard_kind T d) kind_always e, holds)

  -- two drivers' guards, of values, that hold for one valuation can hold together
  pub guards-meet : (d e : ℕ) (v : ℕ → ℤ) → Sound (guard_of T d) → Sound (guard_of T e)
      → holds (guard_of T d) v ≡ true → holds (guard_of T e) v ≡ true → Meet (guard_of T d) (guard_of T e)
  guards-meet d e v s t = hold-meet (guard_of T d) (guard_of T e) v (bounded (guard_of T d) s) (bounded (guard_of T e) t)

-- A driver's guard by its kind.
guard-always : (T : Tables) (d : ℕ) → eqb (guard_kind T d) kind_always ≡ true → guard_of T d ≡ always
guard-always T d e = ap (λ (b : Bool). elim b [ true ↦ always | false ↦ interval (guard_port T d) (guard_low T d) (guard_high T d) ]) e

guard-interval : (T : Tables) (d : ℕ) → eqb (guard_kind T d) kind_always ≡ false → guard_of T d ≡ interval (guard_port T d) (guard_low T d) (guard_high T d)
guard-interval T d e = ap (λ (b : Bool). elim b [ true ↦ always | false ↦ interval (guard_port T d) (guard_low T d) (guard_high T d) ]) e

-- a driver's guard holds always, or where the port's value lies in its interval
pub holds-always : (T : Tables) (d : ℕ) (v : ℕ → ℤ) → eqb (guard_kind T d) kind_always ≡ true → holds (guard_of T d) v ≡ true
holds-always T d v e = ap (λ (g : Guard). holds g v) (guard-always T d e)

pub holds-interval : (T : Tables) (d : ℕ) (v : ℕ → ℤ) → eqb (guard_kind T d) kind_always ≡ false
    → holds (guard_of T d) v ≡ inside (guard_low T d) (v (guard_port T d)) (guard_high T d)
holds-interval T d v e = ap (λ (g : Guard). holds g v) (guard-interval T d e)

-- two drivers' guards meet where one is always
pub always-meets : (T : Tables) (d e : ℕ) → eqb (guard_kind T d) kind_always ≡ true → meet (guard_of T d) (guard_of T e) ≡ true
always-meets T d e a = ap (λ (g : Guard). meet g (guard_of T e)) (guard-always T d a)

pub meets-always : (T : Tables) (d e : ℕ) → eqb (guard_kind T d) kind_always ≡ false → eqb (guard_kind T e) kind_always ≡ true → meet (guard_of T d) (guard_of T e) ≡ true
meets-always T d e a b = ap₂ meet (guard-interval T d a) (guard-always T e b)

-- two drivers' intervals meet on two ports, or where each begins no later than the other ends
pub intervals-meet : (T : Tables) (d e : ℕ) → eqb (guard_kind T d) kind_always ≡ false → eqb (guard_kind T e) kind_always ≡ false
    → meet (guard_of T d) (guard_of T e) ≡ (not (eqb (guard_port T d) (guard_port T e)) || (le_z (guard_low T d) (guard_high T e) && le_z (guard_low T e) (guard_high T d)))
intervals-meet T d e a b = ap₂ meet (guard-interval T d a) (guard-interval T e b)
