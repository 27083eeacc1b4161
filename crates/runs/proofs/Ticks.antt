-- What the ticks of a unit come to: all inside, with the remaining times after them, or the first tick that is outside.
use Prim.Native.Nat.{ℕ, zero, suc, ◌+◌, ◌≤◌, ◌<◌}
use mathlib.Core.Path.{◌≡◌, refl, ap, subst, ◌∙◌}
use mathlib.Core.Bool.{Bool, true, false, not, ◌&&◌}
use mathlib.Core.List.{List}
use native.Mathlib.Omega.{arith}
use native.Mathlib.Decide.{ℕ_discrete}
use Rattle.theory.proofs.Bools.{clash}
use Rattle.runs.specs.Tick.{Row, Place, runs_in}
use Rattle.runs.specs.Round.{going, Ticked, ended, left_at, watched}

-- a unit that begins at s, at tick o of the round
module _ (window : ℕ → Bool) (block : List Row) (s : Place) (o : ℕ) where
  -- tick x of the unit is inside the windows
  abbrev pub In : ℕ → Type 0
  In x = runs_in block x (going block s x) ≡ true → window (o + x) ≡ true

  -- what n ticks of the unit from tick e on come to: all are inside, with these remaining times after them, or this is the first outside
  abbrev pub Comes : ℕ → ℕ → Ticked → Type 0
  Comes n e (ended r) = (r ≡ (going block s (e + n)).left) × ((x : ℕ) → e ≤ x → x < e + n → In x)
  Comes n e (left_at t) =
      (x : ℕ) × (x < e + n) × (t ≡ o + x) × (runs_in block x (going block s x) ≡ true) × (window t ≡ false)
      × ((y : ℕ) → e ≤ y → y < x → In y)

  -- n + 1 ticks of which the first is inside come to what the n others come to
  one_more : (n e : ℕ) → In e → (a : Ticked) → Comes n (suc e) a → Comes (suc n) e a
  one_more n e i (ended r) h =
      let z : suc e + n ≡ e + suc n = omega arith in
      (h.0 ∙ ap (λ m. (going block s m).left) z, λ x l m. go x l m (ℕ_discrete e x))
    where
      go : (x : ℕ) → e ≤ x → x < e + suc n → Dec (e ≡ x) → In x
      go x l m (yes q) = subst In q i
      go x l m (no q) = h.1 x (omega arith) (omega arith)
  one_more n e i (left_at t) h = (h.0, omega (arith, h.1), h.2, h.3, h.4, λ y l m. go y l m (ℕ_discrete e y))
    where
      go : (y : ℕ) → e ≤ y → y < h.0 → Dec (e ≡ y) → In y
      go y l m (yes q) = subst In q i
      go y l m (no q) = h.5 y (omega arith) m

  -- n ticks from tick e come to their end inside, or to the first tick that is outside
  pub ticks-come : (n e t : ℕ) → t ≡ o + e → Comes n e (watched window block n e t (going block s e))
  ticks-come zero e t q = let z : e ≡ e + 0 = omega arith in (ap (λ m. (going block s m).left) z, λ x l m. absurd (omega arith))
  ticks-come (suc n) e t q = go (runs_in block e (going block s e)) refl (window t) refl (ticks-come n (suc e) (suc t) (omega arith))
    where
      go : (a : Bool) → runs_in block e (going block s e) ≡ a → (b : Bool) → window t ≡ b
          → Comes n (suc e) (watched window block n (suc e) (suc t) (going block s (suc e)))
          → Comes (suc n) e (elim (a && not b) [ true ↦ left_at t | false ↦ watched window block n (suc e) (suc t) (going block s (suc e)) ])
      go true p true w i = one_more n e (λ h. rw q at w) (watched window block n (suc e) (suc t) (going block s (suc e))) i
      go true p false w i = (e, omega arith, q, p, w, λ y l m. absurd (omega arith))
      go false p b w i = one_more n e (λ h. clash h p) (watched window block n (suc e) (suc t) (going block s (suc e))) i
