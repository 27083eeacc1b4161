-- What a release makes of the remaining times: those of the released jobs are their times, the others stay; and so what is owed at most
-- is owed at most after it. Assumes of the jobs that have a place in the one list that they have one in the other.
use Prim.Native.Nat.{ℕ, ◌≤◌, ◌<◌}
use mathlib.Core.Path.{◌≡◌, refl, sym, subst, ◌∙◌}
use mathlib.Core.Bool.{Bool, true, false, ◌||◌}
use mathlib.Core.List.{List, [], ◌∷◌}
use native.Mathlib.Omega.{arith}
use native.Mathlib.Decide.{dec_lt}
use lib.Dec.{eqb}
use lib.ListN.{set, length, length-set, get_or-eq_default}
use lib.Seq.{get_or-set_same, get_or-set_other}
use borrow.Author.Tests.{eqb-true, eqb-false}
use Rattle.theory.specs.Lists.{member}
use Rattle.theory.proofs.Bools.{clash, neither}
use Rattle.runs.specs.Tick.{left_of}
use Rattle.runs.specs.Round.{release}
use Rattle.runs.specs.Dominated.{AtMost}

-- a release keeps the number of jobs
pub release_length : (js : List ℕ) (time : ℕ → ℕ) (r : List ℕ) → length (release js time r) ≡ length r
release_length [] time r = refl
release_length (j ∷ js) time r = release_length js time (set r j (time j)) ∙ length-set r j (time j)

-- a job that is not released keeps its remaining time
pub release-out : (js : List ℕ) (time : ℕ → ℕ) (r : List ℕ) (t : ℕ) → member t js ≡ false → left_of (release js time r) t ≡ left_of r t
release-out [] time r t h = refl
release-out (j ∷ js) time r t h =
    let n = neither (eqb t j) (member t js) h in
    release-out js time (set r j (time j)) t n.1 ∙ get_or-set_other r j t (time j) 0 (eqb-false t j n.0)

-- a released job that has a place has its time
pub release-in : (js : List ℕ) (time : ℕ → ℕ) (r : List ℕ) (t : ℕ) → member t js ≡ true → t < length r → left_of (release js time r) t ≡ time t
release-in [] time r t h l = clash {b = false} h refl
release-in (j ∷ js) time r t h l = go (member t js) refl (eqb t j) refl h (λ m. release-in js time (set r j (time j)) t m (simp length-set l))
  where
    go : (a : Bool) → member t js ≡ a → (b : Bool) → eqb t j ≡ b → (b || a) ≡ true
        → (member t js ≡ true → left_of (release js time (set r j (time j))) t ≡ time t) → left_of (release js time (set r j (time j))) t ≡ time t
    go true p b q h i = i p
    go false p true q h i =
        let e : t ≡ j = eqb-true t j q in
        release-out js time (set r j (time j)) t p ∙ subst (λ u. left_of (set r j (time j)) u ≡ time u) (sym e) (get_or-set_same r j (time j) 0 (omega arith))
    go false p false q h i = clash {b = false} h refl

module _ (Own : ℕ → Type 0) (ts js : List ℕ) (c d : ℕ → ℕ) (r q : List ℕ)
    (same : (j : ℕ) → Own j → member j js ≡ member j ts) (shorter : (j : ℕ) → Own j → member j ts ≡ true → c j ≤ d j) where
  -- what is owed at most is so after releases of the same jobs with times at most as long, where those placed in r are placed in q
  pub release-below : ((j : ℕ) → Own j → member j ts ≡ true → j < length r → j < length q) → AtMost Own r q → AtMost Own (release ts c r) (release js d q)
  release-below placed b j o = go (member j ts) refl (dec_lt j (length r))
    where
      go : (m : Bool) → member j ts ≡ m → Dec (j < length r) → left_of (release ts c r) j ≤ left_of (release js d q) j
      go true e (yes l) =
          omega (arith, release-in ts c r j e l, release-in js d q j (same j o ∙ e) (placed j o e l), shorter j o e)
      go true e (no l) =
          omega (arith, get_or-eq_default (release ts c r) 0 {n = j} (omega (arith, release_length ts c r)))
      go false e l = omega (arith, release-out ts c r j e, release-out js d q j (same j o ∙ e), b j o)

  -- what is owed at most is so after releases of the same jobs with times at most as long, where each of them is placed in both
  pub release-among : ((j : ℕ) → Own j → member j ts ≡ true → (j < length r) × (j < length q)) → AtMost Own r q
      → AtMost Own (release ts c r) (release js d q)
  release-among placed = release-below (λ j o m l. (placed j o m).1)
