-- The judge gives the first break of a run, and no run has two: the judge's answer is b exactly where b is the first break.
use Prim.Native.Nat.{ℕ, zero, suc, ◌+◌, ◌*◌, ◌≤◌, ◌<◌}
use mathlib.Core.Path.{◌≡◌, refl, sym, ap, subst, ◌∙◌}
use mathlib.Core.Bool.{Bool, true, false}
use mathlib.Core.List.{List}
use mathlib.Core.Logic.{◌↔◌}
use native.Mathlib.Nat.{suc-mul, mul-le-mul_right}
use native.Mathlib.Omega.{arith}
use native.Mathlib.Decide.{ℕ_discrete, dec_lt}
use lib.Dec.{leb}
use borrow.Author.Tests.{leb-true, leb-false}
use Rattle.theory.specs.Lists.{member}
use Rattle.theory.proofs.Bools.{clash}
use Rattle.theory.proofs.Members.{some_one, none_of}
use Rattle.runs.specs.Tick.{left_of, Place, runs_in}
use Rattle.runs.specs.Round.{Course, Choice, unit_start, going, before, alone, Good, Break, none, outside, late, Ticked, ended}
use Rattle.runs.specs.Round.{left_at, watched, unfinished, judge, OutsideAt, LateAt, FirstBreak}
use Rattle.runs.proofs.Ticks.{In, Comes, ticks-come}

-- the end of a unit is no later than the start of a later one
later : (T k i : ℕ) → k < i → k * T + T ≤ i * T
later T k i h = omega (arith, suc-mul k T, mul-le-mul_right T h)

module _ (C : Course) (c : Choice) (left : List ℕ) where
  -- the units before unit k have no break
  record Clean (k : ℕ) : Type 0 where
    inside : (i e : ℕ) → i < k → e < C.ticks → runs_in (C.block i) e (alone C c left i e) ≡ true → C.window (i * C.ticks + e) ≡ true
    ends : (i j : ℕ) → i < k → member j (C.ending i) ≡ true → left_of (alone C c left i C.ticks).left j ≡ 0

  -- the ticks of unit k before its tick x are inside the windows
  Until : ℕ → ℕ → Type 0
  Until k x = (y : ℕ) → 0 ≤ y → y < x → In C.window (C.block k) (unit_start C c k (before C c left k)) (k * C.ticks) y

  clean-outside : (k x : ℕ) → Clean k → Until k x → x ≤ C.ticks → (s : ℕ) → s < k * C.ticks + x → OutsideAt C c left s → ⊥
  unfolding Until
  clean-outside k x h u lx s l w = go (dec_lt w.unit k) (dec_lt k w.unit)
    where
      apart : C.window (w.unit * C.ticks + w.elapsed) ≡ true → ⊥
      apart t = clash t (rw w.is-tick at w.no-window)

      go : Dec (w.unit < k) → Dec (k < w.unit) → ⊥
      go (yes i) d = apart (h.inside w.unit w.elapsed i w.in-unit w.runs_then)
      go (no i) (yes d) = omega (arith, later C.ticks k w.unit d, w.is-tick)
      go (no i) (no d) = here w.unit w.elapsed (omega arith) w.is-tick w.runs_then apart
        where
          here : (m y : ℕ) → m ≡ k → s ≡ m * C.ticks + y → runs_in (C.block m) y (alone C c left m y) ≡ true
              → (C.window (m * C.ticks + y) ≡ true → ⊥) → ⊥
          here m y e q r n =
              n (subst (λ m. s ≡ m * C.ticks + y → runs_in (C.block m) y (alone C c left m y) ≡ true → C.window (m * C.ticks + y) ≡ true) (sym e)
              (λ q r. u y (omega arith) (omega arith) r) q r)

  clean-late : (k : ℕ) → Clean k → (s : ℕ) → s < k * C.ticks + C.ticks → LateAt C c left s → ⊥
  clean-late k h s l w = go (dec_lt w.unit k)
    where
      go : Dec (w.unit < k) → ⊥
      go (yes i) = omega (arith, h.ends w.unit w.job i w.should-end, w.unended)
      go (no i) = omega (arith, suc-mul w.unit C.ticks, later C.ticks k (suc w.unit) (omega arith), w.is-tick)

  clean-next : (k : ℕ) → Clean k → Until k C.ticks
      → ((j : ℕ) → member j (C.ending k) ≡ true → left_of (alone C c left k C.ticks).left j ≡ 0) → Clean (suc k)
  unfolding Until
  clean-next k h u n = record { inside = λ i e l. in-unit i e l (ℕ_discrete k i); ends = λ i j l. ended-unit i j l (ℕ_discrete k i) }
    where
      in-unit : (i e : ℕ) → i < suc k → Dec (k ≡ i) → e < C.ticks
          → runs_in (C.block i) e (alone C c left i e) ≡ true → C.window (i * C.ticks + e) ≡ true
      in-unit i e l (yes q) =
          subst (λ i. e < C.ticks → runs_in (C.block i) e (alone C c left i e) ≡ true → C.window (i * C.ticks + e) ≡ true) q (u e (omega arith))
      in-unit i e l (no q) = h.inside i e (omega arith)

      ended-unit : (i j : ℕ) → i < suc k → Dec (k ≡ i) → member j (C.ending i) ≡ true → left_of (alone C c left i C.ticks).left j ≡ 0
      ended-unit i j l (yes q) = subst (λ i. member j (C.ending i) ≡ true → left_of (alone C c left i C.ticks).left j ≡ 0) q (n j)
      ended-unit i j l (no q) = h.ends i j (omega arith)

  -- the judge of the u units from unit k on gives the first break of the run, if none came before
  judge-from : (u k : ℕ) → k + u ≡ C.units → Clean k → FirstBreak C c left (judge C c u k (before C c left k))
  unfolding Until
  judge-from zero k q h = record { inside = λ i e l. h.inside i e (omega arith); ends = λ i j l. h.ends i j (omega arith) }
  judge-from (suc u) k q h =
      go (watched C.window (C.block k) C.ticks 0 (k * C.ticks) s₀)
      (ticks-come C.window (C.block k) s₀ (k * C.ticks) C.ticks 0 (k * C.ticks) (omega arith)) (judge-from u (suc k) (omega arith))
    where
      s₀ : Place
      s₀ = unit_start C c k (before C c left k)

      go₁ : (b : Bool) → unfinished (C.ending k) (before C c left (suc k)) ≡ b → Until k C.ticks
          → (Clean (suc k) → FirstBreak C c left (judge C c u (suc k) (before C c left (suc k))))
          → FirstBreak C c left (elim b [ true ↦ late (suc k * C.ticks) | false ↦ judge C c u (suc k) (before C c left (suc k)) ])
      go₁ true e i ih =
          let (j, m, n) = some_one (λ j. leb 1 (left_of (before C c left (suc k)) j)) (C.ending k) e in
          let d : suc k * C.ticks ≡ k * C.ticks + C.ticks = suc-mul k C.ticks in (
            record { unit = k; job = j; in-round = omega arith; is-tick = refl; should-end = m; unended = leb-true 1 (left_of (before C c left (suc k)) j) n },
            λ s l. clean-outside k C.ticks h i (omega arith) s (omega arith),
            λ s l. clean-late k h s (omega arith),
          )
      go₁ false e i ih =
          ih (clean-next k h i (λ j m. omega (
            arith,
            leb-false 1 (left_of (before C c left (suc k)) j) (none_of (λ j. leb 1 (left_of (before C c left (suc k)) j)) (C.ending k) e j m),
          )))

      go : (a : Ticked) → Comes C.window (C.block k) s₀ (k * C.ticks) C.ticks 0 a
          → (Clean (suc k) → FirstBreak C c left (judge C c u (suc k) (before C c left (suc k))))
          → FirstBreak C c left (elim a [
            | left_at t ↦ outside t
            | ended r ↦ elim (unfinished (C.ending k) r) [ true ↦ late (suc k * C.ticks) | false ↦ judge C c u (suc k) r ]
          ])
      go (left_at t) w ih = (
        record { unit = k; elapsed = w.0; in-round = omega arith; in-unit = omega (arith, w.1); is-tick = w.2; runs_then = w.3; no-window = w.4 },
        λ s l. clean-outside k w.0 h w.5 (omega (arith, w.1)) s (omega (arith, w.2)),
        λ s l. clean-late k h s (omega (arith, w.1, w.2)),
      )
      go (ended r) w ih =
          let z : 0 + C.ticks ≡ C.ticks = omega arith in
          let e : r ≡ before C c left (suc k) = w.0 ∙ ap (λ m. (going (C.block k) (unit_start C c k (before C c left k)) m).left) z in
          subst (λ r. FirstBreak C c left (elim (unfinished (C.ending k) r) [ true ↦ late (suc k * C.ticks) | false ↦ judge C c u (suc k) r ])) (sym e)
          (go₁ (unfinished (C.ending k) (before C c left (suc k))) refl (λ y l m. w.1 y l (omega arith)) ih)

  -- the judge gives the first break
  pub judge-first : FirstBreak C c left (judge C c C.units 0 left)
  judge-first = judge-from C.units 0 (omega arith) (record { inside = λ i e l. absurd (omega arith); ends = λ i j l. absurd (omega arith) })

  good-outside : (t : ℕ) → Good C c left → OutsideAt C c left t → ⊥
  good-outside t g w = clash (g.inside w.unit w.elapsed w.in-round w.in-unit w.runs_then) (rw w.is-tick at w.no-window)

  good-late : (t : ℕ) → Good C c left → LateAt C c left t → ⊥
  good-late t g w = omega (arith, g.ends w.unit w.job w.in-round w.should-end, w.unended)

  -- a run has one first break
  pub first-break-one : (a b : Break) → FirstBreak C c left a → FirstBreak C c left b → a ≡ b
  first-break-one none none h k = refl
  first-break-one none (outside t) h k = absurd (good-outside t h k.0)
  first-break-one none (late t) h k = absurd (good-late t h k.0)
  first-break-one (outside s) none h k = absurd (good-outside s k h.0)
  first-break-one (outside s) (outside t) h k = ap outside (go (dec_lt s t) (dec_lt t s))
    where
      go : Dec (s < t) → Dec (t < s) → s ≡ t
      go (yes l) d = absurd (k.1 s l h.0)
      go (no l) (yes d) = absurd (h.1 t d k.0)
      go (no l) (no d) = omega arith
  first-break-one (outside s) (late t) h k = go (dec_lt s t)
    where
      go : Dec (s < t) → outside s ≡ late t
      go (yes l) = absurd (k.1 s l h.0)
      go (no l) = absurd (h.2 t (omega arith) k.0)
  first-break-one (late s) none h k = absurd (good-late s k h.0)
  first-break-one (late s) (outside t) h k = go (dec_lt t s)
    where
      go : Dec (t < s) → late s ≡ outside t
      go (yes l) = absurd (h.1 t l k.0)
      go (no l) = absurd (k.2 s (omega arith) h.0)
  first-break-one (late s) (late t) h k = ap late (go (dec_lt s t) (dec_lt t s))
    where
      go : Dec (s < t) → Dec (t < s) → s ≡ t
      go (yes l) d = absurd (k.2 s l h.0)
      go (no l) (yes d) = absurd (h.2 t d k.0)
      go (no l) (no d) = omega arith

  -- the judge's answer is b exactly where b is the first break
  pub judge-exactly : (b : Break) → (judge C c C.units 0 left ≡ b) ↔ FirstBreak C c left b
  judge-exactly b = (
    λ e. subst (FirstBreak C c left) e judge-first,
    λ h. first-break-one (judge C c C.units 0 left) b judge-first h,
  )
