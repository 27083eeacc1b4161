-- One unit: what the code is told of its ticks and terminations is how it ends; a unit that does not break is passed by the judge, one
-- that does is the run's first break; a unit uses no block but its own; and no tick of a round exceeds the limits.
use Prim.Native.Nat.{ℕ, suc, ◌*◌}
use mathlib.Core.Path.{◌≡◌, refl, sym, ap, ◌∙◌}
use mathlib.Core.Bool.{Bool, true, false}
use mathlib.Core.List.{List}
use native.Mathlib.Omega.{arith}
use lib.IntN.{ℤ}
use Rattle.std.specs.Prelude.{Result, Ok, Err}
use Rattle.std.specs.Result.{MatchResult}
use Rattle.runs.specs.Tick.{Row}
use Rattle.runs.specs.Round.{Course, release, unit_start, worst_case, Break, outside, late, Ticked, ended, left_at, watched, told_ticks}
use Rattle.runs.specs.Round.{unfinished, judge}
use Rattle.rounds.specs.declared.units.Broken.{Broken}
use Rattle.rounds.specs.Course.{course_in}
use Rattle.rounds.specs.Breaks.{outside_at, late_at, unit_end, rounded}

-- equal results have equal contents
pub ok-same : {A E : Type 0} (x y : A) → ◌≡◌ {A = Result A E} (Ok x) (Ok y) → x ≡ y
ok-same {A} {E} x y e = ap (λ (r : Result A E). elim r [ Ok z ↦ z | Err d ↦ x ]) e

pub err-same : {A E : Type 0} (x y : E) → ◌≡◌ {A = Result A E} (Err x) (Err y) → x ≡ y
err-same {A} {E} x y e = ap (λ (r : Result A E). elim r [ Ok z ↦ x | Err d ↦ d ]) e

-- a result whose error is mapped
abbrev pub err_mapped : {A E D : Type 0} → (E → D) → Result A E → Result A D
err_mapped g (Ok x) = Ok x
err_mapped g (Err e) = Err (g e)

-- what `map_err` promises is that the error is mapped, where a call of its closure answers what g says
pub map_err-mapped : {A E D : Type 0} {Q : E → Type 0} (g : E → D) (w : Result A E) {m : Result A D}
    → MatchResult w (λ x. m ≡ Ok x) Q → ((e : E) → Q e → m ≡ Err (g e)) → m ≡ err_mapped g w
map_err-mapped g (Ok x) h f = h
map_err-mapped g (Err e) h f = f e h

module _ (C : Course) (k : ℕ) (left : List ℕ) where
  -- what the unit comes to by its terminations (`terminated`), by what is told of its ticks (`by_told`), and by its ticks
  abbrev terminated : List ℕ → Bool → Result (List ℕ) Broken
  terminated r b = elim b [ true ↦ Err (late_at (suc k * C.ticks)) | false ↦ Ok r ]

  abbrev by_told : Result (List ℕ) Broken → Result (List ℕ) Broken
  by_told (Err b) = Err b
  by_told (Ok r) = terminated r (unfinished (C.ending k) r)

  abbrev one : Ticked → Result (List ℕ) Broken
  one w = elim w [ left_at t ↦ Err (outside_at t) | ended r ↦ terminated r (unfinished (C.ending k) r) ]

  module _ {begun : List ℕ} {w : Result (List ℕ) ℕ} {m : Result (List ℕ) Broken} (f : begun ≡ release (C.released k) C.worst left)
      (e : w ≡ told_ticks (watched C.window (C.block k) C.ticks 0 (k * C.ticks) (record { position = 0; left = begun })))
      (q : m ≡ err_mapped outside_at w) where
    -- the unit comes to what its ticks, from the unit's beginning, are told to come to
    told : by_told m ≡ unit_end C k left
    unfolding unit_end
    told =
        ap by_told (q ∙ ap (err_mapped outside_at) (e ∙ (λ j. told_ticks (watched C.window (C.block k) C.ticks 0 (k * C.ticks) (record { position = 0; left = f j })))))
        ∙ go (watched C.window (C.block k) C.ticks 0 (k * C.ticks) (unit_start C (worst_case C) k left))
      where
        go : (x : Ticked) → by_told (err_mapped outside_at (told_ticks x)) ≡ one x
        go (left_at t) = refl
        go (ended r) = refl

    -- a unit of which a tick ran outside the windows ends with 14 at that tick
    pub unit-outside : {b : Broken} → m ≡ Err b → Err b ≡ unit_end C k left
    unit-outside o = sym (ap by_told o) ∙ told

    module _ {r js : List ℕ} {b : Bool} (o : m ≡ Ok r) (g : js ≡ C.ending k) (h : b ≡ unfinished js r) where
      -- what was told of the terminations decides
      decided : terminated r b ≡ unit_end C k left
      decided = ap (terminated r) (h ∙ (λ j. unfinished (g j) r)) ∙ sym (ap by_told o) ∙ told

      -- a unit of which no tick ran outside, and a task has not ended, ends with 15 at its end
      pub unit-late : {tick : ℕ} → b ≡ true → tick ≡ suc k * C.ticks → Err (late_at tick) ≡ unit_end C k left
      unit-late v t = ap (λ (n : ℕ). Err (late_at n)) t ∙ sym (ap (terminated r) v) ∙ decided

      -- a unit of which no tick ran outside, and all tasks have ended, does not break
      pub unit-went : b ≡ false → Ok r ≡ unit_end C k left
      unit-went v = sym (ap (terminated r) v) ∙ decided

  module _ (u : ℕ) where
    -- what the judge makes of the unit's terminations and ticks
    abbrev resolved : List ℕ → Bool → Break
    resolved r b = elim b [ true ↦ late (suc k * C.ticks) | false ↦ judge C (worst_case C) u (suc k) r ]

    abbrev all : Ticked → Break
    all w = elim w [ left_at t ↦ outside t | ended r ↦ resolved r (unfinished (C.ending k) r) ]

    -- where a unit does not break, the rest of the run is judged from the remaining times after it
    pub unit-passed : {r : List ℕ} → Ok r ≡ unit_end C k left → judge C (worst_case C) (suc u) k left ≡ judge C (worst_case C) u (suc k) r
    unfolding unit_end
    unit-passed {r} e = go (watched C.window (C.block k) C.ticks 0 (k * C.ticks) (unit_start C (worst_case C) k left)) e
      where
        ends : (x : List ℕ) (b : Bool) → Ok r ≡ terminated x b → resolved x b ≡ judge C (worst_case C) u (suc k) r
        ends x true e = absurd (grind arith)
        ends x false e = ap (judge C (worst_case C) u (suc k)) (sym (ok-same r x e))

        go : (w : Ticked) → Ok r ≡ one w → all w ≡ judge C (worst_case C) u (suc k) r
        go (left_at t) e = absurd (grind arith)
        go (ended x) e = ends x (unfinished (C.ending k) x) e

    -- where a unit breaks, so does the run, with its break
    pub unit-breaks : {b : Broken} → Err b ≡ unit_end C k left → (at row : ℕ) → Err b ≡ rounded (judge C (worst_case C) (suc u) k left) at row
    unfolding unit_end rounded
    unit-breaks {b} e at row = go (watched C.window (C.block k) C.ticks 0 (k * C.ticks) (unit_start C (worst_case C) k left)) e
      where
        ends : (x : List ℕ) (v : Bool) → Err b ≡ terminated x v → Err b ≡ rounded (resolved x v) at row
        ends x true e = ap Err (err-same b _ e)
        ends x false e = absurd (grind arith)

        go : (w : Ticked) → Err b ≡ one w → Err b ≡ rounded (all w) at row
        go (left_at t) e = ap Err (err-same b _ e)
        go (ended x) e = ends x (unfinished (C.ending k) x) e

-- of the blocks a unit uses only its own
pub unit-own-block : (tasks invocations W : List ℤ) (s m u ticks : ℕ) (block : ℕ → List Row) (k : ℕ) (left : List ℕ) {rows : List Row} → rows ≡ block k
    → unit_end (course_in tasks invocations W s m u ticks (λ j. rows)) k left ≡ unit_end (course_in tasks invocations W s m u ticks block) k left
unfolding unit_end
unit-own-block tasks invocations W s m u ticks block k left e =
    ap (λ (rows : List Row). unit_end (course_in tasks invocations W s m u ticks (λ j. rows)) k left) e
