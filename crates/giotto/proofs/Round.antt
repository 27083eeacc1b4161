-- An execution through a round: an instant begins a unit of the mode that is current after it; nothing changes up to the next instant;
-- where no switch is enabled there, that one begins the next unit; and so on, unit by unit. Assumes the program's rules; task functions and
-- readings are any.
use Prim.Native.Nat.{ℕ, zero, suc, ◌+◌, ◌*◌, ◌-◌, ◌/◌, ◌%◌, ◌≤◌, ◌<◌}
use mathlib.Core.Path.{◌≡◌, refl, sym, ap, subst, subst₂, ◌∙◌}
use mathlib.Core.List.{List}
use mathlib.Core.Logic.{◌⊎◌, inl, inr}
use native.Mathlib.Nat.{mod-add-mod, suc-mul, zero-mul}
use native.Mathlib.Decide.{ℕ_discrete, dec_lt}
use native.Mathlib.Omega.{arith}
use lib.IntN.{ℤ}
use Rattle.theory.specs.Verdict.{Keep}
use Rattle.program.specs.Tables.{Tables, mode_count, mode_period}
use Rattle.program.specs.Sets.{Sensor}
use Rattle.program.specs.Units.{units}
use Rattle.program.specs.Program.{program_of}
use Rattle.program.specs.Ports.{value_of}
use Rattle.program.proofs.Units.{units-some}
use Rattle.rules.specs.Verdict.{program_rules}
use Rattle.rules.proofs.Timing.{ticks-some}
use Rattle.giotto.specs.Instant.{Configuration, Function, results}
use Rattle.giotto.specs.Successor.{Valuation, SwitchEnabled, Stays, Changes, Successor}
use Rattle.giotto.specs.Execution.{execution}
use Rattle.giotto.proofs.Execution.{execution-keeps, execution-succeeds, execution-waits}
use Rattle.giotto.proofs.Taken.{sensor-read}

-- the next number is as far in a turn as the one after its place in it
one_on : (q k : ℕ) → suc k % q ≡ suc (k % q) % q
one_on q k =
    let after : suc k ≡ k + 1 = omega arith in
    let later : k % q + 1 ≡ suc (k % q) = omega arith in
    ap (λ (x : ℕ). x % q) after ∙ sym (mod-add-mod k q 1) ∙ ap (λ (x : ℕ). x % q) later

-- the ticks of a unit of mode m
abbrev pub unit_ticks : Tables → ℕ → ℕ
unit_ticks T m = mode_period T m / units T m

module _ (T : Tables) (F : Function) (readings : ℕ → List ℤ) where
  -- tick n of an execution begins unit k of mode m, counted on around the round: what the configuration after it says
  pub record BeginsUnit (n m k : ℕ) : Type 0 where
    pub declared : m < mode_count T
    pub mode : (execution (program_of T) F readings (suc n)).mode ≡ m
    pub unit : (execution (program_of T) F readings (suc n)).unit ≡ suc k % units T m
    pub stamp : (execution (program_of T) F readings (suc n)).time ≡ n + unit_ticks T m

  -- the last instant up to tick r: nothing changes after it up to there
  pub record LastInstant (r : ℕ) : Type 0 where
    pub tick : ℕ
    pub up_to : tick ≤ r
    pub instant : (execution (program_of T) F readings tick).time ≡ tick
    pub same : execution (program_of T) F readings (suc r) ≡ execution (program_of T) F readings (suc tick)
    pub next : (k : ℕ) → tick < k → (execution (program_of T) F readings k).time ≡ k → r < k

  -- in unit k of mode m no switch is enabled at values that have the readings of tick n, if that is an instant
  abbrev pub Quiet : ℕ → ℕ → ℕ → Type 0
  Quiet n m k =
      (execution (program_of T) F readings n).time ≡ n
      → (v : Valuation) → ((p : ℕ) → Sensor T p → v p ≡ value_of (readings n) p) → (i : ℕ) → SwitchEnabled T m (k % units T m) v i → ⊥

  -- none is in the e units after unit k, which tick n begins
  abbrev pub QuietFor : ℕ → ℕ → ℕ → ℕ → Type 0
  QuietFor n m k e = (j : ℕ) → 1 ≤ j → j ≤ e → Quiet (n + j * unit_ticks T m) m (k + j)

module _ (T : Tables) (K : Keep program_rules T) (F : Function) (readings : ℕ → List ℤ) where
  abbrev at : ℕ → Configuration
  at n = execution (program_of T) F readings n

  -- what the instant in tick n goes on to
  abbrev SuccessorAt : ℕ → Type 0
  SuccessorAt n = Successor T (results (program_of T) F (at n).ports) (value_of (readings n)) (at n) (at (suc n))

  -- an instant begins a unit of the mode that is current after it
  pub instant-begins : (n : ℕ) → (at n).time ≡ n
      → (k : ℕ) × (k < units T (at (suc n)).mode) × BeginsUnit T F readings n (at (suc n)).mode k
  instant-begins n e =
      let S : SuccessorAt n = execution-succeeds T K F readings n e in (
        S.unit,
        within S S.step-4-to-6,
        record {
          declared = (execution-keeps T K F readings (suc n)).mode;
          mode = refl;
          unit = S.next-unit;
          stamp = S.time-stamp ∙ ap (λ (x : ℕ). x + unit_ticks T (at (suc n)).mode) e;
        },
      )
    where
      within : (S : SuccessorAt n)
          → Stays T (at n) S.after-sensors S.after-switch (at (suc n)).mode S.unit
          ⊎ Changes T (at n) S.after-sensors S.after-switch (at (suc n)).mode S.unit
          → S.unit < units T (at (suc n)).mode
      within S (inl s) =
          subst₂ (λ (u m : ℕ). u < units T m) (sym s.same-unit) (sym s.same-mode) (execution-keeps T K F readings n).unit
      within S (inr c) = rw c.to-unit-0 (units-some T (at (suc n)).mode)

  -- an instant is the last one up to itself
  at_once : (r : ℕ) → (at r).time ≡ r → LastInstant T F readings r
  at_once r e = record { tick = r; up_to = omega arith; instant = e; same = refl; next = λ k x z. x }

  -- some tick is the last instant up to tick r
  pub last-instant : (r : ℕ) → LastInstant T F readings r
  last-instant zero = at_once 0 refl
  last-instant (suc r) = go (ℕ_discrete (at (suc r)).time (suc r)) (last-instant r)
    where
      go : Dec ((at (suc r)).time ≡ suc r) → LastInstant T F readings r → LastInstant T F readings (suc r)
      go (yes e) b = at_once (suc r) e
      go (no o) b =
          record {
            tick = b.tick;
            up_to = omega (arith, b.up_to);
            instant = b.instant;
            same = execution-waits T K F readings (suc r) o ∙ b.same;
            next = λ k x z. omega (arith, b.next k x z, not-here k z);
          }
        where
          not-here : (k : ℕ) → (at k).time ≡ k → k ≡ suc r → ⊥
          not-here k z q = o (subst (λ (k : ℕ). (at k).time ≡ k) q z)

  module _ (n m k : ℕ) (b : BeginsUnit T F readings n m k) where
    -- up to the next instant nothing changes
    pub begins-waits : (d : ℕ) → d < unit_ticks T m → at (suc (n + d)) ≡ at (suc n)
    begins-waits zero l = let none : n + 0 ≡ n = omega arith in ap (λ (x : ℕ). at (suc x)) none
    begins-waits (suc d) l =
        let same : at (suc (n + d)) ≡ at (suc n) = begins-waits d (omega arith) in
        let stamp : (at (suc (n + d))).time ≡ n + unit_ticks T m = ap (λ (C : Configuration). C.time) same ∙ b.stamp in
        let one_more : suc (n + d) ≡ n + suc d = omega arith in
        subst (λ (x : ℕ). at (suc x) ≡ at (suc n)) one_more
        (execution-waits T K F readings (suc (n + d)) (λ e. omega (arith, e, stamp)) ∙ same)

    -- in the unit that tick n begins the mode is m
    pub in-unit : (l : ℕ) → n ≤ l → l < n + unit_ticks T m → (at (suc l)).mode ≡ m
    in-unit l x y =
        let back : n + (l - n) ≡ l = omega (arith, x) in
        subst (λ (l : ℕ). (at (suc l)).mode ≡ m) back
        (ap (λ (C : Configuration). C.mode) (begins-waits (l - n) (omega (arith, x, y))) ∙ b.mode)

    -- the tick of the next instant
    abbrev next : ℕ
    next = n + unit_ticks T m

    -- a unit has a tick
    pub some-ticks : 1 ≤ unit_ticks T m
    some-ticks = ticks-some T K.1.0 K.1.1.1.1.1.1.1.1.0 m b.declared

    -- the configuration before it is the one after tick n
    pub next-same : at next ≡ at (suc n)
    next-same = go (unit_ticks T m) some-ticks (λ d l. begins-waits d l)
      where
        go : (t : ℕ) → 1 ≤ t → ((d : ℕ) → d < t → at (suc (n + d)) ≡ at (suc n)) → at (n + t) ≡ at (suc n)
        go zero l f = absurd (omega arith)
        go (suc t) l f = let last : suc (n + t) ≡ n + suc t = omega arith in subst (λ (x : ℕ). at x ≡ at (suc n)) last (f t (omega arith))

    pub next-instant : (at next).time ≡ next
    next-instant = ap (λ (C : Configuration). C.time) next-same ∙ b.stamp

    pub next-mode : (at next).mode ≡ m
    next-mode = ap (λ (C : Configuration). C.mode) next-same ∙ b.mode

    pub next-unit : (at next).unit ≡ suc k % units T m
    next-unit = ap (λ (C : Configuration). C.unit) next-same ∙ b.unit

    -- the next instant goes on to a successor
    pub next-succeeds : SuccessorAt next
    next-succeeds = execution-succeeds T K F readings next next-instant

    -- where no switch is enabled then, it begins the next unit
    pub begins-next : Quiet T F readings next m (suc k) → BeginsUnit T F readings next m (suc k)
    begins-next none = go next-succeeds.step-4-to-6
      where
        S : SuccessorAt next
        S = next-succeeds

        go : Stays T (at next) S.after-sensors S.after-switch (at (suc next)).mode S.unit
            ⊎ Changes T (at next) S.after-sensors S.after-switch (at (suc next)).mode S.unit
            → BeginsUnit T F readings next m (suc k)
        go (inl s) =
            let stays : (at (suc next)).mode ≡ m = s.same-mode ∙ next-mode in
            record {
              declared = b.declared;
              mode = stays;
              unit =
                  subst₂ (λ (u m : ℕ). (at (suc next)).unit ≡ suc u % units T m) (s.same-unit ∙ next-unit) stays S.next-unit
                  ∙ sym (one_on (units T m) (suc k));
              stamp = subst₂ (λ (t m : ℕ). (at (suc next)).time ≡ t + unit_ticks T m) next-instant stays S.time-stamp;
            }
        go (inr c) =
            absurd
            (none next-instant S.after-sensors (sensor-read T K _ (value_of (readings next)) (at next) (at (suc next)) S) c.row
            (subst₂ (λ (m u : ℕ). SwitchEnabled T m u S.after-sensors c.row) next-mode next-unit c.enabled))

  module _ (n m k : ℕ) (b : BeginsUnit T F readings n m k) where
    -- through e units in which no switch is enabled
    pub begins-through : (e : ℕ) → QuietFor T F readings n m k e → BeginsUnit T F readings (n + e * unit_ticks T m) m (k + e)
    begins-through zero q =
        let none : n ≡ n + 0 * unit_ticks T m = omega (arith, zero-mul (unit_ticks T m)) in
        let same : k ≡ k + 0 = omega arith in
        subst₂ (λ (n k : ℕ). BeginsUnit T F readings n m k) none same b
    begins-through (suc e) q =
        let t = unit_ticks T m in
        let sum : n + e * t + t ≡ n + suc e * t = omega (arith, suc-mul e t) in
        let count : suc (k + e) ≡ k + suc e = omega arith in
        let last : Quiet T F readings (n + e * t + t) m (suc (k + e)) =
        subst₂ (λ (n k : ℕ). Quiet T F readings n m k) (sym sum) (sym count) (q (suc e) (omega arith) (omega arith)) in
        subst₂ (λ (n k : ℕ). BeginsUnit T F readings n m k) sum count
        (begins-next (n + e * t) m (k + e) (begins-through e (λ j x y. q j x (omega (arith, y)))) last)

    -- and in all their ticks, and those of the unit that then begins, the mode is m
    pub mode-through : (e : ℕ) → QuietFor T F readings n m k e → (l : ℕ) → n ≤ l → l < n + suc e * unit_ticks T m → (at (suc l)).mode ≡ m
    mode-through zero q l x y =
        in-unit n m k b l x (omega (arith, y, suc-mul 0 (unit_ticks T m), zero-mul (unit_ticks T m)))
    mode-through (suc e) q l x y =
        go (dec_lt l (n + suc e * unit_ticks T m)) (λ z. mode-through e (λ j u v. q j u (omega (arith, v))) l x z)
      where
        go : Dec (l < n + suc e * unit_ticks T m) → (l < n + suc e * unit_ticks T m → (at (suc l)).mode ≡ m) → (at (suc l)).mode ≡ m
        go (yes z) before = before z
        go (no z) before =
            in-unit (n + suc e * unit_ticks T m) m (k + suc e) (begins-through (suc e) q) l (omega (arith, z))
            (omega (arith, y, suc-mul (suc e) (unit_ticks T m)))
