-- The two parts of a step: the E code runs exactly where no tick of the unit remains, and then the tick; each is refused, or leaves a
-- state, exactly so.
use Prim.Native.Nat.{ℕ, zero, suc, ◌≤◌, ◌<◌}
use mathlib.Core.Path.{◌≡◌, refl, sym, ap, ◌∙◌}
use mathlib.Core.List.{List}
use mathlib.Core.Logic.{◌⊎◌, inl, inr, ◌↔◌}
use native.Mathlib.Decide.{dec_lt}
use native.Mathlib.Omega.{arith}
use lib.IntN.{ℤ}
use lib.ListN.{length}
use Rattle.program.specs.Program.{Program}
use Rattle.code.specs.Op.{Op}
use Rattle.machine.specs.declared.State.{State}
use Rattle.machine.specs.Instant.{Outcome, ok, stop, start_at, run_instant, Ends, RefusedAt, Spent}
use Rattle.machine.specs.Schedules.{tick_all}
use Rattle.machine.specs.Advance.{Lent, ready, step}
use Rattle.machine.proofs.Outcomes.{ok-not-stop, finished}
use Rattle.machine.proofs.Instants.{instant-ends, instant-stops}

module _ (P : Program) (code : List Op) (readings times : List ℤ) (s : State) where
  -- what the E part comes to where n ticks of the unit remain
  abbrev begins : ℕ → Outcome
  begins n = elim n [ zero ↦ run_instant P readings times code s | suc k ↦ ok s ]

  -- where a tick of the unit remains, the E part does nothing
  pub ready-waits : 0 < s.remaining → ready P code readings times s ≡ ok s
  ready-waits = go s.remaining
    where
      go : (n : ℕ) → 0 < n → begins n ≡ ok s
      go zero l = absurd (omega arith)
      go (suc n) l = refl

  -- where no tick of the unit remains, the E code runs
  pub ready-runs : s.remaining ≡ 0 → ready P code readings times s ≡ run_instant P readings times code s
  ready-runs e = ap begins e

  -- the E part leaves u exactly where u is the state as it was, or as the instant left it
  pub ready-leaves : (u : State)
      → (ready P code readings times s ≡ ok u)
      ↔ (((1 ≤ s.remaining) × (u ≡ s)) ⊎ ((s.remaining ≡ 0) × Ends P readings times code (length code) (start_at P readings times code s) u))
  ready-leaves u = (there (dec_lt 0 s.remaining), back)
    where
      there : Dec (0 < s.remaining) → ready P code readings times s ≡ ok u
          → ((1 ≤ s.remaining) × (u ≡ s)) ⊎ ((s.remaining ≡ 0) × Ends P readings times code (length code) (start_at P readings times code s) u)
      there (yes l) e = inl (omega arith, finished (sym e ∙ ready-waits l))
      there (no l) e =
          let z : s.remaining ≡ 0 = omega (arith, l) in inr (z, (instant-ends P readings times code s u).0 (sym (ready-runs z) ∙ e))

      back : ((1 ≤ s.remaining) × (u ≡ s)) ⊎ ((s.remaining ≡ 0) × Ends P readings times code (length code) (start_at P readings times code s) u)
          → ready P code readings times s ≡ ok u
      back (inl w) = ready-waits (omega (arith, w.0)) ∙ ap ok (sym w.1)
      back (inr w) = ready-runs w.0 ∙ (instant-ends P readings times code s u).1 w.1

  -- the E part is refused exactly where it runs and its instant is refused
  pub ready-stops : (n : ℕ)
      → (ready P code readings times s ≡ stop n)
      ↔ ((s.remaining ≡ 0)
      × (RefusedAt P readings times code (length code) (start_at P readings times code s) n
      ⊎ Spent P readings times code (length code) (start_at P readings times code s) n))
  ready-stops n = (
    there (dec_lt 0 s.remaining),
    λ w. ready-runs w.0 ∙ (instant-stops P readings times code s n).1 w.1,
  )
    where
      there : Dec (0 < s.remaining) → ready P code readings times s ≡ stop n
          → (s.remaining ≡ 0)
          × (RefusedAt P readings times code (length code) (start_at P readings times code s) n
          ⊎ Spent P readings times code (length code) (start_at P readings times code s) n)
      there (yes l) e = absurd (ok-not-stop (sym (ready-waits l) ∙ e))
      there (no l) e =
          let z : s.remaining ≡ 0 = omega (arith, l) in (z, (instant-stops P readings times code s n).0 (sym (ready-runs z) ∙ e))

module _ (P : Program) (code : List Op) (S : List ℤ) (X : Lent) (s : State) where
  -- what the step comes to after this outcome of its E part
  abbrev pub goes : Outcome → Outcome
  goes o = elim o [ ok u ↦ tick_all P S X.results u | stop n ↦ stop n ]

  -- a step that leaves u has a tick that does, from what the E part left
  pub step-leaves : (u : State) → step P code S X s ≡ ok u
      → (v : State) × (ready P code X.readings X.times s ≡ ok v) × (tick_all P S X.results v ≡ ok u)
  step-leaves u = go (ready P code X.readings X.times s) refl
    where
      go : (o : Outcome) → ready P code X.readings X.times s ≡ o → goes o ≡ ok u
          → (v : State) × (ready P code X.readings X.times s ≡ ok v) × (tick_all P S X.results v ≡ ok u)
      go (ok v) e q = (v, e, q)
      go (stop n) e q = absurd (ok-not-stop (sym q))

  -- the step is refused exactly where its E part is, or the tick from what that left
  pub step-refused : (n : ℕ)
      → (step P code S X s ≡ stop n)
      ↔ ((ready P code X.readings X.times s ≡ stop n)
      ⊎ ((v : State) × (ready P code X.readings X.times s ≡ ok v) × (tick_all P S X.results v ≡ stop n)))
  step-refused n = (go (ready P code X.readings X.times s) refl, back)
    where
      go : (o : Outcome) → ready P code X.readings X.times s ≡ o → goes o ≡ stop n
          → (ready P code X.readings X.times s ≡ stop n)
          ⊎ ((v : State) × (ready P code X.readings X.times s ≡ ok v) × (tick_all P S X.results v ≡ stop n))
      go (ok v) e q = inr (v, e, q)
      go (stop m) e q = inl (e ∙ q)

      back : (ready P code X.readings X.times s ≡ stop n)
          ⊎ ((v : State) × (ready P code X.readings X.times s ≡ ok v) × (tick_all P S X.results v ≡ stop n))
          → step P code S X s ≡ stop n
      back (inl e) = ap goes e
      back (inr w) = ap goes w.1 ∙ w.2
