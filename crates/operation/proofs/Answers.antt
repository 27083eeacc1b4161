-- What a fresh state and the two parts of a step answer. Where the E part of an advance is not refused, the
-- state before the tick is within its limits. Assumes of that state that the one handed in is.
use Prim.Native.Nat.{◌≤◌, ◌<◌}
use mathlib.Core.Path.{◌≡◌, refl, sym, ap, subst, ◌∙◌}
use mathlib.Core.List.{List}
use mathlib.Core.Logic.{◌⊎◌, inl, inr}
use native.Mathlib.Omega.{arith}
use lib.IntN.{ℤ}
use lib.ListN.{length}
use Rattle.theory.specs.Verdict.{accepted_number}
use Rattle.std.specs.Prelude.{Result, Ok, Err}
use Rattle.cells.specs.Limits.{max_elapsed}
use Rattle.cells.specs.declared.refusals.Refusal.{Refusal}
use Rattle.cells.proofs.Numbers.{number-some}
use Rattle.program.specs.Program.{Program}
use Rattle.code.specs.Op.{Op}
use Rattle.machine.specs.declared.State.{State}
use Rattle.machine.specs.Instant.{Outcome, ok, stop, start_at, Ends}
use Rattle.machine.specs.Schedules.{tick_all}
use Rattle.machine.specs.Advance.{Advanced, Lent, ready, step, answer}
use Rattle.machine.specs.Told.{advanced_of}
use Rattle.machine.proofs.Collide.{tick-refused}
use Rattle.machine.proofs.Ready.{ready-leaves, goes}
use Rattle.machine.proofs.Refusals.{ready-number}
use Rattle.machine.proofs.Kept.{instant-keeps}

module _ (P : Program) (code : List Op) (readings times : List ℤ) (s : State) where
  -- an answer 0 of the E part tells the state before the tick
  pub ready-told : (b : Advanced) → b ≡ answer s (ready P code readings times s) → b.number ≡ accepted_number → ready P code readings times s ≡ ok b.state
  ready-told b e z = go (ready P code readings times s) refl e
    where
      go : (o : Outcome) → ready P code readings times s ≡ o → b ≡ answer s o → ready P code readings times s ≡ ok b.state
      go (ok u) f g = f ∙ ap ok (sym (ap (λ (a : Advanced). a.state) g))
      go (stop n) f g = absurd (omega (arith, ready-number P code readings times s n f, z, ap (λ (a : Advanced). a.number) g))

  -- the state before the tick is within its limits, as the one handed in is
  pub ready-small : (u : State) → s.current < length code → s.elapsed ≤ max_elapsed → ready P code readings times s ≡ ok u
      → (u.current < length code) × (u.elapsed ≤ max_elapsed)
  ready-small u c l e = go ((ready-leaves P code readings times s u).0 e)
    where
      go : ((1 ≤ s.remaining) × (u ≡ s)) ⊎ ((s.remaining ≡ 0) × Ends P readings times code (length code) (start_at P readings times code s) u)
          → (u.current < length code) × (u.elapsed ≤ max_elapsed)
      go (inl w) = subst (λ (v : State). (v.current < length code) × (v.elapsed ≤ max_elapsed)) (sym w.1) (c, l)
      go (inr w) = let b = (instant-keeps P readings times code s u w.1).begins in (b.here, omega (arith, b.elapsed))

module _ (P : Program) (code : List Op) (S : List ℤ) (X : Lent) (s : State) where
  -- where the E part is refused, so is the step
  pub step-stops : (b : Advanced) → b ≡ answer s (ready P code X.readings X.times s) → accepted_number < b.number
      → record { number = b.number; state = s } ≡ answer s (step P code S X s)
  step-stops b e l = go (ready P code X.readings X.times s) e
    where
      go : (o : Outcome) → b ≡ answer s o → record { number = b.number; state = s } ≡ answer s (goes P code S X s o)
      go (ok u) g = absurd (omega (arith, l, ap (λ (a : Advanced). a.number) g))
      go (stop n) g = ap (λ (a : Advanced). record { number = a.number; state = s }) g

  module _ (u : State) (e : ready P code X.readings X.times s ≡ ok u) (a : Advanced) (f : a ≡ answer u (tick_all P S X.results u)) where
    -- where the tick is refused, so is the step
    pub tick-stops : accepted_number < a.number → record { number = a.number; state = s } ≡ answer s (step P code S X s)
    tick-stops l = go (tick_all P S X.results u) f ∙ ap (λ (o : Outcome). answer s (goes P code S X s o)) (sym e)
      where
        go : (o : Outcome) → a ≡ answer u o → record { number = a.number; state = s } ≡ answer s o
        go (ok v) g = absurd (omega (arith, l, ap (λ (a : Advanced). a.number) g))
        go (stop n) g = ap (λ (a : Advanced). record { number = a.number; state = s }) g

    -- where the tick is not refused, its state is the step's
    pub tick-passes : a.number ≡ accepted_number → a ≡ answer s (step P code S X s)
    tick-passes z = go (tick_all P S X.results u) refl f ∙ ap (λ (o : Outcome). answer s (goes P code S X s o)) (sym e)
      where
        go : (o : Outcome) → tick_all P S X.results u ≡ o → a ≡ answer u o → a ≡ answer s o
        go (ok v) h g = g
        go (stop n) h g = absurd (omega (arith, ((tick-refused P S X.results u n).0 h).0, z, ap (λ (a : Advanced). a.number) g))

    -- what the tick of the state between comes to is what the step comes to
    pub step-goes : (r : Result State Refusal) → a ≡ advanced_of u r → advanced_of s r ≡ answer s (step P code S X s)
    step-goes (Ok v) g = sym g ∙ tick-passes (ap (λ (a : Advanced). a.number) g)
    step-goes (Err k) g =
        ap (λ (a : Advanced). record { number = a.number; state = s }) (sym g) ∙ tick-stops (omega (arith, number-some k, ap (λ (a : Advanced). a.number) g))
