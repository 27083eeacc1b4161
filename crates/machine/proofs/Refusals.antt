-- A refusal returns its number, and the state is as before; no step is refused with 0.
use Prim.Native.Nat.{ℕ, ◌≤◌, ◌<◌}
use mathlib.Core.Path.{◌≡◌, refl, sym, ap, ◌∙◌}
use mathlib.Core.List.{List}
use mathlib.Core.Logic.{◌⊎◌, inl, inr}
use native.Mathlib.Decide.{dec_lt}
use native.Mathlib.Omega.{arith}
use lib.IntN.{ℤ}
use lib.ListN.{length}
use Rattle.theory.specs.Verdict.{accepted_number}
use Rattle.cells.specs.Refusals.{faulty_refused, count_refused}
use Rattle.program.specs.Program.{Program}
use Rattle.code.specs.Op.{Op}
use Rattle.machine.specs.declared.State.{State}
use Rattle.machine.specs.declared.Handed.{Handed}
use Rattle.machine.specs.Instant.{Outcome, ok, stop, start_at, RefusedAt, Spent}
use Rattle.machine.specs.Schedules.{tick_all}
use Rattle.machine.specs.Advance.{Lent, Advance, advance_verdict, ready, step, answer, advance_answer}
use Rattle.machine.proofs.Collide.{tick-refused}
use Rattle.machine.proofs.Ready.{ready-stops, step-refused}
use Rattle.machine.proofs.Answered.{outcome, advance-refused, advance-steps, step-answered}

-- an advance that is refused hands the state back as it was
pub refused-keeps : (L : Advance) → ((advance_answer L).answer.number ≡ accepted_number → ⊥) → (advance_answer L).state ≡ L.state
refused-keeps L h = go (dec_lt accepted_number (advance_verdict L))
  where
    end : (o : Outcome) → ((answer L.state o).number ≡ accepted_number → ⊥) → (answer L.state o).state ≡ L.state
    end (ok u) h = absurd (h refl)
    end (stop n) h = refl

    go : Dec (accepted_number < advance_verdict L) → (advance_answer L).state ≡ L.state
    go (yes l) = sym (ap (λ (h : Handed). h.state) (advance-refused L l))
    go (no l) =
        let z : advance_verdict L ≡ accepted_number = omega (arith, l) in
        sym (ap (λ (h : Handed). h.state) (advance-steps L z)) ∙ end (outcome L) (λ q. h (step-answered L z ∙ q))

-- the E part of an advance is refused with no 0
pub ready-number : (P : Program) (code : List Op) (readings times : List ℤ) (s : State) (n : ℕ) → ready P code readings times s ≡ stop n → accepted_number < n
ready-number P code readings times s n e = number ((ready-stops P code readings times s n).0 e).1
  where
    number : RefusedAt P readings times code (length code) (start_at P readings times code s) n ⊎ Spent P readings times code (length code) (start_at P readings times code s) n → accepted_number < n
    number (inl r) = r.some_number
    number (inr w) = end w.spent
      where
        end : ((w.last.address < length code) × (n ≡ count_refused)) ⊎ ((length code ≤ w.last.address) × (n ≡ faulty_refused))
            → accepted_number < n
        end (inl x) = omega (arith, x.1)
        end (inr x) = omega (arith, x.1)

-- no step is refused with 0, so 0 is given only where the state moves
pub step-number : (P : Program) (code : List Op) (S : List ℤ) (X : Lent) (s : State) (n : ℕ) → step P code S X s ≡ stop n
    → accepted_number < n
step-number P code S X s n e = go ((step-refused P code S X s n).0 e)
  where
    go : (ready P code X.readings X.times s ≡ stop n)
        ⊎ ((v : State) × (ready P code X.readings X.times s ≡ ok v) × (tick_all P S X.results v ≡ stop n))
        → accepted_number < n
    go (inl f) = ready-number P code X.readings X.times s n f
    go (inr w) = omega (arith, ((tick-refused P S X.results w.0 n).0 w.2).0)
