-- An answer tells what a call came to: each refusal has a number of its own, and none that of acceptance.
use Prim.Native.Nat.{ℕ}
use mathlib.Core.Path.{◌≡◌, refl, sym, ap, ap₂, ◌∙◌}
use mathlib.Core.List.{List, [], ◌∷◌}
use lib.ListN.{get_or}
use Rattle.theory.specs.declared.Answer.{Answer}
use Rattle.cells.specs.declared.refusals.Refusal.{Refusal}
use Rattle.cells.specs.declared.refusals.Refusal.TheVariants.{Shape, Fields, TaskPorts, Copies, ModePorts, Invocations, Updates, Switches, Units}
use Rattle.cells.specs.declared.refusals.Refusal.TheVariants.{Whole, Code, Windows, Schedule, Outside, Late, Time, Overrun, Collision, Faulty}
use Rattle.cells.specs.declared.refusals.Refusal.TheVariants.{Count, State, Gap}
use Rattle.cells.specs.Refusals.{number_of}
use Rattle.answers.specs.declared.Refused.{Refused}
use Rattle.answers.proofs.Told.{refusal-some}
use Rattle.demands.specs.Outcomes.{OutcomeTold}

-- the refusals by their numbers; 0, 22 and 23 are of none
abbrev by_number : List Refusal
by_number =
    Shape ∷ Shape ∷ Fields ∷ TaskPorts ∷ Copies ∷ ModePorts ∷ Invocations ∷ Updates ∷ Switches ∷ Units ∷ Whole ∷ Code ∷ Windows ∷ Schedule
    ∷ Outside ∷ Late ∷ Time ∷ Overrun ∷ Collision ∷ Faulty ∷ Count ∷ State ∷ Shape ∷ Shape ∷ Gap ∷ []

named : (r : Refusal) → get_or by_number (number_of r) Shape ≡ r
named Shape = refl
named Fields = refl
named TaskPorts = refl
named Copies = refl
named ModePorts = refl
named Invocations = refl
named Updates = refl
named Switches = refl
named Units = refl
named Whole = refl
named Code = refl
named Windows = refl
named Schedule = refl
named Outside = refl
named Late = refl
named Time = refl
named Overrun = refl
named Collision = refl
named Faulty = refl
named Count = refl
named State = refl
named Gap = refl

-- each refusal has a number of its own
own-number : (r s : Refusal) → number_of r ≡ number_of s → r ≡ s
own-number r s h = sym (named r) ∙ ap (λ (n : ℕ). get_or by_number n Shape) h ∙ named s

abbrev at_place : Refusal → ℕ → ℕ → Refused
at_place r outer inner = record { refusal = r; outer = outer; inner = inner }

pub outcome-told : (A : Type 0) → OutcomeTold A
outcome-told A =
    record {
      refused = λ e d h.
          ap (λ (r : Refusal). at_place r e.outer e.inner) (own-number e.refusal d.refusal (ap (λ (x : Answer). x.number) h))
          ∙ ap₂ (at_place d.refusal) (ap (λ (x : Answer). x.outer) h) (ap (λ (x : Answer). x.inner) h);
      accepted = λ v e h. refusal-some e.refusal (sym (ap (λ (x : Answer). x.number) h));
    }
