-- An outcome and what comes after it: where the same follows, where it is refused, and where it stands behind an instruction.
use Prim.Native.Nat.{ℕ}
use mathlib.Core.Path.{◌≡◌, refl, sym}
use mathlib.Core.Bool.{Bool, true, false}
use Rattle.cells.specs.Refusals.{time_refused, overrun_refused}
use Rattle.machine.specs.declared.State.{State}
use Rattle.machine.specs.Instant.{Outcome, ok, stop}
use Rattle.machine.proofs.Outcomes.{stopped}
use Rattle.compiled.specs.Block.{unless, and_then}

-- an outcome comes to the same with two continuations that agree on every state
pub then_same : (o : Outcome) (f g : State → Outcome) → ((s : State) → f s ≡ g s) → and_then o f ≡ and_then o g
then_same (ok s) f g e = e s
then_same (stop n) f g e = refl

-- what comes after an instruction and its rest comes after the rest
pub then-unless : (t r : Bool) (o : Outcome) (f : State → Outcome) → and_then (unless t r o) f ≡ unless t r (and_then o f)
then-unless true r o f = refl
then-unless false true o f = refl
then-unless false false o f = refl

-- an instruction and its rest are refused with 16, with 17, or where the rest is
pub unless-stops : (R : Type 0) (t r : Bool) (o : Outcome) (n : ℕ) → ((t ≡ true) → (n ≡ time_refused) → R) → ((n ≡ overrun_refused) → R)
    → (o ≡ stop n → R)
    → unless t r o ≡ stop n → R
unless-stops R true r o n f g h e = f refl (sym (stopped e))
unless-stops R false true o n f g h e = g (sym (stopped e))
unless-stops R false false o n f g h e = h e

-- an outcome and what follows it are refused where the outcome is, or where what follows it is
pub then-stops : (R : Type 0) (o : Outcome) (f : State → Outcome) (n : ℕ) → (o ≡ stop n → R) → ((s : State) → o ≡ ok s → f s ≡ stop n → R)
    → and_then o f ≡ stop n → R
then-stops R (ok s) f n g h e = h s refl e
then-stops R (stop m) f n g h e = g e
