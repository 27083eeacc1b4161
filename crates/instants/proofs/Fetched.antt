-- The instruction that stands at the machine's address, from the three words there; past the end stands none.
use Prim.Native.Nat.{ℕ, ◌+◌, ◌*◌, ◌/◌, ◌≤◌, ◌<◌}
use mathlib.Core.Path.{◌≡◌, refl, sym, ap, ◌∙◌}
use mathlib.Core.List.{List}
use native.Mathlib.Omega.{arith}
use lib.IntN.{ℤ}
use lib.ListN.{length, get_or-eq_default}
use Rattle.cells.specs.Cell.{word_at}
use Rattle.cells.specs.Limits.{words_each}
use Rattle.cells.specs.Refusals.{faulty_refused}
use Rattle.program.specs.Program.{Program}
use Rattle.code.specs.Op.{Op, faulty, no_number, decode, instructions}
use Rattle.code.proofs.Fetch.{instructions-length, instruction-read, decode-unknown}
use Rattle.machine.specs.declared.At.{At}
use Rattle.instants.specs.Step.{Stepped}
use Rattle.instants.specs.Step.{stepped, step_at}
use Rattle.instants.proofs.Steps.{refused_with, step-faulty}

module _ (P : Program) (readings times : List ℤ) (code : List ℕ) (a : At) where
  -- past the end of the code stands no instruction, which is refused with 19
  pub fetched-none : length code / words_each ≤ a.address → refused_with a faulty_refused ≡ step_at P readings times (instructions code) a
  fetched-none l =
      step-faulty P readings times (length (instructions code)) a faulty refl
      ∙ ap (λ (o : Op). stepped P readings times (length (instructions code)) o a)
      (sym (get_or-eq_default (instructions code) faulty (omega (arith, instructions-length code))))

  module _ (number first second : ℕ) (l : a.address < length code / words_each)
      (w : number ≡ word_at code (a.address * words_each)) (x : first ≡ word_at code (a.address * words_each + 1))
      (y : second ≡ word_at code (a.address * words_each + 2)) where
    -- the instruction that the three words say is executed
    pub fetched : (r : Stepped) (n : ℕ) → number ≡ n → r ≡ stepped P readings times (length code / words_each) (decode n first second) a
        → r ≡ step_at P readings times (instructions code) a
    fetched r n e s =
        s ∙ ap (λ (k : ℕ). stepped P readings times k (decode n first second) a) (sym (instructions-length code))
        ∙ ap (λ (o : Op). stepped P readings times (length (instructions code)) o a) (instruction-read code a.address n first second l (sym e ∙ w) x y)

    -- an instruction that has none of the six numbers is refused with 19
    pub fetched-unknown : no_number ≤ number → refused_with a faulty_refused ≡ step_at P readings times (instructions code) a
    fetched-unknown h =
        fetched (refused_with a faulty_refused) number refl
        (step-faulty P readings times (length code / words_each) a faulty refl
        ∙ ap (λ (o : Op). stepped P readings times (length code / words_each) o a)
        (sym (decode-unknown number first second (λ e. omega (arith, e)) (λ e. omega (arith, e)) (λ e. omega (arith, e)) (λ e. omega (arith, e))
        (λ e. omega (arith, e)) (λ e. omega (arith, e)))))
