-- What one instruction comes to, by its tests: refused with 19, 16 or 17, in that order, or executed.
use Prim.Native.Nat.{ℕ, zero, suc, ◌+◌}
use mathlib.Core.Path.{◌≡◌, refl, sym, ap, ◌∙◌}
use mathlib.Core.Bool.{Bool, true, false, not, ◌&&◌, ◌||◌}
use mathlib.Core.List.{List}
use native.Mathlib.Nat.{zero-add}
use native.Mathlib.Numerals.{add-one}
use native.Mathlib.Omega.{arith}
use lib.Dec.{ltb, leb}
use lib.IntN.{ℤ}
use borrow.Author.Tests.{lt-ltb}
use Rattle.theory.specs.Verdict.{accepted_number, or_else}
use Rattle.theory.proofs.Bools.{clash, neither}
use Rattle.cells.specs.Limits.{max_delay}
use Rattle.cells.specs.Refusals.{time_refused, overrun_refused, faulty_refused}
use Rattle.program.specs.Program.{Program}
use Rattle.rules.specs.Fields.{in_range}
use Rattle.code.specs.Op.{Op, jump, future, return, unused, decode, jump_number, future_number, return_number}
use Rattle.machine.specs.declared.State.{State}
use Rattle.machine.specs.declared.At.{At}
use Rattle.machine.specs.Instruction.{is_faulty, time_bad, still_running, plan_at, executes}
use Rattle.machine.specs.Instant.{is_return}
use Rattle.instants.specs.Step.{Stepped}
use Rattle.instants.specs.Step.{stepped}

-- some unused word is not 0 exactly where their sum is not
pub either-some : (m n : ℕ) → (ltb 0 m || ltb 0 n) ≡ ltb 0 (m + n)
either-some zero n = ap (ltb 0) (sym (zero-add n))
either-some (suc m) n = ap (λ (b : Bool). b || ltb 0 n) (lt-ltb 0 (suc m) (omega arith)) ∙ sym (lt-ltb 0 (suc m + n) (omega arith))

module _ (a : At) where
  -- an instruction refused with this number, the machine as it was
  abbrev pub refused_with : ℕ → Stepped
  refused_with number = record { number = number; over = false; at = a }

  -- an instruction executed: the machine on to the next address, with this state
  abbrev pub moved : Bool → State → Stepped
  moved planned s =
      record { number = accepted_number; over = false; at = record { address = suc a.address; planned = planned; state = s } }

  -- the code adds one to the address
  pub moved-on : (planned : Bool) (s : State)
      → record { number = accepted_number; over = false; at = record { address = a.address + 1; planned = planned; state = s } }
      ≡ moved planned s
  moved-on planned s =
      ap (λ (address : ℕ). record { number = accepted_number; over = false; at = record { address = address; planned = planned; state = s } }) (add-one a.address)

module _ (P : Program) (readings times : List ℤ) (n : ℕ) (a : At) where
  module _ (o : Op) where
    -- what an instruction that is executed comes to
    abbrev pub executed : Stepped
    executed = record { number = accepted_number; over = is_return o; at = executes P readings times o a }

    -- what an instruction comes to, by the tests of 19, 16 and 17
    abbrev pub decided : Bool → Bool → Bool → Stepped
    decided faulty late running =
        elim (or_else faulty faulty_refused (or_else late time_refused (or_else running overrun_refused accepted_number))) [
          | zero ↦ executed
          | suc m ↦ refused_with a (suc m)
        ]

    -- what the three tests decide is what the step comes to
    pub decided-step : decided (is_faulty P n a.planned o) (time_bad P times o) (still_running a.state o) ≡ stepped P readings times n o a
    unfolding stepped
    decided-step = refl

    -- an instruction that is faulty is refused with 19
    pub step-faulty : is_faulty P n a.planned o ≡ true → refused_with a faulty_refused ≡ stepped P readings times n o a
    step-faulty e = (λ i. decided (sym e i) (time_bad P times o) (still_running a.state o)) ∙ decided-step

    -- an instruction that is lent a time out of range is refused with 16
    pub step-late : is_faulty P n a.planned o ≡ false → time_bad P times o ≡ true
        → refused_with a time_refused ≡ stepped P readings times n o a
    step-late e f = (λ i. decided (sym e i) (sym f i) (still_running a.state o)) ∙ decided-step

    -- an instruction whose task is still running is refused with 17
    pub step-running : is_faulty P n a.planned o ≡ false → time_bad P times o ≡ false → still_running a.state o ≡ true
        → refused_with a overrun_refused ≡ stepped P readings times n o a
    step-running e f g = (λ i. decided (sym e i) (sym f i) (sym g i)) ∙ decided-step

    -- an instruction that passes the three tests is executed
    pub step-executed : is_faulty P n a.planned o ≡ false → time_bad P times o ≡ false → still_running a.state o ≡ false
        → executed ≡ stepped P readings times n o a
    step-executed e f g = (λ i. decided (sym e i) (sym f i) (sym g i)) ∙ decided-step

  -- an instruction is faulty too where its unused word is not 0
  pub unused-faulty : (u : ℕ) (o : Op) → (ltb 0 u || is_faulty P n a.planned o) ≡ true
      → refused_with a faulty_refused ≡ stepped P readings times n (unused u o) a
  unused-faulty u o e = step-faulty (unused u o) (go u e)
    where
      go : (u : ℕ) → (ltb 0 u || is_faulty P n a.planned o) ≡ true → is_faulty P n a.planned (unused u o) ≡ true
      go zero e = e
      go (suc u) e = refl

  -- where the unused word is 0, the words say the instruction
  pub unused-none : (u : ℕ) (o : Op) → ltb 0 u ≡ false → stepped P readings times n o a ≡ stepped P readings times n (unused u o) a
  unused-none zero o e = refl
  unused-none (suc u) o e = clash (lt-ltb 0 (suc u) (omega arith)) e

  -- a `jump` is refused where its unused word is not 0, or its address is past the end
  pub jump-refused : (to u : ℕ) → (ltb 0 u || leb n to) ≡ true
      → refused_with a faulty_refused ≡ stepped P readings times n (decode jump_number to u) a
  jump-refused to u e = unused-faulty u (jump to) e

  -- a `jump` that is not refused goes on at its address
  pub jump-executed : (to u : ℕ) → (ltb 0 u || leb n to) ≡ false
      → record { number = accepted_number; over = false; at = record { address = to; planned = a.planned; state = a.state } }
      ≡ stepped P readings times n (decode jump_number to u) a
  jump-executed to u e =
      let (none, inside) = neither (ltb 0 u) (leb n to) e in
      step-executed (jump to) inside refl refl ∙ unused-none u (jump to) none

  -- a `future` is refused where one was executed before, its delay is not in range, or its address is past the end
  pub future-refused : (delay to : ℕ) → (a.planned || not (leb 1 delay && leb delay max_delay) || leb n to) ≡ true
      → refused_with a faulty_refused ≡ stepped P readings times n (decode future_number delay to) a
  unfolding in_range
  future-refused delay to e = step-faulty (future delay to) e

  -- at a `future` that is not refused a block begins
  pub future-executed : (delay to : ℕ) → (a.planned || not (leb 1 delay && leb delay max_delay) || leb n to) ≡ false
      → record {
        number = accepted_number;
        over = false;
        at = record { address = a.address + 1; planned = true; state = plan_at P readings times a.address delay to a.state };
      }
      ≡ stepped P readings times n (decode future_number delay to) a
  unfolding in_range
  future-executed delay to e = moved-on a true _ ∙ step-executed (future delay to) e refl refl

  -- a `return` is refused where a word of it is not 0, or no `future` was executed
  pub return_refused : (first second : ℕ) → (ltb 0 first || ltb 0 second || not a.planned) ≡ true
      → refused_with a faulty_refused ≡ stepped P readings times n (decode return_number first second) a
  return_refused first second e =
      unused-faulty (first + second) return (ap (λ (b : Bool). b || not a.planned) (sym (either-some first second)) ∙ e)

  -- after a `return` that is not refused the instant is over
  pub return-executed : (first second : ℕ) → (ltb 0 first || ltb 0 second || not a.planned) ≡ false
      → record { number = accepted_number; over = true; at = a } ≡ stepped P readings times n (decode return_number first second) a
  return-executed first second e =
      let (none, planned) = neither (ltb 0 first || ltb 0 second) (not a.planned) e in
      step-executed return planned refl refl ∙ unused-none (first + second) return (sym (either-some first second) ∙ none)
