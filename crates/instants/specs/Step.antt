-- What one instruction of E code comes to, as the code hands it on: 19, 16 or 17, or the machine after it, and whether it was the
-- `return`.
use Rattle.std.specs.Prelude.{ℕ, zero, suc, ◌^◌, Bool, true, false, List, ℤ, length, Result, Ok, Err}
use Rattle.theory.specs.Verdict.{accepted_number, verdict}
use Rattle.cells.specs.declared.refusals.Refusal.{Refusal}
use Rattle.cells.specs.Refusals.{overrun_refused, faulty_refused, number_of}
use Rattle.program.specs.Program.{Program}
use Rattle.code.specs.Op.{Op}
use Rattle.machine.specs.Instruction.{Call, names_nothing, still_called, called, instruction_refusals, executes}
use Rattle.machine.specs.Instant.{is_return, fetch}
use Rattle.machine.specs.declared.State.{State}
use Rattle.machine.specs.declared.At.{At}
use Rattle.machine.specs.Advance.{Advanced}
use Rattle.instants.specs.declared.instructions.Stepping.{Stepping}
use Rattle.instants.specs.declared.instructions.Stepping.TheVariants.{On, Over}

-- every address of an instruction is smaller, since its code has fewer than 2^64 words; so the next address fits 64 bits
abbrev pub address_end : ℕ
address_end = 2 ^ 63

-- what an instruction comes to, in numbers: 0, 19, 16 or 17; whether it was the `return`; the machine after it, as it was if refused
pub record Stepped : Type 0 where
  pub number : ℕ
  pub over : Bool
  pub at : At

-- the same of what the code hands on
abbrev pub stepped_of : At → Result Stepping Refusal → Stepped
stepped_of a (Ok (On b)) = record { number = accepted_number; over = false; at = b }
stepped_of a (Ok (Over b)) = record { number = accepted_number; over = true; at = b }
stepped_of a (Err r) = record { number = number_of r; over = false; at = a }

module _ (P : Program) (readings times : List ℤ) where
  -- what a call comes to: 19 if it names nothing, 17 if its task is still running, or the state after it
  unfoldable pub call_answer : State → Call → Advanced
  call_answer s c = elim (names_nothing P c) [
    | true ↦ record { number = faulty_refused; state = s }
    | false ↦ elim (still_called s c) [
      | true ↦ record { number = overrun_refused; state = s }
      | false ↦ record { number = accepted_number; state = called P readings times s c }
    ]
  ]

  -- what an instruction comes to, in a code of n instructions
  unfoldable pub stepped : ℕ → Op → At → Stepped
  stepped n o a = elim (verdict (instruction_refusals P readings times n o) a) [
    | zero ↦ record { number = accepted_number; over = is_return o; at = executes P readings times o a }
    | suc m ↦ record { number = suc m; over = false; at = a }
  ]

  -- what the instruction that stands at the machine's address comes to
  abbrev pub step_at : List Op → At → Stepped
  step_at code a = stepped (length code) (fetch P readings times code a) a
