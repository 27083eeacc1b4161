-- One instant of the E machine: from the pending address to `return`, with its count of instructions.
-- "One instant runs more instructions than the E code has" is 20; "running off the end is 19, never 20".
use Rattle.std.specs.Prelude.{ℕ, zero, suc, ◌≤◌, ◌<◌, ◌≡◌, Bool, true, false, List, ◌⊎◌, ltb, ℤ, length, get_or}
use Rattle.theory.specs.Verdict.{accepted_number, verdict}
use Rattle.cells.specs.Refusals.{faulty_refused, count_refused}
use Rattle.program.specs.Program.{Program}
use Rattle.code.specs.Op.{Op, call, schedule, branch, jump, future, return, faulty}
use Rattle.machine.specs.declared.State.{State}
use Rattle.machine.specs.declared.At.{At}
use Rattle.machine.specs.Instruction.{instruction_refusals, executes}

-- what an instant, or a whole advance, comes to
pub data Outcome : Type 0 where
  ok : State → Outcome
  stop : ℕ → Outcome

abbrev pub is_return : Op → Bool
is_return (call c) = false
is_return (schedule t) = false
is_return (branch d a) = false
is_return (jump a) = false
is_return (future d a) = false
is_return return = true
is_return faulty = false

-- what an instant comes to once it ran all of n instructions: 20 at an address inside the code, else 19
abbrev pub ran_out : ℕ → ℕ → Outcome
ran_out n address = elim (ltb address n) [ true ↦ stop count_refused | false ↦ stop faulty_refused ]

module _ (P : Program) (readings times : List ℤ) (code : List Op) where
  -- the instruction at the machine's address; past the end stands none
  abbrev pub fetch : At → Op
  fetch a = get_or code a.address faulty

  -- the number that the instruction at the machine's address is refused with: 19, 16, 17, or 0
  abbrev pub refusal_at : At → ℕ
  refusal_at a = verdict (instruction_refusals P readings times (length code) (fetch a)) a

  -- what the machine comes to from a, in at most `count` instructions
  abbrev pub run_from : ℕ → At → Outcome
  run_from zero a = ran_out (length code) a.address
  run_from (suc count) a = elim (refusal_at a) [
    | zero ↦ elim (is_return (fetch a)) [ true ↦ ok a.state | false ↦ run_from count (executes P readings times (fetch a) a) ]
    | suc n ↦ stop (suc n)
  ]

  abbrev pub start_at : State → At
  start_at s = record { address = s.pending; planned = false; state = s }

  abbrev pub run_instant : State → Outcome
  run_instant s = run_from (length code) (start_at s)

  -- n instructions, none refused and none a `return` by the tests, lead from a to b (in document 01's words: Comes.antt)
  abbrev pub Goes : ℕ → At → At → Type 0
  Goes zero a b = a ≡ b
  Goes (suc n) a b = (refusal_at a ≡ accepted_number) × (is_return (fetch a) ≡ false) × Goes n (executes P readings times (fetch a) a) b

  -- from a, in at most `count` instructions: the last one is a `return` that is not refused, and leaves s
  pub record Ends (count : ℕ) (a : At) (s : State) : Type 0 where
    pub before : ℕ
    pub last : At
    pub in_count : before < count
    pub goes : Goes before a last
    pub not-refused : refusal_at last ≡ accepted_number
    pub returns : is_return (fetch last) ≡ true
    pub leaves : last.state ≡ s

  -- from a, in at most `count` instructions: the last one is refused, with 19, 16 or 17
  pub record RefusedAt (count : ℕ) (a : At) (number : ℕ) : Type 0 where
    pub before : ℕ
    pub last : At
    pub in_count : before < count
    pub goes : Goes before a last
    pub some_number : accepted_number < number
    pub refused : refusal_at last ≡ number

  -- from a, all of `count` instructions were run: one more inside the code is 20, running off the end 19
  pub record Spent (count : ℕ) (a : At) (number : ℕ) : Type 0 where
    pub last : At
    pub goes : Goes count a last
    pub spent : ((last.address < length code) × (number ≡ count_refused)) ⊎ ((length code ≤ last.address) × (number ≡ faulty_refused))
