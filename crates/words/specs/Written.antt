-- E code as it is written into a lent slice: the words of an instruction, and instructions one after the other.
-- A word past the end of the slice changes nothing.
use Rattle.std.specs.Prelude.{ℕ, ◌+◌, ◌*◌, List, [], ◌∷◌}
use Rattle.std.proofs.lemmas.List.Edits.{sets}
use Rattle.cells.specs.Limits.{words_each}
use Rattle.code.specs.Op.{Op, call, schedule, branch, jump, future, return, faulty}
use Rattle.code.specs.Op.{call_number, schedule_number, if_number, jump_number, future_number, return_number, no_number}
use Rattle.words.specs.declared.Instruction.{Instruction}

-- the three words of an instruction
pub record Words : Type 0 where
  pub number : ℕ
  pub first : ℕ
  pub second : ℕ

-- an instruction from its three words
abbrev pub instruction : ℕ → ℕ → ℕ → Words
instruction number first second = record { number = number; first = first; second = second }

-- the three words of an instruction that the code makes
abbrev pub words_in : Instruction → Words
words_in o = instruction o.number o.first o.second

-- the three words of an instruction of E code
abbrev pub three : Op → Words
three (call n) = instruction call_number n 0
three (schedule t) = instruction schedule_number t 0
three (branch d a) = instruction if_number d a
three (jump a) = instruction jump_number a 0
three (future d a) = instruction future_number d a
three return = instruction return_number 0 0
three faulty = instruction no_number 0 0

-- the slice as it is written so far, and the address of the next instruction
pub record Written : Type 0 where
  pub code : List ℕ
  pub at : ℕ

-- a slice and an address as what is written so far
abbrev pub written : List ℕ → ℕ → Written
written code at = record { code = code; at = at }

-- the slice and the next address after these instructions are written, one after the other
abbrev pub writes : List Words → Written → Written
writes [] w = w
writes (o ∷ os) w =
    writes os (written (sets w.code (w.at * words_each) (o.number ∷ o.first ∷ o.second ∷ [])) (w.at + 1))
