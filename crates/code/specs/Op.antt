-- E code: an instruction is three words, unused words 0. What the words of a code say.
use Rattle.std.specs.Prelude.{ℕ, zero, suc, ◌+◌, true, false, List, [], ◌∷◌, ◌++◌, eqb}

-- `call n`, `schedule task`, `if driver address`, `jump address`, `future delay address`, `return`;
-- faulty is what no instruction's words say
pub data Op : Type 0 where
  call : ℕ → Op
  schedule : ℕ → Op
  branch : ℕ → ℕ → Op
  jump : ℕ → Op
  future : ℕ → ℕ → Op
  return : Op
  faulty : Op

-- the numbers of the six, which `Opcode` names (src/opcode.rt); and one that no instruction has
abbrev pub call_number : ℕ
call_number = 0

abbrev pub schedule_number : ℕ
schedule_number = 1

abbrev pub if_number : ℕ
if_number = 2

abbrev pub jump_number : ℕ
jump_number = 3

abbrev pub future_number : ℕ
future_number = 4

abbrev pub return_number : ℕ
return_number = 5

abbrev pub no_number : ℕ
no_number = 6

-- the three words of an instruction
abbrev pub words : Op → List ℕ
words (call n) = call_number ∷ n ∷ 0 ∷ []
words (schedule t) = schedule_number ∷ t ∷ 0 ∷ []
words (branch d a) = if_number ∷ d ∷ a ∷ []
words (jump a) = jump_number ∷ a ∷ 0 ∷ []
words (future d a) = future_number ∷ d ∷ a ∷ []
words return = return_number ∷ 0 ∷ 0 ∷ []
words faulty = no_number ∷ 0 ∷ 0 ∷ []

-- the words of a list of instructions, one after the other
abbrev pub emit : List Op → List ℕ
emit [] = []
emit (o ∷ os) = words o ++ emit os

-- an instruction whose unused word must be 0, else faulty
abbrev pub unused : ℕ → Op → Op
unused zero o = o
unused (suc n) o = faulty

-- what three words say, by the first of them
abbrev pub decode : ℕ → ℕ → ℕ → Op
decode n a b =
    elim (eqb n call_number) [
      | true ↦ unused b (call a)
      | false ↦ elim (eqb n schedule_number) [
        | true ↦ unused b (schedule a)
        | false ↦ elim (eqb n if_number) [
          | true ↦ branch a b
          | false ↦ elim (eqb n jump_number) [
            | true ↦ unused b (jump a)
            | false ↦ elim (eqb n future_number) [
              | true ↦ future a b
              | false ↦ elim (eqb n return_number) [ true ↦ unused (a + b) return | false ↦ faulty ]
            ]
          ]
        ]
      ]
    ]

-- the instructions of a code, in order
abbrev pub instructions : List ℕ → List Op
instructions [] = []
instructions (n ∷ []) = []
instructions (n ∷ a ∷ []) = []
instructions (n ∷ a ∷ b ∷ more) = decode n a b ∷ instructions more
