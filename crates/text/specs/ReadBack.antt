-- A printed listing read back, as strictly as it is printed: a line end after each line, addresses that count up from 0, one space
-- between words, numbers of 32 bits in decimal without a zero in front.
use Rattle.std.specs.Prelude.{ℕ, suc, ◌≤◌, ◌≡◌, Bool, true, false, ◌&&◌, List, [], ◌∷◌, eqb}
use Rattle.std.proofs.Math.Option.{Option, none, some}
use Rattle.theory.specs.Lists.{Every}
use Rattle.cells.specs.Cell.{greatest_word}
use Rattle.code.specs.Op.{Op, call, schedule, branch, jump, future, return, faulty}
use Rattle.text.specs.Decimal.{space, newline, decimal, word_of}
use Rattle.text.specs.Input.{in_front}
use Rattle.text.specs.Listing.{mnemonic, arguments}

-- an instruction that is printed whole: none that is faulty, and all its arguments are numbers of 32 bits
pub record Printable (o : Op) : Type 0 where
  pub known : o ≡ faulty → ⊥
  pub fits : Every (λ (n : ℕ). n ≤ greatest_word) (arguments o)

-- two texts are the same
abbrev pub same : List ℕ → List ℕ → Bool
same [] [] = true
same [] (c ∷ cs) = false
same (b ∷ bs) [] = false
same (b ∷ bs) (c ∷ cs) = eqb b c && same bs cs

-- the parts of a text between separators, one more than there are separators
abbrev pub parts : ℕ → List ℕ → List (List ℕ)
parts separator [] = [] ∷ []
parts separator (b ∷ bs) = elim (eqb separator b) [ true ↦ [] ∷ parts separator bs | false ↦ in_front b (parts separator bs) ]

-- a number, where the text is its own decimal digits
abbrev pub as_printed : Option ℕ → List ℕ → Option ℕ
as_printed none word = none
as_printed (some n) word = elim (same (decimal n) word) [ true ↦ some n | false ↦ none ]

-- a printed number of 32 bits
abbrev pub numeral : List ℕ → Option ℕ
numeral word = as_printed (word_of word) word

-- a number in front of numbers, where both were read
abbrev pub number_before : Option ℕ → Option (List ℕ) → Option (List ℕ)
number_before none ns = none
number_before (some n) none = none
number_before (some n) (some ns) = some (n ∷ ns)

-- the numbers that words are, where each is a printed one
abbrev pub numerals : List (List ℕ) → Option (List ℕ)
numerals [] = some []
numerals (w ∷ ws) = number_before (numeral w) (numerals ws)

-- an instruction without arguments, where none are given
abbrev pub with_none : Op → List ℕ → Option Op
with_none o [] = some o
with_none o (n ∷ ns) = none

-- an instruction with one argument, where one is given
abbrev pub with_one : (ℕ → Op) → List ℕ → Option Op
with_one o [] = none
with_one o (n ∷ []) = some (o n)
with_one o (n ∷ m ∷ ns) = none

-- an instruction with two arguments, where two are given
abbrev pub with_two : (ℕ → ℕ → Op) → List ℕ → Option Op
with_two o [] = none
with_two o (n ∷ []) = none
with_two o (n ∷ m ∷ []) = some (o n m)
with_two o (n ∷ m ∷ k ∷ ns) = none

-- the instruction of a mnemonic and its arguments
abbrev pub named : List ℕ → List ℕ → Option Op
named name ns =
    elim (same name (mnemonic (call 0))) [
      | true ↦ with_one call ns
      | false ↦ elim (same name (mnemonic (schedule 0))) [
        | true ↦ with_one schedule ns
        | false ↦ elim (same name (mnemonic (branch 0 0))) [
          | true ↦ with_two branch ns
          | false ↦ elim (same name (mnemonic (jump 0))) [
            | true ↦ with_one jump ns
            | false ↦ elim (same name (mnemonic (future 0 0))) [
              | true ↦ with_two future ns
              | false ↦ elim (same name (mnemonic return)) [ true ↦ with_none return ns | false ↦ none ]
            ]
          ]
        ]
      ]
    ]

-- the instruction of a mnemonic and its arguments, where these were read as numbers
abbrev pub op_named : List ℕ → Option (List ℕ) → Option Op
op_named name none = none
op_named name (some ns) = named name ns

-- an instruction and its address
pub record Placed : Type 0 where
  pub address : ℕ
  pub op : Op

-- an instruction at an address, where both were read
abbrev pub placed_at : Option ℕ → Option Op → Option Placed
placed_at none o = none
placed_at (some a) none = none
placed_at (some a) (some o) = some (record { address = a; op = o })

-- the address and the instruction that the words of a line say
abbrev pub read_words : List (List ℕ) → Option Placed
read_words [] = none
read_words (address ∷ []) = none
read_words (address ∷ name ∷ rest) = placed_at (numeral address) (op_named name (numerals rest))

-- the address and the instruction that a line says, without its end
abbrev pub read_inner : List ℕ → Option Placed
read_inner line = read_words (parts space line)

-- the address and the instruction that the one line of a text says, with nothing behind its end
abbrev pub read_only : List (List ℕ) → Option Placed
read_only [] = none
read_only (l ∷ []) = none
read_only (l ∷ [] ∷ []) = read_inner l
read_only (l ∷ [] ∷ m ∷ ls) = none
read_only (l ∷ (b ∷ bs) ∷ ls) = none

-- the address and the instruction that a line says, with its end
abbrev pub read_line : List ℕ → Option Placed
read_line text = read_only (parts newline text)

-- the instruction of a line that says this address, and those of the lines after it
abbrev pub read_next : ℕ → Option Placed → Option (List Op) → Option (List Op)
read_next address none rest = none
read_next address (some l) none = none
read_next address (some l) (some os) = elim (eqb l.address address) [ true ↦ some (l.op ∷ os) | false ↦ none ]

-- no instructions, where nothing stands behind the last line end
abbrev pub read_end : List ℕ → Option (List Op)
read_end [] = some []
read_end (b ∷ bs) = none

-- the instructions that the lines from an address on say
abbrev pub read_from : ℕ → List (List ℕ) → Option (List Op)
read_from address [] = none
read_from address (l ∷ []) = read_end l
read_from address (l ∷ m ∷ ls) = read_next address (read_inner l) (read_from (suc address) (m ∷ ls))

-- the instructions that a listing says: its lines count up from address 0
abbrev pub read_listing : List ℕ → Option (List Op)
read_listing text = read_from 0 (parts newline text)
