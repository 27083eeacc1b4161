-- The printed listing can be inverted: a line says its address and its instruction, and a listing its instructions.
-- Assumes that the numbers have 32 bits and that no instruction is faulty.
use Prim.Native.Nat.{ℕ, suc, ◌+◌, ◌≤◌}
use mathlib.Core.Path.{◌≡◌, refl, sym, ap, ◌∙◌}
use mathlib.Core.Bool.{Bool, true, false, ◌&&◌}
use mathlib.Core.List.{List, [], ◌∷◌, ◌++◌, map, append_assoc, append-nil}
use mathlib.Core.Option.{Option, some, some-injective, none-ne-some}
use native.Mathlib.Omega.{arith}
use lib.ListN.{length}
use borrow.Author.Tests.{eq-eqb}
use Rattle.theory.specs.Lists.{Every, member}
use Rattle.cells.specs.Cell.{greatest_word}
use Rattle.code.specs.Op.{Op, call, schedule, branch, jump, future, return, faulty}
use Rattle.text.specs.Decimal.{space, newline, decimal}
use Rattle.text.specs.Listing.{mnemonic, arguments, spaced, line_of, lines_from, listing_text}
use Rattle.text.specs.ReadBack.{Printable, Placed, same, parts, as_printed, numeral, number_before, numerals, named, op_named, placed_at}
use Rattle.text.specs.ReadBack.{read_words, read_inner, read_only, read_line, read_next, read_from, read_listing}
use Rattle.text.proofs.Magnitude.{taken, word-decimal}
use Rattle.text.proofs.Parts.{parts_more, parts-spaced, member-append, decimal-free, mnemonic-free, spaced-free}

-- a text is the same as itself
same_self : (text : List ℕ) → same text text ≡ true
same_self [] = refl
same_self (b ∷ bs) = ap (λ (t : Bool). t && same bs bs) (eq-eqb b b refl) ∙ same_self bs

-- a printed number reads back
numeral-decimal : (n : ℕ) → n ≤ greatest_word → numeral (decimal n) ≡ some n
numeral-decimal n h =
    ap (λ (v : Option ℕ). as_printed v (decimal n)) (word-decimal n h) ∙ ap (λ (t : Bool). taken t (some n)) (same_self (decimal n))

-- printed arguments read back
numerals-decimal : (ns : List ℕ) → Every (λ (n : ℕ). n ≤ greatest_word) ns → numerals (map decimal ns) ≡ some ns
numerals-decimal [] h = refl
numerals-decimal (n ∷ ns) h = λ j. number_before (numeral-decimal n h.0 j) (numerals-decimal ns h.1 j)

-- a mnemonic with its arguments reads back
named-op : (o : Op) → (o ≡ faulty → ⊥) → named (mnemonic o) (arguments o) ≡ some o
named-op (call n) h = refl
named-op (schedule t) h = refl
named-op (branch d a) h = refl
named-op (jump a) h = refl
named-op (future d a) h = refl
named-op return h = refl
named-op faulty h = absurd (h refl)

-- a line without its end
abbrev pub inner : ℕ → Op → List ℕ
inner address o = decimal address ++ (space ∷ (mnemonic o ++ spaced (arguments o)))

-- the words of a line without its end are its address, its mnemonic and its arguments
inner-parts : (address : ℕ) (o : Op) → parts space (inner address o) ≡ decimal address ∷ mnemonic o ∷ map decimal (arguments o)
inner-parts address o =
    parts_more space (decimal address) (mnemonic o ++ spaced (arguments o)) (decimal-free space address (omega arith))
    ∙ ap (λ (l : List (List ℕ)). decimal address ∷ l) (parts-spaced (mnemonic o) (arguments o) (mnemonic-free space o (omega arith)))

-- a line without its end has no line end in it
inner-free : (address : ℕ) (o : Op) → member newline (inner address o) ≡ false
inner-free address o =
    member-append newline (decimal address) (space ∷ (mnemonic o ++ spaced (arguments o))) (decimal-free newline address (omega arith))
    (member-append newline (mnemonic o) (spaced (arguments o)) (mnemonic-free newline o (omega arith)) (spaced-free (arguments o)))

-- a line and what follows it are the line without its end, a line end, and what follows
pub line-then : (address : ℕ) (o : Op) (more : List ℕ) → line_of address o ++ more ≡ inner address o ++ (newline ∷ more)
line-then address o more = ends (decimal address) (mnemonic o) (spaced (arguments o))
  where
    ends : (x m n : List ℕ) → (x ++ (space ∷ (m ++ (n ++ (newline ∷ []))))) ++ more ≡ (x ++ (space ∷ (m ++ n))) ++ (newline ∷ more)
    ends x m n = simp append_assoc

-- a line in front of a text is the first of its lines
line-parts : (address : ℕ) (o : Op) (more : List ℕ) → parts newline (line_of address o ++ more) ≡ inner address o ∷ parts newline more
line-parts address o more =
    ap (parts newline) (line-then address o more) ∙ parts_more newline (inner address o) more (inner-free address o)

module _ (address : ℕ) (o : Op) (a : address ≤ greatest_word) (p : Printable o) where
  -- a line without its end reads back
  read-inner : read_inner (inner address o) ≡ some (record { address = address; op = o })
  read-inner =
      ap read_words (inner-parts address o)
      ∙ (λ j. placed_at (numeral-decimal address a j) (op_named (mnemonic o) (numerals-decimal (arguments o) p.fits j)))
      ∙ ap (placed_at (some address)) (named-op o p.known)

  -- a line with its end reads back
  pub read-line : read_line (line_of address o) ≡ some (record { address = address; op = o })
  read-line = ap (λ (t : List ℕ). read_line t) (sym (append-nil (line_of address o))) ∙ ap read_only (line-parts address o []) ∙ read-inner

-- a line in front of lines that read back reads back with them
read_more : (address : ℕ) (line : List ℕ) (rest : List (List ℕ)) (os : List Op) → read_from (suc address) rest ≡ some os
    → read_from address (line ∷ rest) ≡ read_next address (read_inner line) (some os)
read_more address line [] os e = absurd (none-ne-some os e)
read_more address line (l ∷ ls) os e = ap (read_next address (read_inner line)) e

-- what the lines from an address on say reads back
read-lines : (address : ℕ) (os : List Op) → address + length os ≤ suc greatest_word → Every Printable os
    → read_from address (parts newline (lines_from address os)) ≡ some os
read-lines address [] h p = refl
read-lines address (o ∷ os) h p =
    let a : address ≤ greatest_word = omega arith in
    ap (read_from address) (line-parts address o (lines_from (suc address) os))
    ∙ read_more address (inner address o) (parts newline (lines_from (suc address) os)) os (read-lines (suc address) os (omega arith) p.1)
    ∙ ap (λ (l : Option Placed). read_next address l (some os)) (read-inner address o a p.0)
    ∙ ap (λ (t : Bool). taken t (some (o ∷ os))) (eq-eqb address address refl)

-- a listing whose addresses are numbers of 32 bits reads back
pub read-listing : (os : List Op) → length os ≤ greatest_word → Every Printable os → read_listing (listing_text os) ≡ some os
read-listing os h p = read-lines 0 os (omega arith) p

-- two lines that are the same say one address and one instruction
pub line-says : (address address' : ℕ) (o o' : Op) → address ≤ greatest_word → address' ≤ greatest_word → Printable o → Printable o'
    → line_of address o ≡ line_of address' o' → (address ≡ address') × (o ≡ o')
line-says address address' o o' a a' p p' e =
    let same = some-injective _ _ (sym (read-line address o a p) ∙ ap (λ (t : List ℕ). read_line t) e ∙ read-line address' o' a' p') in
    (ap (λ (l : Placed). l.address) same, ap (λ (l : Placed). l.op) same)

-- two listings that are the same say one list of instructions
pub listing-says : (os os' : List Op) → length os ≤ greatest_word → length os' ≤ greatest_word → Every Printable os → Every Printable os'
    → listing_text os ≡ listing_text os' → os ≡ os'
listing-says os os' h h' p p' e =
    some-injective os os' (sym (read-listing os h p) ∙ ap (λ (t : List ℕ). read_listing t) e ∙ read-listing os' h' p')
