-- The instructions of a code by number: how many there are, which three words say each, and which words say none.
use Prim.Native.Nat.{ℕ, zero, suc, ◌+◌, ◌*◌, ◌/◌, ◌<◌}
use mathlib.Core.Path.{◌≡◌, refl, sym, ◌∙◌}
use mathlib.Core.List.{List, [], ◌∷◌}
use native.Mathlib.Omega.{arith}
use lib.ListN.{length, get_or}
use borrow.Author.Tests.{ne_eqb}
use Rattle.cells.specs.Cell.{word_at}
use Rattle.cells.specs.Limits.{words_each}
use Rattle.code.specs.Op.{Op, faulty, call_number, schedule_number, if_number, jump_number, future_number, return_number, decode}
use Rattle.code.specs.Op.{instructions}

-- a code has as many instructions as whole threes of words
pub instructions-length : (code : List ℕ) → length (instructions code) ≡ length code / words_each
instructions-length [] = refl
instructions-length (n ∷ []) = refl
instructions-length (n ∷ a ∷ []) = refl
instructions-length (n ∷ a ∷ b ∷ more) = omega (arith, instructions-length more)

-- the instruction that the three words from a place on say
abbrev pub decoded_at : List ℕ → ℕ → Op
decoded_at code at = decode (word_at code at) (word_at code (at + 1)) (word_at code (at + 2))

-- instruction i is said by the words at three times i and behind it
pub instruction-at : (code : List ℕ) (i : ℕ) → i < length code / words_each → get_or (instructions code) i faulty ≡ decoded_at code (i * words_each)
unfolding word_at
instruction-at [] i h = absurd (omega arith)
instruction-at (n ∷ []) i h = absurd (omega arith)
instruction-at (n ∷ a ∷ []) i h = absurd (omega arith)
instruction-at (n ∷ a ∷ b ∷ more) zero h = refl
instruction-at (n ∷ a ∷ b ∷ more) (suc i) h =
    let here : suc (suc (suc (i * words_each))) ≡ suc i * words_each = omega arith in
    let first : suc (suc (suc (i * words_each + 1))) ≡ suc i * words_each + 1 = omega arith in
    let second : suc (suc (suc (i * words_each + 2))) ≡ suc i * words_each + 2 = omega arith in
    let code = n ∷ a ∷ b ∷ more in
    instruction-at more i (omega arith) ∙ (λ j. decode (word_at code (here j)) (word_at code (first j)) (word_at code (second j)))

-- three words that were read at three times i and behind it say instruction i
pub instruction-read : (code : List ℕ) (i n a b : ℕ) → i < length code / words_each
    → n ≡ word_at code (i * words_each) → a ≡ word_at code (i * words_each + 1) → b ≡ word_at code (i * words_each + 2)
    → decode n a b ≡ get_or (instructions code) i faulty
instruction-read code i n a b h e f g = (λ j. decode (e j) (f j) (g j)) ∙ sym (instruction-at code i h)

-- three words whose first is none of the six numbers say no instruction
pub decode-unknown : (n a b : ℕ) → (n ≡ call_number → ⊥) → (n ≡ schedule_number → ⊥) → (n ≡ if_number → ⊥) → (n ≡ jump_number → ⊥)
    → (n ≡ future_number → ⊥) → (n ≡ return_number → ⊥) → decode n a b ≡ faulty
decode-unknown n a b c s i j f r =
    rw (ne_eqb n call_number c, decode)
    (rw (ne_eqb n schedule_number s)
    (rw (ne_eqb n if_number i) (rw (ne_eqb n jump_number j) (rw (ne_eqb n future_number f) (rw (ne_eqb n return_number r) refl)))))
