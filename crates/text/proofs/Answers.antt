-- The line of an answer: its pieces, with a place and without, and that it has some byte and any line has room for it; and what is said
-- of a listing that is larger than is held.
use Prim.Native.Nat.{ℕ, ◌+◌, ◌≤◌, ◌<◌}
use mathlib.Core.Path.{◌≡◌, refl, sym, ap, ◌∙◌}
use mathlib.Core.Bool.{Bool, true, false, cond}
use mathlib.Core.List.{List, [], ◌∷◌, ◌++◌, append_assoc, append-nil}
use native.Mathlib.Omega.{arith}
use lib.ListN.{length, length-append}
use Rattle.theory.specs.Rows.{placeless}
use Rattle.theory.specs.declared.Answer.{Answer}
use Rattle.theory.proofs.Conditions.{cond-all}
use Rattle.cells.specs.Refusals.{code_refused}
use Rattle.text.specs.Decimal.{newline, decimal}
use Rattle.text.specs.Line.{room, most_argument}
use Rattle.text.specs.Listing.{spaced}
use Rattle.text.specs.Shipped.{has_place, answer_line, larger_listing}
use Rattle.text.proofs.Decimals.{decimal-few}
use Rattle.text.proofs.Said.{spaced-two, arguments-few}

module _ (x : Answer) where
  -- what stands between number and line end: the place, or nothing
  abbrev place : Bool → List ℕ
  place b = cond b (spaced (x.outer ∷ x.inner ∷ [])) []

  -- the pieces of a line with a place
  pub line-placed : has_place x.number ≡ true
      → decimal x.number ++ spaced (x.outer ∷ []) ++ spaced (x.inner ∷ []) ++ (newline ∷ []) ≡ answer_line x
  unfolding answer_line
  line-placed e =
      ap (λ (l : List ℕ). l ++ (newline ∷ [])) (append_assoc (decimal x.number) (spaced (x.outer ∷ [])) (spaced (x.inner ∷ [])))
      ∙ ap (λ (l : List ℕ). decimal x.number ++ l ++ (newline ∷ [])) (spaced-two x.outer x.inner)
      ∙ ap (λ (b : Bool). decimal x.number ++ place b ++ (newline ∷ [])) (sym e)

  -- the pieces of a line without a place
  pub line-alone : has_place x.number ≡ false → decimal x.number ++ (newline ∷ []) ≡ answer_line x
  unfolding answer_line
  line-alone e =
      ap (λ (l : List ℕ). l ++ (newline ∷ [])) (sym (append-nil (decimal x.number)))
      ∙ ap (λ (b : Bool). decimal x.number ++ place b ++ (newline ∷ [])) (sym e)

  -- how long the pieces of a line are together
  line-length : length (answer_line x) ≡ length (decimal x.number) + length (place (has_place x.number)) + 1
  unfolding answer_line
  line-length =
      let p = place (has_place x.number) in
      omega (arith, length-append (decimal x.number ++ p) (newline ∷ []), length-append (decimal x.number) p)

  -- a line has some byte
  pub line-some : 0 < length (answer_line x)
  line-some = omega (arith, line-length)

  -- a line has room for the line of any answer
  pub answer-few : length (answer_line x) ≤ room
  answer-few =
      let p : length (place (has_place x.number)) ≤ most_argument + most_argument =
      cond-all (λ (l : List ℕ). length l ≤ most_argument + most_argument) (has_place x.number) _ _
      (λ e. arguments-few x.outer x.inner) (λ e. omega arith) in
      omega (arith, line-length, decimal-few x.number, p)

-- the line of a number without a place is the same whatever place stands beside it
pub line-placeless : (x : Answer) → has_place x.number ≡ false → answer_line x ≡ answer_line (placeless x.number)
line-placeless x e = sym (line-alone x e) ∙ line-alone (placeless x.number) e

-- the line of a listing that is larger than is held, in numbers: `listing larger than 4096 instructions`
pub larger-bytes : larger_listing
    ≡ 108 ∷ 105 ∷ 115 ∷ 116 ∷ 105 ∷ 110 ∷ 103 ∷ 32 ∷ 108 ∷ 97 ∷ 114 ∷ 103 ∷ 101 ∷ 114 ∷ 32 ∷ 116 ∷ 104 ∷ 97 ∷ 110 ∷ 32 ∷ 52 ∷ 48 ∷ 57 ∷ 54
    ∷ 32 ∷ 105 ∷ 110 ∷ 115 ∷ 116 ∷ 114 ∷ 117 ∷ 99 ∷ 116 ∷ 105 ∷ 111 ∷ 110 ∷ 115 ∷ 10 ∷ []
larger-bytes = refl

-- both lines for such a listing have 41 bytes
pub larger-length : length (answer_line (placeless code_refused) ++ larger_listing) ≡ 41
unfolding answer_line
larger-length = refl
