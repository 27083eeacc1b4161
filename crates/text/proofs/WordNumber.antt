-- What the byte machine answers for a line as a word is the line's digits, if they are at most the greatest word: refused exactly
-- where they are not.
use Prim.Native.Nat.{ℕ}
use mathlib.Core.Path.{◌≡◌, refl, sym, ap, ◌∙◌}
use mathlib.Core.Bool.{Bool, true, false}
use mathlib.Core.List.{List, [], ◌∷◌}
use mathlib.Core.Option.{Option, none, some}
use native.Mathlib.Omega.{arith}
use lib.Dec.{eqb, ltb}
use borrow.Author.Tests.{ltb-true, ltb-false, eqb-true}
use Rattle.text.specs.Decimal.{minus, magnitude, as_word, word_of}
use Rattle.text.specs.Part.{too_large, capped, part_after_all, part_of, word_as, word_by, word_in}
use Rattle.text.specs.declared.number.Part.{Part}
use Rattle.text.specs.declared.number.Part.TheVariants.{Minus}
use Rattle.text.proofs.Capped.{capped_small, capped-large}
use Rattle.text.proofs.LineEnd.{Come, after_minus, from_start, minus-read}
use Rattle.text.proofs.Signs.{past_word}

-- a value that is held is no word
held : (sign : Bool) (v : ℕ) → word_as (word_by sign (some (capped v))) ≡ word_as (word_by sign (some v))
held true v = refl
held false v = go (ltb v too_large) refl
  where
    go : (t : Bool) → ltb v too_large ≡ t → word_as (as_word (some (capped v))) ≡ word_as (as_word (some v))
    go true e = ap (λ (k : ℕ). word_as (as_word (some k))) (capped_small v (ltb-true v too_large e))
    go false e =
        let h = capped-large v (ltb-false v too_large e) in
        past_word (capped v) (omega arith) ∙ sym (past_word v (ltb-false v too_large e))

word-come : (sign : Bool) (o : Option ℕ) (p : Part) → Come sign o p → word_in p ≡ word_as (word_by sign o)
unfolding word_in
word-come true none p e = e.word
word-come false none p e = e.word
word-come sign (some v) p e = ap word_in e ∙ held sign v

pub word_number : (line : List ℕ) → word_in (part_of line) ≡ word_as (word_of line)
unfolding word_in
word_number [] = refl
word_number (b ∷ bs) = go (eqb b minus) refl
  where
    go : (t : Bool) → eqb b minus ≡ t → word_in (part_of (b ∷ bs)) ≡ word_as (word_of (b ∷ bs))
    go true e =
        ap (λ (q : Part). word_in (part_after_all q bs)) (minus-read b e)
        ∙ word-come true (magnitude bs) (part_after_all Minus bs) (after_minus bs)
        ∙ ap (λ (k : ℕ). word_as (word_of (k ∷ bs))) (sym (eqb-true b minus e))
    go false e = word-come false (magnitude (b ∷ bs)) (part_of (b ∷ bs)) (from_start b bs e)
