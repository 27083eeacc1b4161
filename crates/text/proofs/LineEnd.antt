-- What is known at a line's end: a byte that fits nowhere is never forgotten, and the digits have the value that they spell.
use Prim.Native.Nat.{ℕ, ◌+◌, ◌-◌, ◌*◌}
use mathlib.Core.Path.{◌≡◌, refl, sym, ap, subst, ◌∙◌}
use mathlib.Core.Bool.{Bool, true, false}
use mathlib.Core.List.{List, [], ◌∷◌}
use mathlib.Core.Option.{Option, none, some}
use lib.Dec.{eqb}
use Rattle.std.specs.Prelude.{None}
use Rattle.theory.proofs.Conditions.{cond_yes, cond_no}
use Rattle.text.specs.Decimal.{digit_zero, minus, value_after, magnitude}
use Rattle.text.specs.Part.{capped, start_part, is_digit, digits_after, part_after, part_after_all, signed_of, word_in}
use Rattle.text.specs.declared.number.Part.{Part}
use Rattle.text.specs.declared.number.Part.TheVariants.{Minus, Digits, Bad}
use Rattle.text.proofs.Capped.{capped-more}

-- a byte that fits nowhere is never forgotten
bad-stays : (bs : List ℕ) → part_after_all Bad bs ≡ Bad
unfolding part_after
bad-stays [] = refl
bad-stays (b ∷ bs) = bad-stays bs

-- a line is no number
pub record Refused (p : Part) : Type 0 where
  pub signed : signed_of p ≡ None
  pub word : word_in p ≡ None

bad-refused : (p : Part) → p ≡ Bad → Refused p
unfolding signed_of word_in
bad-refused p e = record { signed = ap signed_of e; word = ap word_in e }

-- what is known of a line after digits of this value
abbrev read : Bool → ℕ → Part
read sign n = Digits sign (capped n)

-- what a line comes to, by its sign and its digits: none, or their value
abbrev pub Come : Bool → Option ℕ → Part → Type 0
Come sign none p = Refused p
Come sign (some v) p = p ≡ Digits sign (capped v)

module _ (sign : Bool) where
  module _ (n b : ℕ) where
    -- one digit more gives the value with this digit
    digit-more : is_digit b ≡ true → digits_after sign (capped n) b ≡ read sign (n * 10 + (b - digit_zero))
    unfolding digits_after
    digit-more e =
        let d = b - digit_zero in
        cond_yes (Digits sign (capped (capped (capped n) * 10 + d))) Bad e
        ∙ ap (Digits sign) (capped-more (capped n) d ∙ capped-more n d)

    -- a byte that is no digit fits nowhere
    no_more : is_digit b ≡ false → digits_after sign (capped n) b ≡ Bad
    unfolding digits_after
    no_more e = cond_no (Digits sign (capped (capped (capped n) * 10 + (b - digit_zero)))) Bad e

  -- one byte behind digits and those after it come to the value that they spell
  step : (n b : ℕ) (bs : List ℕ) → Come sign (value_after (n * 10 + (b - digit_zero)) bs) (part_after_all (read sign (n * 10 + (b - digit_zero))) bs)
      → Come sign (value_after n (b ∷ bs)) (part_after_all (digits_after sign (capped n) b) bs)
  step n b bs ih = go (is_digit b) refl
    where
      go : (t : Bool) → is_digit b ≡ t
          → Come sign (elim t [ true ↦ value_after (n * 10 + (b - digit_zero)) bs | false ↦ none ]) (part_after_all (digits_after sign (capped n) b) bs)
      go true e =
          subst (λ (q : Part). Come sign (value_after (n * 10 + (b - digit_zero)) bs) (part_after_all q bs)) (sym (digit-more n b e)) ih
      go false e =
          bad-refused (part_after_all (digits_after sign (capped n) b) bs)
          (ap (λ (q : Part). part_after_all q bs) (no_more n b e) ∙ bad-stays bs)

  -- the bytes after some digit come to the value that they spell
  come : (n : ℕ) (bs : List ℕ) → Come sign (value_after n bs) (part_after_all (read sign n) bs)
  unfolding part_after
  come n [] = refl
  come n (b ∷ bs) = step n b bs (come (n * 10 + (b - digit_zero)) bs)

  -- the first byte of the digits and those after it come to the value that they spell
  first : (b : ℕ) (bs : List ℕ) → Come sign (magnitude (b ∷ bs)) (part_after_all (digits_after sign 0 b) bs)
  unfolding capped
  first b bs = step 0 b bs (come (0 * 10 + (b - digit_zero)) bs)

-- the bytes after a minus come to the value that they spell
pub after_minus : (bs : List ℕ) → Come true (magnitude bs) (part_after_all Minus bs)
unfolding part_after signed_of word_in
after_minus [] = record { signed = refl; word = refl }
after_minus (b ∷ bs) = first true b bs

-- the bytes of a line whose first is no minus come to the value that they spell
pub from_start : (b : ℕ) (bs : List ℕ) → eqb b minus ≡ false → Come false (magnitude (b ∷ bs)) (part_after_all start_part (b ∷ bs))
unfolding part_after
from_start b bs e =
    subst (λ (q : Part). Come false (magnitude (b ∷ bs)) (part_after_all q bs)) (sym (cond_no Minus (digits_after false 0 b) e))
    (first false b bs)

pub minus-read : (b : ℕ) → eqb b minus ≡ true → part_after start_part b ≡ Minus
unfolding part_after
minus-read b e = cond_yes Minus (digits_after false 0 b) e
