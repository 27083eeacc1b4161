-- The decimal digits of a number of 32 bits have its value.
use Prim.Native.Nat.{ℕ, zero, suc, ◌+◌, ◌-◌, ◌*◌, ◌/◌, ◌%◌, ◌^◌, ◌≤◌, ◌<◌}
use mathlib.Core.Path.{◌≡◌, refl, ap, ◌∙◌}
use mathlib.Core.Bool.{Bool, true, false}
use mathlib.Core.List.{List, [], ◌∷◌}
use mathlib.Core.Option.{Option, none, some}
use native.Mathlib.Omega.{arith}
use lib.Dec.{ltb}
use borrow.Author.Tests.{ltb-true, lt-ltb, le-leb}
use Rattle.cells.specs.Cell.{greatest_word}
use Rattle.text.specs.Decimal.{digit_zero, digits_before, decimal, value_after, magnitude, as_word, word_of}
use Rattle.text.specs.Digits.{most_digits}
use Rattle.text.specs.Part.{is_digit}
use Rattle.text.proofs.Decimals.{last_digit}

-- a value that is taken where a test passes
abbrev pub taken : {A : Type 0} → Bool → Option A → Option A
taken b v = elim b [ true ↦ v | false ↦ none ]

-- the last digit of a number is a digit
digit-is : (n : ℕ) → is_digit (last_digit n) ≡ true
digit-is n = simp (le-leb digit_zero (last_digit n) (omega arith), lt-ltb (last_digit n) (digit_zero + 10) (omega arith))

-- the value after one digit more of a number
digit_value : (m n : ℕ) (text : List ℕ) → value_after m (last_digit n ∷ text) ≡ value_after (m * 10 + n % 10) text
digit_value m n text =
    let z : m * 10 + (last_digit n - digit_zero) ≡ m * 10 + n % 10 = omega arith in
    ap (λ (b : Bool). taken b (value_after (m * 10 + (last_digit n - digit_zero)) text)) (digit-is n) ∙ ap (λ (k : ℕ). value_after k text) z

-- the digits of a number, then a text: the text after that number
digits_value : (most n : ℕ) (text : List ℕ) → n < 10 ^ most → value_after 0 (digits_before most n text) ≡ value_after n text
digits_value zero n text h = let e : 0 ≡ n = omega arith in ap (λ (k : ℕ). value_after k text) e
digits_value (suc most) n text h = go (ltb n 10) refl (digits_value most (n / 10) (last_digit n ∷ text))
  where
    here : List ℕ
    here = last_digit n ∷ text

    go : (b : Bool) → ltb n 10 ≡ b
        → (n / 10 < 10 ^ most → value_after 0 (digits_before most (n / 10) here) ≡ value_after (n / 10) here)
        → value_after 0 (elim b [ true ↦ here | false ↦ digits_before most (n / 10) here ]) ≡ value_after n text
    go true e ih =
        let z : 0 * 10 + n % 10 ≡ n = omega (arith, ltb-true n 10 e) in
        digit_value 0 n text ∙ ap (λ (k : ℕ). value_after k text) z
    go false e ih =
        let z : n / 10 * 10 + n % 10 ≡ n = omega arith in
        ih (omega arith) ∙ digit_value (n / 10) n text ∙ ap (λ (k : ℕ). value_after k text) z

-- a text with some byte, or another that has its digits' value, has its digits' value, whichever a test picks
some-step : (t : Bool) (b : ℕ) (text more : List ℕ) → magnitude more ≡ value_after 0 more
    → magnitude (elim t [ true ↦ b ∷ text | false ↦ more ]) ≡ value_after 0 (elim t [ true ↦ b ∷ text | false ↦ more ])
some-step true b text more h = refl
some-step false b text more h = h

-- digits in front of some byte have their value
some-before : (most n b : ℕ) (text : List ℕ) → magnitude (digits_before most n (b ∷ text)) ≡ value_after 0 (digits_before most n (b ∷ text))
some-before zero n b text = refl
some-before (suc most) n b text =
    let d = last_digit n in
    some-step (ltb n 10) d (b ∷ text) (digits_before most (n / 10) (d ∷ b ∷ text)) (some-before most (n / 10) d (b ∷ text))

-- a number has one digit at least
decimal-some : (n : ℕ) → magnitude (decimal n) ≡ value_after 0 (decimal n)
decimal-some n =
    let d = last_digit n in
    some-step (ltb n 10) d [] (digits_before 9 (n / 10) (d ∷ [])) (some-before 9 (n / 10) d [])

-- the digits of a number have its value
pub magnitude-decimal : (n : ℕ) → n ≤ greatest_word → magnitude (decimal n) ≡ some n
magnitude-decimal n h = decimal-some n ∙ digits_value most_digits n [] (omega arith)

-- the digits of a number of 32 bits are one
pub word-decimal : (n : ℕ) → n ≤ greatest_word → word_of (decimal n) ≡ some n
word-decimal n h =
    ap as_word (magnitude-decimal n h) ∙ ap (λ (b : Bool). taken b (some n)) (le-leb n greatest_word h)
