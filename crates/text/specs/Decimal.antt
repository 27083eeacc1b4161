-- Numbers as text: decimal digits in ASCII. A text is a list of bytes.
use Rattle.std.specs.Prelude.{ℕ, zero, suc, ◌+◌, ◌-◌, ◌*◌, ◌/◌, ◌%◌, true, false, ◌&&◌, List, [], ◌∷◌, eqb, ltb, leb, ℤ, pos, negsuc}
use Rattle.std.proofs.Math.Option.{Option, none, some}
use Rattle.cells.specs.Cell.{greatest_word}

abbrev pub digit_zero : ℕ
digit_zero = 48

abbrev pub minus : ℕ
minus = 45

abbrev pub space : ℕ
space = 32

abbrev pub newline : ℕ
newline = 10

-- the digits of n without leading zeros, in front of a text; a number of 32 bits has at most ten
abbrev pub digits_before : ℕ → ℕ → List ℕ → List ℕ
digits_before zero n text = text
digits_before (suc most) n text =
    let here = (digit_zero + n % 10) ∷ text in
    elim (ltb n 10) [ true ↦ here | false ↦ digits_before most (n / 10) here ]

-- the decimal digits of n
abbrev pub decimal : ℕ → List ℕ
decimal n = digits_before 10 n []

-- the value of digits that follow those of n; none where a byte is no digit
abbrev pub value_after : ℕ → List ℕ → Option ℕ
value_after n [] = some n
value_after n (b ∷ bs) = elim (leb digit_zero b && ltb b (digit_zero + 10)) [ true ↦ value_after (n * 10 + (b - digit_zero)) bs | false ↦ none ]

-- the value of a text of digits, at least one; none where it is no such text
abbrev pub magnitude : List ℕ → Option ℕ
magnitude [] = none
magnitude (b ∷ bs) = value_after 0 (b ∷ bs)

-- the greatest signed number of 32 bits; the least one is one further from 0
abbrev pub farthest : ℕ
farthest = 2147483647

-- a value without a minus as a signed number of 32 bits; none where it is too large
abbrev pub not_negative : Option ℕ → Option ℤ
not_negative none = none
not_negative (some n) = elim (leb n farthest) [ true ↦ some (pos n) | false ↦ none ]

-- a value after a minus as a signed number of 32 bits; none where it is too large
abbrev pub negative : Option ℕ → Option ℤ
negative none = none
negative (some zero) = some (pos 0)
negative (some (suc n)) = elim (leb n farthest) [ true ↦ some (negsuc n) | false ↦ none ]

-- the number of a line "-?[0-9]+" with a value of 32 bits, or none; leading zeros and -0 are taken
abbrev pub number : List ℕ → Option ℤ
number [] = none
number (b ∷ bs) = elim (eqb b minus) [ true ↦ negative (magnitude bs) | false ↦ not_negative (magnitude (b ∷ bs)) ]

-- a value as a number of 32 bits that is not negative; none where it is too large
abbrev pub as_word : Option ℕ → Option ℕ
as_word none = none
as_word (some n) = elim (leb n greatest_word) [ true ↦ some n | false ↦ none ]

-- the number of 32 bits that is not negative of a text of digits, or none
abbrev pub word_of : List ℕ → Option ℕ
word_of line = as_word (magnitude line)
