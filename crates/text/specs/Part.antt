-- A number of a line of text, read a byte at a time: what is known after some of its bytes, and what that comes to at the line's
-- end.
use Rattle.std.specs.Prelude.{ℕ, ◌+◌, ◌-◌, ◌*◌, Bool, true, false, cond, ◌&&◌, List, [], ◌∷◌, eqb, ltb, leb, ℤ, Some, None}
use Rattle.std.specs.Prelude.{Option as Told}
use Rattle.std.proofs.Math.Option.{Option, none, some}
use Rattle.text.specs.Decimal.{digit_zero, minus, negative, not_negative, as_word}
use Rattle.text.specs.declared.number.Part.{Part}
use Rattle.text.specs.declared.number.Part.TheVariants.{Start, Minus, Digits, Bad}

-- no number of 32 bits is so large; larger ones are held at it
abbrev pub too_large : ℕ
too_large = 4294967296

-- a value, held at the first that is too large
unfoldable pub capped : ℕ → ℕ
capped n = cond (ltb n too_large) n too_large

-- what is known of a line of which nothing was read yet
abbrev pub start_part : Part
start_part = Start

-- a byte is a decimal digit
abbrev pub is_digit : ℕ → Bool
is_digit b = leb digit_zero b && ltb b (digit_zero + 10)

-- nothing was read of the line yet, so that a minus may follow
abbrev pub is_start : Part → Bool
is_start Start = true
is_start Minus = false
is_start (Digits sign n) = false
is_start Bad = false

-- what is known of a line with digits of this value after one byte more: the value with one digit more; another byte fits nowhere
unfoldable pub digits_after : Bool → ℕ → ℕ → Part
digits_after sign n b = cond (is_digit b) (Digits sign (capped (capped n * 10 + (b - digit_zero)))) Bad

-- what is known of a line after one byte more; a byte that fits nowhere is never forgotten
unfoldable pub part_after : Part → ℕ → Part
part_after Start b = cond (eqb b minus) Minus (digits_after false 0 b)
part_after Minus b = digits_after true 0 b
part_after (Digits sign n) b = digits_after sign n b
part_after Bad b = Bad

-- what is known of a line after these bytes more
abbrev pub part_after_all : Part → List ℕ → Part
part_after_all p [] = p
part_after_all p (b ∷ bs) = part_after_all (part_after p b) bs

-- what is known of a line after these bytes, from its start
abbrev pub part_of : List ℕ → Part
part_of line = part_after_all start_part line

-- a signed number as the code answers it
abbrev pub signed_as : Option ℤ → Told ℤ
signed_as none = None
signed_as (some z) = Some z

-- a number that is not negative as the code answers it
abbrev pub word_as : Option ℕ → Told ℕ
word_as none = None
word_as (some n) = Some n

-- digits with a sign as a signed number
abbrev pub signed_by : Bool → Option ℕ → Option ℤ
signed_by sign o = cond sign (negative o) (not_negative o)

-- digits with a sign as a number that is not negative
abbrev pub word_by : Bool → Option ℕ → Option ℕ
word_by sign o = cond sign none (as_word o)

-- what a line comes to as a signed number
unfoldable pub signed_of : Part → Told ℤ
signed_of Start = None
signed_of Minus = None
signed_of (Digits sign n) = signed_as (signed_by sign (some n))
signed_of Bad = None

-- what a line comes to as a number that is not negative
unfoldable pub word_in : Part → Told ℕ
word_in Start = None
word_in Minus = None
word_in (Digits sign n) = word_as (word_by sign (some n))
word_in Bad = None
