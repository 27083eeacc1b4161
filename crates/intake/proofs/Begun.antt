-- A line is begun by its first byte: what was read of it is no start any more.
use Prim.Native.Nat.{ℕ}
use mathlib.Core.Path.{◌≡◌, refl}
use mathlib.Core.Bool.{Bool, true, false}
use mathlib.Core.List.{List, [], ◌∷◌}
use lib.Dec.{eqb}
use Rattle.theory.proofs.Conditions.{cond-all}
use Rattle.text.specs.Decimal.{minus}
use Rattle.text.specs.Part.{start_part, is_digit, is_start, digits_after, part_after, part_after_all, part_of}
use Rattle.text.specs.declared.number.Part.{Part}
use Rattle.text.specs.declared.number.Part.TheVariants.{Start, Minus, Digits, Bad}

-- a line with digits is not at its start after one byte more
after-digits : (sign : Bool) (n b : ℕ) → is_start (digits_after sign n b) ≡ false
unfolding digits_after
after-digits sign n b = cond-all (λ (q : Part). is_start q ≡ false) (is_digit b) _ Bad (λ d. refl) (λ d. refl)

-- after one byte a line is not at its start
after-byte : (p : Part) (b : ℕ) → is_start (part_after p b) ≡ false
unfolding part_after
after-byte Start b =
    cond-all (λ (q : Part). is_start q ≡ false) (eqb b minus) Minus (digits_after false 0 b) (λ m. refl) (λ m. after-digits false 0 b)
after-byte Minus b = after-digits true 0 b
after-byte (Digits sign n) b = after-digits sign n b
after-byte Bad b = refl

-- a line that is not at its start is not after more bytes
after-bytes : (p : Part) (bs : List ℕ) → is_start p ≡ false → is_start (part_after_all p bs) ≡ false
after-bytes p [] e = e
after-bytes p (b ∷ bs) e = after-bytes (part_after p b) bs (after-byte p b)

-- a line of which some byte was read is not at its start
pub line-begun : (b : ℕ) (bs : List ℕ) → is_start (part_of (b ∷ bs)) ≡ false
line-begun b bs = after-bytes (part_after start_part b) bs (after-byte start_part b)
