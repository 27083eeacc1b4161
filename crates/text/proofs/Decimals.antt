-- The digits of a number, one at a time from the last: which follow, how many there are, and where they are put.
use Prim.Native.Nat.{ℕ, zero, suc, ◌+◌, ◌-◌, ◌/◌, ◌%◌, ◌≤◌, ◌<◌}
use mathlib.Core.Path.{◌≡◌, refl, sym, ap, subst, ◌∙◌}
use mathlib.Core.Bool.{Bool, true, false}
use mathlib.Core.List.{List, [], ◌∷◌}
use native.Mathlib.Omega.{arith}
use lib.Dec.{ltb}
use lib.ListN.{length, take, drop, set, replicate, length-set, length-drop, drop_of_length-le}
use lib.Seq.{drop-cons, get_or-set_same, drop-set-lt, take-set-le, take-take}
use borrow.Author.Tests.{lt-ltb, le-ltb}
use Rattle.text.specs.Decimal.{digit_zero, digits_before, decimal}
use Rattle.text.specs.Digits.{most_digits}

-- the last digit of a number
abbrev pub last_digit : ℕ → ℕ
last_digit n = digit_zero + n % 10

module _ (most n : ℕ) (text : List ℕ) where
  -- in front of the last digit of a number stand those of the number divided by ten
  pub digits_more : 10 ≤ n → digits_before (suc most) n text ≡ digits_before most (n / 10) (last_digit n ∷ text)
  digits_more h = rw (le-ltb n 10 h, digits_before)

  -- a number below ten has one digit
  pub digits_last : n < 10 → digits_before (suc most) n text ≡ last_digit n ∷ text
  digits_last h = rw (lt-ltb n 10 h, digits_before)

-- digits are at most as many as they may be
pub digits-few : (most n : ℕ) (text : List ℕ) → length (digits_before most n text) ≤ most + length text
digits-few zero n text = omega arith
digits-few (suc most) n text = go (ltb n 10) (digits-few most (n / 10) (last_digit n ∷ text))
  where
    here : List ℕ
    here = last_digit n ∷ text

    go : (b : Bool) → length (digits_before most (n / 10) here) ≤ most + length here
        → length {A = ℕ} (elim b [ true ↦ here | false ↦ digits_before most (n / 10) here ]) ≤ suc most + length text
    go true h = omega arith
    go false h = omega arith

-- a number is printed with ten digits at most
pub decimal-few : (n : ℕ) → length (decimal n) ≤ most_digits
decimal-few n = omega (arith, digits-few most_digits n [])

-- digits at the end of their room begin as far from its end as there are digits
pub digits-place : (n : ℕ) (bytes : List ℕ) (from : ℕ) → from ≤ most_digits → length bytes ≡ most_digits → drop from bytes ≡ decimal n
    → from ≡ most_digits - length (decimal n)
digits-place n bytes from l e d = omega (arith, length-drop from bytes, ap length d)

-- a value put in front of the end of a list
pub put_front : (l : List ℕ) (k b : ℕ) → k < length l → drop k (set l k b) ≡ b ∷ drop (suc k) l
put_front l k b h =
    drop-cons (set l k b) k 0 (simp length-set h) ∙ simp (get_or-set_same l k b 0 h, drop-set-lt (suc k) l k b (omega arith))

-- while the digits are written from the last on: those that are there, and those that the rest gives, are the digits of n
pub record Writing (n : ℕ) (bytes : List ℕ) (from rest : ℕ) : Type 0 where
  pub within : from ≤ most_digits
  pub whole : length bytes ≡ most_digits
  pub left : digits_before from rest (drop from bytes) ≡ decimal n
  pub front : take from bytes ≡ take from (replicate most_digits 0)

-- before the first digit is written, the rest gives all digits of n
pub writing-none : (n : ℕ) → Writing n (replicate most_digits 0) most_digits n
writing-none n =
    record {
      within = omega arith;
      whole = refl;
      left = ap (digits_before most_digits n) (drop_of_length-le (replicate most_digits 0) {i = most_digits} (omega arith));
      front = refl;
    }

module _ (n : ℕ) (bytes : List ℕ) (from rest : ℕ) (h : 0 < from) (w : Writing n bytes from rest) where
  -- a digit that is put in front of those that are there stands in front of them
  put-digit : drop (from - 1) (set bytes (from - 1) (last_digit rest)) ≡ last_digit rest ∷ drop from bytes
  put-digit =
      let z : suc (from - 1) ≡ from = omega arith in
      put_front bytes (from - 1) (last_digit rest) (omega (arith, w.within, w.whole)) ∙ ap (λ (k : ℕ). last_digit rest ∷ drop k bytes) z

  -- with the place in front those that are there and those that the rest gives are the digits of n
  one_more : digits_before (suc (from - 1)) rest (drop from bytes) ≡ decimal n
  one_more = let z : from ≡ suc (from - 1) = omega arith in subst (λ (k : ℕ). digits_before k rest (drop from bytes) ≡ decimal n) z w.left

  -- in front of the digit that was put nothing is written yet
  pub front_kept : take (from - 1) (set bytes (from - 1) (last_digit rest)) ≡ take (from - 1) (replicate most_digits 0)
  front_kept =
      take-set-le (from - 1) bytes (from - 1) (last_digit rest) (omega arith)
      ∙ sym (take-take (from - 1) from bytes (omega arith))
      ∙ ap (take (from - 1)) w.front
      ∙ take-take (from - 1) from (replicate most_digits 0) (omega arith)

  -- where the rest is ten or more, other digits follow in front of the one that was put
  pub writing_more : 10 ≤ rest → Writing n (set bytes (from - 1) (last_digit rest)) (from - 1) (rest / 10)
  writing_more m =
      record {
        within = omega (arith, w.within);
        whole = length-set bytes (from - 1) (last_digit rest) ∙ w.whole;
        left =
            ap (digits_before (from - 1) (rest / 10)) put-digit
            ∙ sym (digits_more (from - 1) rest (drop from bytes) m)
            ∙ one_more;
        front = front_kept;
      }

  -- where the rest is below ten, the digit that was put is the first
  pub writing-last : rest < 10 → drop (from - 1) (set bytes (from - 1) (last_digit rest)) ≡ decimal n
  writing-last m = put-digit ∙ sym (digits_last (from - 1) rest (drop from bytes) m) ∙ one_more

-- where no room is left, the last ten digits are written
pub writing-full : (n : ℕ) (bytes : List ℕ) (from rest : ℕ) → from ≤ 0 → Writing n bytes from rest → drop from bytes ≡ decimal n
writing-full n bytes from rest h w =
    let z : from ≡ 0 = omega arith in
    subst (λ (k : ℕ). digits_before k rest (drop from bytes) ≡ decimal n) z w.left
