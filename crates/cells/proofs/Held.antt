-- A part of a list that is cut to what there is: the same as the part itself.
use Prim.Native.Nat.{ℕ, zero, suc, ◌+◌, ◌-◌, ◌≤◌, min}
use mathlib.Core.Path.{◌≡◌, sym, ap, ◌∙◌}
use mathlib.Core.List.{List, [], ◌∷◌}
use native.Mathlib.Decide.{dec_le}
use native.Mathlib.Omega.{arith}
use lib.ListN.{length, take, drop, length-take, length-drop, drop_of_length-le}
use lib.Seq.{take_all, take-nil}

module _ {A : Type 0} where
  -- what follows a place, cut to what there is
  drop-least : (at : ℕ) (l : List A) → drop (min at (length l)) l ≡ drop at l
  drop-least at l = go (dec_le at (length l))
    where
      go : Dec (at ≤ length l) → drop (min at (length l)) l ≡ drop at l
      go (yes h) = let e : min at (length l) ≡ at = omega arith in ap (λ (k : ℕ). drop k l) e
      go (no h) =
          drop_of_length-le l {i = min at (length l)} (omega arith) ∙ sym (drop_of_length-le l {i = at} (omega arith))

  -- so many from the beginning, cut to what there is
  pub take-least : (n : ℕ) (l : List A) → take (min n (length l)) l ≡ take n l
  take-least n l = go (dec_le n (length l))
    where
      go : Dec (n ≤ length l) → take (min n (length l)) l ≡ take n l
      go (yes h) = let e : min n (length l) ≡ n = omega arith in ap (λ (k : ℕ). take k l) e
      go (no h) = take_all (min n (length l)) l (omega arith) ∙ sym (take_all n l (omega arith))

  -- the part between two places, cut to what there is
  pub part-is : (at n from k : ℕ) (l : List A) → from ≡ min at (length l) → k ≡ min n (length l - from)
      → take (from + k - from) (drop from l) ≡ take n (drop at l)
  part-is at n from k l e f =
      let g : from + k - from ≡ min n (length (drop from l)) = simp length-drop (omega arith) in
      ap (λ (j : ℕ). take j (drop from l)) g ∙ take-least n (drop from l) ∙ ap (take n) (ap (λ (j : ℕ). drop j l) e ∙ drop-least at l)

  -- what is left of the first elements is the first of what is left
  drop-take : (from len : ℕ) (l : List A) → drop from (take len l) ≡ take (len - from) (drop from l)
  drop-take zero len l = let z : len ≡ len - 0 = omega arith in ap (λ (n : ℕ). take n l) z
  drop-take (suc from) zero l = let z : 0 ≡ 0 - suc from = omega arith in ap (λ (n : ℕ). take n (drop (suc from) l)) z
  drop-take (suc from) (suc len) [] = sym (take-nil (suc len - suc from))
  drop-take (suc from) (suc len) (x ∷ xs) =
      let z : len - from ≡ suc len - suc from = omega arith in drop-take from len xs ∙ ap (λ (n : ℕ). take n (drop from xs)) z

  -- the part from one place up to another, both cut to what there is
  pub between_is : (from len f e : ℕ) (l : List A) → e ≡ min len (length l) → f ≡ min from e
      → take (e - f) (drop f l) ≡ drop from (take len l)
  between_is from len f e l h g =
      let cut : take e l ≡ take len l = ap (λ (n : ℕ). take n l) h ∙ take-least len l in
      let place : f ≡ min from (length (take len l)) = g ∙ ap (min from) (h ∙ sym (length-take len l)) in
      sym (drop-take f e l) ∙ (λ j. drop (place j) (cut j)) ∙ drop-least from (take len l)
