-- Lines of a listing one after the other: one line more, and pages that come to the whole listing.
use Prim.Native.Nat.{ℕ, suc, ◌+◌, ◌≤◌, ◌<◌}
use mathlib.Core.Path.{◌≡◌, sym, ap, ◌∙◌}
use mathlib.Core.List.{List, [], ◌∷◌, ◌++◌, append_assoc, append-nil}
use native.Mathlib.Nat.{add-zero}
use native.Mathlib.Omega.{arith}
use lib.ListN.{length, get_or, take, drop, take-append-drop}
use lib.Seq.{slice, length-slice, take-suc, take-take, take-length, length-take-le, drop-append-le}
use Rattle.code.specs.Op.{Op, faulty}
use Rattle.text.specs.Listing.{line_of, lines_from, listing_text}
use Rattle.text.specs.Page.{lines_of}

-- the lines of two lists one after the other: those of the second go on with the addresses
pub lines-append : (address : ℕ) (xs ys : List Op) → lines_from address (xs ++ ys) ≡ lines_from address xs ++ lines_from (address + length xs) ys
lines-append address [] ys = ap (λ (a : ℕ). lines_from a ys) (sym (add-zero address))
lines-append address (x ∷ xs) ys =
    let e : suc address + length xs ≡ address + suc (length xs) = omega arith in
    ap (λ (l : List ℕ). line_of address x ++ l) (lines-append (suc address) xs ys ∙ ap (λ (a : ℕ). lines_from (suc address) xs ++ lines_from a ys) e)
    ∙ sym (append_assoc (line_of address x) (lines_from (suc address) xs) (lines_from (address + suc (length xs)) ys))

module _ (os : List Op) (from next : ℕ) (f : from ≤ next) (h : next < length os) where
  -- the instructions up to the next one and it are those up to the one behind it
  slice-more : slice from (suc next) os ≡ slice from next os ++ (get_or os next faulty ∷ [])
  slice-more =
      let l : from ≤ length (take next os) = omega (arith, length-take-le next os (omega arith)) in
      ap (drop from) (take-suc os next faulty h) ∙ drop-append-le from (take next os) (get_or os next faulty ∷ []) l

  -- the lines up to an instruction and its own are those up to the next instruction
  pub lines_more : lines_of os from (suc next) ≡ lines_of os from next ++ line_of next (get_or os next faulty)
  lines_more =
      let o = get_or os next faulty in
      let e : from + length (slice from next os) ≡ next = omega (arith, length-slice from next os (omega arith)) in
      ap (lines_from from) slice-more
      ∙ lines-append from (slice from next os) (o ∷ [])
      ∙ ap (λ (a : ℕ). lines_of os from next ++ lines_from a (o ∷ [])) e
      ∙ ap (λ (l : List ℕ). lines_of os from next ++ l) (append-nil (line_of next o))

-- two pages one after the other
module _ (os : List Op) (from middle to : ℕ) (f : from ≤ middle) (g : middle ≤ to) (h : to ≤ length os) where
  -- the instructions of two pages one after the other are those of the two together
  slice-join : slice from to os ≡ slice from middle os ++ slice middle to os
  slice-join =
      let cut : take to os ≡ take middle os ++ slice middle to os = sym (take-append-drop middle (take to os)) ∙ ap (λ (l : List Op). l ++ slice middle to os) (take-take middle to os g) in
      let l : from ≤ length (take middle os) = omega (arith, length-take-le middle os (omega arith)) in
      ap (drop from) cut ∙ drop-append-le from (take middle os) (slice middle to os) l

  -- the lines of two pages one after the other are those of the two together
  pub pages-join : lines_of os from middle ++ lines_of os middle to ≡ lines_of os from to
  pages-join =
      let e : from + length (slice from middle os) ≡ middle = omega (arith, length-slice from middle os (omega arith)) in
      sym
      (ap (lines_from from) slice-join
      ∙ lines-append from (slice from middle os) (slice middle to os)
      ∙ ap (λ (a : ℕ). lines_of os from middle ++ lines_from a (slice middle to os)) e)

-- pages from the first instruction to the last are the listing
pub pages-all : (os : List Op) → lines_of os 0 (length os) ≡ listing_text os
pages-all os = ap (lines_from 0) (take-length os)
