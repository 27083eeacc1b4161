-- Where a page ends: not before it begins, its lines fit, it has a line where there is an instruction and room for any line, and the
-- lines from a page on are its own and those from its end on.
use Prim.Native.Nat.{ℕ, zero, suc, ◌+◌, ◌-◌, ◌≤◌, ◌<◌}
use mathlib.Core.Path.{◌≡◌, refl, sym, ap, ◌∙◌}
use mathlib.Core.Bool.{Bool, true, false}
use mathlib.Core.List.{List, [], ◌∷◌, ◌++◌, append-nil}
use native.Mathlib.Decide.{dec_le}
use native.Mathlib.Numerals.{add-one}
use native.Mathlib.Omega.{arith}
use lib.Dec.{ltb}
use lib.ListN.{length, get_or, take, drop, length-append, length-take, drop_of_length-le}
use lib.Seq.{take_all, take-length, drop-cons}
use borrow.Author.Tests.{ltb-false, le-ltb}
use Rattle.code.specs.Op.{Op, faulty}
use Rattle.text.specs.Decimal.{space, newline, decimal}
use Rattle.text.specs.Listing.{mnemonic, arguments, spaced, line_of, lines_from}
use Rattle.text.specs.Line.{room}
use Rattle.text.specs.Page.{lines_of, page_end}
use Rattle.text.proofs.Pages.{lines_more, pages-join}
use Rattle.text.proofs.Filling.{lines_none}
use Rattle.text.proofs.Said.{line-few}

-- where a page ends that began at an instruction and has come to another
pub record Ends (os : List Op) (size from next end : ℕ) : Type 0 where
  pub onward : next ≤ end
  pub fits : length (lines_of os from end) ≤ size

-- a page goes on by lines that fit
page-from : (left : ℕ) (os : List Op) (size from next len : ℕ) → left ≡ length os - next → from ≤ next
    → len ≡ length (lines_of os from next) → len ≤ size → Ends os size from next (page_end left os size next len)
page-from zero os size from next len e f l h = record { onward = omega arith; fits = omega arith }
page-from (suc left) os size from next len e f l h =
    go (ltb (size - len) room) refl (λ r. page-from left os size from (next + 1) (len + length (line_of next o)) (omega arith) (omega arith) longer (omega (arith, r, line-few next o)))
  where
    o : Op
    o = get_or os next faulty

    longer : len + length (line_of next o) ≡ length (lines_of os from (next + 1))
    longer =
        omega
        (arith, ap length (lines_more os from next f (omega arith)), length-append (lines_of os from next) (line_of next o), ap (λ (n : ℕ). length (lines_of os from n)) (add-one next))

    onward : ℕ
    onward = page_end left os size (next + 1) (len + length (line_of next o))

    go : (b : Bool) → ltb (size - len) room ≡ b → (room ≤ size - len → Ends os size from (next + 1) onward)
        → Ends os size from next (elim b [ true ↦ next | false ↦ onward ])
    go true b more = record { onward = omega arith; fits = omega arith }
    go false b more =
        let m = more (ltb-false (size - len) room b) in
        record { onward = omega (arith, m.onward); fits = m.fits }

-- a page that begins at an instruction ends so
pub page-ends : (os : List Op) (size from : ℕ) → Ends os size from from (page_end (length os - from) os size from 0)
page-ends os size from = page-from (length os - from) os size from from 0 refl (omega arith) (sym (ap length (lines_none os from))) (omega arith)

-- a page has a line at least where there is an instruction and room for any line
pub page-goes : (os : List Op) (size from : ℕ) → from < length os → room ≤ size → from < page_end (length os - from) os size from 0
page-goes os size from h r = go (length os - from) refl
  where
    o : Op
    o = get_or os from faulty

    one : length (line_of from o) ≡ length (lines_of os from (from + 1))
    one =
        omega
        (arith, ap length (lines_more os from from (omega arith) h), length-append (lines_of os from from) (line_of from o), ap length (lines_none os from), ap (λ (n : ℕ). length (lines_of os from n)) (add-one from))

    go : (left : ℕ) → left ≡ length os - from → from < page_end left os size from 0
    go zero e = absurd (omega arith)
    go (suc left) e =
        let z : size - 0 ≡ size = omega arith in
        let more = page-from left os size from (from + 1) (0 + length (line_of from o)) (omega arith) (omega arith) (omega (arith, one)) (omega (arith, line-few from o)) in
        rw (z, le-ltb size room r, page_end) (omega (arith, more.onward))

-- a line has some byte
line-some : (address : ℕ) (o : Op) → 0 < length (line_of address o)
line-some address o =
    let tail = space ∷ (mnemonic o ++ (spaced (arguments o) ++ (newline ∷ []))) in
    omega (arith, length-append (decimal address) tail)

-- the lines up to a later instruction have some byte
pub lines-some : (os : List Op) (from to : ℕ) → from < to → from < length os → 0 < length (lines_of os from to)
lines-some os from to f h =
    let more = lines_from (suc from) (drop (suc from) (take to os)) in
    let e : lines_of os from to ≡ line_of from (get_or (take to os) from faulty) ++ more = ap (lines_from from) (drop-cons (take to os) from faulty (simp length-take (omega arith))) in
    omega (arith, ap length e, length-append (line_of from (get_or (take to os) from faulty)) more, line-some from (get_or (take to os) from faulty))

-- the lines from an instruction on: those up to a later one, and those from there on
pub lines_cut : (os : List Op) (from to : ℕ) → from ≤ to → lines_from from (drop from os) ≡ lines_of os from to ++ lines_from to (drop to os)
lines_cut os from to f = go (dec_le to (length os))
  where
    -- all lines from an instruction on
    whole : (k : ℕ) → lines_of os k (length os) ≡ lines_from k (drop k os)
    whole k = ap (λ (l : List Op). lines_from k (drop k l)) (take-length os)

    go : Dec (to ≤ length os) → lines_from from (drop from os) ≡ lines_of os from to ++ lines_from to (drop to os)
    go (yes h) =
        sym (whole from)
        ∙ sym (pages-join os from to (length os) f h (omega arith))
        ∙ ap (λ (l : List ℕ). lines_of os from to ++ l) (whole to)
    go (no h) =
        let none : drop to os ≡ [] = drop_of_length-le os {i = to} (omega arith) in
        ap (λ (l : List Op). lines_from from (drop from l)) (sym (take_all to os (omega arith)))
        ∙ sym (append-nil (lines_of os from to))
        ∙ ap (λ (l : List Op). lines_of os from to ++ lines_from to l) (sym none)
