-- What is promised of a line, of digits and of a page fixes them to the last byte: two that have it are the same.
use Prim.Native.Nat.{ℕ}
use mathlib.Core.Path.{◌≡◌, sym, ap, ◌∙◌}
use mathlib.Core.List.{List, ◌++◌}
use lib.ListN.{length, take, drop, replicate, take-append-drop}
use Rattle.code.specs.Op.{Op}
use Rattle.text.specs.Digits.{most_digits, digits_in, Spelled}
use Rattle.text.specs.Line.{room, text_of, Holds, Appended}
use Rattle.text.specs.Page.{lines_of, Filled}
use Rattle.text.specs.declared.decimal.Digits.{Digits}
use Rattle.text.specs.declared.line.Line.{Line}
use Rattle.text.specs.declared.page.Page.{Page}

-- lists that are the same up to a place and from there on are the same
same_parts : (m n : ℕ) (x y : List ℕ) → take m x ≡ take n y → drop m x ≡ drop n y → x ≡ y
same_parts m n x y e f = sym (take-append-drop m x) ∙ (λ j. e j ++ f j) ∙ take-append-drop n y

-- two lines that hold the same text are the same
pub holds-one : {a b : Line} {said : List ℕ} → Holds a said → Holds b said → a ≡ b
unfolding text_of
holds-one {a} {b} f g =
    let n : a.len ≡ b.len = f.len ∙ sym g.len in
    let bytes : a.bytes ≡ b.bytes = same_parts a.len b.len a.bytes b.bytes (f.text ∙ sym g.text) (f.rest ∙ (λ j. drop (n j) (replicate room 0)) ∙ sym g.rest) in
    λ j. record { bytes = bytes j; len = n j }

-- two lines that come of one line by the same text are the same
pub appended_one : {a b c : Line} {more : List ℕ} → Appended a b more → Appended a c more → b ≡ c
unfolding text_of
appended_one {a} {b} {c} f g =
    let n : b.len ≡ c.len = f.len ∙ sym g.len in
    let bytes : b.bytes ≡ c.bytes = same_parts b.len c.len b.bytes c.bytes (f.text ∙ sym g.text) (f.rest ∙ (λ j. drop (n j) a.bytes) ∙ sym g.rest) in
    λ j. record { bytes = bytes j; len = n j }

-- two rooms with the digits of one number are the same
pub spelled-one : {n : ℕ} {a b : Digits} → Spelled n a → Spelled n b → a ≡ b
unfolding digits_in
spelled-one {n} {a} {b} f g =
    let from : a.from ≡ b.from = f.place ∙ sym g.place in
    let bytes : a.bytes ≡ b.bytes = same_parts a.from b.from a.bytes b.bytes (f.front ∙ (λ j. take (from j) (replicate most_digits 0)) ∙ sym g.front) (f.digits ∙ sym g.digits) in
    λ j. record { bytes = bytes j; from = from j }

-- two pages from one instruction on, laid in one slice, are the same, and so are the slices
pub filled-one : {os : List Op} {from : ℕ} {before x y : List ℕ} {p q : Page} → Filled os from before x p → Filled os from before y q → (p ≡ q) × (x ≡ y)
filled-one {os} {from} {before} {x} {y} {p} {q} f g =
    let next : p.next ≡ q.next = f.end ∙ sym g.end in
    let len : p.len ≡ q.len = f.written.size ∙ ap (λ (n : ℕ). length (lines_of os from n)) next ∙ sym g.written.size in
    (λ j. record { next = next j; len = len j }, f.written.text ∙ (λ j. lines_of os from (next j) ++ drop (len j) before) ∙ sym g.written.text)
