-- A text that is read prints as itself: the reader takes printed texts and no others.
use Prim.Native.Nat.{ℕ, suc}
use mathlib.Core.Path.{◌≡◌, refl, sym, ap, ◌∙◌}
use mathlib.Core.Bool.{Bool, true, false}
use mathlib.Core.List.{List, [], ◌∷◌, ◌++◌, append-nil}
use mathlib.Core.Option.{Option, none, some, some-injective, none-ne-some}
use lib.Dec.{eqb}
use borrow.Author.Tests.{eqb-true}
use Rattle.code.specs.Op.{Op}
use Rattle.text.specs.Decimal.{space, newline}
use Rattle.text.specs.Listing.{spaced, line_of, lines_from, listing_text}
use Rattle.text.specs.ReadBack.{Placed, parts, numeral, numerals, named, op_named, placed_at, read_words, read_inner, read_only}
use Rattle.text.specs.ReadBack.{read_line, read_next, read_end, read_from, read_listing}
use Rattle.text.proofs.Inverted.{inner, line-then}
use Rattle.text.proofs.Joined.{behind, joined, parts-joined, behind-spaced}
use Rattle.text.proofs.Magnitude.{taken}
use Rattle.text.proofs.WordsRead.{numeral-prints, numerals-print, named-prints}

-- the words of a line that are read are those of the line of what they say
words-print : (ws : List (List ℕ)) (p : Placed) → read_words ws ≡ some p → joined space ws ≡ inner p.address p.op
words-print [] p e = absurd (none-ne-some p e)
words-print (a ∷ []) p e = absurd (none-ne-some p e)
words-print (a ∷ name ∷ rest) p e = go (numeral a) refl (numerals rest) refl e
  where
    said : (n : ℕ) → numeral a ≡ some n → (ns : List ℕ) → numerals rest ≡ some ns → (v : Option Op) → named name ns ≡ v
        → placed_at (some n) v ≡ some p → joined space (a ∷ name ∷ rest) ≡ inner p.address p.op
    said n f ns g none h e = absurd (none-ne-some p e)
    said n f ns g (some o) h e =
        let known = named-prints name ns o h in
        let arguments = ap (behind space) (numerals-print rest ns g) ∙ behind-spaced ns ∙ ap spaced known.1 in
        (λ j. numeral-prints a n f j ++ (space ∷ (known.0 j ++ arguments j)))
        ∙ ap (λ (q : Placed). inner q.address q.op) (some-injective (record { address = n; op = o }) p e)

    go : (v : Option ℕ) → numeral a ≡ v → (vs : Option (List ℕ)) → numerals rest ≡ vs → placed_at v (op_named name vs) ≡ some p
        → joined space (a ∷ name ∷ rest) ≡ inner p.address p.op
    go none f vs g e = absurd (none-ne-some p e)
    go (some n) f none g e = absurd (none-ne-some p e)
    go (some n) f (some ns) g e = said n f ns g (named name ns) refl e

-- a line that is read without its end is the line of what it says
inner-prints : (line : List ℕ) (p : Placed) → read_inner line ≡ some p → line ≡ inner p.address p.op
inner-prints line p e = sym (parts-joined space line) ∙ words-print (parts space line) p e

-- the one line of a text that is read is the line of what it says
only-prints : (ls : List (List ℕ)) (p : Placed) → read_only ls ≡ some p → joined newline ls ≡ line_of p.address p.op
only-prints [] p e = absurd (none-ne-some p e)
only-prints (l ∷ []) p e = absurd (none-ne-some p e)
only-prints (l ∷ [] ∷ []) p e =
    ap (λ (t : List ℕ). t ++ (newline ∷ [])) (inner-prints l p e)
    ∙ sym (line-then p.address p.op [])
    ∙ append-nil (line_of p.address p.op)
only-prints (l ∷ [] ∷ m ∷ ls) p e = absurd (none-ne-some p e)
only-prints (l ∷ (b ∷ bs) ∷ ls) p e = absurd (none-ne-some p e)

-- a line that is read is the line of what it says
pub line-prints : (text : List ℕ) (p : Placed) → read_line text ≡ some p → text ≡ line_of p.address p.op
line-prints text p e = sym (parts-joined newline text) ∙ only-prints (parts newline text) p e

-- behind the last line that is read nothing stands
end-prints : (address : ℕ) (line : List ℕ) (os : List Op) → read_end line ≡ some os → joined newline (line ∷ []) ≡ lines_from address os
end-prints address [] os e = ap (lines_from address) (some-injective [] os e)
end-prints address (b ∷ bs) os e = absurd (none-ne-some os e)

-- the lines from an address on that are read are those of what they say
lines-print : (address : ℕ) (ls : List (List ℕ)) (os : List Op) → read_from address ls ≡ some os → joined newline ls ≡ lines_from address os
lines-print address [] os e = absurd (none-ne-some os e)
lines-print address (l ∷ []) os e = end-prints address l os e
lines-print address (l ∷ m ∷ ls) os e =
    go (read_inner l) refl (read_from (suc address) (m ∷ ls)) refl (lines-print (suc address) (m ∷ ls)) e
  where
    -- a line that is read at its address and the lines after it are those of what they say
    placed : (p : Placed) → read_inner l ≡ some p → (qs : List Op) → joined newline (m ∷ ls) ≡ lines_from (suc address) qs
        → (t : Bool) → eqb p.address address ≡ t → taken t (some (p.op ∷ qs)) ≡ some os → joined newline (l ∷ m ∷ ls) ≡ lines_from address os
    placed p f qs ih true a e =
        (λ j. inner-prints l p f j ++ (newline ∷ ih j))
        ∙ ap (λ (k : ℕ). inner k p.op ++ (newline ∷ lines_from (suc address) qs)) (eqb-true p.address address a)
        ∙ sym (line-then address p.op (lines_from (suc address) qs))
        ∙ ap (lines_from address) (some-injective (p.op ∷ qs) os e)
    placed p f qs ih false a e = absurd (none-ne-some os e)

    go : (v : Option Placed) → read_inner l ≡ v → (vs : Option (List Op)) → read_from (suc address) (m ∷ ls) ≡ vs
        → ((qs : List Op) → read_from (suc address) (m ∷ ls) ≡ some qs → joined newline (m ∷ ls) ≡ lines_from (suc address) qs)
        → read_next address v vs ≡ some os → joined newline (l ∷ m ∷ ls) ≡ lines_from address os
    go none f vs g ih e = absurd (none-ne-some os e)
    go (some p) f none g ih e = absurd (none-ne-some os e)
    go (some p) f (some qs) g ih e = placed p f qs (ih qs g) (eqb p.address address) refl e

-- a text that is read is the listing of what it says
pub listing-prints : (text : List ℕ) (os : List Op) → read_listing text ≡ some os → text ≡ listing_text os
listing-prints text os e = sym (parts-joined newline text) ∙ lines-print 0 (parts newline text) os e
