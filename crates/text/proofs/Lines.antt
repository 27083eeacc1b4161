-- What a line says when more is appended to it, one piece after the other.
use Prim.Native.Nat.{ℕ, ◌+◌, ◌≤◌, ◌<◌}
use mathlib.Core.Path.{◌≡◌, refl, sym, ap, subst, ◌∙◌}
use mathlib.Core.List.{List, [], ◌∷◌, ◌++◌, append_assoc, append-nil}
use native.Mathlib.Numerals.{add-one}
use native.Mathlib.Omega.{arith}
use lib.ListN.{length, take, drop, set, get_or, replicate, length-append}
use lib.Seq.{take-suc, take_all, take-suc-set, drop-set-lt, drop-drop}
use Rattle.text.specs.Line.{room, text_of, Holds, Appended}
use Rattle.text.specs.declared.line.Line.{Line}

-- a line with one byte more at its end says this byte more
pub appended-byte : (l : Line) (b : ℕ) → l.len < length l.bytes
    → Appended l (record { bytes = set l.bytes l.len b; len = l.len + 1 }) (b ∷ [])
unfolding text_of
appended-byte l b h =
    record {
      text = rw add-one (take-suc-set l.bytes l.len b h);
      len = omega arith;
      rest = drop-set-lt (l.len + 1) l.bytes l.len b (omega arith);
    }

-- a line to which nothing is appended says nothing more
pub appended-none : (l : Line) → Appended l l []
appended-none l = record { text = simp append-nil; len = omega arith; rest = refl }

-- bytes that are the same from one place on are so from a later one on
rest-on : (l m : List ℕ) (i k j : ℕ) → j ≡ i + k → drop i l ≡ drop i m → drop j l ≡ drop j m
rest-on l m i k j e h =
    ap (λ (n : ℕ). drop n l) e ∙ sym (drop-drop k i l) ∙ ap (drop k) h ∙ drop-drop k i m ∙ ap (λ (n : ℕ). drop n m) (sym e)

-- two pieces that are appended one after the other are appended together
pub appended-both : {a b c : Line} (x y : List ℕ) → Appended a b x → Appended b c y → Appended a c (x ++ y)
appended-both {a} {b} {c} x y f g =
    record {
      text = g.text ∙ ap (λ (t : List ℕ). t ++ y) f.text ∙ append_assoc (text_of a) x y;
      len = omega (arith, f.len, g.len, length-append x y);
      rest = g.rest ∙ rest-on b.bytes a.bytes b.len (length y) c.len g.len f.rest;
    }

-- what a line holds after more was appended
pub holds_more : {a b : Line} (said more : List ℕ) → Holds a said → Appended a b more → Holds b (said ++ more)
holds_more {a} {b} said more f g =
    record {
      text = g.text ∙ ap (λ (t : List ℕ). t ++ more) f.text;
      len = omega (arith, f.len, g.len, length-append said more);
      rest = g.rest ∙ rest-on a.bytes (replicate room 0) a.len (length more) b.len g.len f.rest;
    }

-- where the first i bytes were appended, and then the next, the first i + 1 were appended
pub appended-next : {a b c : Line} (more : List ℕ) (i : ℕ) → i < length more
    → Appended a b (take i more) → Appended b c (get_or more i 0 ∷ []) → Appended a c (take (i + 1) more)
appended-next {a} {b} {c} more i h f g = rw (add-one, take-suc more i 0) (appended-both (take i more) (get_or more i 0 ∷ []) f g)

-- where as many bytes were appended as there are, all were appended
pub appended-whole : {a b : Line} (more : List ℕ) (i : ℕ) → length more ≤ i → Appended a b (take i more) → Appended a b more
appended-whole {a} {b} more i h f = subst (Appended a b) (take_all i more h) f
