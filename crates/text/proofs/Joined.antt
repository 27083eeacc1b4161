-- The parts of a text, joined by the separator again, are the text.
use Prim.Native.Nat.{ℕ}
use mathlib.Core.Path.{◌≡◌, refl, ap, ◌∙◌}
use mathlib.Core.Bool.{Bool, true, false}
use mathlib.Core.List.{List, [], ◌∷◌, ◌++◌, map}
use lib.Dec.{eqb}
use borrow.Author.Tests.{eqb-true}
use Rattle.text.specs.Decimal.{space, decimal}
use Rattle.text.specs.Input.{in_front}
use Rattle.text.specs.Listing.{spaced}
use Rattle.text.specs.ReadBack.{parts}

-- parts behind the first, each after a separator
abbrev pub behind : ℕ → List (List ℕ) → List ℕ
behind s [] = []
behind s (l ∷ ls) = s ∷ (l ++ behind s ls)

-- parts with a separator between them
abbrev pub joined : ℕ → List (List ℕ) → List ℕ
joined s [] = []
joined s (l ∷ ls) = l ++ behind s ls

-- a byte in front of the parts is one in front of the text
joined-front : (s b : ℕ) (ls : List (List ℕ)) → joined s (in_front b ls) ≡ b ∷ joined s ls
joined-front s b [] = refl
joined-front s b (l ∷ ls) = refl

-- there is one part at least, so that an empty one in front is a separator
joined-empty : (s : ℕ) (text : List ℕ) → joined s ([] ∷ parts s text) ≡ s ∷ joined s (parts s text)
joined-empty s [] = refl
joined-empty s (b ∷ bs) = go (eqb s b) (parts s bs)
  where
    go : (t : Bool) (ls : List (List ℕ))
        → joined s ([] ∷ elim t [ true ↦ [] ∷ ls | false ↦ in_front b ls ]) ≡ s ∷ joined s (elim t [ true ↦ [] ∷ ls | false ↦ in_front b ls ])
    go true ls = refl
    go false [] = refl
    go false (l ∷ ls) = refl

-- the parts of a text, joined again, are the text
pub parts-joined : (s : ℕ) (text : List ℕ) → joined s (parts s text) ≡ text
parts-joined s [] = refl
parts-joined s (b ∷ bs) = go (eqb s b) refl (parts-joined s bs)
  where
    go : (t : Bool) → eqb s b ≡ t → joined s (parts s bs) ≡ bs
        → joined s (elim t [ true ↦ [] ∷ parts s bs | false ↦ in_front b (parts s bs) ]) ≡ b ∷ bs
    go true e h = joined-empty s bs ∙ (λ j. eqb-true s b e j ∷ h j)
    go false e h = joined-front s b (parts s bs) ∙ ap (λ (l : List ℕ). b ∷ l) h

-- arguments are parts, each after a space
pub behind-spaced : (ns : List ℕ) → behind space (map decimal ns) ≡ spaced ns
behind-spaced [] = refl
behind-spaced (n ∷ ns) = ap (λ (l : List ℕ). space ∷ (decimal n ++ l)) (behind-spaced ns)
