-- The lines of a text: a line that has ended stands before the others, and one without a line end is the last.
use Prim.Native.Nat.{ℕ}
use mathlib.Core.Path.{◌≡◌, refl, ap, ◌∙◌}
use mathlib.Core.Bool.{Bool, true, false}
use mathlib.Core.List.{List, [], ◌∷◌, ◌++◌}
use lib.Dec.{eqb}
use Rattle.theory.specs.Lists.{Every}
use Rattle.text.specs.Decimal.{newline}
use Rattle.text.specs.Input.{in_front, lines}

-- a text has no line end in it
abbrev pub NoEnd : List ℕ → Type 0
NoEnd = Every (λ b. eqb b newline ≡ false)

-- a byte that is no line end goes in front of the first line
front : (b : ℕ) (bs : List ℕ) → eqb b newline ≡ false → lines (b ∷ bs) ≡ in_front b (lines bs)
front b bs e = ap (λ (t : Bool). elim t [ true ↦ [] ∷ lines bs | false ↦ in_front b (lines bs) ]) e

-- a text that begins with a line and its end has that line first
pub lines-ended : (l rest : List ℕ) → NoEnd l → lines (l ++ (newline ∷ rest)) ≡ l ∷ lines rest
lines-ended [] rest h = refl
lines-ended (b ∷ l) rest h =
    front b (l ++ (newline ∷ rest)) h.0 ∙ ap (in_front b) (lines-ended l rest h.1)

-- a text without a line end is its one line, if it has some byte
pub lines-last : (b : ℕ) (l : List ℕ) → NoEnd (b ∷ l) → lines (b ∷ l) ≡ (b ∷ l) ∷ []
lines-last b [] h = front b [] h.0
lines-last b (c ∷ l) h = front b (c ∷ l) h.0 ∙ ap (in_front b) (lines-last c l h.1)
