-- What the byte machine answers for a line as a signed number is the line's number: refused exactly where it is none.
use Prim.Native.Nat.{ℕ}
use mathlib.Core.Path.{◌≡◌, refl, sym, ap, ◌∙◌}
use mathlib.Core.Bool.{Bool, true, false}
use mathlib.Core.List.{List, [], ◌∷◌}
use mathlib.Core.Option.{Option, none, some}
use native.Mathlib.Omega.{arith}
use lib.Dec.{eqb, ltb}
use borrow.Author.Tests.{ltb-true, ltb-false}
use Rattle.text.specs.Decimal.{minus, negative, not_negative, magnitude, number}
use Rattle.text.specs.Part.{too_large, capped, part_after_all, part_of, signed_as, signed_by, signed_of}
use Rattle.text.specs.declared.number.Part.{Part}
use Rattle.text.specs.declared.number.Part.TheVariants.{Minus}
use Rattle.text.proofs.Capped.{capped_small, capped-large}
use Rattle.text.proofs.LineEnd.{Come, after_minus, from_start, minus-read}
use Rattle.text.proofs.Signs.{past-least, past-greatest}

-- a value that is held is too large for either sign
held : (sign : Bool) (v : ℕ) → signed_as (signed_by sign (some (capped v))) ≡ signed_as (signed_by sign (some v))
held sign v = go (ltb v too_large) refl sign
  where
    go : (t : Bool) → ltb v too_large ≡ t → (sign : Bool) → signed_as (signed_by sign (some (capped v))) ≡ signed_as (signed_by sign (some v))
    go true e sign = ap (λ (k : ℕ). signed_as (signed_by sign (some k))) (capped_small v (ltb-true v too_large e))
    go false e true =
        let h = capped-large v (ltb-false v too_large e) in
        past-least (capped v) (omega arith) ∙ sym (past-least v (omega (arith, ltb-false v too_large e)))
    go false e false =
        let h = capped-large v (ltb-false v too_large e) in
        past-greatest (capped v) (omega arith) ∙ sym (past-greatest v (omega (arith, ltb-false v too_large e)))

signed-come : (sign : Bool) (o : Option ℕ) (p : Part) → Come sign o p → signed_of p ≡ signed_as (signed_by sign o)
unfolding signed_of
signed-come true none p e = e.signed
signed-come false none p e = e.signed
signed-come sign (some v) p e = ap signed_of e ∙ held sign v

pub signed-number : (line : List ℕ) → signed_of (part_of line) ≡ signed_as (number line)
unfolding signed_of
signed-number [] = refl
signed-number (b ∷ bs) = go (eqb b minus) refl
  where
    go : (t : Bool) → eqb b minus ≡ t
        → signed_of (part_of (b ∷ bs)) ≡ signed_as (elim t [ true ↦ negative (magnitude bs) | false ↦ not_negative (magnitude (b ∷ bs)) ])
    go true e =
        ap (λ (q : Part). signed_of (part_after_all q bs)) (minus-read b e)
        ∙ signed-come true (magnitude bs) (part_after_all Minus bs) (after_minus bs)
    go false e = signed-come false (magnitude (b ∷ bs)) (part_of (b ∷ bs)) (from_start b bs e)
