-- A text that is not decided may still become bad: a line that is no number makes it so.
use Prim.Native.Nat.{ℕ}
use mathlib.Core.Path.{◌≡◌, refl, ap, ◌∙◌}
use mathlib.Core.Bool.{false}
use mathlib.Core.List.{List, [], ◌∷◌}
use Rattle.std.specs.Prelude.{Option, Some, None, is_some}
use Rattle.theory.proofs.Bools.{clash}
use Rattle.theory.proofs.Conditions.{cond_no}
use Rattle.text.specs.Decimal.{newline}
use Rattle.text.specs.Input.{bad}
use Rattle.text.specs.Part.{start_part, digits_after, part_after, signed_of}
use Rattle.text.specs.declared.number.Part.{Part}
use Rattle.text.specs.declared.number.Part.TheVariants.{Start, Minus, Digits, Bad}
use Rattle.intake.specs.Change.{as_bad}
use Rattle.intake.specs.Line.{Fed, fed, is_decided, is_complete, took_of}
use Rattle.intake.specs.Bytes.{at_part, line_end, fed_of, fed_all, ended_of}
use Rattle.intake.specs.Heard.{heard}
use Rattle.intake.specs.declared.state.Wrong.{Wrong}

-- a byte that no number has: x in ASCII
abbrev letter : ℕ
letter = 120

abbrev pub no_number : List ℕ
no_number = letter ∷ newline ∷ []

-- a text that a failure leaves bad is heard as bad, where no count was out of its limit
pub heard-bad : (f : Fed) → is_decided f.intake ≡ false → heard (fed (as_bad f.intake) f.room) ≡ bad
unfolding heard is_complete is_decided
heard-bad f d = go f.intake.wrong refl
  where
    go : (w : Option Wrong) → f.intake.wrong ≡ w → heard (fed (as_bad f.intake) f.room) ≡ bad
    go None e = simp e refl
    go (Some w) e = clash (ap is_some e) d

-- that byte fits nowhere in a line
letter-bad : (p : Part) → part_after p letter ≡ Bad
unfolding part_after digits_after
letter-bad Start = refl
letter-bad Minus = refl
letter-bad (Digits sign n) = refl
letter-bad Bad = refl

module _ (f : Fed) (d : is_decided f.intake ≡ false) where
  -- that byte leaves the line that is being read bad
  spoils : fed_of f letter ≡ at_part f Bad
  unfolding fed_of
  spoils = ap (at_part f) (letter-bad f.intake.part)

  -- at the end of a line with a byte that no number has the text is bad
  line-bad : line_end (at_part f Bad) ≡ at_part (fed (as_bad f.intake) f.room) start_part
  unfolding line_end took_of is_decided signed_of
  line-bad = ap (λ (g : Fed). at_part g start_part) (cond_no (at_part f Bad) (fed (as_bad (at_part f Bad).intake) f.room) d)

  -- a text that goes on with a line that is no number is heard as bad
  pub spoilt-bad : heard (ended_of (fed_all f no_number)) ≡ bad
  unfolding fed_of ended_of heard is_complete
  spoilt-bad =
      ap (λ (g : Fed). heard (ended_of (fed_of g newline))) spoils
      ∙ ap (λ (g : Fed). heard (ended_of g)) line-bad
      ∙ heard-bad f d
