-- Once the text is decided, more bytes change nothing of what is heard.
use Prim.Native.Nat.{ℕ}
use mathlib.Core.Path.{◌≡◌, refl, sym, ap, subst, ◌∙◌}
use mathlib.Core.Bool.{true}
use mathlib.Core.List.{[], ◌∷◌}
use lib.Dec.{eqb}
use Rattle.theory.proofs.Conditions.{cond-all}
use Rattle.text.specs.Decimal.{newline}
use Rattle.text.specs.Part.{start_part, is_start, part_after, signed_of}
use Rattle.text.specs.declared.number.Part.{Part}
use Rattle.intake.specs.Line.{Fed, is_decided, is_complete}
use Rattle.intake.specs.Bytes.{at_part, line_end, fed_of, fed_all, ended_of}
use Rattle.intake.specs.Heard.{heard}
use Rattle.intake.specs.Exact.{DecidedStays}
use Rattle.intake.proofs.Steps.{took-decided}

-- what was read of a line does not matter for whether the text is decided
part-decided : (f : Fed) (p : Part) → is_decided (at_part f p).intake ≡ is_decided f.intake
unfolding is_decided
part-decided f p = refl

-- what was read of a line does not matter for what is heard
part-heard : (f : Fed) (p : Part) → heard (at_part f p) ≡ heard f
unfolding heard is_complete
part-heard f p = refl

module _ (f : Fed) (d : is_decided f.intake ≡ true) where
  -- in a text that is decided a line end begins a line, and does nothing else
  line-decided : line_end f ≡ at_part f start_part
  unfolding line_end
  line-decided =
      ap (λ (g : Fed). at_part g start_part) (took-decided f.intake f.room (signed_of f.intake.part) d)

  -- in a text that is decided the end of the input does nothing
  ended-decided : heard (ended_of f) ≡ heard f
  unfolding ended_of
  ended-decided =
      cond-all (λ (g : Fed). heard g ≡ heard f) (is_start f.intake.part) f (line_end f) (λ s. refl)
      (λ s. ap heard line-decided ∙ part-heard f start_part)

  -- a claim of every line that is begun is one of the intake after any byte
  byte-decided : (P : Fed → Type 0) → ((p : Part) → P (at_part f p)) → (b : ℕ) → P (fed_of f b)
  unfolding fed_of
  byte-decided P h b =
      let longer = part_after f.intake.part b in
      cond-all P (eqb b newline) (line_end f) (at_part f longer) (λ e. subst P (sym line-decided) (h start_part)) (λ e. h longer)

-- once the text is decided, more bytes change nothing of what is heard
pub decided-stays : DecidedStays
decided-stays f d [] = ended-decided f d
decided-stays f d (b ∷ bs) =
    byte-decided f d (λ (g : Fed). heard (ended_of (fed_all g bs)) ≡ heard f)
    (λ p. decided-stays (at_part f p) (part-decided f p ∙ d) bs ∙ part-heard f p) b
