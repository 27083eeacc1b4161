-- The bytes of a text: after any of them, with a line begun, what is still to be heard is what the definition says of that line and
-- the rest of the text.
use Prim.Native.Nat.{ℕ}
use mathlib.Core.Path.{◌≡◌, refl, sym, ap, subst, ◌∙◌}
use mathlib.Core.Bool.{Bool, true, false}
use mathlib.Core.List.{List, [], ◌∷◌, ◌++◌, append_assoc, append-nil}
use mathlib.Core.Option.{Option}
use lib.Dec.{eqb}
use lib.IntN.{ℤ}
use borrow.Author.Tests.{eqb-true}
use Rattle.std.specs.Prelude.{Option as Told}
use Rattle.theory.proofs.Conditions.{cond_yes, cond_no}
use Rattle.theory.proofs.Lists.{every_append}
use Rattle.text.specs.Decimal.{newline, number}
use Rattle.text.specs.Input.{lines, numbers_of}
use Rattle.text.specs.Part.{start_part, is_start, part_after, part_of, signed_as, signed_of}
use Rattle.text.specs.declared.number.Part.{Part}
use Rattle.text.proofs.Cut.{part_cut}
use Rattle.text.proofs.SignedNumber.{signed-number}
use Rattle.intake.specs.Line.{Fed, took_of}
use Rattle.intake.specs.Bytes.{at_part, line_end, fed_of, fed_all, ended_of}
use Rattle.intake.specs.Heard.{heard}
use Rattle.intake.proofs.Resume.{resume}
use Rattle.intake.proofs.Follows.{SoundFed, Follows}
use Rattle.intake.proofs.Took.{took-follows}
use Rattle.intake.proofs.End.{resume-end}
use Rattle.intake.proofs.Begun.{line-begun}
use Rattle.intake.proofs.Cutting.{NoEnd, lines-ended, lines-last}

-- what was read of a line does not matter for the room
sound-part : (f : Fed) (p : Part) → SoundFed f → SoundFed (at_part f p)
sound-part f p s =
    record { fresh = s.fresh; few = s.few; spans-all = s.spans-all; apart = s.apart; enough = s.enough }

-- what was read of a line does not matter for what the definition says of the lines that are left
resume-part : (f : Fed) (p : Part) (rest : List (Option ℤ)) → resume (at_part f p) rest ≡ resume f rest
unfolding resume
resume-part f p rest = refl

-- at the end of a line its number is taken as the definition says
line-follows : (f : Fed) (l : List ℕ) → SoundFed f → f.intake.part ≡ part_of l → Follows f (number l) (line_end f)
unfolding line_end
line-follows f l s e =
    let step = took-follows f.intake f.room s (number l) in
    subst (λ (z : Told ℤ). Follows f (number l) (at_part (took_of f z) start_part)) (sym (ap signed_of e ∙ signed-number l))
    (record {
      sound = sound-part (took_of f (signed_as (number l))) start_part step.sound;
      says = λ rest. resume-part (took_of f (signed_as (number l))) start_part rest ∙ step.says rest;
    })

-- at the end of the text what is heard is what the definition says of the last line
ended-heard : (f : Fed) (l : List ℕ) → NoEnd l → SoundFed f → f.intake.part ≡ part_of l
    → heard (ended_of f) ≡ resume f (numbers_of (lines l))
unfolding ended_of
ended-heard f [] h s e =
    ap heard (cond_yes f (line_end f) (ap is_start e)) ∙ sym (resume-end f.intake f.room s)
ended-heard f (b ∷ l) h s e =
    let step = line-follows f (b ∷ l) s e in
    ap heard (cond_no f (line_end f) (ap is_start e ∙ line-begun b l))
    ∙ sym (resume-end (line_end f).intake (line_end f).room step.sound)
    ∙ step.says []
    ∙ ap (λ (ls : List (List ℕ)). resume f (numbers_of ls)) (sym (lines-last b l h))

-- with a line begun, what is heard after the rest of the text is what the definition says of both
abbrev pub Hears : List ℕ → Type 0
Hears text = (f : Fed) (l : List ℕ) → NoEnd l → SoundFed f → f.intake.part ≡ part_of l
    → heard (ended_of (fed_all f text)) ≡ resume f (numbers_of (lines (l ++ text)))

-- one byte more, where the bytes after it are heard
module _ (b : ℕ) (bs : List ℕ) (ih : Hears bs) (f : Fed) (l : List ℕ) (h : NoEnd l) (s : SoundFed f)
    (e : f.intake.part ≡ part_of l) where
  -- a line end is heard as the definition says
  hears-end : eqb b newline ≡ true → heard (ended_of (fed_all (fed_of f b) bs)) ≡ resume f (numbers_of (lines (l ++ (b ∷ bs))))
  unfolding fed_of line_end
  hears-end t =
      let step = line-follows f l s e in
      let longer = at_part f (part_after f.intake.part b) in
      ap (λ (g : Fed). heard (ended_of (fed_all g bs))) (cond_yes (line_end f) longer t)
      ∙ ih (line_end f) [] tt step.sound refl
      ∙ step.says (numbers_of (lines bs))
      ∙ ap (λ (ls : List (List ℕ)). resume f (numbers_of ls)) (sym (lines-ended l bs h))
      ∙ ap (λ (c : ℕ). resume f (numbers_of (lines (l ++ (c ∷ bs))))) (sym (eqb-true b newline t))

  -- a byte of the line is heard as the definition says
  hears-byte : eqb b newline ≡ false → heard (ended_of (fed_all (fed_of f b) bs)) ≡ resume f (numbers_of (lines (l ++ (b ∷ bs))))
  unfolding fed_of
  hears-byte t =
      let longer = at_part f (part_after f.intake.part b) in
      let read = ap (λ (p : Part). part_after p b) e ∙ sym (part_cut start_part l (b ∷ [])) in
      ap (λ (g : Fed). heard (ended_of (fed_all g bs))) (cond_no (line_end f) longer t)
      ∙ ih longer (l ++ (b ∷ [])) (every_append (λ c. eqb c newline ≡ false) l (b ∷ []) h (t, tt))
      (sound-part f (part_after f.intake.part b) s) read
      ∙ resume-part f (part_after f.intake.part b) (numbers_of (lines ((l ++ (b ∷ [])) ++ bs)))
      ∙ ap (λ (m : List ℕ). resume f (numbers_of (lines m))) (append_assoc l (b ∷ []) bs)

  -- one byte more is heard as the definition says
  hears-more : heard (ended_of (fed_all (fed_of f b) bs)) ≡ resume f (numbers_of (lines (l ++ (b ∷ bs))))
  hears-more = go (eqb b newline) refl
    where
      go : (t : Bool) → eqb b newline ≡ t → heard (ended_of (fed_all (fed_of f b) bs)) ≡ resume f (numbers_of (lines (l ++ (b ∷ bs))))
      go true t = hears-end t
      go false t = hears-byte t

-- all bytes of a text are heard as the definition says
pub text-heard : (text : List ℕ) → Hears text
text-heard [] = λ f l h s e. ended-heard f l h s e ∙ ap (λ (m : List ℕ). resume f (numbers_of (lines m))) (sym (append-nil l))
text-heard (b ∷ bs) = hears-more b bs (text-heard bs)
