-- One line more, whatever it says and whatever was read before it.
use Prim.Native.Nat.{ℕ, ◌<◌}
use mathlib.Core.Path.{◌≡◌, refl, sym, ap, ap₂, subst, ◌∙◌}
use mathlib.Core.Bool.{Bool, true, false}
use mathlib.Core.List.{List, ◌∷◌, ◌++◌}
use mathlib.Core.Option.{Option, none, some}
use native.Mathlib.Decide.{dec_lt}
use native.Mathlib.Omega.{arith}
use lib.IntN.{ℤ}
use lib.ListN.{length, take, drop}
use Rattle.std.specs.Prelude.{Option as Told, Some, None, is_some}
use Rattle.text.specs.Input.{bad, shapes}
use Rattle.text.specs.Part.{signed_as}
use Rattle.intake.specs.Change.{with_start}
use Rattle.intake.specs.Line.{fed, is_decided, took_of}
use Rattle.intake.specs.Heard.{piece, start_mode}
use Rattle.intake.specs.declared.state.Intake.{Intake}
use Rattle.intake.specs.declared.state.Wrong.{Wrong}
use Rattle.intake.proofs.Rest.{going, going-none}
use Rattle.intake.proofs.Pieces.{pieces}
use Rattle.intake.proofs.Sound.{Sound, sound-start}
use Rattle.intake.proofs.Resume.{begun, resume, resume_wrong, resume-start, resume-here}
use Rattle.intake.proofs.Steps.{took-decided, took-none, took-start, took_number, took-count}
use Rattle.intake.proofs.Follows.{Follows, refused, stores, counts}

module _ (i : Intake) (room : List ℤ) (s : Sound i (length room)) where
  -- the line x is taken as the definition says
  abbrev Taken : Option ℤ → Type 0
  Taken x = Follows (fed i room) x (took_of (fed i room) (signed_as x))

  -- where the text is decided, a line is taken as the definition says: nothing changes
  stays : (x : Option ℤ) (w : Wrong) → i.wrong ≡ Some w → Taken x
  unfolding is_decided
  stays x w e =
      subst (Follows (fed i room) x) (sym (took-decided i room (signed_as x) (ap is_some e)))
      (record { sound = s; says = λ rest. resume_wrong i room rest w e ∙ sym (resume_wrong i room (x ∷ rest) w e) })

  -- the text is not decided yet
  module _ (w : i.wrong ≡ None) where
    undecided : is_decided i ≡ false
    unfolding is_decided
    undecided = ap is_some w

    -- of a line that is no number the definition says that the text is bad
    none-says : (t : Bool) → is_some i.start ≡ t → (rest : List (Option ℤ)) → resume (fed i room) (none ∷ rest) ≡ bad
    none-says true e rest =
        resume-here i room (none ∷ rest) w e ∙ going-none (start_mode i) rest i.left (drop i.table shapes) (begun i room)
    none-says false e rest = resume-start i room (none ∷ rest) w e

    -- a line that is no number is taken as the definition says
    no_number : Taken none
    no_number =
        subst (Follows (fed i room) none) (sym (took-none i room undecided))
        (refused i room s w none (none-says (is_some i.start) refl))

    -- the start mode is taken as the definition says
    starts : (z : ℤ) → is_some i.start ≡ false → Taken (some z)
    starts z e =
        subst (Follows (fed i room) (some z)) (sym (took-start i room undecided z e))
        (record { sound = sound-start i (length room) s z; says = says })
      where
        says : (rest : List (Option ℤ)) → resume (fed (with_start i z) room) rest ≡ resume (fed i room) (some z ∷ rest)
        says rest =
            resume-here (with_start i z) room rest w refl
            ∙ ap₂ (λ (l k : ℕ). going l (drop k shapes) (λ zs. pieces (piece i (take i.at room ++ zs)) k) z rest)
            (s.fresh e).1 (s.fresh e).0
            ∙ sym (resume-start i room (some z ∷ rest) w e)

    -- a line in the middle of the text is taken as the definition says
    fills : (z : ℤ) → is_some i.start ≡ true → Taken (some z)
    fills z e = go (dec_lt 0 i.left)
      where
        go : Dec (0 < i.left) → Taken (some z)
        go (yes h) =
            subst (Follows (fed i room) (some z)) (sym (took_number i room undecided z e h)) (stores i room s w e z h)
        go (no h) =
            subst (Follows (fed i room) (some z)) (sym (took-count i room undecided z e (omega arith)))
            (counts i room s w e z (omega arith))

    -- a line of a text that is not decided is taken as the definition says
    takes : (x : Option ℤ) → Taken x
    takes none = no_number
    takes (some z) = go (is_some i.start) refl
      where
        go : (t : Bool) → is_some i.start ≡ t → Taken (some z)
        go false e = starts z e
        go true e = fills z e

  -- any line is taken as the definition says
  pub took-follows : (x : Option ℤ) → Follows (fed i room) x (took_of (fed i room) (signed_as x))
  took-follows x = go i.wrong refl
    where
      go : (w : Told Wrong) → i.wrong ≡ w → Taken x
      go (Some w) e = stays x w e
      go None e = takes e x
