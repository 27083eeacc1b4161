-- One line more in the middle of a text that is not decided: the intake stays sound, and what the definition says of the lines that
-- are left is what it said of this line and those.
use Prim.Native.Nat.{ℕ, ◌*◌, ◌<◌, ◌≤◌}
use mathlib.Core.Path.{◌≡◌, refl, sym, ap, subst, ◌∙◌}
use mathlib.Core.Bool.{true}
use mathlib.Core.List.{List, ◌∷◌}
use mathlib.Core.Option.{Option, some}
use native.Mathlib.Decide.{dec_lt, dec_le}
use native.Mathlib.Omega.{arith}
use lib.IntN.{ℤ, pos, negsuc}
use lib.ListN.{length, set, length-set}
use Rattle.std.specs.Option.{option_or}
use Rattle.std.specs.Prelude.{Option as Told, Some, None, is_some}
use Rattle.cells.specs.Limits.{table_count}
use Rattle.text.specs.Input.{bad, too_many}
use Rattle.intake.specs.Shapes.{shape_at}
use Rattle.intake.specs.Change.{as_bad, as_too_many, with_number, with_table}
use Rattle.intake.specs.Line.{Fed, fed, stored_of, counted_of}
use Rattle.intake.specs.declared.state.Intake.{Intake}
use Rattle.intake.specs.declared.state.Wrong.{Wrong}
use Rattle.intake.specs.declared.state.Wrong.TheVariants.{Bad, TooMany}
use Rattle.intake.proofs.Shapes.{shape-small}
use Rattle.intake.proofs.Sound.{Sound, sound-bad, sound-many, sound-place, sound-number, sound-table}
use Rattle.intake.proofs.Resume.{from_here, resume, resume_wrong, resume-here}
use Rattle.intake.proofs.Here.{here-number, here-within, here-past, here-negative, here-last}
use Rattle.intake.proofs.Steps.{stored-in, counted-last, counted-within, counted-past}

-- the intake and the room are sound
abbrev pub SoundFed : Fed → Type 0
SoundFed f = Sound f.intake (length f.room)

-- g is what comes of f by the line x
pub record Follows (f : Fed) (x : Option ℤ) (g : Fed) : Type 0 where
  pub sound : SoundFed g
  pub says : (rest : List (Option ℤ)) → resume g rest ≡ resume f (x ∷ rest)

module _ (i : Intake) (room : List ℤ) (s : Sound i (length room)) (m : i.wrong ≡ None) where
  -- a line that the definition refuses leaves the text bad
  pub refused : (x : Option ℤ) → ((rest : List (Option ℤ)) → resume (fed i room) (x ∷ rest) ≡ bad)
      → Follows (fed i room) x (fed (as_bad i) room)
  refused x e =
      record { sound = sound-bad i (length room) s; says = λ rest. resume_wrong (as_bad i) room rest Bad (ap (λ (w : Told Wrong). option_or w (Some Bad)) m) ∙ sym (e rest) }

  module _ (e : is_some i.start ≡ true) where
    -- what the definition says of a line where the start mode was read
    here : (z : ℤ) (rest : List (Option ℤ)) → resume (fed i room) (some z ∷ rest) ≡ from_here i room (some z ∷ rest)
    here z rest = resume-here i room (some z ∷ rest) m e

    -- a number of the latest table is stored as the definition says
    pub stores : (z : ℤ) → 0 < i.left → Follows (fed i room) (some z) (stored_of (fed i room) z)
    stores z h =
        let after = set room i.at z in
        subst (Follows (fed i room) (some z)) (sym (stored-in i room z (sound-place i (length room) s h)))
        (record {
          sound = subst (Sound (with_number i)) (sym (length-set room i.at z)) (sound-number i (length room) s h e);
          says = λ rest. resume-here (with_number i) after rest m e ∙ here-number i room rest s z h ∙ sym (here z rest);
        })

    -- the cases of a row count
    module _ (z : ℤ) where
      -- j is what comes of i by the line z, and the room stays
      abbrev Leads : Intake → Type 0
      Leads j = Follows (fed i room) (some z) (fed j room)

      -- a row count out of the limit decides
      over : counted_of i z ≡ as_too_many i → ((rest : List (Option ℤ)) → from_here i room (some z ∷ rest) ≡ too_many) → Leads (counted_of i z)
      over c t =
          subst Leads (sym c)
          (record {
            sound = sound-many i (length room) s;
            says = λ rest. resume_wrong (as_too_many i) room rest TooMany refl ∙ sym (here z rest ∙ t rest);
          })

      -- a row count after the last table leaves the text bad
      last : i.left ≤ 0 → table_count ≤ i.table → Leads (counted_of i z)
      last done h =
          subst Leads (sym (counted-last i z h)) (refused (some z) (λ rest. here z rest ∙ here-last i room rest s done h z))

    -- a row count within the limit begins the next table
    opens : (n : ℕ) → i.left ≤ 0 → i.table < table_count → n ≤ (shape_at i.table).limit → Leads (pos n) (counted_of i (pos n))
    opens n done next h =
        let opened = with_table i (n * (shape_at i.table).width) in
        subst (Leads (pos n)) (sym (counted-within i (pos n) next h))
        (record {
          sound = sound-table i (length room) s n next done e h;
          says = λ rest. resume-here opened room rest m e ∙ here-within i room rest s done next n h ∙ sym (here (pos n) rest);
        })

    -- a row count of a table to come is taken as the definition says
    counts-next : (z : ℤ) → i.left ≤ 0 → i.table < table_count → Leads z (counted_of i z)
    counts-next (negsuc n) done next =
        let small = shape-small i.table in
        over (negsuc n) (counted-past i (negsuc n) next (omega arith)) (λ rest. here-negative i room rest s done next n)
    counts-next (pos n) done next = go (dec_le n (shape_at i.table).limit)
      where
        go : Dec (n ≤ (shape_at i.table).limit) → Leads (pos n) (counted_of i (pos n))
        go (yes h) = opens n done next h
        go (no h) =
            let past : (shape_at i.table).limit < n = omega arith in
            over (pos n) (counted-past i (pos n) next past) (λ rest. here-past i room rest s done next n past)

    -- a row count is taken as the definition says, whatever was read before it
    pub counts : (z : ℤ) → i.left ≤ 0 → Follows (fed i room) (some z) (fed (counted_of i z) room)
    counts z done = go (dec_lt i.table table_count)
      where
        go : Dec (i.table < table_count) → Leads z (counted_of i z)
        go (yes next) = counts-next z done next
        go (no h) = last z done (omega arith)
