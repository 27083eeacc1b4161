-- At the end of the lines: what the definition says of none is what the intake comes to.
use Prim.Native.Nat.{ℕ, suc, ◌-◌}
use mathlib.Core.Path.{◌≡◌, refl, ap, ap₂, ◌∙◌}
use mathlib.Core.Bool.{Bool, true, false}
use mathlib.Core.List.{List, [], ◌++◌}
use native.Mathlib.Omega.{arith}
use lib.Dec.{eqb}
use lib.IntN.{ℤ}
use lib.ListN.{length, take, drop, take-append-drop}
use lib.Seq.{length-take-le}
use borrow.Author.Tests.{eqb-true, eqb-false}
use Rattle.std.specs.Prelude.{Option, Some, None, is_some}
use Rattle.cells.specs.Limits.{table_count}
use Rattle.text.specs.Input.{bad, got, Shape, shapes, placed}
use Rattle.intake.specs.Line.{fed, is_complete}
use Rattle.intake.specs.Heard.{piece, tables_read, start_mode, heard}
use Rattle.intake.specs.declared.state.Intake.{Intake}
use Rattle.intake.specs.declared.state.Wrong.{Wrong}
use Rattle.intake.proofs.Rest.{going}
use Rattle.intake.proofs.Pieces.{pieces, pieces-within}
use Rattle.intake.proofs.Sound.{Sound, next-shape}
use Rattle.intake.proofs.Resume.{begun, from_here, resume, resume_wrong, resume-start, resume-here}

module _ (i : Intake) (room : List ℤ) (s : Sound i (length room)) where
  -- where numbers of the latest table are missing, the text is bad
  end-number : eqb i.left 0 ≡ false → from_here i room [] ≡ bad
  end-number h =
      let l : i.left ≡ suc (i.left - 1) = omega (arith, eqb-false i.left 0 h) in
      ap (λ (k : ℕ). going k (drop i.table shapes) (begun i room) (start_mode i) []) l

  module _ (h : eqb i.left 0 ≡ true) where
    -- where a table is missing, the text is bad
    end-table : eqb i.table table_count ≡ false → from_here i room [] ≡ bad
    end-table t =
        ap₂ (λ (k : ℕ) (ss : List Shape). going k ss (begun i room) (start_mode i) []) (eqb-true i.left 0 h)
        (next-shape i.table (omega (arith, s.few, eqb-false i.table table_count t)))

    -- where nothing is missing, the program was read
    end_whole : eqb i.table table_count ≡ true → from_here i room [] ≡ got (tables_read (fed i room) (start_mode i)) []
    end_whole t =
        let so_far = take i.at room in
        let none_left = eqb-true i.left 0 h in
        let all = eqb-true i.table table_count t in
        let filled = length-take-le i.at room (omega (arith, s.enough)) in
        ap₂ (λ (k n : ℕ). going k (drop n shapes) (λ zs. pieces (piece i (so_far ++ zs)) n) (start_mode i) []) none_left all
        ∙ ap (λ (ts : List (List ℤ)). got (placed (start_mode i) (ts ++ [])) [])
        (pieces-within i so_far [] (drop i.at room) table_count (λ k b. omega (arith, s.apart k (omega (arith, all, b)), filled, none_left))
        ∙ ap (λ (l : List ℤ). pieces (piece i l) table_count) (take-append-drop i.at room))

  -- where the start mode was read and nothing refused, what is heard is what the definition says of no lines left
  end-here : i.wrong ≡ None → is_some i.start ≡ true → from_here i room [] ≡ heard (fed i room)
  unfolding heard is_complete
  end-here w e = go (eqb i.left 0) refl (eqb i.table table_count) refl
    where
      go : (l : Bool) → eqb i.left 0 ≡ l → (t : Bool) → eqb i.table table_count ≡ t → from_here i room [] ≡ heard (fed i room)
      go true h true t = simp (w, e, h, t) (end_whole h t)
      go true h false t = simp (w, e, h, t) (end-table h t)
      go false h true t = simp (w, e, h, t) (end-number h)
      go false h false t = simp (w, e, h, t) (end-number h)

  -- what is heard is what the definition says of no lines left, whatever is known
  pub resume-end : resume (fed i room) [] ≡ heard (fed i room)
  unfolding heard is_complete
  resume-end = go i.wrong refl (is_some i.start) refl
    where
      go : (v : Option Wrong) → i.wrong ≡ v → (t : Bool) → is_some i.start ≡ t → resume (fed i room) [] ≡ heard (fed i room)
      go (Some v) w t e = resume_wrong i room [] v w ∙ simp w refl
      go None w true e = resume-here i room [] w e ∙ end-here w e
      go None w false e = resume-start i room [] w e ∙ simp (w, e) refl
