-- In the middle of a text that is not decided yet: what one line more does, and what the definition says of it, are the same.
use Prim.Native.Nat.{ℕ, suc, ◌+◌, ◌-◌, ◌*◌, ◌<◌, ◌≤◌}
use mathlib.Core.Path.{◌≡◌, sym, ap, ap₂, ◌∙◌}
use mathlib.Core.List.{List, [], ◌∷◌, ◌++◌, append_assoc}
use mathlib.Core.Option.{Option, some}
use native.Mathlib.Numerals.{add-one}
use native.Mathlib.Omega.{arith}
use lib.IntN.{ℤ, pos, negsuc}
use lib.ListN.{length, set, take, drop, drop_of_length-le}
use lib.Seq.{take-suc-set, length-take-le}
use Rattle.cells.specs.Limits.{table_count}
use Rattle.text.specs.Input.{bad, too_many, Shape, shapes}
use Rattle.intake.specs.Shapes.{shape_at}
use Rattle.intake.specs.Change.{with_number, with_table}
use Rattle.intake.specs.Heard.{piece, start_mode}
use Rattle.intake.specs.declared.state.Intake.{Intake}
use Rattle.intake.proofs.Rest.{going, going-number, going-same, going-within, going-past}
use Rattle.intake.proofs.Pieces.{pieces, pieces-within, pieces_more}
use Rattle.intake.proofs.Sound.{Sound, next-shape, sound-place}
use Rattle.intake.proofs.Resume.{begun, from_here}

module _ (i : Intake) (room : List ℤ) (rest : List (Option ℤ)) (s : Sound i (length room)) where
  -- a number of the latest table is stored, and the definition goes on with the rest
  pub here-number : (z : ℤ) → 0 < i.left → from_here (with_number i) (set room i.at z) rest ≡ from_here i room (some z ∷ rest)
  here-number z h =
      let l : i.left ≡ suc (i.left - 1) = omega arith in
      going-same (start_mode i) rest (i.left - 1) (drop i.table shapes) (begun (with_number i) (set room i.at z)) (λ zs. begun i room (z ∷ zs))
      (λ zs e. ap (λ (m : List ℤ). pieces (piece i m) i.table) (behind zs))
      ∙ sym (going-number (start_mode i) rest (i.left - 1) (drop i.table shapes) (begun i room) z)
      ∙ ap (λ (k : ℕ). going k (drop i.table shapes) (begun i room) (start_mode i) (some z ∷ rest)) (sym l)
    where
      behind : (zs : List ℤ) → take (i.at + 1) (set room i.at z) ++ zs ≡ take i.at room ++ (z ∷ zs)
      behind zs =
          ap (λ (m : List ℤ). m ++ zs)
          (ap (λ (k : ℕ). take k (set room i.at z)) (add-one i.at) ∙ take-suc-set room i.at z (sound-place i (length room) s h))
          ∙ append_assoc (take i.at room) (z ∷ []) zs

  -- what was stored so far is as long as the next free place says
  filled : length (take i.at room) ≡ i.at
  filled = length-take-le i.at room (omega (arith, s.enough))

  -- with no number of the latest table to come, and a table to come
  module _ (done : i.left ≤ 0) (next : i.table < table_count) where
    -- the shape of that table is the first of those that are left
    opening : (z : ℤ) → from_here i room (some z ∷ rest)
        ≡ going 0 (shape_at i.table ∷ drop (i.table + 1) shapes) (begun i room) (start_mode i) (some z ∷ rest)
    opening z =
        let l : i.left ≡ 0 = omega arith in
        ap₂ (λ (k : ℕ) (ss : List Shape). going k ss (begun i room) (start_mode i) (some z ∷ rest)) l (next-shape i.table next)

    -- a row count within the limit begins the next table
    pub here-within : (n : ℕ) → n ≤ (shape_at i.table).limit
        → from_here (with_table i (n * (shape_at i.table).width)) room rest ≡ from_here i room (some (pos n) ∷ rest)
    here-within n h =
        going-same (start_mode i) rest many (drop (i.table + 1) shapes) (begun (with_table i many) room) (λ zs. begun i room [] ++ (zs ∷ [])) joined
        ∙ sym (going-within (start_mode i) rest (shape_at i.table) (drop (i.table + 1) shapes) (begun i room) n h)
        ∙ sym (opening (pos n))
      where
        many : ℕ
        many = n * (shape_at i.table).width

        joined : (zs : List ℤ) → length zs ≡ many → begun (with_table i many) room zs ≡ begun i room [] ++ (zs ∷ [])
        joined zs e =
            let so_far = take i.at room in
            ap (pieces (piece (with_table i many) (so_far ++ zs))) (add-one i.table)
            ∙ pieces_more i so_far zs many filled e (omega (arith, s.spans-all))
            ∙ ap (λ (ts : List (List ℤ)). ts ++ (zs ∷ []))
            (pieces-within i so_far zs [] i.table (λ k b. omega (arith, s.apart k b, filled)))

    -- a row count past the limit decides
    pub here-past : (n : ℕ) → (shape_at i.table).limit < n → from_here i room (some (pos n) ∷ rest) ≡ too_many
    here-past n h =
        opening (pos n) ∙ going-past (start_mode i) rest (shape_at i.table) (drop (i.table + 1) shapes) (begun i room) n h

    -- a row count below 0 decides
    pub here-negative : (n : ℕ) → from_here i room (some (negsuc n) ∷ rest) ≡ too_many
    here-negative n = opening (negsuc n)

  -- nothing may follow the last table
  pub here-last : i.left ≤ 0 → table_count ≤ i.table → (z : ℤ) → from_here i room (some z ∷ rest) ≡ bad
  here-last l h z =
      let e : i.left ≡ 0 = omega arith in
      ap₂ (λ (k : ℕ) (ss : List Shape). going k ss (begun i room) (start_mode i) (some z ∷ rest)) e (drop_of_length-le shapes {i = i.table} h)
