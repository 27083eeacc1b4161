-- The rows of a slice that is a block: which of them a tick's start passes, row by row, and what runs at a row.
use Prim.Native.Nat.{ℕ, suc, ◌+◌, ◌≤◌, ◌<◌, max}
use mathlib.Core.Path.{◌≡◌, refl, sym, ap, ◌∙◌}
use mathlib.Core.Bool.{Bool, true, false, ◌&&◌}
use mathlib.Core.List.{List, [], ◌∷◌}
use native.Mathlib.Numerals.{add-one}
use native.Mathlib.Omega.{arith}
use lib.Dec.{eqb, ltb, leb}
use lib.IntN.{ℤ}
use lib.ListN.{drop, drop_of_length-le}
use lib.Seq.{drop-cons}
use borrow.Author.Tests.{ltb-true, ltb-false, leb-true, leb-false}
use Rattle.theory.proofs.Lists.{each-length, each_at}
use Rattle.std.specs.Prelude.{Some, None}
use Rattle.cells.specs.declared.kinds.Task.{Task}
use Rattle.runs.specs.declared.turn.Turn.{Turn}
use Rattle.runs.specs.Tick.{dispatch, idle, Row, skipped, passed, rest, work, does, act, moved, turn_of}
use Rattle.runs.specs.Schedule.{schedule_count, row_kind, row_task, kind_dispatch, row_of, rows_of}

-- the rows from row i on are row i and the rows behind it
rows-cons : (B : List ℤ) (i : ℕ) → i < schedule_count B → drop i (rows_of B) ≡ row_of B i ∷ drop (suc i) (rows_of B)
rows-cons B i h =
    drop-cons (rows_of B) i (row_of B i) (omega (arith, each-length (row_of B) (schedule_count B) 0))
    ∙ ap (λ (x : Row). x ∷ drop (suc i) (rows_of B)) (each_at (row_of B) (schedule_count B) i (row_of B i) h)

-- behind the last row there is none
rows_end : (B : List ℤ) (i : ℕ) → schedule_count B ≤ i → drop i (rows_of B) ≡ []
rows_end B i h = drop_of_length-le (rows_of B) {i = i} (omega (arith, each-length (row_of B) (schedule_count B) 0))

-- the position that a tick's start comes to from row i on
abbrev pub comes : List ℤ → ℕ → List ℕ → ℕ → ℕ
comes B elapsed left i = moved (rows_of B) elapsed (record { position = i; left = left })

module _ (B : List ℤ) (elapsed : ℕ) (left : List ℕ) where
  -- a row that has nothing to do is passed
  pub comes-more : (i : ℕ) → i < schedule_count B → skipped elapsed left (row_of B i) ≡ true → comes B elapsed left (i + 1) ≡ comes B elapsed left i
  comes-more i l h =
      let e : passed (drop i (rows_of B)) elapsed left ≡ suc (passed (drop (suc i) (rows_of B)) elapsed left) =
      ap (λ (r : List Row). passed r elapsed left) (rows-cons B i l) ∙ rw (h, passed) in
      rw (add-one i) (omega arith)

  -- a row that has something to do is not passed
  pub comes-stop : (i : ℕ) → i < schedule_count B → skipped elapsed left (row_of B i) ≡ false → i ≡ comes B elapsed left i
  comes-stop i l h =
      let e : passed (drop i (rows_of B)) elapsed left ≡ 0 =
      ap (λ (r : List Row). passed r elapsed left) (rows-cons B i l) ∙ rw (h, passed) in
      omega arith

  -- behind the last row nothing is passed
  pub comes-end : (i : ℕ) → schedule_count B ≤ i → i ≡ comes B elapsed left i
  comes-end i l =
      let e : passed (drop i (rows_of B)) elapsed left ≡ 0 = ap (λ (r : List Row). passed r elapsed left) (rows_end B i l) in
      omega arith

  -- a walk from a position that ends at row i behind the last row comes to the last row's end, or stays where it begins behind it
  pub comes-last : (position i : ℕ) → (position ≤ schedule_count B → i ≤ schedule_count B) → schedule_count B ≤ i
      → comes B elapsed left i ≡ comes B elapsed left position → max (schedule_count B) position ≡ comes B elapsed left position
  comes-last position i f l e = go (leb position (schedule_count B)) refl
    where
      go : (b : Bool) → leb position (schedule_count B) ≡ b → max (schedule_count B) position ≡ comes B elapsed left position
      go true h =
          let w = f (leb-true position (schedule_count B) h) in
          let q : max (schedule_count B) position ≡ i = omega (arith, leb-true position (schedule_count B) h) in
          q ∙ comes-end i l ∙ e
      go false h =
          let q : max (schedule_count B) position ≡ position = omega (arith, leb-false position (schedule_count B) h) in
          q ∙ comes-end position (omega (arith, leb-false position (schedule_count B) h))

-- what runs at position i: the task of a dispatch; at an idle, and behind the last row, none
acts : (B : List ℤ) (i : ℕ) → act (drop i (rows_of B)) ≡ elim (ltb i (schedule_count B) && eqb (row_kind B i) kind_dispatch) [ true ↦ work (row_task B i) | false ↦ rest ]
acts B i = go (ltb i (schedule_count B)) refl
  where
    row : (b : Bool) → does (elim b [ true ↦ dispatch | false ↦ idle ]) (row_task B i) ≡ elim b [ true ↦ work (row_task B i) | false ↦ rest ]
    row true = refl
    row false = refl

    go : (a : Bool) → ltb i (schedule_count B) ≡ a → act (drop i (rows_of B)) ≡ elim (a && eqb (row_kind B i) kind_dispatch) [ true ↦ work (row_task B i) | false ↦ rest ]
    go true p = ap act (rows-cons B i (ltb-true i (schedule_count B) p)) ∙ row (eqb (row_kind B i) kind_dispatch)
    go false p = ap act (rows_end B i (ltb-false i (schedule_count B) p))

-- the turn at a dispatch, from the row's kind k and task j
pub runs-at : (B : List ℤ) (i k : ℕ) (j : Task) → k ≡ row_kind B i → (ltb i (schedule_count B) && eqb k kind_dispatch) ≡ true → j.0 ≡ row_task B i
    → ◌≡◌ {A = Turn} (record { position = i; job = Some j }) (turn_of i (act (drop i (rows_of B))))
runs-at B i k j e h q =
    let r : act (drop i (rows_of B)) ≡ work (row_task B i) = acts B i ∙ rw (← e, h) in
    ap (λ j. turn_of i (work j)) q ∙ ap (turn_of i) (sym r)

-- the turn at a row that is no dispatch, and behind the last row, from the row's kind k
pub rests-at : (B : List ℤ) (i k : ℕ) → k ≡ row_kind B i → (ltb i (schedule_count B) && eqb k kind_dispatch) ≡ false
    → ◌≡◌ {A = Turn} (record { position = i; job = None }) (turn_of i (act (drop i (rows_of B))))
rests-at B i k e h =
    let r : act (drop i (rows_of B)) ≡ rest = acts B i ∙ rw (← e, h) in
    ap (turn_of i) (sym r)
