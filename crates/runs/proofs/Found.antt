-- On a sorted schedule the rows found are the block: it has a file of its own, so that it stands on what proofs/Blocks says of a row.
-- Assumes that the schedule is sorted and that no row of the block stands before where the search begins.
use Prim.Native.Nat.{ℕ, suc, ◌+◌, ◌-◌, ◌≤◌, ◌<◌}
use mathlib.Core.Path.{◌≡◌, refl, sym, ap, ◌∙◌}
use mathlib.Core.Bool.{true, false}
use mathlib.Core.List.{List, [], ◌++◌, append-nil}
use native.Mathlib.Omega.{arith}
use native.Mathlib.Decide.{dec_lt}
use lib.IntN.{ℤ}
use Rattle.theory.specs.Lists.{those, each}
use Rattle.theory.proofs.Lists.{those-split, those-none, those-each, each_same}
use Rattle.cells.specs.Cell.{num_at, name_at}
use Rattle.runs.specs.Tick.{Row}
use Rattle.runs.specs.declared.block.Span.{Span}
use Rattle.runs.specs.Schedule.{kind_column, task_column, timeout_column, schedule_count, row_of}
use Rattle.runs.specs.Schedule.{rows_of, block_of, Sorted, reaches, Behind, reach, found, span_of}
use Rattle.runs.proofs.Blocks.{reach-finds, found_within, sorted-reaches, is_of, before-block, after_block, in_block, part-cell, part_count}

-- a row of the part is a row of the schedule
part-row : (S : List ℤ) (at : Span) (i : ℕ) → i < at.end - at.begin → row_of (span_of S at) i ≡ row_of S (at.begin + i)
unfolding num_at name_at
part-row S at i l =
    let k = part-cell S at i kind_column l (omega arith) in
    let t = part-cell S at i task_column l (omega arith) in
    let o = part-cell S at i timeout_column l (omega arith) in
    simp (k, t, o) refl

module _ (S : List ℤ) (s a from : ℕ) (o : Sorted S) (l : from ≤ schedule_count S) (h : Behind S s a from) where
  abbrev begin : ℕ
  begin = reach S from s a

  abbrev end : ℕ
  end = reach S begin s (suc a)

  -- the rows before those found are not of the block
  none_before : those (is_of S s a) (row_of S) begin 0 ≡ []
  none_before = those-none (is_of S s a) (row_of S) begin 0 (λ i u v. before-block S s a i (go i v (dec_lt i from)))
    where
      go : (i : ℕ) → i < 0 + begin → Dec (i < from) → reaches S s a i ≡ false
      go i v (yes k) = h i k
      go i v (no k) = (reach-finds S from s a).least i (omega arith) (omega arith)

  -- the rows found are of the block
  all_found : those (is_of S s a) (row_of S) (end - begin) begin ≡ each (row_of S) (end - begin) begin
  all_found = those-each (is_of S s a) (row_of S) (end - begin) begin go
    where
      go : (i : ℕ) → begin ≤ i → i < begin + (end - begin) → is_of S s a i ≡ true
      go i u v =
          let w = found_within S s a from l in
          let r = (reach-finds S from s a).has (omega (arith, w.1, w.2)) in
          in_block S s a i (sorted-reaches S s a o begin i u (omega (arith, w.1, w.2)) r) ((reach-finds S begin s (suc a)).least i u (omega arith))

  -- the rows after those found are not of the block
  none_after : those (is_of S s a) (row_of S) (schedule_count S - end) end ≡ []
  none_after = those-none (is_of S s a) (row_of S) (schedule_count S - end) end go
    where
      go : (i : ℕ) → end ≤ i → i < end + (schedule_count S - end) → is_of S s a i ≡ false
      go i u v =
          let w = found_within S s a from l in
          let r = (reach-finds S begin s (suc a)).has (omega (arith, w.1, w.2)) in
          after_block S s a i (sorted-reaches S s (suc a) o end i u (omega (arith, w.1, w.2)) r)

  -- the block is the rows found
  block-is : block_of S s a ≡ each (row_of S) (end - begin) begin
  block-is =
      let pass : ℕ → ℕ → List Row = those (is_of S s a) (row_of S) in
      let rest : ℕ = schedule_count S - end in
      let w = found_within S s a from l in
      let x : begin + (end - begin) ≡ end = omega (arith, w.1) in
      let y : 0 + begin ≡ begin = omega arith in
      let z : schedule_count S ≡ begin + (end - begin + rest) = omega (arith, w.1, w.2) in
      ap (λ (k : ℕ). pass k 0) z
      ∙ those-split (is_of S s a) (row_of S) begin (end - begin + rest) 0
      ∙ ap (λ (r : List Row). r ++ pass (end - begin + rest) (0 + begin)) none_before
      ∙ ap (pass (end - begin + rest)) y
      ∙ those-split (is_of S s a) (row_of S) (end - begin) rest begin
      ∙ ap (λ (r : List Row). pass (end - begin) begin ++ r) (ap (pass rest) x ∙ none_after)
      ∙ append-nil (pass (end - begin) begin)
      ∙ all_found

-- on a sorted schedule, where no row of the block stands before `from`, the rows found are the block
pub block-found : (S : List ℤ) (s a from : ℕ) → Sorted S → from ≤ schedule_count S → Behind S s a from
    → rows_of (span_of S (found S from s a)) ≡ block_of S s a
block-found S s a from o l h =
    let at = found S from s a in
    let w = found_within S s a from l in
    ap (λ (k : ℕ). each (row_of (span_of S at)) k 0) (part_count S at w.1 w.2)
    ∙ each_same (row_of (span_of S at)) (row_of S) (at.end - at.begin) 0 at.begin go
    ∙ sym (block-is S s a from o l h)
  where
    go : (k : ℕ) → k < (found S from s a).end - (found S from s a).begin → row_of (span_of S (found S from s a)) (0 + k) ≡ row_of S ((found S from s a).begin + k)
    go k u =
        let z : 0 + k ≡ k = omega arith in
        ap (row_of (span_of S (found S from s a))) z ∙ part-row S (found S from s a) k u
