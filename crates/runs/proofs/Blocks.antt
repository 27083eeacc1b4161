-- Where the block of a supplier at an address stands in a schedule; on a sorted one the part found there is the block.
-- Assumes, of the block, that the schedule is sorted and that no row of the block stands before where the search begins.
use Prim.Native.Nat.{ℕ, suc, ◌+◌, ◌-◌, ◌*◌, ◌≤◌, ◌<◌}
use mathlib.Core.Path.{◌≡◌, refl, sym, ap, subst, ◌∙◌}
use mathlib.Core.Bool.{Bool, true, false, ◌&&◌}
use mathlib.Core.List.{List}
use mathlib.Core.Logic.{◌⊎◌, inl, inr, ⊎_elim}
use native.Mathlib.Nat.{div-mul-le_self, eq-or-lt_of_le}
use native.Mathlib.Omega.{arith}
use native.Mathlib.Decide.{dec_lt}
use lib.Dec.{eqb}
use lib.IntN.{ℤ, pos}
use lib.ListN.{length, drop, length-drop}
use lib.Seq.{length-take-le, get_or-take, get_or-drop}
use Rattle.theory.specs.Claim.{Says}
use Rattle.theory.proofs.Search.{Finds, finds}
use Rattle.theory.proofs.Bools.{is_true, is_false, says-lt, says-le, says_eq, says-and, says-or}
use Rattle.cells.specs.Cell.{cell_at}
use Rattle.runs.proofs.Halving.{Rising, Halved, halved-all}
use Rattle.runs.specs.declared.block.Span.{Span}
use Rattle.runs.specs.Schedule.{schedule_width, schedule_count, row_supplier, row_address}
use Rattle.runs.specs.Schedule.{Sorted, reaches, Behind, reach, found, span_of}

-- a search for supplier s and address a finds the first row that does not come before them
pub reach-finds : (S : List ℤ) (from s a : ℕ) → Finds (reaches S s a) (schedule_count S - from) from (reach S from s a)
unfolding reach
reach-finds S from s a = finds (reaches S s a) (schedule_count S - from) from

-- what the test whether row i comes before supplier s and address a says
reaches-says : (S : List ℤ) (s a i : ℕ) → Says (reaches S s a i) ((s < row_supplier S i) ⊎ ((row_supplier S i ≡ s) × (a ≤ row_address S i)))
unfolding reaches
reaches-says S s a i = says-or (says-lt s (row_supplier S i)) (says-and (says_eq (row_supplier S i) s) (says-le a (row_address S i)))

-- a row that comes before supplier s and address a comes before s and a higher address
behind-one : (S : List ℤ) (s a b i : ℕ) → a ≤ b → reaches S s a i ≡ false → reaches S s b i ≡ false
behind-one S s a b i l e =
    is_false (reaches-says S s b i) (λ w. (reaches-says S s a i).no e (⊎_elim inl (λ v. inr (v.0, omega arith)) w))

-- no row stands before row 0
pub behind-none : (S : List ℤ) (s a : ℕ) → Behind S s a 0
behind-none S s a i l = absurd (omega arith)

-- rows that come before supplier s and address a come before s and a higher address
pub behind-later : (S : List ℤ) (s a b n : ℕ) → a ≤ b → Behind S s a n → Behind S s b n
behind-later S s a b n l h i k = behind-one S s a b i l (h i k)

-- rows that come before a supplier come before any address of a later one
pub behind-supplier : (S : List ℤ) (s r a b n : ℕ) → s < r → Behind S s a n → Behind S r b n
behind-supplier S s r a b n l h i k =
    is_false (reaches-says S r b i)
    (λ w. (reaches-says S s a i).no (h i k) (inl (⊎_elim (λ v. omega arith) (λ v. omega arith) w)))

-- two searches, the second from where the first ended and for the next address, find the block
pub found-is : (S : List ℤ) (s a from begin end next : ℕ) → next ≡ suc a → begin ≡ reach S from s a → end ≡ reach S begin s next
    → record { begin = begin; end = end } ≡ found S from s a
found-is S s a from begin end next n b e = simp (e, n, b) refl

-- the rows found as the block are rows of the schedule, from `from` on
pub found_within : (S : List ℤ) (s a from : ℕ) → from ≤ schedule_count S
    → (from ≤ (found S from s a).begin) × ((found S from s a).begin ≤ (found S from s a).end) × ((found S from s a).end ≤ schedule_count S)
found_within S s a from l =
    let b = reach-finds S from s a in
    let e = reach-finds S (reach S from s a) s (suc a) in
    (b.low, e.low, omega (arith, l, b.high, e.high))

-- the rows before the end of the rows found come before the next address
pub found-behind : (S : List ℤ) (s a from : ℕ) → Behind S s a from → Behind S s (suc a) (found S from s a).end
found-behind S s a from h i l = go (dec_lt i from) (dec_lt i (reach S from s a))
  where
    go : Dec (i < from) → Dec (i < reach S from s a) → reaches S s (suc a) i ≡ false
    go (yes u) d = behind-one S s a (suc a) i (omega arith) (h i u)
    go (no u) (yes v) = behind-one S s a (suc a) i (omega arith) ((reach-finds S from s a).least i (omega arith) v)
    go (no u) (no v) = (reach-finds S (reach S from s a) s (suc a)).least i (omega arith) l

-- in a sorted schedule, the rows after one that does not come before s and a do not come before them either
pub sorted-reaches : (S : List ℤ) (s a : ℕ) → Sorted S → Rising (reaches S s a) (schedule_count S)
sorted-reaches S s a o j i l u e = ⊎_elim (λ q. subst (λ (k : ℕ). reaches S s a k ≡ true) q e) later (eq-or-lt_of_le l)
  where
    later : j < i → reaches S s a i ≡ true
    later m = is_true (reaches-says S s a i) (⊎_elim (λ v. inl (omega (arith, o.by-supplier j i m u))) same ((reaches-says S s a j).yes e))
      where
        same : (row_supplier S j ≡ s) × (a ≤ row_address S j) → (s < row_supplier S i) ⊎ ((row_supplier S i ≡ s) × (a ≤ row_address S i))
        same v = go (dec_lt s (row_supplier S i))
          where
            go : Dec (s < row_supplier S i) → (s < row_supplier S i) ⊎ ((row_supplier S i ≡ s) × (a ≤ row_address S i))
            go (yes k) = inl k
            go (no k) =
                let q : row_supplier S i ≡ s = omega (arith, v.0, o.by-supplier j i m u) in
                inr (q, omega (arith, v.1, o.by_address j i m u (v.0 ∙ sym q)))

-- a search by halving in a sorted schedule finds the first row that does not come before supplier s and address a
pub halved-reach : (S : List ℤ) (s a from low high : ℕ) → from ≤ low → low ≤ schedule_count S → high ≤ low
    → Halved (reaches S s a) (schedule_count S) from low high → low ≡ reach S from s a
unfolding reach
halved-reach S s a from low high = halved-all (reaches S s a) (schedule_count S) from low high

-- row i is of the block of supplier s at address a
abbrev pub is_of : List ℤ → ℕ → ℕ → ℕ → Bool
is_of S s a i = eqb (row_supplier S i) s && eqb (row_address S i) a

is-of-says : (S : List ℤ) (s a i : ℕ) → Says (is_of S s a i) ((row_supplier S i ≡ s) × (row_address S i ≡ a))
is-of-says S s a i = says-and (says_eq (row_supplier S i) s) (says_eq (row_address S i) a)

-- a row that comes before supplier s and address a is not of their block, nor is one that does not come before the next address
pub before-block : (S : List ℤ) (s a i : ℕ) → reaches S s a i ≡ false → is_of S s a i ≡ false
before-block S s a i e =
    is_false (is-of-says S s a i) (λ w. (reaches-says S s a i).no e (inr (w.0, omega (arith, w.1))))

pub after_block : (S : List ℤ) (s a i : ℕ) → reaches S s (suc a) i ≡ true → is_of S s a i ≡ false
after_block S s a i e =
    is_false (is-of-says S s a i)
    (λ w. ⊎_elim (λ v. omega (arith, v, w.0)) (λ v. omega (arith, v.1, w.1)) ((reaches-says S s (suc a) i).yes e))

-- a row that comes before the next address, and not before supplier s and address a, is of their block
pub in_block : (S : List ℤ) (s a i : ℕ) → reaches S s a i ≡ true → reaches S s (suc a) i ≡ false → is_of S s a i ≡ true
in_block S s a i e f =
    is_true (is-of-says S s a i)
    (⊎_elim (λ v. absurd ((reaches-says S s (suc a) i).no f (inl v))) (λ v. (v.0, go v (dec_lt a (row_address S i)))) ((reaches-says S s a i).yes e))
  where
    go : (row_supplier S i ≡ s) × (a ≤ row_address S i) → Dec (a < row_address S i) → row_address S i ≡ a
    go v (yes l) = absurd ((reaches-says S s (suc a) i).no f (inr (v.0, l)))
    go v (no l) = omega (arith, v.1)

module _ (S : List ℤ) (at : Span) where
  -- a cell of the part is a cell of the schedule
  pub part-cell : (i c : ℕ) → i < at.end - at.begin → c < schedule_width
      → cell_at (span_of S at) (i * schedule_width + c) ≡ cell_at S ((at.begin + i) * schedule_width + c)
  part-cell i c l m =
      let z : at.begin * schedule_width + (i * schedule_width + c) ≡ (at.begin + i) * schedule_width + c = omega arith in
      get_or-take ((at.end - at.begin) * schedule_width) (drop (at.begin * schedule_width) S) (i * schedule_width + c) (pos 0) (omega arith)
      ∙ get_or-drop (at.begin * schedule_width) S (i * schedule_width + c) (pos 0)
      ∙ ap (cell_at S) z

  -- the part of a span has as many rows as the span
  pub part_count : at.begin ≤ at.end → at.end ≤ schedule_count S → schedule_count (span_of S at) ≡ at.end - at.begin
  part_count l m =
      let f = div-mul-le_self (length S) schedule_width in
      let e =
      length-take-le ((at.end - at.begin) * schedule_width) (drop (at.begin * schedule_width) S)
      (simp length-drop (omega (arith, f))) in
      omega (arith, e)
