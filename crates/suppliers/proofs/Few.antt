-- Rows of one supplier among the rows before a row: where suppliers ascend, they stand just above it, so the row d above a row has its
-- supplier exactly where d rows before it have; and each row has fewer than d such rows before it exactly where no supplier has over d.
use Prim.Native.Nat.{ℕ, zero, suc, ◌+◌, ◌-◌, ◌≤◌, ◌<◌}
use mathlib.Core.Path.{◌≡◌, refl, sym, ap, subst, ◌∙◌}
use mathlib.Core.Bool.{true, false, ◌&&◌}
use native.Mathlib.Omega.{arith}
use native.Mathlib.Decide.{dec_lt, ℕ_discrete}
use lib.Dec.{eqb, leb}
use lib.ListN.{length, length-append}
use borrow.Author.Tests.{eq-eqb, ne_eqb}
use Rattle.theory.specs.Claim.{Bars}
use Rattle.theory.specs.Lists.{those}
use Rattle.theory.proofs.Bools.{says_eq, says-le, bars-says, bars-as, ◌and◌}
use Rattle.theory.proofs.Lists.{those-split, those-none, those-each, those-few, those-yes, each-length}

-- `of` gives the supplier of each row, d the most rows of one supplier
module _ (of : ℕ → ℕ) (d : ℕ) (some-row : 0 < d) where
  -- of m rows from row i on, how many are of supplier s
  abbrev count : ℕ → ℕ → ℕ → ℕ
  count s m i = length (those (λ j. eqb (of j) s) (λ j. j) m i)

  -- the rows of a supplier among n + m are those among the first n and those among the m after them
  count-split : (s n m : ℕ) → count s (n + m) 0 ≡ count s n 0 + count s m n
  count-split s n m =
      let z : 0 + n ≡ n = omega arith in
      ap length (those-split (λ j. eqb (of j) s) (λ j. j) n m 0)
      ∙ length-append (those (λ j. eqb (of j) s) (λ j. j) n 0) (those (λ j. eqb (of j) s) (λ j. j) m (0 + n))
      ∙ ap (λ (k : ℕ). count s n 0 + count s m k) z

  module _ (i : ℕ) (ascends : (j k : ℕ) → j < k → k ≤ i → of j ≤ of k) where
    -- where the row d above row i has its supplier, so have all between: d rows before row i
    many : d ≤ i → of (i - d) ≡ of i → d ≤ count (of i) i 0
    many l e =
        let all : (i - d) + d ≡ i = omega arith in
        let own : count (of i) d (i - d) ≡ d = ap length (those-each (λ j. eqb (of j) (of i)) (λ j. j) d (i - d) (λ j a b. between j a (omega arith))) ∙ each-length (λ j. j) d (i - d) in
        omega (arith, ap (λ (m : ℕ). count (of i) m 0) all, count-split (of i) (i - d) d, own)
      where
        between : (j : ℕ) → i - d ≤ j → j < i → eqb (of j) (of i) ≡ true
        between j a b = eq-eqb (of j) (of i) (go (ℕ_discrete (i - d) j))
          where
            go : Dec (i - d ≡ j) → of j ≡ of i
            go (yes q) = ap of (sym q) ∙ e
            go (no q) = omega (arith, e, ascends (i - d) j (omega arith) (omega arith), ascends j i b (omega arith))

    -- where the row d above row i has another supplier, so have all before it: fewer than d rows before row i
    few : d ≤ i → (of (i - d) ≡ of i → ⊥) → count (of i) i 0 < d
    few l n =
        let all : suc (i - d) + (d - 1) ≡ i = omega arith in
        let none : count (of i) (suc (i - d)) 0 ≡ 0 = ap length (those-none (λ j. eqb (of j) (of i)) (λ j. j) (suc (i - d)) 0 (λ j a b. other j (omega arith))) in
        omega (
          arith,
          ap (λ (m : ℕ). count (of i) m 0) all,
          count-split (of i) (suc (i - d)) (d - 1),
          none,
          those-few (λ j. eqb (of j) (of i)) (λ j. j) (d - 1) (suc (i - d)),
        )
      where
        less : of (i - d) < of i
        less = omega (arith, n, ascends (i - d) i (omega arith) (omega arith))

        other : (j : ℕ) → j ≤ i - d → eqb (of j) (of i) ≡ false
        other j a = ne_eqb (of j) (of i) (λ e. go e (ℕ_discrete j (i - d)))
          where
            go : of j ≡ of i → Dec (j ≡ i - d) → ⊥
            go e (yes q) = omega (arith, less, e, ap of q)
            go e (no q) = omega (arith, less, e, ascends j (i - d) (omega arith) (omega arith))

    -- the test of the row d above bars that fewer than d rows before row i have its supplier
    pub few-bars : Bars (leb d i && eqb (of (i - d)) (of i)) (count (of i) i 0 < d)
    few-bars = bars-as (bars-says (says-le d i and says_eq (of (i - d)) (of i))) (λ n. there n (dec_lt i d)) (λ l (a, e). omega (arith, l, many a e))
      where
        there : ((d ≤ i) × (of (i - d) ≡ of i) → ⊥) → Dec (i < d) → count (of i) i 0 < d
        there n (yes l) = omega (arith, those-few (λ j. eqb (of j) (of i)) (λ j. j) i 0)
        there n (no l) = few (omega arith) (λ e. n (omega arith, e))

  -- where each row has fewer than d rows of its supplier before it, no supplier has over d
  pub few-all : (s n : ℕ) → ((i : ℕ) → i < n → count (of i) i 0 < d) → count s n 0 ≤ d
  few-all s zero h = omega arith
  few-all s (suc n) h = go (ℕ_discrete (of n) s) (few-all s n (λ i l. h i (omega arith)))
    where
      last : count s (suc n) 0 ≡ count s n 0 + count s 1 n
      last = let z : n + 1 ≡ suc n = omega arith in ap (λ (m : ℕ). count s m 0) (sym z) ∙ count-split s n 1

      go : Dec (of n ≡ s) → count s n 0 ≤ d → count s (suc n) 0 ≤ d
      go (yes e) ih =
          omega (arith, last, those-few (λ j. eqb (of j) s) (λ j. j) 1 n, subst (λ (r : ℕ). count r n 0 < d) e (h n (omega arith)))
      go (no e) ih =
          omega (arith, ih, last, ap length (those-none (λ j. eqb (of j) s) (λ j. j) 1 n (λ j a b. let q : n ≡ j = omega arith in ne_eqb (of j) s (λ f. e (ap of q ∙ f)))))

  -- where no supplier has over d rows, each row has fewer than d rows of its supplier before it
  pub few-each : (n i : ℕ) → i < n → count (of i) n 0 ≤ d → count (of i) i 0 < d
  few-each n i l h =
      let all : i + (n - i) ≡ n = omega arith in
      let this : count (of i) (n - i) i ≡ suc (count (of i) (n - (i + 1)) (i + 1)) =
      ap length (those-yes (λ j. eqb (of j) (of i)) (λ j. j) n i l (eq-eqb (of i) (of i) refl)) in
      omega (arith, h, ap (λ (m : ℕ). count (of i) m 0) all, count-split (of i) i (n - i), this)
