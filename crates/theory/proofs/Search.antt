-- The laws of `any` and `first`: what a loop over rows cites, and what the two say.
use Prim.Native.Nat.{ℕ, zero, suc, ◌+◌, ◌-◌, ◌≤◌, ◌<◌}
use mathlib.Core.Path.{◌≡◌, refl, sym, ap, subst, ◌∙◌}
use mathlib.Core.Bool.{Bool, true, false, ◌&&◌, ◌||◌, or-true}
use mathlib.Core.Logic.{⊎_elim}
use native.Mathlib.Nat.{le_of_suc-le-suc, not-suc-le-zero, eq-or-lt_of_le, le_antisymm}
use native.Mathlib.Numerals.{add-one}
use native.Mathlib.Omega.{arith}
use lib.Dec.{ltb}
use borrow.Author.Tests.{ltb-true, ltb-false}
use Rattle.std.specs.Prelude.{Some, None}
use Rattle.theory.specs.Search.{any, first_from, first, lowest_passing}
use Rattle.theory.specs.Claim.{Says, Bars}
use Rattle.theory.proofs.Bools.{clash, neither, bars-and, bars-as}

-- a loop over the rows below n has passed i of them, and none of these passes the test p
pub record Passed (p : ℕ → Bool) (n i : ℕ) : Type 0 where
  pub in-range : i ≤ n
  pub clear : any p i ≡ false

module _ (p : ℕ → Bool) where
  -- some row of one more passes exactly where some of the earlier does, or the last
  any-suc : (n : ℕ) → any p (suc n) ≡ (any p n || p n)
  unfolding any
  any-suc n = refl

  -- a loop begins with no row passed
  pub passed_none : (n : ℕ) → Passed p n 0
  unfolding any
  passed_none n = record { in-range = omega arith; clear = refl }

  -- a loop goes on past one row more, which does not pass the test
  pub passed-more : (n i : ℕ) → Passed p n i → i < n → p i ≡ false → Passed p n (i + 1)
  passed-more n i h l e =
      record { in-range = omega (arith, h.in-range); clear = ap (any p) (add-one i) ∙ any-suc i ∙ simp (h.clear, e) }

  -- where a row passes the test, some row does, however many rows follow
  pub any_at : (n i : ℕ) → i < n → p i ≡ true → any p n ≡ true
  any_at zero i l e = absurd (not-suc-le-zero l)
  any_at (suc n) i l e =
      any-suc n
      ∙ ⊎_elim (λ q. let h : p n ≡ true = subst (λ (k : ℕ). p k ≡ true) q e in simp h (or-true (any p n)))
      (λ q. simp (any_at n i q e)) (eq-or-lt_of_le (le_of_suc-le-suc l))

  -- a loop that has passed all rows has shown that no row passes the test
  pub passed-all : (n i : ℕ) → Passed p n i → n ≤ i → any p n ≡ false
  passed-all n i h l = ap (any p) (le_antisymm l h.in-range) ∙ h.clear

  -- where no row passes the test, row k does not
  pub none-at : (n k : ℕ) → any p n ≡ false → k < n → p k ≡ false
  none-at n k e l = go (p k) refl
    where
      go : (b : Bool) → p k ≡ b → p k ≡ false
      go true f = clash (any_at n k l f) e
      go false f = f

  -- a search from row i on, which passes, ends at row i
  pub from-here : (n i : ℕ) → p i ≡ true → first_from p (suc n) i ≡ i
  unfolding first_from
  from-here n i e = rw (e, first_from)

  -- a search from row i on, which does not pass, is the search from the next row on
  pub from_next : (n i : ℕ) → p i ≡ false → first_from p (suc n) i ≡ first_from p n (i + 1)
  unfolding first_from
  from_next n i e = rw (e, first_from)

  -- a search is one from row i on, where no row before row i passes
  skip : (n i : ℕ) → i ≤ n → any p i ≡ false → first p n ≡ first_from p (n - i) i
  unfolding first
  skip n zero l e = let z : n ≡ n - 0 = omega arith in ap (λ (k : ℕ). first_from p k 0) z
  skip n (suc i) l e =
      let z : n - i ≡ suc (n - suc i) = omega arith in
      skip n i (omega arith) (neither (any p i) (p i) (sym (any-suc i) ∙ e)).0
      ∙ ap (λ (k : ℕ). first_from p k i) z
      ∙ from_next (n - suc i) i (none-at (suc i) i e (omega arith))
      ∙ ap (first_from p (n - suc i)) (add-one i)

  -- a loop that meets a row that passes has found the lowest
  pub first_found : (n i : ℕ) → Passed p n i → i < n → p i ≡ true → i ≡ first p n
  first_found n i h l e =
      let z : n - i ≡ suc (n - suc i) = omega arith in
      sym (skip n i h.in-range h.clear ∙ ap (λ (k : ℕ). first_from p k i) z ∙ from-here (n - suc i) i e)

  -- a loop that meets no row that passes ends at the count, as the search does
  pub first-none : (n i : ℕ) → Passed p n i → n ≤ i → n ≡ first p n
  unfolding first_from
  first-none n i h l =
      let e : i ≡ n = omega (arith, h.in-range) in
      let z : n - n ≡ 0 = omega arith in
      sym (skip n n (omega arith) (subst (λ (k : ℕ). any p k ≡ false) e h.clear) ∙ ap (λ (k : ℕ). first_from p k n) z)

  -- a search that meets a row that passes answers with it
  pub lowest-found : (n i : ℕ) → Passed p n i → i < n → p i ≡ true → lowest_passing p n ≡ Some i
  lowest-found n i h l e = rw (any_at n i l e) (ap Some (sym (first_found n i h l e)))

  -- a search that has passed all rows answers with none
  pub lowest-none : (n i : ℕ) → Passed p n i → n ≤ i → lowest_passing p n ≡ None
  lowest-none n i h l = rw (passed-all n i h l) refl

  -- row i is the lowest of n rows that passes the test
  pub record Lowest (n i : ℕ) : Type 0 where
    pub below : i < n
    pub has : p i ≡ true
    pub clear : any p i ≡ false

  -- where some row passes, there is a lowest one
  pub lowest : (n : ℕ) → any p n ≡ true → (i : ℕ) × Lowest n i
  unfolding any
  lowest zero e = clash {b = false} e refl
  lowest (suc n) e = go (any p n) (p n) refl refl (lowest n) e
    where
      go : (a b : Bool) → any p n ≡ a → p n ≡ b → (any p n ≡ true → (i : ℕ) × Lowest n i) → (a || b) ≡ true → (i : ℕ) × Lowest (suc n) i
      go true b f g r h =
          let w = r f in (w.0, record { below = omega (arith, w.1.below); has = w.1.has; clear = w.1.clear })
      go false true f g r h = (n, record { below = omega arith; has = g; clear = f })
      go false false f g r h = clash {b = false} h refl

  -- the search finds the lowest row that passes
  pub first-lowest : (n i : ℕ) → Lowest n i → first p n ≡ i
  first-lowest n i w =
      sym (first_found n i (record { in-range = omega (arith, w.below); clear = w.clear }) w.below w.has)

  -- the search ends at the count where no row passes
  first-clear : (n : ℕ) → any p n ≡ false → first p n ≡ n
  first-clear n e = sym (first-none n n (record { in-range = omega arith; clear = e }) (omega arith))

  -- where the search ends is the row that it answers with, and the count where it answers with none
  pub first-lowest_passing : (n : ℕ) → elim (lowest_passing p n) [ Some i ↦ i | None ↦ n ] ≡ first p n
  first-lowest_passing n = go (any p n) refl
    where
      go : (b : Bool) → any p n ≡ b → elim (lowest_passing p n) [ Some i ↦ i | None ↦ n ] ≡ first p n
      go true e = simp (e) refl
      go false e = simp (e) (sym (first-clear n e))

  -- the search ends at the count at the latest
  pub first-within : (n : ℕ) → first p n ≤ n
  first-within n = go (any p n) refl
    where
      go : (b : Bool) → any p n ≡ b → first p n ≤ n
      go true e = let w = lowest n e in omega (arith, first-lowest n w.0 w.1, w.1.below)
      go false e = omega (arith, first-clear n e)

  -- the search ends before the count only where some row passes
  pub first_below : (n : ℕ) → first p n < n → any p n ≡ true
  first_below n l = go (any p n) refl
    where
      go : (b : Bool) → any p n ≡ b → any p n ≡ true
      go true e = e
      go false e = absurd (omega (arith, l, first-clear n e))

  -- the search ends at the count only where no row passes
  pub first-end : (n : ℕ) → n ≤ first p n → any p n ≡ false
  first-end n l = go (any p n) refl
    where
      go : (b : Bool) → any p n ≡ b → any p n ≡ false
      go true e = let w = lowest n e in absurd (omega (arith, l, first-lowest n w.0 w.1, w.1.below))
      go false e = e

  -- the row that the search found passes the test
  pub first-has : (n : ℕ) → first p n < n → p (first p n) ≡ true
  first-has n l =
      let w = lowest n (first_below n l) in
      subst (λ (k : ℕ). p k ≡ true) (sym (first-lowest n w.0 w.1)) w.1.has

  -- no row below the one that the search found passes the test
  pub first-least : (n k : ℕ) → k < first p n → p k ≡ false
  first-least n k l = go (any p n) refl
    where
      go : (b : Bool) → any p n ≡ b → p k ≡ false
      go true e =
          let w = lowest n e in none-at w.0 k w.1.clear (omega (arith, first-lowest n w.0 w.1))
      go false e = none-at n k e (omega (arith, first-clear n e))

  -- where the number that a search found is below the count, some row passes
  pub hit : (n r : ℕ) → r ≡ first p n → r < n → any p n ≡ true
  hit n r e l = first_below n (omega arith)

  -- where the number that a search found is the count, no row passes
  pub miss : (n r : ℕ) → r ≡ first p n → n ≤ r → any p n ≡ false
  miss n r e l = first-end n (omega arith)

  -- whether a search ended before the count says whether some row passes
  pub search-says : {n m r : ℕ} → r ≡ first p n → m ≡ n → ltb r m ≡ any p n
  search-says {n} {m} {r} e f = ap (ltb r) f ∙ go (ltb r n) refl
    where
      go : (b : Bool) → ltb r n ≡ b → b ≡ any p n
      go true q = sym (hit n r e (ltb-true r n q))
      go false q = sym (miss n r e (ltb-false r n q))

  -- where a test of each row says a claim, the test of some row says that the claim holds of one
  pub any-says : (P : ℕ → Type 0) → ((k : ℕ) → Says (p k) (P k)) → (n : ℕ) → Says (any p n) ((k : ℕ) × (k < n) × P k)
  any-says P s n =
      record {
        yes = λ e. let (k, w) = lowest n e in (k, w.below, (s k).yes w.has);
        no = λ e (k, l, h). (s k).no (none-at n k e l) h;
      }

-- of n numbers from i on, r is the lowest that passes, or i + n where none does
pub record Finds (p : ℕ → Bool) (n i r : ℕ) : Type 0 where
  pub low : i ≤ r
  pub high : r ≤ i + n
  pub least : (k : ℕ) → i ≤ k → k < r → p k ≡ false
  pub has : r < i + n → p r ≡ true

-- the search from i on finds the lowest number that passes
pub finds : (p : ℕ → Bool) (n i : ℕ) → Finds p n i (first_from p n i)
unfolding first_from
finds p zero i =
    record { low = omega arith; high = omega arith; least = λ k l u. absurd (omega arith); has = λ l. absurd (omega arith) }
finds p (suc n) i = go (p i) refl (finds p n (i + 1))
  where
    go : (b : Bool) → p i ≡ b → Finds p n (i + 1) (first_from p n (i + 1))
        → Finds p (suc n) i (elim b [ true ↦ i | false ↦ first_from p n (i + 1) ])
    go true e h = record { low = omega arith; high = omega arith; least = λ k l u. absurd (omega arith); has = λ l. e }
    go false e h =
        record {
          low = omega (arith, h.low);
          high = omega (arith, h.high);
          least = λ k l u. ⊎_elim (λ q. subst (λ (j : ℕ). p j ≡ false) q e) (λ q. h.least k (omega arith) u) (eq-or-lt_of_le l);
          has = λ l. h.has (omega arith);
        }

-- where each row's test bars a claim of it, the test of some row bars the claim of every row
pub bars-below : {p : ℕ → Bool} {G : ℕ → Type 0} (n : ℕ) → ((k : ℕ) → k < n → Bars (p k) (G k)) → Bars (any p n) ((k : ℕ) → k < n → G k)
bars-below {p} n s =
    record {
      ok = λ e k l. (s k l).ok (none-at p n k e l);
      bad = λ e g. let (k, w) = lowest p n e in (s k w.below).bad w.has (g k w.below);
    }

-- where each row's test bars a claim of it, one of the rows or not, the test of some row bars the claim of every row
pub bars-any : (p : ℕ → Bool) (G : ℕ → Type 0) → ((k : ℕ) → Bars (p k) (G k)) → (n : ℕ) → Bars (any p n) ((k : ℕ) → k < n → G k)
bars-any p G s n = bars-below n (λ k l. s k)

-- some picked row has a bad number in the column: it bars the claim of every number that the column has in such a row
pub rows-bar : {pick bad : ℕ → Bool} {P G : ℕ → Type 0} (column : ℕ → ℕ) (n : ℕ) → ((i : ℕ) → Says (pick i) (P i)) → ((x : ℕ) → Bars (bad x) (G x))
    → Bars (any (λ i. pick i && bad (column i)) n) ((x : ℕ) → ((i : ℕ) × (i < n) × (P i × (column i ≡ x))) → G x)
rows-bar {G} column n s b =
    bars-as (bars-any _ _ (λ i. bars-and (s i) (b (column i))) n)
    (λ g x w. subst G w.2.1 (g w.0 w.1 w.2.0))
    (λ g i l p. g (column i) (i, l, (p, refl)))
