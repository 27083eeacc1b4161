-- The verdict is the first number that applies: n exactly where the rule of number n is broken and no earlier one is; and its place is
-- that of the lowest row that breaks the rule.
-- Assumes that each refusal's test bars the rule of its number where the earlier rules hold (`Barred`), and that no number is
-- `accepted_number`.
use Prim.Native.Nat.{ℕ, zero, suc}
use mathlib.Core.Path.{◌≡◌, refl, sym, ap, subst, ◌∙◌}
use mathlib.Core.Bool.{Bool, true, false, ◌||◌, cond}
use mathlib.Core.List.{List, [], ◌∷◌, ◌++◌, map}
use mathlib.Core.Logic.{◌⊎◌, inl, inr, ◌↔◌}
use native.Mathlib.Omega.{arith}
use lib.Dec.{eqb, ltb}
use borrow.Author.Tests.{eqb-true}
use Rattle.theory.specs.Search.{any, first}
use Rattle.theory.specs.Claim.{Bars}
use Rattle.theory.specs.Rows.{RowTests, testing, RowRules, placeless, at_row, some_bad, lowest_bad, Every, Breaks, PlacedAt, Unbroken}
use Rattle.theory.specs.Verdict.{accepted_number, or_else, Refusal, within, verdict, first_refusal, or_next, Rule, holding, OneOf, First, Keep, rows_answer, found_at}
use Rattle.theory.specs.Verdict.{after, FirstAt, ByRows}
use Rattle.theory.specs.declared.Answer.{Answer}
use Rattle.theory.proofs.Bools.{clash, bars-iff, bars-as}
use Rattle.theory.proofs.Search.{search-says}
use Rattle.theory.proofs.Rows.{RowsJoined, rows-bar, lowest-one, placed-number, placed-lowest, every-unbroken}

-- two verdicts together accept only where each accepts
pub after_none : (m n : ℕ) → after m n ≡ accepted_number → (m ≡ accepted_number) × (n ≡ accepted_number)
after_none zero n e = (refl, e)
after_none (suc m) n e = absurd (omega arith)

-- two answers with the same number and the same place are the same
pub same_answer : (x y : Answer) → x.number ≡ y.number → x.outer ≡ y.outer → x.inner ≡ y.inner → x ≡ y
same_answer x y n o r = λ i. record { number = n i; outer = o i; inner = r i }

-- the rows of a test and of its rule: none of either, or the same, and then the test is that some row is bad
abbrev pub Rowed : Bool → List RowTests → List RowRules → Type 0
Rowed b [] [] = Unit {0}
Rowed b [] (q ∷ qs) = ⊥
Rowed b (t ∷ ts) [] = ⊥
Rowed b (t ∷ ts) (q ∷ qs) = RowsJoined (t ∷ ts) (q ∷ qs) × (b ≡ some_bad (t ∷ ts))

-- a test that some row is bad bars the rule that every row fits
pub bars-rows : {H : Type 0} {b : Bool} (ts : List RowTests) (qs : List RowRules) → RowsJoined ts qs × (b ≡ some_bad ts)
    → (Every qs → H) → (H → Every qs) → Bars b H
bars-rows {H} ts qs w there back = subst (λ (b : Bool). Bars b H) (sym w.1) (bars-as (rows-bar ts qs w.0) there back)

-- a search over the rows of one table comes to the answer that these rows give
pub found_rows : (n t : ℕ) {count : ℕ} (bad : ℕ → Bool) {r m : ℕ} → r ≡ first bad count → m ≡ count
    → found_at n t r m ≡ rows_answer n (testing t count bad ∷ [])
found_rows n t {count} bad {r} {m} e f = go (any bad count) (search-says bad e f)
  where
    go : (b : Bool) → ltb r m ≡ b
        → cond (ltb r m) (at_row n t r) (placeless accepted_number)
        ≡ cond (b || false) (cond b (at_row n t (first bad count)) (placeless n)) (placeless accepted_number)
    go true q = (λ i. cond (q i) (at_row n t r) (placeless accepted_number)) ∙ ap (at_row n t) e
    go false q = λ i. cond (q i) (at_row n t r) (placeless accepted_number)

-- a refusal that is given by rows has, by itself, the answer that they give
pub one_answer : {A : Type 0} (r : Refusal A) (a : A) → r.applies a ≡ some_bad (r.rows a) → first_refusal (r ∷ []) a ≡ rows_answer r.number (r.rows a)
one_answer r a e = λ i. cond (e i) (lowest_bad r.number (r.rows a)) (placeless accepted_number)

-- two places of one broken rule are one
placed_one : (qs : List RowRules) (t r u k : ℕ) → PlacedAt qs t r → PlacedAt qs u k → (t ≡ u) × (r ≡ k)
placed_one [] t r u k x y = (x.0 ∙ sym y.0, x.1 ∙ sym y.1)
placed_one (q ∷ qs) t r u k x y = lowest-one (q ∷ qs) t r u k x y

-- the place of a refusal that applies is the place of its rule
rowed-placed : (n : ℕ) (b : Bool) (ts : List RowTests) (qs : List RowRules) → Rowed b ts qs → b ≡ true
    → PlacedAt qs (lowest_bad n ts).outer (lowest_bad n ts).inner
rowed-placed n b [] [] w e = (refl, refl)
rowed-placed n b [] (q ∷ qs) w e = absurd w
rowed-placed n b (t ∷ ts) [] w e = absurd w
rowed-placed n b (t ∷ ts) (q ∷ qs) w e = placed-lowest n (t ∷ ts) (q ∷ qs) w.0 (sym w.1 ∙ e)

-- a rule that is said of rows holds exactly where no row breaks it
rowed-unbroken : {H : Type 0} (b : Bool) (ts : List RowTests) (qs : List RowRules) → Rowed b ts qs → Bars b H → Unbroken qs H
rowed-unbroken b [] [] w s = tt
rowed-unbroken b [] (q ∷ qs) w s = absurd w
rowed-unbroken b (t ∷ ts) [] w s = absurd w
rowed-unbroken {H} b (t ∷ ts) (q ∷ qs) w s =
    let own : (b ≡ false) ↔ H = bars-iff s in
    let every : (some_bad (t ∷ ts) ≡ false) ↔ Every (q ∷ qs) = bars-iff (rows-bar (t ∷ ts) (q ∷ qs) w.0) in
    let none : Every (q ∷ qs) ↔ ((u r : ℕ) → Breaks (q ∷ qs) u r → ⊥) = every-unbroken (t ∷ ts) (q ∷ qs) w.0 in
    (λ h. none.0 (every.0 (sym w.1 ∙ own.1 h)), λ u. own.0 (w.1 ∙ every.1 (none.1 u)))

-- of two answers, a first that refuses stays
pub next-given : (x y : Answer) → (x.number ≡ accepted_number → ⊥) → or_next x y ≡ x
next-given x y d = go x.number refl
  where
    go : (n : ℕ) → x.number ≡ n → elim n [ zero ↦ y | suc m ↦ x ] ≡ x
    go zero e = absurd (d e)
    go (suc m) e = refl

-- of two answers, the second is given where the first accepts
pub next-none : (x y : Answer) → x.number ≡ accepted_number → or_next x y ≡ y
next-none x y e = λ i. elim (e i) [ zero ↦ y | suc m ↦ x ]

-- of three answers, the first two come first
pub next-assoc : (x y z : Answer) → or_next x (or_next y z) ≡ or_next (or_next x y) z
next-assoc x y z = go x.number refl
  where
    go : (n : ℕ) → x.number ≡ n
        → elim n [ zero ↦ or_next y z | suc m ↦ x ] ≡ or_next (elim n [ zero ↦ y | suc m ↦ x ]) z
    go zero e = refl
    go (suc m) e = sym (next-given x z (λ q. omega arith))

-- two answers together accept only where the first accepts
pub next-first : (x y : Answer) → (or_next x y).number ≡ accepted_number → x.number ≡ accepted_number
next-first x y e = go x.number refl e
  where
    either : ℕ → Answer
    either n = elim n [ zero ↦ y | suc m ↦ x ]

    go : (n : ℕ) → x.number ≡ n → (either n).number ≡ accepted_number → x.number ≡ accepted_number
    go zero q e = q
    go (suc m) q e = e

module _ {A : Type 0} where
  -- a test meets its rule: the number is the rule's, the test bars the rule, and both speak of the same rows
  pub record TestMeets (r : Refusal A) (g : Rule A) (a : A) : Type 0 where
    pub number : r.number ≡ g.number
    pub bars : Bars (r.applies a) (g.holds a)
    pub rows : Rowed (r.applies a) (r.rows a) (g.rows a)

  -- the tests and the rules of one call: the same numbers in the same order, and each test meets its rule where the earlier rules hold
  abbrev pub Barred : List (Refusal A) → List (Rule A) → A → Type 0
  Barred [] [] a = Unit {0}
  Barred [] (g ∷ gs) a = ⊥
  Barred (r ∷ rs) [] a = ⊥
  Barred (r ∷ rs) (g ∷ gs) a = TestMeets r g a × (g.holds a → Barred rs gs a)

  -- the answer is that of the first rule that is broken, with the lowest row that breaks it, and no other answer is
  pub answer-first : (rs : List (Refusal A)) (gs : List (Rule A)) (a : A) → Barred rs gs a → (x : Answer)
      → (first_refusal rs a ≡ x) ↔ FirstAt gs a x
  answer-first [] [] a w x = (λ e. sym e, λ e. sym e)
  answer-first [] (g ∷ gs) a w x = absurd w
  answer-first (r ∷ rs) [] a w x = absurd w
  answer-first (r ∷ rs) (g ∷ gs) a w x =
      go (r.applies a) w.0.bars (rowed-placed r.number (r.applies a) (r.rows a) (g.rows a) w.0.rows) (λ h. answer-first rs gs a (w.1 h) x)
    where
      own : Answer
      own = lowest_bad r.number (r.rows a)

      Own : Type 0
      Own = (g.holds a → ⊥) × (x.number ≡ g.number) × PlacedAt (g.rows a) x.outer x.inner

      go : (b : Bool) → Bars b (g.holds a) → (b ≡ true → PlacedAt (g.rows a) own.outer own.inner)
          → (g.holds a → (first_refusal rs a ≡ x) ↔ FirstAt gs a x)
          → (cond b own (first_refusal rs a) ≡ x) ↔ (Own ⊎ (g.holds a × FirstAt gs a x))
      go true s p ih = (λ e. inl (there e), back)
        where
          there : own ≡ x → Own
          there e = (
            s.bad refl,
            ap (λ (y : Answer). y.number) (sym e) ∙ placed-number r.number (r.rows a) ∙ w.0.number,
            subst (λ (y : Answer). PlacedAt (g.rows a) y.outer y.inner) e (p refl),
          )

          back : Own ⊎ (g.holds a × FirstAt gs a x) → own ≡ x
          back (inl y) =
              let (o, k) = placed_one (g.rows a) own.outer own.inner x.outer x.inner (p refl) y.2 in
              same_answer own x (placed-number r.number (r.rows a) ∙ w.0.number ∙ sym y.1) o k
          back (inr y) = absurd (s.bad refl y.0)
      go false s p ih = (λ e. inr (s.ok refl, (ih (s.ok refl)).0 e), back)
        where
          back : Own ⊎ (g.holds a × FirstAt gs a x) → first_refusal rs a ≡ x
          back (inl y) = absurd (y.0 (s.ok refl))
          back (inr y) = (ih y.0).1 y.1

  -- each rule that asks of rows holds exactly where no row breaks it, where the rules before it hold
  pub by_rows : (rs : List (Refusal A)) (gs : List (Rule A)) (a : A) → Barred rs gs a → ByRows gs a
  by_rows [] [] a w = tt
  by_rows [] (g ∷ gs) a w = absurd w
  by_rows (r ∷ rs) [] a w = absurd w
  by_rows (r ∷ rs) (g ∷ gs) a w =
      (rowed-unbroken (r.applies a) (r.rows a) (g.rows a) w.0.rows w.0.bars, λ h. by_rows rs gs a (w.1 h))

  -- the number of the answer is the verdict
  pub answer-number : (rs : List (Refusal A)) (a : A) → (first_refusal rs a).number ≡ verdict rs a
  answer-number [] a = refl
  answer-number (r ∷ rs) a = go (r.applies a) (answer-number rs a)
    where
      go : (b : Bool) → (first_refusal rs a).number ≡ verdict rs a
          → (cond b (lowest_bad r.number (r.rows a)) (first_refusal rs a)).number ≡ or_else b r.number (verdict rs a)
      go true ih = placed-number r.number (r.rows a)
      go false ih = ih

  -- no rule has the number of acceptance
  abbrev pub Numbered : List (Rule A) → Type 0
  Numbered [] = Unit {0}
  Numbered (g ∷ gs) = (g.number ≡ accepted_number → ⊥) × Numbered gs

  -- the number of acceptance is the first exactly where every rule holds
  pub first-none : (gs : List (Rule A)) (a : A) → Numbered gs → First gs a accepted_number ↔ Keep gs a
  first-none [] a w = (λ e. tt, λ e. refl)
  first-none (g ∷ gs) a w = (there (first-none gs a w.1).0, λ k. inr (k.0, (first-none gs a w.1).1 k.1))
    where
      there : (First gs a accepted_number → Keep gs a)
          → ((g.holds a → ⊥) × (accepted_number ≡ g.number)) ⊎ (g.holds a × First gs a accepted_number) → g.holds a × Keep gs a
      there ih (inl x) = absurd (w.0 (sym x.1))
      there ih (inr x) = (x.0, ih x.1)

  -- each number of these rules has the property N
  abbrev pub Each : (ℕ → Type 0) → List (Rule A) → Type 0
  Each N [] = Unit {0}
  Each N (g ∷ gs) = N g.number × Each N gs

  -- the number of one of these rules has the property that each of their numbers has
  pub one_each : (N : ℕ → Type 0) (gs : List (Rule A)) (n : ℕ) → Each N gs → OneOf gs n → N n
  one_each N [] n w o = absurd o
  one_each N (g ∷ gs) n w (inl e) = subst N (sym e) w.0
  one_each N (g ∷ gs) n w (inr o) = one_each N gs n w.1 o

  -- a number that stands in a list of rules is that of one of them
  abbrev pub listed : List (Rule A) → ℕ → Bool
  listed [] n = false
  listed (g ∷ gs) n = eqb n g.number || listed gs n

  pub listed-one : (gs : List (Rule A)) (n : ℕ) → listed gs n ≡ true → OneOf gs n
  listed-one [] n e = clash {b = false} e refl
  listed-one (g ∷ gs) n e = go (listed-one gs n) (eqb n g.number) refl e
    where
      go : (listed gs n ≡ true → OneOf gs n) → (b : Bool) → eqb n g.number ≡ b → (b || listed gs n) ≡ true → (n ≡ g.number) ⊎ OneOf gs n
      go ih true q h = inl (eqb-true n g.number q)
      go ih false q h = inr (ih h)

  -- refusals and rules have the same numbers in the same order
  abbrev pub Alike : List (Refusal A) → List (Rule A) → Type 0
  Alike [] [] = Unit {0}
  Alike [] (g ∷ gs) = ⊥
  Alike (r ∷ rs) [] = ⊥
  Alike (r ∷ rs) (g ∷ gs) = (r.number ≡ g.number) × Alike rs gs

  -- a verdict accepts, or its number is that of one of the rules
  pub verdict-one : (rs : List (Refusal A)) (gs : List (Rule A)) (a : A) → Alike rs gs → (verdict rs a ≡ accepted_number) ⊎ OneOf gs (verdict rs a)
  verdict-one [] [] a w = inl refl
  verdict-one [] (g ∷ gs) a w = absurd w
  verdict-one (r ∷ rs) [] a w = absurd w
  verdict-one (r ∷ rs) (g ∷ gs) a w = go (r.applies a) (verdict-one rs gs a w.1)
    where
      go : (b : Bool) → (verdict rs a ≡ accepted_number) ⊎ OneOf gs (verdict rs a)
          → (or_else b r.number (verdict rs a) ≡ accepted_number)
          ⊎ ((or_else b r.number (verdict rs a) ≡ g.number) ⊎ OneOf gs (or_else b r.number (verdict rs a)))
      go true ih = inr (inl w.0)
      go false (inl e) = inl e
      go false (inr o) = inr (inr o)

  -- a number is that of none of these rules
  abbrev pub Unlike : List (Rule A) → ℕ → Type 0
  Unlike [] n = Unit {0}
  Unlike (g ∷ gs) n = (n ≡ g.number → ⊥) × Unlike gs n

  -- the number of a rule that is asked last is the first exactly where all rules before it hold and it does not
  pub first-last : (gs : List (Rule A)) (r : Rule A) (a : A) → Unlike gs r.number → (r.number ≡ accepted_number → ⊥)
      → First (gs ++ (r ∷ [])) a r.number ↔ (Keep gs a × (r.holds a → ⊥))
  first-last [] r a u w = (last, λ (k, b). inl (b, refl))
    where
      last : ((r.holds a → ⊥) × (r.number ≡ r.number)) ⊎ (r.holds a × (r.number ≡ accepted_number)) → Unit {0} × (r.holds a → ⊥)
      last (inl x) = (tt, x.0)
      last (inr x) = absurd (w x.1)
  first-last (g ∷ gs) r a u w =
      let ih = first-last gs r a u.1 w in (there ih.0, λ (k, b). inr (k.0, ih.1 (k.1, b)))
    where
      there : (First (gs ++ (r ∷ [])) a r.number → Keep gs a × (r.holds a → ⊥))
          → ((g.holds a → ⊥) × (r.number ≡ g.number)) ⊎ (g.holds a × First (gs ++ (r ∷ [])) a r.number)
          → (g.holds a × Keep gs a) × (r.holds a → ⊥)
      there ih (inl x) = absurd (u.0 x.1)
      there ih (inr x) = let (k, b) = ih x.1 in ((x.0, k), b)

  -- any two numbers of the first rule that is broken are equal
  pub first_one : (gs : List (Rule A)) (a : A) (n m : ℕ) → First gs a n → First gs a m → n ≡ m
  first_one [] a n m p q = p ∙ sym q
  first_one (g ∷ gs) a n m p q = go (first_one gs a n m) p q
    where
      go : (First gs a n → First gs a m → n ≡ m) → ((g.holds a → ⊥) × (n ≡ g.number)) ⊎ (g.holds a × First gs a n) → ((g.holds a → ⊥) × (m ≡ g.number)) ⊎ (g.holds a × First gs a m) → n ≡ m
      go ih (inl x) (inl y) = x.1 ∙ sym y.1
      go ih (inl x) (inr y) = absurd (x.0 y.0)
      go ih (inr x) (inl y) = absurd (y.0 x.0)
      go ih (inr x) (inr y) = ih x.1 y.1

  -- the number of the first broken rule with its place is that of the first broken rule
  pub first-number : (gs : List (Rule A)) (a : A) (x : Answer) → FirstAt gs a x → First gs a x.number
  first-number [] a x h = ap (λ (y : Answer). y.number) h
  first-number (g ∷ gs) a x (inl h) = inl (h.0, h.1)
  first-number (g ∷ gs) a x (inr h) = inr (h.0, first-number gs a x h.1)

  -- the verdict is the number of the first rule that is broken, and no other number is
  pub verdict-first : (rs : List (Refusal A)) (gs : List (Rule A)) (a : A) → Barred rs gs a → (n : ℕ) → (verdict rs a ≡ n) ↔ First gs a n
  verdict-first rs gs a w n =
      let own = first-number gs a (first_refusal rs a) ((answer-first rs gs a w (first_refusal rs a)).0 refl) in
      let is : First gs a (verdict rs a) = subst (First gs a) (answer-number rs a) own in
      (λ e. subst (First gs a) e is, λ f. first_one gs a (verdict rs a) n is f)

  -- no test of a list of refusals applies
  abbrev pub Clear : List (Refusal A) → A → Type 0
  Clear [] a = Unit {0}
  Clear (r ∷ rs) a = (r.applies a ≡ false) × Clear rs a

  -- no refusal has the number of acceptance
  abbrev pub Refused : List (Refusal A) → Type 0
  Refused [] = Unit {0}
  Refused (r ∷ rs) = (r.number ≡ accepted_number → ⊥) × Refused rs

  -- where the verdict accepts, no test applies
  pub verdict-clear : (rs : List (Refusal A)) (a : A) → Refused rs → verdict rs a ≡ accepted_number → Clear rs a
  verdict-clear [] a w e = tt
  verdict-clear (r ∷ rs) a w e = go (r.applies a) refl e (verdict-clear rs a w.1)
    where
      go : (b : Bool) → r.applies a ≡ b → or_else b r.number (verdict rs a) ≡ accepted_number
          → (verdict rs a ≡ accepted_number → Clear rs a) → Clear (r ∷ rs) a
      go true q z ih = absurd (w.0 z)
      go false q z ih = (q, ih z)

  -- where no test applies, the verdict accepts
  pub clear-verdict : (rs : List (Refusal A)) (a : A) → Clear rs a → verdict rs a ≡ accepted_number
  clear-verdict [] a c = refl
  clear-verdict (r ∷ rs) a c = rw (c.0, verdict) (clear-verdict rs a c.1)

  -- the verdict of two lists of refusals is that of the first, and of the second where the first accepts
  pub verdict-append : (rs qs : List (Refusal A)) (a : A) → Refused rs → verdict (rs ++ qs) a ≡ after (verdict rs a) (verdict qs a)
  verdict-append [] qs a w = refl
  verdict-append (r ∷ rs) qs a w = go (r.applies a) r.number w.0 (verdict-append rs qs a w.1)
    where
      go : (b : Bool) (n : ℕ) → (n ≡ accepted_number → ⊥) → verdict (rs ++ qs) a ≡ after (verdict rs a) (verdict qs a)
          → or_else b n (verdict (rs ++ qs) a) ≡ after (or_else b n (verdict rs a)) (verdict qs a)
      go true zero d ih = absurd (d refl)
      go true (suc n) d ih = refl
      go false n d ih = ih

  -- where no test of the first list applies, the second list decides
  pub verdict-skip : (rs qs : List (Refusal A)) (a : A) → Clear rs a → verdict (rs ++ qs) a ≡ verdict qs a
  verdict-skip [] qs a c = refl
  verdict-skip (r ∷ rs) qs a c = (λ i. or_else (c.0 i) r.number (verdict (rs ++ qs) a)) ∙ verdict-skip rs qs a c.1

  -- where two lists of refusals together accept, each accepts
  pub verdict-both : (rs qs : List (Refusal A)) (a : A) → Refused rs → verdict (rs ++ qs) a ≡ accepted_number
      → (verdict rs a ≡ accepted_number) × (verdict qs a ≡ accepted_number)
  verdict-both rs qs a w e = after_none (verdict rs a) (verdict qs a) (sym (verdict-append rs qs a w) ∙ e)

  -- where no test applies, the answer accepts
  pub clear-answer : (rs : List (Refusal A)) (a : A) → Clear rs a → first_refusal rs a ≡ placeless accepted_number
  clear-answer [] a c = refl
  clear-answer (r ∷ rs) a c = (λ i. cond (c.0 i) (lowest_bad r.number (r.rows a)) (first_refusal rs a)) ∙ clear-answer rs a c.1

  -- where the verdict accepts, so does the answer
  pub accepted-answer : (rs : List (Refusal A)) (a : A) → Refused rs → verdict rs a ≡ accepted_number
      → first_refusal rs a ≡ placeless accepted_number
  accepted-answer rs a w e = clear-answer rs a (verdict-clear rs a w e)

  -- the answer of two lists of refusals is that of the first, and of the second where the first accepts
  pub answer-append : (rs qs : List (Refusal A)) (a : A) → Refused rs → first_refusal (rs ++ qs) a ≡ or_next (first_refusal rs a) (first_refusal qs a)
  answer-append [] qs a w = refl
  answer-append (r ∷ rs) qs a w = go (r.applies a) (answer-append rs qs a w.1)
    where
      go : (b : Bool) → first_refusal (rs ++ qs) a ≡ or_next (first_refusal rs a) (first_refusal qs a)
          → cond b (lowest_bad r.number (r.rows a)) (first_refusal (rs ++ qs) a)
          ≡ or_next (cond b (lowest_bad r.number (r.rows a)) (first_refusal rs a)) (first_refusal qs a)
      go true ih = sym (next-given (lowest_bad r.number (r.rows a)) (first_refusal qs a) (λ e. w.0 (sym (placed-number r.number (r.rows a)) ∙ e)))
      go false ih = ih

-- a list of refusals has the same answer in a call that is lent more
pub answer-within : {A B : Type 0} (f : B → A) (rs : List (Refusal A)) (b : B) → first_refusal (map (within f) rs) b ≡ first_refusal rs (f b)
answer-within f [] b = refl
answer-within f (r ∷ rs) b = ap (cond (r.applies (f b)) (lowest_bad r.number (r.rows (f b)))) (answer-within f rs b)

-- tests that bar their rules bar them in a call that is lent more
pub barred-within : {A B : Type 0} (f : B → A) (rs : List (Refusal A)) (gs : List (Rule A)) (b : B) → Barred rs gs (f b)
    → Barred (map (within f) rs) (map (holding f) gs) b
barred-within f [] [] b w = tt
barred-within f [] (g ∷ gs) b w = absurd w
barred-within f (r ∷ rs) [] b w = absurd w
barred-within f (r ∷ rs) (g ∷ gs) b w = (within-meets, λ h. barred-within f rs gs b (w.1 h))
  where
    within-meets : TestMeets (within f r) (holding f g) b
    within-meets = record { number = w.0.number; bars = w.0.bars; rows = w.0.rows }

-- two lists of tests that bar their rules, one after the other, bar them
pub barred-append : {A : Type 0} (rs qs : List (Refusal A)) (gs hs : List (Rule A)) (a : A)
    → Barred rs gs a → Barred qs hs a → Barred (rs ++ qs) (gs ++ hs) a
barred-append [] qs [] hs a w v = v
barred-append [] qs (g ∷ gs) hs a w v = absurd w
barred-append (r ∷ rs) qs [] hs a w v = absurd w
barred-append (r ∷ rs) qs (g ∷ gs) hs a w v = (w.0, λ h. barred-append rs qs gs hs a (w.1 h) v)
