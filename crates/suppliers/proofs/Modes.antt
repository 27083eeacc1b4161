-- The answer over the modes: the first mode whose run breaks, with its break, or that none breaks.
use Prim.Native.Nat.{ℕ, zero, suc, ◌+◌, ◌≤◌, ◌<◌}
use mathlib.Core.Path.{◌≡◌, refl, sym, ap, subst, subst₂, ◌∙◌}
use mathlib.Core.Logic.{◌⊎◌, inl, inr, ◌↔◌}
use native.Mathlib.Omega.{arith}
use native.Mathlib.Decide.{ℕ_discrete, dec_lt}
use Rattle.theory.specs.Verdict.{accepted_number}
use Rattle.theory.specs.declared.Answer.{Answer}
use Rattle.cells.specs.Refusals.{outside_refused, late_refused}
use Rattle.runs.specs.Round.{Break, none, outside, late}
use Rattle.suppliers.specs.Supplier.{answer_of, answer_from}

-- no run breaks in the n modes from m on
abbrev pub AllGood : (ℕ → Break) → ℕ → ℕ → Type 0
AllGood breaks n m = (i : ℕ) → m ≤ i → i < m + n → breaks i ≡ none

-- mode i of the n modes from m on is the first whose run breaks, and b is its break
pub record BreaksFirst (breaks : ℕ → Break) (n m i : ℕ) (b : Break) : Type 0 where
  pub from : m ≤ i
  pub below : i < m + n
  pub lower : (j : ℕ) → m ≤ j → j < i → breaks j ≡ none
  pub break : breaks i ≡ b
  pub is-break : b ≡ none → ⊥

-- what an answer on the n modes from m on says: no run breaks, or which is the first that does
abbrev pub Answered : (ℕ → Break) → ℕ → ℕ → Answer → Type 0
Answered breaks n m a =
    (AllGood breaks n m × (a ≡ answer_of 0 none)) ⊎ ((i : ℕ) × (b : Break) × BreaksFirst breaks n m i b × (a ≡ answer_of i b))

-- the answer on a break has a number, and tells the mode and the break
some_number : (m : ℕ) (b : Break) → (b ≡ none → ⊥) → (answer_of m b).number ≡ accepted_number → ⊥
some_number m none d e = d refl
some_number m (outside t) d e = omega arith
some_number m (late t) d e = omega arith

answer-one : (i j : ℕ) (b c : Break) → (b ≡ none → ⊥) → (c ≡ none → ⊥) → answer_of i b ≡ answer_of j c → (i ≡ j) × (b ≡ c)
answer-one i j none c d f e = absurd (d refl)
answer-one i j (outside s) none d f e = absurd (f refl)
answer-one i j (outside s) (outside t) d f e = (ap (λ (a : Answer). a.outer) e, ap (λ (a : Answer). outside a.inner) e)
answer-one i j (outside s) (late t) d f e =
    absurd (let z : ◌≡◌ {A = ℕ} outside_refused late_refused = ap (λ (a : Answer). a.number) e in omega arith)
answer-one i j (late s) none d f e = absurd (f refl)
answer-one i j (late s) (outside t) d f e =
    absurd (let z : ◌≡◌ {A = ℕ} late_refused outside_refused = ap (λ (a : Answer). a.number) e in omega arith)
answer-one i j (late s) (late t) d f e = (ap (λ (a : Answer). a.outer) e, ap (λ (a : Answer). late a.inner) e)

module _ (breaks : ℕ → Break) where
  here : (n m : ℕ) (b : Break) → breaks m ≡ b → (b ≡ none → ⊥) → Answered breaks (suc n) m (answer_of m b)
  here n m b e d =
      inr (m, b, record { from = omega arith; below = omega arith; lower = λ j l k. absurd (omega arith); break = e; is-break = d }, refl)

  next : (n m : ℕ) (a : Answer) → breaks m ≡ none → Answered breaks n (suc m) a → Answered breaks (suc n) m a
  next n m a e (inl (g, q)) = inl (λ i l h. all i l h (ℕ_discrete m i), q)
    where
      all : (i : ℕ) → m ≤ i → i < m + suc n → Dec (m ≡ i) → breaks i ≡ none
      all i l h (yes p) = subst (λ k. breaks k ≡ none) p e
      all i l h (no p) = g i (omega arith) (omega arith)
  next n m a e (inr (i, b, w, q)) = inr (
    i,
    b,
    record {
      from = omega (arith, w.from);
      below = omega (arith, w.below);
      lower = λ j l k. low j l k (ℕ_discrete m j);
      break = w.break;
      is-break = w.is-break;
    },
    q,
  )
    where
      low : (j : ℕ) → m ≤ j → j < i → Dec (m ≡ j) → breaks j ≡ none
      low j l k (yes p) = subst (λ k. breaks k ≡ none) p e
      low j l k (no p) = w.lower j (omega arith) k

  -- either no run breaks, or the answer is that of the first mode whose run does
  pub answered : (n m : ℕ) → Answered breaks n m (answer_from breaks n m)
  answered zero m = inl (λ i l h. absurd (omega arith), refl)
  answered (suc n) m = go (breaks m) refl (answered n (suc m))
    where
      go : (b : Break) → breaks m ≡ b → Answered breaks n (suc m) (answer_from breaks n (suc m))
          → Answered breaks (suc n) m (elim b [
            | none ↦ answer_from breaks n (suc m)
            | outside t ↦ answer_of m (outside t)
            | late t ↦ answer_of m (late t)
          ])
      go none e i = next n m (answer_from breaks n (suc m)) e i
      go (outside t) e i = here n m (outside t) e (λ q. absurd (let z : ◌≡◌ {A = ℕ} 0 1 = cc in omega arith))
      go (late t) e i = here n m (late t) e (λ q. absurd (let z : ◌≡◌ {A = ℕ} 0 1 = cc in omega arith))

  -- where no run breaks, the answer is 0, without a place
  pub answer-none : (n m : ℕ) → AllGood breaks n m → answer_from breaks n m ≡ answer_of 0 none
  answer-none n m g = go (answer_from breaks n m) (answered n m)
    where
      go : (a : Answer) → Answered breaks n m a → a ≡ answer_of 0 none
      go a (inl (h, q)) = q
      go a (inr (i, b, w, q)) = absurd (w.is-break (sym w.break ∙ g i w.from w.below))

  -- the answer's number is 0 exactly where no run breaks
  pub answer-good : (n m : ℕ) → ((answer_from breaks n m).number ≡ accepted_number) ↔ AllGood breaks n m
  answer-good n m = (λ e. there (answer_from breaks n m) (answered n m) e, λ g. ap (λ (a : Answer). a.number) (answer-none n m g))
    where
      there : (a : Answer) → Answered breaks n m a → a.number ≡ accepted_number → AllGood breaks n m
      there a (inl (g, q)) e = g
      there a (inr (i, b, w, q)) e = absurd (some_number i b w.is-break (sym (ap (λ (a : Answer). a.number) q) ∙ e))

  -- the answer is that of mode i and its break b exactly where i is the first mode whose run breaks, and b its break
  pub answer-break : (n m i : ℕ) (b : Break) → (b ≡ none → ⊥) → (answer_from breaks n m ≡ answer_of i b) ↔ BreaksFirst breaks n m i b
  answer-break n m i b d = (there (answer_from breaks n m) (answered n m), λ w. back (answer_from breaks n m) w (answered n m))
    where
      there : (a : Answer) → Answered breaks n m a → a ≡ answer_of i b → BreaksFirst breaks n m i b
      there a (inl (g, q)) e = absurd (some_number i b d (ap (λ (a : Answer). a.number) (sym e ∙ q)))
      there a (inr (j, c, w, q)) e =
          let (p, r) = answer-one j i c b w.is-break d (sym q ∙ e) in
          subst₂ (λ j c. BreaksFirst breaks n m j c) p r w

      back : (a : Answer) → BreaksFirst breaks n m i b → Answered breaks n m a → a ≡ answer_of i b
      back a w (inl (g, q)) = absurd (d (sym w.break ∙ g i w.from w.below))
      back a w (inr (j, c, v, q)) = go (dec_lt i j) (dec_lt j i)
        where
          go : Dec (i < j) → Dec (j < i) → a ≡ answer_of i b
          go (yes l) h = absurd (d (sym w.break ∙ v.lower i w.from l))
          go (no l) (yes h) = absurd (v.is-break (sym v.break ∙ w.lower j v.from h))
          go (no l) (no h) =
              let e : j ≡ i = omega arith in
              let f : c ≡ b = sym v.break ∙ ap breaks e ∙ w.break in
              q ∙ (λ k. answer_of (e k) (f k))
