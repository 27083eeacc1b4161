-- Some element of a list has a property: what that means of images, kept elements, joined lists and rows that pass a test; and members
-- of a list of numbers.
use Prim.Native.Nat.{ℕ, zero, suc, ◌+◌, ◌≤◌, ◌<◌}
use mathlib.Core.Path.{◌≡◌, refl, sym, ap, subst, ◌∙◌}
use mathlib.Core.Bool.{Bool, true, false, ◌&&◌, ◌||◌}
use mathlib.Core.List.{List, [], ◌∷◌, ◌++◌, map}
use mathlib.Core.Logic.{◌⊎◌, inl, inr, ⊎_elim, ◌↔◌}
use native.Mathlib.Omega.{arith}
use native.Mathlib.Decide.{ℕ_discrete}
use lib.Dec.{eqb}
use borrow.Author.Tests.{eqb-true, eq-eqb}
use Rattle.theory.specs.Claim.{Says}
use Rattle.theory.specs.Lists.{those, keep, gather, some, Every, member}
use Rattle.theory.proofs.Bools.{clash, says-or, says_eq}
use Rattle.theory.proofs.Lists.{keep_all}

module _ {A : Type 0} where
  -- some element of the list has property Q
  abbrev pub Has : (A → Type 0) → List A → Type 0
  Has Q [] = ⊥
  Has Q (x ∷ xs) = Q x ⊎ Has Q xs

  -- what follows from any element that has Q follows where some element has Q
  pub has-then : {R : Type 0} (Q : A → Type 0) (xs : List A) → ((x : A) → Q x → R) → Has Q xs → R
  has-then Q [] f h = absurd h
  has-then Q (x ∷ xs) f (inl q) = f x q
  has-then Q (x ∷ xs) f (inr h) = has-then Q xs f h

  -- where some element has Q, some element has what follows from Q
  pub has-as : (Q S : A → Type 0) (xs : List A) → ((x : A) → Q x → S x) → Has Q xs → Has S xs
  has-as Q S [] f h = h
  has-as Q S (x ∷ xs) f (inl q) = inl (f x q)
  has-as Q S (x ∷ xs) f (inr h) = inr (has-as Q S xs f h)

  -- some element that is kept has Q exactly where some element passes and has Q
  pub has-keep : (Q : A → Type 0) (p : A → Bool) (xs : List A) → Has Q (keep p xs) ↔ Has (λ x. (p x ≡ true) × Q x) xs
  has-keep Q p [] = (λ h. h, λ h. h)
  has-keep Q p (x ∷ xs) = go (p x) refl (has-keep Q p xs)
    where
      R : A → Type 0
      R y = (p y ≡ true) × Q y

      go : (b : Bool) → p x ≡ b → Has Q (keep p xs) ↔ Has R xs
          → Has Q (elim b [ true ↦ x ∷ keep p xs | false ↦ keep p xs ]) ↔ (R x ⊎ Has R xs)
      go true e i = (⊎_elim (λ q. inl (e, q)) (λ h. inr (i.0 h)), ⊎_elim (λ r. inl r.1) (λ h. inr (i.1 h)))
      go false e i = (λ h. inr (i.0 h), ⊎_elim (λ r. clash r.0 e) i.1)

  -- some element of a joined list has Q exactly where one of the first list or of the second has
  has-append : (Q : A → Type 0) (xs ys : List A) → Has Q (xs ++ ys) ↔ (Has Q xs ⊎ Has Q ys)
  has-append Q [] ys = (inr, ⊎_elim (λ h. absurd h) (λ h. h))
  has-append Q (x ∷ xs) ys =
      let i = has-append Q xs ys in (
        ⊎_elim (λ q. inl (inl q)) (λ h. ⊎_elim (λ a. inl (inr a)) inr (i.0 h)),
        ⊎_elim (⊎_elim inl (λ h. inr (i.1 (inl h)))) (λ h. inr (i.1 (inr h))),
      )

  -- of n rows from row i₀ on, some row that passes has Q: in `those`, and by its number
  has-those-from : (Q : A → Type 0) (p : ℕ → Bool) (row : ℕ → A) (n i₀ : ℕ)
      → Has Q (those p row n i₀) ↔ ((i : ℕ) × (i₀ ≤ i) × (i < i₀ + n) × (p i ≡ true) × Q (row i))
  has-those-from Q p row zero i₀ = (λ h. absurd h, λ w. absurd (omega arith))
  has-those-from Q p row (suc n) i₀ = go (p i₀) refl (has-those-from Q p row n (i₀ + 1))
    where
      Row : ℕ → ℕ → Type 0
      Row n i₀ = (i : ℕ) × (i₀ ≤ i) × (i < i₀ + n) × (p i ≡ true) × Q (row i)

      later : Row n (i₀ + 1) → Row (suc n) i₀
      later w = (w.0, omega arith, omega arith, w.3, w.4)

      now : (w : Row (suc n) i₀) → (i₀ ≡ w.0) ⊎ Row n (i₀ + 1)
      now w = first (ℕ_discrete i₀ w.0)
        where
          first : Dec (i₀ ≡ w.0) → (i₀ ≡ w.0) ⊎ Row n (i₀ + 1)
          first (yes e) = inl e
          first (no e) = inr (w.0, omega arith, omega arith, w.3, w.4)

      go : (b : Bool) → p i₀ ≡ b → Has Q (those p row n (i₀ + 1)) ↔ Row n (i₀ + 1)
          → Has Q (elim b [ true ↦ row i₀ ∷ those p row n (i₀ + 1) | false ↦ those p row n (i₀ + 1) ]) ↔ Row (suc n) i₀
      go true e r = (
        ⊎_elim (λ q. (i₀, omega arith, omega arith, e, q)) (λ h. later (r.0 h)),
        λ w. ⊎_elim (λ s. inl (subst (λ j. Q (row j)) (sym s) w.4)) (λ l. inr (r.1 l)) (now w),
      )
      go false e r = (
        λ h. later (r.0 h),
        λ w. ⊎_elim (λ s. clash w.3 (subst (λ j. p j ≡ false) s e)) r.1 (now w),
      )

  -- of n rows, some row that passes has Q: in `those`, and by its number
  pub has-those : (Q : A → Type 0) (p : ℕ → Bool) (row : ℕ → A) (n : ℕ)
      → Has Q (those p row n 0) ↔ ((i : ℕ) × (i < n) × (p i ≡ true) × Q (row i))
  has-those Q p row n =
      let r = has-those-from Q p row n 0 in
      (λ h. let w = r.0 h in (w.0, omega arith, w.3, w.4), λ w. r.1 (w.0, omega arith, omega arith, w.2, w.3))

module _ {A B : Type 0} where
  -- some image has Q exactly where some element is one whose image has
  pub has-map : (Q : B → Type 0) (f : A → B) (xs : List A) → Has Q (map f xs) ↔ Has (λ x. Q (f x)) xs
  has-map Q f [] = (λ h. h, λ h. h)
  has-map Q f (x ∷ xs) =
      let i = has-map Q f xs in (⊎_elim inl (λ h. inr (i.0 h)), ⊎_elim inl (λ h. inr (i.1 h)))

  -- some element of joined lists has Q exactly where some of the lists has such an element
  pub has-gather : (Q : B → Type 0) (f : A → List B) (xs : List A) → Has Q (gather f xs) ↔ Has (λ x. Has Q (f x)) xs
  has-gather Q f [] = (λ h. h, λ h. h)
  has-gather Q f (x ∷ xs) =
      let i = has-gather Q f xs in
      let a = has-append Q (f x) (gather f xs) in
      (λ h. ⊎_elim inl (λ r. inr (i.0 r)) (a.0 h), λ h. a.1 (⊎_elim inl (λ r. inr (i.1 r)) h))

-- the test of membership says that some element is the number
pub member-says : (n : ℕ) (xs : List ℕ) → Says (member n xs) (Has (λ x. n ≡ x) xs)
member-says n [] = record { yes = λ e. clash {b = false} e refl; no = λ e h. h }
member-says n (x ∷ xs) = says-or (says_eq n x) (member-says n xs)

-- the first element of a list is a member
pub member-head : (j : ℕ) (js : List ℕ) → member j (j ∷ js) ≡ true
member-head j js = rw (eq-eqb j j refl)

-- a member of the rest of a list is a member
pub member-tail : (j i : ℕ) (js : List ℕ) → member j js ≡ true → member j (i ∷ js) ≡ true
member-tail j i js h = go (eqb j i)
  where
    go : (b : Bool) → (b || member j js) ≡ true
    go true = refl
    go false = h

-- where some element passes, here is a member that does
pub some_one : (p : ℕ → Bool) (js : List ℕ) → some p js ≡ true → (j : ℕ) × (member j js ≡ true) × (p j ≡ true)
some_one p [] h = clash {b = false} h refl
some_one p (i ∷ js) h = go (p i) refl h (some_one p js)
  where
    go : (b : Bool) → p i ≡ b → (b || some p js) ≡ true
        → (some p js ≡ true → (j : ℕ) × (member j js ≡ true) × (p j ≡ true)) → (j : ℕ) × (member j (i ∷ js) ≡ true) × (p j ≡ true)
    go true e h r = (i, member-head i js, e)
    go false e h r = let w = r h in (w.0, member-tail w.0 i js w.1, w.2)

-- where no element passes, no member does
pub none_of : (p : ℕ → Bool) (js : List ℕ) → some p js ≡ false → (j : ℕ) → member j js ≡ true → p j ≡ false
none_of p [] h j m = clash {b = false} m refl
none_of p (i ∷ js) h j m = go (p i) refl (eqb j i) refl h m (none_of p js)
  where
    go : (a : Bool) → p i ≡ a → (b : Bool) → eqb j i ≡ b → (a || some p js) ≡ false → (b || member j js) ≡ true
        → (some p js ≡ false → (j : ℕ) → member j js ≡ true → p j ≡ false) → p j ≡ false
    go true e b d h m r = clash {b = true} refl h
    go false e true d h m r = rw (eqb-true j i d) e
    go false e false d h m r = r h j m

-- a claim that holds of each member holds of all elements
pub every-member : (Q : ℕ → Type 0) (xs : List ℕ) → ((x : ℕ) → member x xs ≡ true → Q x) → Every Q xs
every-member Q [] h = tt
every-member Q (x ∷ xs) h = (h x (member-head x xs), every-member Q xs (λ y m. h y (member-tail y x xs m)))

-- where every member passes, all are kept
pub keep-members : (p : ℕ → Bool) (xs : List ℕ) → ((x : ℕ) → member x xs ≡ true → p x ≡ true) → keep p xs ≡ xs
keep-members p xs h = keep_all p xs (every-member (λ x. p x ≡ true) xs h)

-- a member of those kept is a member that passes
pub member-keep : (p : ℕ → Bool) (t : ℕ) (xs : List ℕ) → member t (keep p xs) ≡ (p t && member t xs)
member-keep p t [] = none (p t)
  where
    none : (b : Bool) → false ≡ (b && false)
    none true = refl
    none false = refl
member-keep p t (x ∷ xs) = go (p x) refl (eqb t x) refl (member-keep p t xs)
  where
    same : (a : Bool) → p x ≡ a → eqb t x ≡ true → p t ≡ a
    same a e q = subst (λ (y : ℕ). p y ≡ a) (sym (eqb-true t x q)) e

    go : (a : Bool) → p x ≡ a → (b : Bool) → eqb t x ≡ b → member t (keep p xs) ≡ (p t && member t xs)
        → member t (elim a [ true ↦ x ∷ keep p xs | false ↦ keep p xs ]) ≡ (p t && (b || member t xs))
    go true e true q h = rw (q, same true e q)
    go true e false q h = rw q h
    go false e true q h =
        let z = same false e q in h ∙ ap (λ (b : Bool). b && member t xs) z ∙ sym (ap (λ (b : Bool). b && true) z)
    go false e false q h = h
