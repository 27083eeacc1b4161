-- The laws of sums and pieces over the numbers below a bound, and of rows that pass a test.
use Prim.Native.Nat.{ℕ, zero, suc, ◌+◌, ◌-◌, ◌*◌, ◌≤◌, ◌<◌}
use mathlib.Core.Path.{◌≡◌, refl, ap, ap₂, sym, ◌∙◌}
use mathlib.Core.Bool.{Bool, true, false, ◌&&◌}
use mathlib.Core.List.{List, [], ◌∷◌, ◌++◌, map}
use native.Mathlib.Nat.{add-zero, zero-add, add-suc, suc-mul, zero-mul}
use native.Mathlib.Omega.{arith}
use native.Mathlib.Decide.{dec_lt}
use lib.ListN.{length, get_or, length-append, length-map}
use Rattle.theory.specs.Lists.{those, each, keep, gather, Every, cat, sum}

-- a test that passes counts one
abbrev pub bit : Bool → ℕ
bit true = 1
bit false = 0

-- sums of equal numbers are equal
pub sum_same : (g h : ℕ → ℕ) (n : ℕ) → ((k : ℕ) → k < n → g k ≡ h k) → sum g n ≡ sum h n
sum_same g h zero e = refl
sum_same g h (suc n) e = omega (arith, sum_same g h n (λ k l. e k (omega arith)), e n (omega arith))

-- the sum of what two functions give together is the sum of their sums
pub sum-add : (g h : ℕ → ℕ) (n : ℕ) → sum (λ k. g k + h k) n ≡ sum g n + sum h n
sum-add g h zero = refl
sum-add g h (suc n) = omega (arith, sum-add g h n)

-- n times the number c add up to n * c
pub sum-const : (c n : ℕ) → sum (λ k. c) n ≡ n * c
sum-const c zero = sym (zero-mul c)
sum-const c (suc n) = omega (arith, sum-const c n, suc-mul n c)

-- n times nothing add up to nothing
pub sum-zero : (n : ℕ) → sum (λ k. 0) n ≡ 0
sum-zero n = omega (arith, sum-const 0 n)

-- the sum over n + m numbers is that over the first n and that over the m after them
pub sum-split : (g : ℕ → ℕ) (n m : ℕ) → sum g (n + m) ≡ sum g n + sum (λ k. g (n + k)) m
sum-split g n zero = rw (add-zero n) (omega arith)
sum-split g n (suc m) = rw add-suc (omega (arith, sum-split g n m))

-- numbers that are at most c add up to at most n times c
pub sum-most : (g : ℕ → ℕ) (c n : ℕ) → ((k : ℕ) → k < n → g k ≤ c) → sum g n ≤ n * c
sum-most g c zero h = omega arith
sum-most g c (suc n) h = omega (arith, sum-most g c n (λ k l. h k (omega arith)), h n (omega arith), suc-mul n c)

-- the part of number k in a sum lies wholly before the start of a greater number's part
pub sum-apart : (g : ℕ → ℕ) (k n : ℕ) → k < n → sum g k + g k ≤ sum g n
sum-apart g k zero h = omega arith
sum-apart g k (suc n) h = go (dec_lt k n) (sum-apart g k n)
  where
    go : Dec (k < n) → (k < n → sum g k + g k ≤ sum g n) → sum g k + g k ≤ sum g n + g n
    go (yes l) ih = omega (arith, ih l)
    go (no l) ih = let e : k ≡ n = omega arith in rw e (omega arith)

module _ {A : Type 0} where
  -- the lengths of pieces one after the other add up
  pub cat-length : (f : ℕ → List A) (g : ℕ → ℕ) (n : ℕ) → ((k : ℕ) → k < n → length (f k) ≡ g k) → length (cat f n) ≡ sum g n
  cat-length f g zero e = refl
  cat-length f g (suc n) e =
      omega (arith, length-append (cat f n) (f n), cat-length f g n (λ k l. e k (omega arith)), e n (omega arith))

  -- what is kept of a list is as long as what is kept of its rest, and one more where its first passes
  pub keep-length : (p : A → Bool) (x : A) (xs : List A) → length (keep p (x ∷ xs)) ≡ bit (p x) + length (keep p xs)
  keep-length p x xs = go (p x)
    where
      go : (b : Bool) → length {A = A} (elim b [ true ↦ x ∷ keep p xs | false ↦ keep p xs ]) ≡ bit b + length (keep p xs)
      go true = omega arith
      go false = omega arith

  -- where all elements pass, all are kept
  pub keep_all : (p : A → Bool) (xs : List A) → Every (λ x. p x ≡ true) xs → keep p xs ≡ xs
  keep_all p [] h = refl
  keep_all p (x ∷ xs) h = rw (h.0, keep) (ap (λ l. x ∷ l) (keep_all p xs h.1))

  -- n rows from a row on are n rows
  pub each-length : (row : ℕ → A) (n i₀ : ℕ) → length (each row n i₀) ≡ n
  each-length row zero i₀ = refl
  each-length row (suc n) i₀ = ap suc (each-length row n (i₀ + 1))

  -- of the rows from row i₀ on, the one at place i is row i₀ + i
  each_from : (row : ℕ → A) (n i₀ i : ℕ) (d : A) → i < n → get_or (each row n i₀) i d ≡ row (i₀ + i)
  each_from row zero i₀ i d h = absurd (omega arith)
  each_from row (suc n) i₀ zero d h = ap row (sym (add-zero i₀))
  each_from row (suc n) i₀ (suc i) d h =
      let e : i₀ + 1 + i ≡ i₀ + suc i = omega arith in each_from row n (i₀ + 1) i d (omega arith) ∙ ap row e

  -- of the rows from row 0 on, the one at place i is row i
  pub each_at : (row : ℕ → A) (n i : ℕ) (d : A) → i < n → get_or (each row n 0) i d ≡ row i
  each_at row n i d h = each_from row n 0 i d h ∙ ap row (zero-add i)

  -- what holds of all elements holds of those kept
  pub every-keep : (P : A → Type 0) (p : A → Bool) (xs : List A) → Every P xs → Every P (keep p xs)
  every-keep P p [] h = tt
  every-keep P p (x ∷ xs) h = go (p x) (every-keep P p xs h.1)
    where
      go : (b : Bool) → Every P (keep p xs) → Every P (elim b [ true ↦ x ∷ keep p xs | false ↦ keep p xs ])
      go true i = (h.0, i)
      go false i = i

  -- every element that is kept passes the test
  pub kept : (p : A → Bool) (xs : List A) → Every (λ x. p x ≡ true) (keep p xs)
  kept p [] = tt
  kept p (x ∷ xs) = go (p x) refl (kept p xs)
    where
      go : (b : Bool) → p x ≡ b → Every (λ x. p x ≡ true) (keep p xs) → Every (λ x. p x ≡ true) (elim b [ true ↦ x ∷ keep p xs | false ↦ keep p xs ])
      go true e i = (e, i)
      go false e i = i

  -- a claim of each row that passes is a claim of all elements of `those`
  pub every-those : (Q : A → Type 0) (p : ℕ → Bool) (row : ℕ → A) (n i₀ : ℕ)
      → ((i : ℕ) → i₀ ≤ i → i < i₀ + n → p i ≡ true → Q (row i)) → Every Q (those p row n i₀)
  every-those Q p row zero i₀ h = tt
  every-those Q p row (suc n) i₀ h =
      go (p i₀) refl (every-those Q p row n (i₀ + 1) (λ i l u. h i (omega arith) (omega arith)))
    where
      go : (b : Bool) → p i₀ ≡ b → Every Q (those p row n (i₀ + 1))
          → Every Q (elim b [ true ↦ row i₀ ∷ those p row n (i₀ + 1) | false ↦ those p row n (i₀ + 1) ])
      go true e r = (h i₀ (omega arith) (omega arith) e, r)
      go false e r = r

  -- what is left of the rows, at a row that passes: this row, and what is left after it
  pub those-yes : (p : ℕ → Bool) (row : ℕ → A) (n i : ℕ) → i < n → p i ≡ true → those p row (n - i) i ≡ row i ∷ those p row (n - (i + 1)) (i + 1)
  those-yes p row n i l e =
      let z : n - i ≡ suc (n - (i + 1)) = omega arith in ap (λ (k : ℕ). those p row k i) z ∙ rw (e, those)

  -- what is left of the rows, at a row that does not pass: what is left after it
  pub those-no : (p : ℕ → Bool) (row : ℕ → A) (n i : ℕ) → i < n → p i ≡ false → those p row (n - i) i ≡ those p row (n - (i + 1)) (i + 1)
  those-no p row n i l e =
      let z : n - i ≡ suc (n - (i + 1)) = omega arith in ap (λ (k : ℕ). those p row k i) z ∙ rw (e, those)

  -- what is left of the rows, past the last row: nothing
  pub those-end : (p : ℕ → Bool) (row : ℕ → A) (n i : ℕ) → n ≤ i → those p row (n - i) i ≡ []
  those-end p row n i l = let z : n - i ≡ 0 = omega arith in ap (λ (k : ℕ). those p row k i) z

  -- no more rows pass than there are
  pub those-few : (p : ℕ → Bool) (row : ℕ → A) (n i : ℕ) → length (those p row n i) ≤ n
  those-few p row zero i = omega arith
  those-few p row (suc n) i = go (p i) (those-few p row n (i + 1))
    where
      go : (b : Bool) → length (those p row n (i + 1)) ≤ n
          → length {A = A} (elim b [ true ↦ row i ∷ those p row n (i + 1) | false ↦ those p row n (i + 1) ]) ≤ suc n
      go true h = omega arith
      go false h = omega arith

  -- as many rows from another place on: where the tests and the rows agree, the same rows pass
  pub those-moved : (p q : ℕ → Bool) (row other : ℕ → A) (n i j : ℕ)
      → ((k : ℕ) → k < n → (p (i + k) ≡ q (j + k)) × (row (i + k) ≡ other (j + k))) → those p row n i ≡ those q other n j
  those-moved p q row other zero i j h = refl
  those-moved p q row other (suc n) i j h =
      let x : i + 0 ≡ i = omega arith in
      let y : j + 0 ≡ j = omega arith in
      let a : p i ≡ q j = ap p (sym x) ∙ (h 0 (omega arith)).0 ∙ ap q y in
      let b : row i ≡ other j = ap row (sym x) ∙ (h 0 (omega arith)).1 ∙ ap other y in
      let r = those-moved p q row other n (i + 1) (j + 1) (λ k l. later k (h (suc k) (omega arith))) in
      λ t. elim (a t) [ true ↦ b t ∷ r t | false ↦ r t ]
    where
      later : (k : ℕ) → (p (i + suc k) ≡ q (j + suc k)) × (row (i + suc k) ≡ other (j + suc k))
          → (p (i + 1 + k) ≡ q (j + 1 + k)) × (row (i + 1 + k) ≡ other (j + 1 + k))
      later k w =
          let x : i + 1 + k ≡ i + suc k = omega arith in
          let y : j + suc k ≡ j + 1 + k = omega arith in
          (ap p x ∙ w.0 ∙ ap q y, ap row x ∙ w.1 ∙ ap other y)

  -- tests that agree on the rows let the same rows pass
  pub those-same : (p q : ℕ → Bool) (row : ℕ → A) (n i₀ : ℕ)
      → ((i : ℕ) → i₀ ≤ i → i < i₀ + n → p i ≡ q i) → those p row n i₀ ≡ those q row n i₀
  those-same p q row n i₀ h = those-moved p q row row n i₀ i₀ (λ k l. (h (i₀ + k) (omega arith) (omega arith), refl))

  -- the rows that pass one test, and of them those that pass another, are the rows that pass both
  pub keep-those : (f : A → Bool) (p : ℕ → Bool) (row : ℕ → A) (n i : ℕ)
      → keep f (those p row n i) ≡ those (λ j. p j && f (row j)) row n i
  keep-those f p row zero i = refl
  keep-those f p row (suc n) i = go (p i) (f (row i)) refl (keep-those f p row n (i + 1))
    where
      rest : List A
      rest = those (λ j. p j && f (row j)) row n (i + 1)

      go : (a b : Bool) → f (row i) ≡ b → keep f (those p row n (i + 1)) ≡ rest
          → keep f (elim a [ true ↦ row i ∷ those p row n (i + 1) | false ↦ those p row n (i + 1) ])
          ≡ elim (a && b) [ true ↦ row i ∷ rest | false ↦ rest ]
      go true true e h = rw (e, keep) (ap (λ (l : List A). row i ∷ l) h)
      go true false e h = rw (e, keep) h
      go false b e h = h

  -- a claim of each of n rows is a claim of all elements of `each`
  pub every-each : (Q : A → Type 0) (row : ℕ → A) (n i₀ : ℕ)
      → ((i : ℕ) → i₀ ≤ i → i < i₀ + n → Q (row i)) → Every Q (each row n i₀)
  every-each Q row zero i₀ h = tt
  every-each Q row (suc n) i₀ h =
      (h i₀ (omega arith) (omega arith), every-each Q row n (i₀ + 1) (λ i l u. h i (omega arith) (omega arith)))

  -- a claim that follows from one that holds of all elements holds of all of them too
  pub every_map : (P Q : A → Type 0) (xs : List A) → ((x : A) → P x → Q x) → Every P xs → Every Q xs
  every_map P Q [] f h = tt
  every_map P Q (x ∷ xs) f h = (f x h.0, every_map P Q xs f h.1)

  -- two claims that each hold of all elements hold of all of them together
  pub every-both : (P Q : A → Type 0) (xs : List A) → Every P xs → Every Q xs → Every (λ x. P x × Q x) xs
  every-both P Q [] h i = tt
  every-both P Q (x ∷ xs) h i = ((h.0, i.0), every-both P Q xs h.1 i.1)

  -- a claim that holds of anything holds of all elements of a list
  pub every-all : (P : A → Type 0) (xs : List A) → ((x : A) → P x) → Every P xs
  every-all P [] f = tt
  every-all P (x ∷ xs) f = (f x, every-all P xs f)

  -- a claim that holds of all elements of two lists holds of all of the joined list
  pub every_append : (P : A → Type 0) (xs ys : List A) → Every P xs → Every P ys → Every P (xs ++ ys)
  every_append P [] ys h i = i
  every_append P (x ∷ xs) ys h i = (h.0, every_append P xs ys h.1 i)

  -- a claim that holds of all elements of every piece holds of all of the pieces joined
  pub every-cat : (P : A → Type 0) (f : ℕ → List A) (n : ℕ) → ((k : ℕ) → k < n → Every P (f k)) → Every P (cat f n)
  every-cat P f zero h = tt
  every-cat P f (suc n) h =
      every_append P (cat f n) (f n) (every-cat P f n (λ k l. h k (omega arith))) (h n (omega arith))

  -- a claim that holds of all elements and of the default holds of what stands at any place
  pub every-at : (P : A → Type 0) (xs : List A) (d : A) → P d → Every P xs → (i : ℕ) → P (get_or xs i d)
  every-at P [] d z h i = z
  every-at P (x ∷ xs) d z h zero = h.0
  every-at P (x ∷ xs) d z h (suc i) = every-at P xs d z h.1 i

-- a claim that holds of the image of every element holds of all images
pub every-image : {A B : Type 0} (P : B → Type 0) (f : A → B) (xs : List A) → Every (λ x. P (f x)) xs → Every P (map f xs)
every-image P f [] h = tt
every-image P f (x ∷ xs) h = (h.0, every-image P f xs h.1)

-- the images of the rows that pass are the rows' images of those that pass
pub map-those : {A B : Type 0} (f : A → B) (p : ℕ → Bool) (row : ℕ → A) (n i : ℕ) → map f (those p row n i) ≡ those p (λ j. f (row j)) n i
map-those f p row zero i = refl
map-those {A} {B} f p row (suc n) i = go (p i) (map-those f p row n (i + 1))
  where
    go : (b : Bool) → map f (those p row n (i + 1)) ≡ those p (λ j. f (row j)) n (i + 1)
        → map f (elim b [ true ↦ row i ∷ those p row n (i + 1) | false ↦ those p row n (i + 1) ])
        ≡ elim b [ true ↦ f (row i) ∷ those p (λ j. f (row j)) n (i + 1) | false ↦ those p (λ j. f (row j)) n (i + 1) ]
    go true e = ap (λ (l : List B). f (row i) ∷ l) e
    go false e = e

-- how many rows pass does not depend on what stands in them
pub those-count : {A : Type 0} (p : ℕ → Bool) (row : ℕ → A) (n i : ℕ) → length (those p row n i) ≡ length (those p (λ j. j) n i)
those-count p row n i = ap length (sym (map-those row p (λ j. j) n i)) ∙ length-map (those p (λ j. j) n i) row

module _ {A : Type 0} (p : ℕ → Bool) (row : ℕ → A) where
  -- the rows that pass of n + m rows are those of the first n and those of the m after them
  pub those-split : (n m i : ℕ) → those p row (n + m) i ≡ those p row n i ++ those p row m (i + n)
  those-split zero m i =
      let z : 0 + m ≡ m = omega arith in
      let y : i ≡ i + 0 = omega arith in
      ap (λ (k : ℕ). those p row k i) z ∙ ap (those p row m) y
  those-split (suc n) m i =
      let z : suc n + m ≡ suc (n + m) = omega arith in
      let y : i + 1 + n ≡ i + suc n = omega arith in
      ap (λ (k : ℕ). those p row k i) z
      ∙ go (p i) (those-split n m (i + 1) ∙ ap (λ (k : ℕ). those p row n (i + 1) ++ those p row m k) y)
    where
      go : (b : Bool) → those p row (n + m) (i + 1) ≡ those p row n (i + 1) ++ those p row m (i + suc n)
          → ◌≡◌ {A = List A} (elim b [ true ↦ row i ∷ those p row (n + m) (i + 1) | false ↦ those p row (n + m) (i + 1) ])
          (elim b [ true ↦ row i ∷ those p row n (i + 1) | false ↦ those p row n (i + 1) ] ++ those p row m (i + suc n))
      go true e = ap (λ (l : List A). row i ∷ l) e
      go false e = e

  -- where no row passes, `those` is empty
  pub those-none : (n i₀ : ℕ) → ((i : ℕ) → i₀ ≤ i → i < i₀ + n → p i ≡ false) → those p row n i₀ ≡ []
  those-none zero i₀ h = refl
  those-none (suc n) i₀ h =
      rw (h i₀ (omega arith) (omega arith), those) (those-none n (i₀ + 1) (λ i l u. h i (omega arith) (omega arith)))

  -- where all rows pass, `those` are all rows
  pub those-each : (n i₀ : ℕ) → ((i : ℕ) → i₀ ≤ i → i < i₀ + n → p i ≡ true) → those p row n i₀ ≡ each row n i₀
  those-each zero i₀ h = refl
  those-each (suc n) i₀ h =
      rw (h i₀ (omega arith) (omega arith), those)
      (ap (λ (l : List A). row i₀ ∷ l) (those-each n (i₀ + 1) (λ i l u. h i (omega arith) (omega arith))))

-- as many rows from another place on are the same rows where each is
pub each_same : {A : Type 0} (f g : ℕ → A) (n i j : ℕ) → ((k : ℕ) → k < n → f (i + k) ≡ g (j + k)) → each f n i ≡ each g n j
each_same f g zero i j h = refl
each_same {A} f g (suc n) i j h =
    let x : i + 0 ≡ i = omega arith in
    let y : j + 0 ≡ j = omega arith in
    ap (λ (r : A). r ∷ each f n (i + 1)) (ap f (sym x) ∙ h 0 (omega arith) ∙ ap g y)
    ∙ ap (λ (l : List A). g j ∷ l) (each_same f g n (i + 1) (j + 1) next)
  where
    next : (k : ℕ) → k < n → f (i + 1 + k) ≡ g (j + 1 + k)
    next k l =
        let x : i + suc k ≡ i + 1 + k = omega arith in
        let y : j + suc k ≡ j + 1 + k = omega arith in
        ap f (sym x) ∙ h (suc k) (omega arith) ∙ ap g y

-- functions that agree on all elements give the same images of a list
pub map_same : {A B : Type 0} (f g : A → B) (xs : List A) → Every (λ x. f x ≡ g x) xs → map f xs ≡ map g xs
map_same f g [] h = refl
map_same f g (x ∷ xs) h = ap₂ ◌∷◌ h.0 (map_same f g xs h.1)

-- functions that agree on all elements give the same lists of them, one after the other
pub gather-same : {A B : Type 0} (f g : A → List B) (xs : List A) → Every (λ x. f x ≡ g x) xs → gather f xs ≡ gather g xs
gather-same f g [] h = refl
gather-same f g (x ∷ xs) h = ap₂ ◌++◌ h.0 (gather-same f g xs h.1)

-- a claim that holds of the list of each element holds of the lists of all elements joined
pub every-gather : {A B : Type 0} (P : B → Type 0) (f : A → List B) (xs : List A) → ((x : A) → Every P (f x)) → Every P (gather f xs)
every-gather P f [] h = tt
every-gather P f (x ∷ xs) h = every_append P (f x) (gather f xs) (h x) (every-gather P f xs h)
