-- Lists of rows: those that pass a test, in order; pieces and sums over the numbers below a bound; assignments.
use Rattle.std.specs.Prelude.{ℕ, zero, suc, ◌+◌, Bool, true, false, ◌||◌, List, [], ◌∷◌, ◌++◌, eqb, ℤ, set}

module _ {A : Type 0} where
  -- of n rows from row i on, those that pass the test, in order
  abbrev pub those : (ℕ → Bool) → (ℕ → A) → ℕ → ℕ → List A
  those p row zero i = []
  those p row (suc n) i = elim (p i) [ true ↦ row i ∷ those p row n (i + 1) | false ↦ those p row n (i + 1) ]

  -- n rows from row i on, in order
  abbrev pub each : (ℕ → A) → ℕ → ℕ → List A
  each row zero i = []
  each row (suc n) i = row i ∷ each row n (i + 1)

  -- the elements of a list that pass the test, in order
  abbrev pub keep : (A → Bool) → List A → List A
  keep p [] = []
  keep p (x ∷ xs) = elim (p x) [ true ↦ x ∷ keep p xs | false ↦ keep p xs ]

  -- the claim holds of each element of a list
  abbrev pub Every : (A → Type 0) → List A → Type 0
  Every P [] = Unit {0}
  Every P (x ∷ xs) = P x × Every P xs

  -- the lists that f gives for the elements of a list, one after the other
  abbrev pub gather : {B : Type 0} → (A → List B) → List A → List B
  gather f [] = []
  gather f (x ∷ xs) = f x ++ gather f xs

  -- some element of a list passes the test
  abbrev pub some : (A → Bool) → List A → Bool
  some p [] = false
  some p (x ∷ xs) = p x || some p xs

  -- the first n places of a list, set to what f says
  abbrev pub filled : (ℕ → A) → ℕ → List A → List A
  filled f zero l = l
  filled f (suc n) l = set (filled f n l) n (f n)

  -- the pieces that f gives for the numbers below n, one after the other
  abbrev pub cat : (ℕ → List A) → ℕ → List A
  cat f zero = []
  cat f (suc n) = cat f n ++ f n

-- the sum of what g gives for the numbers below n
abbrev pub sum : (ℕ → ℕ) → ℕ → ℕ
sum g zero = 0
sum g (suc n) = sum g n + g n

-- the number is in the list
abbrev pub member : ℕ → List ℕ → Bool
member n = some (eqb n)

-- an assignment: a place and its new value
pub record Put : Type 0 where
  pub place : ℕ
  pub value : ℤ

-- the values after all assignments of a list are made, one after the other
abbrev pub puts : List Put → List ℤ → List ℤ
puts [] v = v
puts (a ∷ more) v = puts more (set v a.place a.value)
