-- "The first number that applies, in this order, is the verdict", and the place of that number: once, for every call.
use Rattle.std.specs.Prelude.{ℕ, zero, suc, ◌≡◌, Bool, true, false, cond, List, [], ◌∷◌, ◌⊎◌, ltb}
use Rattle.theory.specs.Rows.{RowTests, RowRules, placeless, at_row, some_bad, lowest_bad, PlacedAt, Unbroken}
use Rattle.theory.specs.declared.Answer.{Answer}

-- the number of acceptance: no refusal applies
abbrev pub accepted_number : ℕ
accepted_number = 0

-- the number n where its test passes, else the number of the rest
abbrev pub or_else : Bool → ℕ → ℕ → ℕ
or_else true n rest = n
or_else false n rest = rest

-- the first of two verdicts, and the second where the first accepts
abbrev pub after : ℕ → ℕ → ℕ
after zero n = n
after (suc m) n = suc m

-- a refusal: its number, the test that says whether it applies to what is lent, and the rows that it tests; none where it has no place
pub record Refusal (A : Type 0) : Type 0 where
  pub number : ℕ
  pub applies : A → Bool
  pub rows : A → List RowTests

-- a refusal without a place
abbrev pub unplaced : {A : Type 0} → ℕ → (A → Bool) → Refusal A
unplaced n test = record { number = n; applies = test; rows = λ a. [] }

-- a refusal, as a call asks it that is lent more
abbrev pub within : {A B : Type 0} → (B → A) → Refusal A → Refusal B
within f r = record { number = r.number; applies = λ b. r.applies (f b); rows = λ b. r.rows (f b) }

-- the number of the first refusal of a list that applies; the number of acceptance where none does
abbrev pub verdict : {A : Type 0} → List (Refusal A) → A → ℕ
verdict [] a = accepted_number
verdict (r ∷ rs) a = let rest = verdict rs a in or_else (r.applies a) r.number rest

-- the answer of the first refusal of a list that applies: its number and its place; accepted where none does
abbrev pub first_refusal : {A : Type 0} → List (Refusal A) → A → Answer
first_refusal [] a = placeless accepted_number
first_refusal (r ∷ rs) a = let rest = first_refusal rs a in cond (r.applies a) (lowest_bad r.number (r.rows a)) rest

-- the answer of one number that is given by rows: its place, or accepted where no row is bad
abbrev pub rows_answer : ℕ → List RowTests → Answer
rows_answer n ts = cond (some_bad ts) (lowest_bad n ts) (placeless accepted_number)

-- the answer of number n after a search over so many rows of table t that ended at row r: there, or accepted where it found none
abbrev pub found_at : ℕ → ℕ → ℕ → ℕ → Answer
found_at n t r count = cond (ltb r count) (at_row n t r) (placeless accepted_number)

-- the first of two answers, and the second where the first accepts
abbrev pub or_next : Answer → Answer → Answer
or_next x y = elim x.number [ zero ↦ y | suc n ↦ x ]

-- a rule: its number, what must hold of what is lent, and what it asks of each row; of none where it has no place
pub record Rule (A : Type 0) : Type 1 where
  pub number : ℕ
  pub holds : A → Type 0
  pub rows : A → List RowRules

-- a rule that asks nothing of rows
abbrev pub unplaced_rule : {A : Type 0} → ℕ → (A → Type 0) → Rule A
unplaced_rule n H = record { number = n; holds = H; rows = λ a. [] }

-- a rule, as a call asks it that is lent more
abbrev pub holding : {A B : Type 0} → (B → A) → Rule A → Rule B
holding f r = record { number = r.number; holds = λ b. r.holds (f b); rows = λ b. r.rows (f b) }

-- n is the number of one of these rules
abbrev pub OneOf : {A : Type 0} → List (Rule A) → ℕ → Type 0
OneOf [] n = ⊥
OneOf (r ∷ rs) n = (n ≡ r.number) ⊎ OneOf rs n

-- n is the number of the first rule of a list that is broken, and `accepted_number` where every rule holds
abbrev pub First : {A : Type 0} → List (Rule A) → A → ℕ → Type 0
First [] a n = n ≡ accepted_number
First (r ∷ rs) a n = ((r.holds a → ⊥) × (n ≡ r.number)) ⊎ (r.holds a × First rs a n)

-- every rule of a list holds
abbrev pub Keep : {A : Type 0} → List (Rule A) → A → Type 0
Keep [] a = Unit {0}
Keep (r ∷ rs) a = r.holds a × Keep rs a

-- x is the answer of the first rule of a list that is broken, its number and its place, and accepted where every rule holds
abbrev pub FirstAt : {A : Type 0} → List (Rule A) → A → Answer → Type 0
FirstAt [] a x = x ≡ placeless accepted_number
FirstAt (r ∷ rs) a x =
    ((r.holds a → ⊥) × (x.number ≡ r.number) × PlacedAt (r.rows a) x.outer x.inner)
    ⊎ (r.holds a × FirstAt rs a x)

-- each rule of a list that asks of rows holds exactly where no row breaks it, where the rules before it hold
abbrev pub ByRows : {A : Type 0} → List (Rule A) → A → Type 0
ByRows [] a = Unit {0}
ByRows (r ∷ rs) a = Unbroken (r.rows a) (r.holds a) × (r.holds a → ByRows rs a)
