-- Rows that a refusal tests, and what a rule asks of the same rows: some row is bad, every row fits, row r of table t breaks the rule;
-- and the place of a refusal, the lowest row of the first table that has a bad one.
use Rattle.std.specs.Prelude.{ℕ, ◌<◌, ◌≡◌, Bool, false, ◌||◌, cond, List, [], ◌∷◌, ◌⊎◌, ◌↔◌}
use Rattle.theory.specs.Search.{any, first}
use Rattle.theory.specs.declared.Answer.{Answer}

-- an answer that has this number and no place
abbrev pub placeless : ℕ → Answer
placeless n = record { number = n; outer = 0; inner = 0 }

-- an answer that has this number, at row r of table t
abbrev pub at_row : ℕ → ℕ → ℕ → Answer
at_row n t r = record { number = n; outer = t; inner = r }

-- the rows of a table as a refusal tests them
pub record RowTests : Type 0 where
  pub table : ℕ
  pub count : ℕ
  pub bad : ℕ → Bool

-- so many rows of a table, with their test
abbrev pub testing : ℕ → ℕ → (ℕ → Bool) → RowTests
testing t n bad = record { table = t; count = n; bad = bad }

-- some row of some table is bad
abbrev pub some_bad : List RowTests → Bool
some_bad [] = false
some_bad (t ∷ ts) = any t.bad t.count || some_bad ts

-- the answer of number n with its place: of the first table that has a bad row the lowest such row; none where no table is tested
abbrev pub lowest_bad : ℕ → List RowTests → Answer
lowest_bad n [] = placeless n
lowest_bad n (t ∷ ts) =
    let rest = lowest_bad n ts in cond (any t.bad t.count) (at_row n t.table (first t.bad t.count)) rest

-- the rows of a table as a rule asks of them: what row r must be, by itself and held against the rows before it
pub record RowRules : Type 1 where
  pub table : ℕ
  pub count : ℕ
  pub fits : ℕ → Type 0

-- so many rows of a table, with what is asked of each
abbrev pub asking : ℕ → ℕ → (ℕ → Type 0) → RowRules
asking t n fits = record { table = t; count = n; fits = fits }

-- every row of every table fits
abbrev pub Every : List RowRules → Type 0
Every [] = Unit {0}
Every (g ∷ gs) = ((r : ℕ) → r < g.count → g.fits r) × Every gs

-- row r of table t breaks the rule: it is a row of that table, and does not fit
abbrev pub Breaks : List RowRules → ℕ → ℕ → Type 0
Breaks [] t r = ⊥
Breaks (g ∷ gs) t r = ((t ≡ g.table) × (r < g.count) × (g.fits r → ⊥)) ⊎ Breaks gs t r

-- row r of table t breaks the rule, no lower row of that table does, and no row of an earlier table does
pub record LowestRow (gs : List RowRules) (t r : ℕ) : Type 0 where
  pub breaks : Breaks gs t r
  pub no-lower-row : (k : ℕ) → k < r → Breaks gs t k → ⊥
  pub no-earlier-table : (u k : ℕ) → u < t → Breaks gs u k → ⊥

-- the place of a rule that is broken is (t, r): its lowest row, or 0 and 0 where the rule asks nothing of rows
abbrev pub PlacedAt : List RowRules → ℕ → ℕ → Type 0
PlacedAt [] t r = (t ≡ 0) × (r ≡ 0)
PlacedAt (g ∷ gs) t r = LowestRow (g ∷ gs) t r

-- a rule that asks of rows holds exactly where no row breaks it
abbrev pub Unbroken : List RowRules → Type 0 → Type 0
Unbroken [] H = Unit {0}
Unbroken (g ∷ gs) H = H ↔ ((t r : ℕ) → Breaks (g ∷ gs) t r → ⊥)
