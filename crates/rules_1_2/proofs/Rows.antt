-- The test of a row by the place of its table: what the test of the table says is what the test of the place says; and number 2 is that of
-- all places, and then of the start mode.
use Prim.Native.Nat.{ℕ, zero, suc, ◌≤◌, ◌<◌}
use mathlib.Core.Path.{◌≡◌, refl, sym, ap, ◌∙◌}
use mathlib.Core.Bool.{Bool, false}
use mathlib.Core.List.{List, ◌∷◌}
use mathlib.Core.Logic.{⊎_elim}
use native.Mathlib.Nat.{eq-or-lt_of_le}
use native.Mathlib.Omega.{arith}
use lib.ListN.{get_or, get_or-eq_default}
use Rattle.theory.specs.Rows.{RowTests, testing}
use Rattle.cells.specs.Cell.{unnamed, name_of}
use Rattle.cells.specs.Limits.{table_count}
use Rattle.cells.proofs.Names.{name-small}
use Rattle.program.specs.Tables.{Tables, rows_at}
use Rattle.rules.specs.Fields.{field_tests}
use Rattle.rules_1_2.specs.Rows.{tests_by_table, row_bad, start_tests}

-- what the test of a table says of a row is what the test of its place says
pub row_at : (T : Tables) (place row : ℕ) {k : ℕ} {b : Bool} → place ≡ k
    → b ≡ get_or (tests_by_table T) k (λ j. false) row → b ≡ row_bad T place row
unfolding row_bad
row_at T place row e h = h ∙ sym (ap (λ (k : ℕ). row_bad T k row) e)

-- what the test of the place says of a row whose table has fewer rows than a kind can name: the row is the one that it names
pub kind_at : (T : Tables) (place row : ℕ) {k name : ℕ} {b : Bool} → place ≡ k → rows_at T k < unnamed → row < rows_at T place
    → name ≡ name_of row → b ≡ get_or (tests_by_table T) k (λ j. false) name → b ≡ row_bad T place row
kind_at T place row {k} e few l m h =
    let same : rows_at T place ≡ rows_at T k = ap (rows_at T) e in
    row_at T place row e (h ∙ ap (get_or (tests_by_table T) k (λ j. false)) (m ∙ name-small row (omega (arith, few, l, same))))

-- at a place past the last table no row is bad
pub row-past : (T : Tables) (place row : ℕ) → table_count ≤ place → row_bad T place row ≡ false
unfolding row_bad
row-past T place row h = λ i. get_or-eq_default (tests_by_table T) (λ j. false) h i row

-- the number k is none of those below n, as a `match` leaves it
abbrev pub NoneBelow : ℕ → ℕ → Type 0
NoneBelow zero k = Unit {0}
NoneBelow (suc n) k = NoneBelow n k × (k ≡ n → ⊥)

-- a number that is none of those below n is at least n
pub none_below : (n k : ℕ) → NoneBelow n k → n ≤ k
none_below zero k h = omega arith
none_below (suc n) k h = ⊎_elim (λ e. absurd (h.1 (sym e))) (λ l. l) (eq-or-lt_of_le (none_below n k h.0))

-- number 2 of the tables at n places from i on, and then of the start mode
abbrev pub tests_from : Tables → ℕ → ℕ → List RowTests
tests_from T i zero = start_tests T
tests_from T i (suc n) = testing i (rows_at T i) (row_bad T i) ∷ tests_from T (suc i) n

-- number 2, row by row, is that of the tables at all places, and then of the start mode
pub fields-by-place : (T : Tables) → tests_from T 0 table_count ≡ field_tests T
unfolding row_bad
fields-by-place T = refl
