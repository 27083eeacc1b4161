-- A refusal says which row (document 02, K3), in one statement of all six calls: a call names row r of table t with number n exactly where
-- rule n is the first that is broken, row r of table t breaks it, no lower row of that table does, and no row of an earlier table does.
-- What a row must be so as not to break a rule stands beside each rule: `field_rules`, `task_port_rules`, `copy_rules`, `mode_port_rules`,
-- `invocation_rules`, `update_rules`, `switch_rules`, `unit_rules`, `whole_rules` (rules/specs), `window_rules`, `part_row_rules`, `joined_row_rules`
-- (suppliers/specs): a row by itself, and against the rows before it, so that a clash is broken by its later row. Tables are numbered in
-- 01's order from 0 to 11; the start mode is table 12, the supplier asked about 13, row 0.
-- Proved of these definitions in proofs/Places.antt.
use Rattle.std.specs.Prelude.{ℕ, ◌<◌, ◌≡◌, List, [], ◌∷◌, ◌⊎◌, ◌↔◌}
use Rattle.theory.specs.Rows.{RowRules, at_row, Breaks}
use Rattle.theory.specs.Verdict.{Rule, First}
use Rattle.program.specs.Tables.{Tables}
use Rattle.rules.specs.Verdict.{program_rules, program_answer}
use Rattle.code.specs.Compile.{Compiling, compile_rules, compile_answer}
use Rattle.suppliers.specs.Windows.{Windowed, windows_verdict_rules, windows_answer}
use Rattle.suppliers.specs.Supplier.{Asked, part_rules, supplier_verdict}
use Rattle.machine.specs.Advance.{Advance, advance_rules, advance_answer, fresh_answer}

-- a rule asks of rows
abbrev pub SomeRows : List RowRules → Type 0
SomeRows [] = ⊥
SomeRows (q ∷ qs) = Unit {0}

module _ {A : Type 0} where
  -- rule n is one of these rules, and asks of rows
  abbrev pub HasRows : List (Rule A) → A → ℕ → Type 0
  HasRows [] a n = ⊥
  HasRows (g ∷ gs) a n = ((n ≡ g.number) × SomeRows (g.rows a)) ⊎ HasRows gs a n

  -- row r of table t breaks rule n of these rules
  abbrev pub RowBreaks : List (Rule A) → A → ℕ → ℕ → ℕ → Type 0
  RowBreaks [] a n t r = ⊥
  RowBreaks (g ∷ gs) a n t r = ((n ≡ g.number) × Breaks (g.rows a) t r) ⊎ RowBreaks gs a n t r

  -- rule n is the first of these rules that is broken, and row r of table t is the row to name
  pub record NamesRow (rules : List (Rule A)) (a : A) (n t r : ℕ) : Type 0 where
    pub first-broken : First rules a n
    pub breaks : RowBreaks rules a n t r
    pub no-lower-row : (k : ℕ) → k < r → RowBreaks rules a n t k → ⊥
    pub no-earlier-table : (u k : ℕ) → u < t → RowBreaks rules a n u k → ⊥

-- each call names row r of table t with number n exactly where that is the row to name; n is a number of the call that has rows: 2 to 10,
-- of windows and a supplier also 12, of a supplier and an advance also 13
pub record PlacesExact : Type 0 where
  pub program : (T : Tables) (n t r : ℕ) → HasRows program_rules T n → (program_answer T ≡ at_row n t r) ↔ NamesRow program_rules T n t r
  pub compiling : (L : Compiling) (n t r : ℕ) → HasRows compile_rules L n
      → ((compile_answer L).answer ≡ at_row n t r) ↔ NamesRow compile_rules L n t r
  pub windows : (L : Windowed) (n t r : ℕ) → HasRows windows_verdict_rules L n
      → (windows_answer L ≡ at_row n t r) ↔ NamesRow windows_verdict_rules L n t r
  pub supplier : (L : Asked) (n t r : ℕ) → HasRows part_rules L n → (supplier_verdict L ≡ at_row n t r) ↔ NamesRow part_rules L n t r
  pub fresh : (T : Tables) (n t r : ℕ) → HasRows program_rules T n → ((fresh_answer T).answer ≡ at_row n t r) ↔ NamesRow program_rules T n t r
  pub advance : (L : Advance) (n t r : ℕ) → HasRows advance_rules L n
      → ((advance_answer L).answer ≡ at_row n t r) ↔ NamesRow advance_rules L n t r
