-- Which slice has which limit: with as many rows as 01 allows a table is not 1, with one more it is; so is the count of its rows in a
-- text, at once; and so are windows, schedule rows and the code that is lent to run.
use Prim.Native.Nat.{ℕ, suc, ◌*◌}
use mathlib.Core.Path.{◌≡◌, refl}
use mathlib.Core.List.{List, [], ◌∷◌, ◌++◌, map}
use lib.IntN.{pos}
use lib.ListN.{set, replicate}
use Rattle.program.specs.Tables.{Tables}
use Rattle.rules.specs.Verdict.{program_verdict}
use Rattle.text.specs.Input.{placed}
use Rattle.text.specs.Shipped.{bad_input, shipped}
use Rattle.suppliers.specs.Supplier.{supplier_verdict}
use Rattle.machine.specs.Advance.{Advance, advance_answer}
use Rattle.worked.specs.Computed.{computed}
use Rattle.worked.specs.Programs.{text_of, window, schedule, asked}
use Rattle.worked.specs.Systems.{F-fresh, F-first}

-- a table: its place, how many numbers a row has, the most rows
pub record Table : Type 0 where
  pub place : ℕ
  pub width : ℕ
  pub most : ℕ

abbrev table : ℕ → ℕ → ℕ → Table
table place width most = record { place = place; width = width; most = most }

-- the ten tables of document 01, in its order
abbrev ten : List Table
ten =
    table 0 2 64 ∷ table 1 2 32 ∷ table 2 2 128 ∷ table 3 4 64 ∷ table 4 3 256 ∷ table 5 1 32 ∷ table 6 2 256 ∷ table 7 4 64 ∷ table 8 3 64
    ∷ table 9 4 64 ∷ []

-- a program of one mode and one table with so many rows of zeros
abbrev having : ℕ → Table → Tables
having rows t =
    placed (pos 0)
    (set ([] ∷ [] ∷ [] ∷ [] ∷ [] ∷ (pos 10 ∷ []) ∷ [] ∷ [] ∷ [] ∷ [] ∷ []) t.place (replicate (rows * t.width) (pos 0)))

-- with the most rows: zeros are sensors and drivers that copy always, and else out of range, which is 2
with-most : map (λ t. program_verdict (having t.most t)) ten ≡ 0 ∷ 2 ∷ 2 ∷ 0 ∷ 2 ∷ 2 ∷ 2 ∷ 2 ∷ 2 ∷ 2 ∷ []
unfolding computed
with-most = refl

-- with one row more
with-more : map (λ t. program_verdict (having (suc t.most) t)) ten ≡ replicate 10 1
unfolding computed
with-more = refl

-- a text that ends behind this row count of a table, the tables before it being empty
abbrev counting : ℕ → Table → List ℕ
counting rows t = text_of (0 ∷ (replicate t.place 0 ++ (rows ∷ [])))

-- the most rows are still to come; one more is 1 at once
counts-most : map (λ t. shipped (counting t.most t)) ten ≡ replicate 10 bad_input
unfolding computed
counts-most = refl

counts-more : map (λ t. shipped (counting (suc t.most) t)) ten ≡ replicate 10 (49 ∷ 10 ∷ [])
unfolding computed
counts-more = refl

-- F's windows, and its supplier's part: 256 rows of zeros are an empty window, and rows at an address without a `future`; 257 rows are 1
supplier-most :
    ((supplier_verdict (asked 6 (replicate (256 * 4) (pos 0)) (schedule 1 0))).number ≡ 12)
    × ((supplier_verdict (asked 6 (window 0 10) (replicate (256 * 5) (pos 0)))).number ≡ 13)
unfolding computed
supplier-most = (refl, refl)

supplier-more :
    ((supplier_verdict (asked 6 (replicate (257 * 4) (pos 0)) (schedule 1 0))).number ≡ 1)
    × ((supplier_verdict (asked 6 (window 0 10) (replicate (257 * 5) (pos 0)))).number ≡ 1)
unfolding computed
supplier-more = (refl, refl)

-- an advance of F, lent so many instructions and schedule rows of zeros, from a state that is just outside the code
abbrev lending : ℕ → ℕ → Advance
lending instructions rows = record {
  tables = F-first.tables;
  code = replicate (instructions * 3) 0;
  schedule = replicate (rows * 5) (pos 0);
  state =
      record {
        ports = F-fresh.ports;
        outputs = F-fresh.outputs;
        time = 0;
        pending = instructions;
        current = 0;
        elapsed = 0;
        remaining = 0;
        left = replicate 32 0;
        positions = replicate 8 0;
      };
  lent = F-first.lent;
}

-- 16,384 instructions are judged as far as the state, 2,048 schedule rows as far as the first of them; one more is 1
lent-most : ((advance_answer (lending 16384 0)).answer.number ≡ 21) × ((advance_answer (lending 1 2048)).answer.number ≡ 13)
unfolding computed
lent-most = (refl, refl)

lent-more : ((advance_answer (lending 16385 0)).answer.number ≡ 1) × ((advance_answer (lending 1 2049)).answer.number ≡ 1)
unfolding computed
lent-more = (refl, refl)
