-- The schedule table: supplier, E address, kind (0 dispatch, 1 idle), task, timeout.
-- "The rows at the address of the executed `future` are the block"; where they stand in a sorted schedule.
use Rattle.std.specs.Prelude.{ℕ, suc, ◌*◌, ◌-◌, ◌≤◌, ◌<◌, ◌≡◌, Bool, true, false, ◌&&◌, ◌||◌, List, eqb, ltb, leb, ℤ, take, drop}
use Rattle.theory.specs.Search.{first_from}
use Rattle.theory.specs.Lists.{those, each}
use Rattle.cells.specs.Cell.{rows_in, field_at, named_at}
use Rattle.runs.specs.Tick.{Kind, dispatch, idle, Row}
use Rattle.runs.specs.declared.block.Span.{Span}

abbrev pub schedule_width : ℕ
schedule_width = 5

-- the columns of the schedule table
abbrev pub supplier_column : ℕ
supplier_column = 0

abbrev pub address_column : ℕ
address_column = 1

abbrev pub kind_column : ℕ
kind_column = 2

abbrev pub task_column : ℕ
task_column = 3

abbrev pub timeout_column : ℕ
timeout_column = 4

abbrev pub schedule_count : List ℤ → ℕ
schedule_count S = rows_in schedule_width S

abbrev pub row_supplier : List ℤ → ℕ → ℕ
row_supplier S = field_at schedule_width supplier_column S

abbrev pub row_address : List ℤ → ℕ → ℕ
row_address S = field_at schedule_width address_column S

abbrev pub row_kind : List ℤ → ℕ → ℕ
row_kind S = field_at schedule_width kind_column S

abbrev pub row_task : List ℤ → ℕ → ℕ
row_task S = named_at schedule_width task_column S

abbrev pub row_timeout : List ℤ → ℕ → ℕ
row_timeout S = field_at schedule_width timeout_column S

abbrev pub kind_dispatch : ℕ
kind_dispatch = 0

abbrev pub kind_idle : ℕ
kind_idle = 1

abbrev pub kind_of : ℕ → Kind
kind_of k = elim (eqb k kind_dispatch) [ true ↦ dispatch | false ↦ idle ]

abbrev pub row_of : List ℤ → ℕ → Row
row_of S i = record { kind = kind_of (row_kind S i); job = row_task S i; timeout = row_timeout S i }

-- the block of supplier s at address a, in table order
abbrev pub block_of : List ℤ → ℕ → ℕ → List Row
block_of S s a = those (λ i. eqb (row_supplier S i) s && eqb (row_address S i) a) (row_of S) (schedule_count S) 0

-- the rows of a schedule are sorted by supplier, then address
pub record Sorted (S : List ℤ) : Type 0 where
  pub by-supplier : (j i : ℕ) → j < i → i < schedule_count S → row_supplier S j ≤ row_supplier S i
  pub by_address : (j i : ℕ) → j < i → i < schedule_count S → row_supplier S j ≡ row_supplier S i → row_address S j ≤ row_address S i

-- the rows of a block: all rows of the slice that has it
abbrev pub rows_of : List ℤ → List Row
rows_of B = each (row_of B) (schedule_count B) 0

-- row i of a schedule does not come before supplier s and address a
unfoldable pub reaches : List ℤ → ℕ → ℕ → ℕ → Bool
reaches S s a i = ltb s (row_supplier S i) || (eqb (row_supplier S i) s && leb a (row_address S i))

-- the rows before row n of a schedule come before supplier s and address a
abbrev pub Behind : List ℤ → ℕ → ℕ → ℕ → Type 0
Behind S s a n = (i : ℕ) → i < n → reaches S s a i ≡ false

-- the first row from row `from` on that does not come before supplier s and address a; the number of rows where all do
unfoldable pub reach : List ℤ → ℕ → ℕ → ℕ → ℕ
reach S from s a = first_from (reaches S s a) (schedule_count S - from) from

-- where the block of supplier s at address a stands in a sorted schedule, sought from row `from` on
abbrev pub found : List ℤ → ℕ → ℕ → ℕ → Span
found S from s a = let begin = reach S from s a in record { begin = begin; end = reach S begin s (suc a) }

-- the part of a schedule that has the rows of a span
abbrev pub span_of : List ℤ → Span → List ℤ
span_of S at = take ((at.end - at.begin) * schedule_width) (drop (at.begin * schedule_width) S)
