-- The text that the shipped program reads: a number a line, the start mode, then for each table from ports to switches its row
-- count and rows. It is judged from the front: a count outside 0..limit decides at once.
use Rattle.std.specs.Prelude.{ℕ, zero, suc, ◌*◌, true, false, List, [], ◌∷◌, eqb, leb, ℤ, pos, negsuc, get_or}
use Rattle.std.proofs.Math.Option.{Option, none, some}
use Rattle.cells.specs.Limits.{max_ports, max_tasks, max_task_ports, max_drivers, max_copies, max_modes, max_mode_ports, max_invocations}
use Rattle.cells.specs.Limits.{max_updates, max_switches}
use Rattle.program.specs.Tables.{Tables, tables, port_width, task_width, task_port_width, driver_width, copy_width, mode_width, mode_port_width}
use Rattle.program.specs.Tables.{invocation_width, update_width, switch_width}
use Rattle.text.specs.Decimal.{newline, number}

-- a byte in front of the lines of a text
abbrev pub in_front : ℕ → List (List ℕ) → List (List ℕ)
in_front b [] = (b ∷ []) ∷ []
in_front b (l ∷ ls) = (b ∷ l) ∷ ls

-- the lines of a text; the last line end may be missing
abbrev pub lines : List ℕ → List (List ℕ)
lines [] = []
lines (b ∷ bs) = elim (eqb b newline) [ true ↦ [] ∷ lines bs | false ↦ in_front b (lines bs) ]

-- the lines of a text as numbers, none where a line is no number
abbrev pub numbers_of : List (List ℕ) → List (Option ℤ)
numbers_of [] = []
numbers_of (l ∷ ls) = number l ∷ numbers_of ls

-- what reading comes to: the text is bad, a count is out of its limit, or these numbers, and what is left to read
pub data Read (A : Type 0) : Type 0 where
  bad : Read A
  too_many : Read A
  got : A → List (Option ℤ) → Read A

abbrev pub then : {A B : Type 0} → Read A → (A → List (Option ℤ) → Read B) → Read B
then bad f = bad
then too_many f = too_many
then (got a rest) f = f a rest

-- one number is read
abbrev pub one : List (Option ℤ) → Read ℤ
one [] = bad
one (none ∷ rest) = bad
one (some z ∷ rest) = got z rest

-- n numbers are read
abbrev pub several : ℕ → List (Option ℤ) → Read (List ℤ)
several zero rest = got [] rest
several (suc n) rest = then (one rest) (λ z more. then (several n more) (λ zs last. got (z ∷ zs) last))

-- the rows of a table of this width and limit are read, after its row count
abbrev pub table_rows : ℕ → ℕ → ℤ → List (Option ℤ) → Read (List ℤ)
table_rows width limit (negsuc n) rest = too_many
table_rows width limit (pos n) rest = elim (leb n limit) [ true ↦ several (n * width) rest | false ↦ too_many ]

-- a table of this width and limit is read: its row count, then its rows
abbrev pub table : ℕ → ℕ → List (Option ℤ) → Read (List ℤ)
table width limit rest = then (one rest) (table_rows width limit)

-- the shape of a table: how many numbers a row has, and the most rows
pub record Shape : Type 0 where
  pub width : ℕ
  pub limit : ℕ

-- tables of these shapes are read, one after the other
abbrev pub all_of : List Shape → List (Option ℤ) → Read (List (List ℤ))
all_of [] rest = got [] rest
all_of (s ∷ ss) rest = then (table s.width s.limit rest) (λ t more. then (all_of ss more) (λ ts last. got (t ∷ ts) last))

-- the shapes of the ten tables, from ports to switches
abbrev pub shapes : List Shape
shapes =
    record { width = port_width; limit = max_ports }
    ∷ record { width = task_width; limit = max_tasks }
    ∷ record { width = task_port_width; limit = max_task_ports }
    ∷ record { width = driver_width; limit = max_drivers }
    ∷ record { width = copy_width; limit = max_copies }
    ∷ record { width = mode_width; limit = max_modes }
    ∷ record { width = mode_port_width; limit = max_mode_ports }
    ∷ record { width = invocation_width; limit = max_invocations }
    ∷ record { width = update_width; limit = max_updates }
    ∷ record { width = switch_width; limit = max_switches }
    ∷ []

-- the ten tables that were read, by their place
abbrev pub placed : ℤ → List (List ℤ) → Tables
placed start ts =
    tables (get_or ts 0 []) (get_or ts 1 []) (get_or ts 2 []) (get_or ts 3 []) (get_or ts 4 []) (get_or ts 5 []) (get_or ts 6 []) (get_or ts 7 [])
    (get_or ts 8 []) (get_or ts 9 []) start

-- the end of a text: nothing may follow the last row
abbrev pub ended : Tables → List (Option ℤ) → Read Tables
ended T [] = got T []
ended T (z ∷ rest) = bad

-- the program that a text says: the start mode, the ten tables, and nothing after them
abbrev pub program_read : List ℕ → Read Tables
program_read text = then (one (numbers_of (lines text))) (λ start rest. then (all_of shapes rest) (λ ts last. ended (placed start ts) last))
