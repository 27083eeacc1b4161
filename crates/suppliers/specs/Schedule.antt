-- Number 13, schedule: a field out of range; not sorted by supplier, then address; the address holds no `future` of the
-- compiled code; a timeout outside 0..that delay; a dispatch of another supplier's task; in one supplier's part, a row of
-- another; over 256 rows of one supplier in the joined schedule.
use Rattle.std.specs.Prelude.{ℕ, ◌-◌, ◌≤◌, ◌<◌, ◌≡◌, Bool, false, not, ◌&&◌, ◌||◌, List, [], ◌∷◌, ◌⊎◌, eqb, ltb, leb, ℤ, length}
use Rattle.std.proofs.Math.Option.{Option, none, some}
use Rattle.theory.specs.Lists.{those}
use Rattle.theory.specs.Rows.{RowTests, testing, some_bad, RowRules, asking}
use Rattle.cells.specs.Limits.{suppliers, max_part}
use Rattle.program.specs.Tables.{Tables, task_count, task_supplier, schedule_at, supplier_at}
use Rattle.code.specs.Op.{Op}
use Rattle.code.specs.Compile.{listing_of, delay_at}
use Rattle.runs.specs.Schedule.{schedule_count, row_supplier, row_address, row_kind, row_task, row_timeout, kind_dispatch, kind_idle, Sorted}

-- there is a delay, and the timeout is within it
abbrev pub in_delay : Option ℕ → ℕ → Bool
in_delay none timeout = false
in_delay (some d) timeout = leb timeout d

-- there is a delay at address a, and the timeout is within it; it is 0 where there is none
unfoldable pub delay_fits : (ℕ → ℕ) → ℕ → ℕ → Bool
delay_fits delays a timeout = ltb 0 (delays a) && leb timeout (delays a)

-- the delays say of every address and timeout what the listing says
abbrev pub Tabled : Tables → (ℕ → ℕ) → Type 0
Tabled T delays = (a timeout : ℕ) → delay_fits delays a timeout ≡ in_delay (delay_at (listing_of T) a) timeout

-- row i is a dispatch of a declared task of the row's supplier (`dispatch_fits`), or an idle row and has task 0 (`idle_fits`)
unfoldable pub dispatch_fits : Tables → List ℤ → ℕ → Bool
dispatch_fits T S i =
    eqb (row_kind S i) kind_dispatch && ltb (row_task S i) (task_count T) && eqb (task_supplier T (row_task S i)) (row_supplier S i)

unfoldable pub idle_fits : List ℤ → ℕ → Bool
idle_fits S i = eqb (row_kind S i) kind_idle && eqb (row_task S i) 0

-- row i comes before row j in the order of supplier, then address
unfoldable pub precedes : List ℤ → ℕ → ℕ → Bool
precedes S i j =
    ltb (row_supplier S i) (row_supplier S j)
    || (eqb (row_supplier S i) (row_supplier S j) && ltb (row_address S i) (row_address S j))

-- row i is wrong by itself, or comes before the row above it (row 0 - 1 is row 0), where it is said of an address and a timeout
-- whether a `future` stands there and the timeout is within its delay
abbrev pub wrong_row : (ℕ → ℕ → Bool) → Tables → List ℤ → ℕ → Bool
wrong_row within T S i =
    not
    (ltb (row_supplier S i) suppliers
    && (dispatch_fits T S i || idle_fits S i)
    && within (row_address S i) (row_timeout S i))
    || precedes S i (i - 1)

-- row i breaks number 13, by the delays of a listing
unfoldable pub row_wrong : Tables → List Op → List ℤ → ℕ → Bool
row_wrong T code S i = wrong_row (λ a timeout. in_delay (delay_at code a) timeout) T S i

-- number 13 of the part of supplier s, row by row, where it is said which rows are wrong: a row is wrong or of another supplier; after
-- all rows the supplier asked about, who is not 0..7, and is row 0 of its place
abbrev pub part_tests_by : (ℕ → Bool) → List ℤ → ℕ → List RowTests
part_tests_by wrong S s =
    testing schedule_at (schedule_count S) (λ i. wrong i || not (eqb (row_supplier S i) s))
    ∷ testing supplier_at 1 (λ r. leb suppliers s)
    ∷ []

-- number 13 of the part of supplier s, row by row, by the delays of the program's listing
abbrev pub part_tests : Tables → List ℤ → ℕ → List RowTests
part_tests T S s = let code = listing_of T in part_tests_by (row_wrong T code S) S s

unfoldable pub part_bad : Tables → List ℤ → ℕ → Bool
part_bad T S s = some_bad (part_tests T S s)

-- how many rows of a schedule are of supplier s
unfoldable pub row_count : List ℤ → ℕ → ℕ
row_count S s = length (those (λ i. eqb (row_supplier S i) s) (λ i. i) (schedule_count S) 0)

-- row i is past the 256th of its supplier: the row 256 above it has the same supplier, where the rows above it are sorted
unfoldable pub past_part : List ℤ → ℕ → Bool
past_part S i = leb max_part i && eqb (row_supplier S (i - max_part)) (row_supplier S i)

-- number 13 of the joined schedule, row by row, where it is said which rows are wrong: a row is wrong, or past its supplier's 256th
abbrev pub joined_tests_by : (ℕ → Bool) → List ℤ → List RowTests
joined_tests_by wrong S = testing schedule_at (schedule_count S) (λ i. wrong i || past_part S i) ∷ []

-- number 13 of the joined schedule, row by row, by the delays of the program's listing
abbrev pub joined_tests : Tables → List ℤ → List RowTests
joined_tests T S = let code = listing_of T in joined_tests_by (row_wrong T code S) S

unfoldable pub joined_bad : Tables → List ℤ → Bool
joined_bad T S = some_bad (joined_tests T S)

-- What number 13 asks of rows, of a part and of the joined schedule, as claims.
pub record Dispatches (T : Tables) (S : List ℤ) (i : ℕ) : Type 0 where
  pub kind : row_kind S i ≡ kind_dispatch
  pub task : row_task S i < task_count T
  pub own : task_supplier T (row_task S i) ≡ row_supplier S i

pub record Idles (S : List ℤ) (i : ℕ) : Type 0 where
  pub kind : row_kind S i ≡ kind_idle
  pub task : row_task S i ≡ 0

pub record RowFits (T : Tables) (S : List ℤ) (i : ℕ) : Type 0 where
  pub supplier : row_supplier S i < suppliers
  pub action : Dispatches T S i ⊎ Idles S i
  -- the address holds a `future` of the compiled code, and the timeout is 0..its delay
  pub delay : ℕ
  pub holds-future : delay_at (listing_of T) (row_address S i) ≡ some delay
  pub timeout : row_timeout S i ≤ delay

pub record Rows (T : Tables) (S : List ℤ) : Type 0 where
  pub each : (i : ℕ) → i < schedule_count S → RowFits T S i
  pub sorted : Sorted S

pub record Part (T : Tables) (S : List ℤ) (s : ℕ) : Type 0 where
  pub rows : Rows T S
  pub own : (i : ℕ) → i < schedule_count S → row_supplier S i ≡ s
  pub supplier : s < suppliers

pub record Joined (T : Tables) (S : List ℤ) : Type 0 where
  pub rows : Rows T S
  pub few : (s : ℕ) → s < suppliers → row_count S s ≤ max_part

-- row j and the later row i stand in order: by supplier, then address
abbrev pub InOrder : List ℤ → ℕ → ℕ → Type 0
InOrder S j i = (row_supplier S j ≤ row_supplier S i) × (row_supplier S j ≡ row_supplier S i → row_address S j ≤ row_address S i)

-- what rule 13 asks of row i of the part of supplier s: by itself, against the rows before it, and that it is the supplier's own
pub record PartRow (T : Tables) (S : List ℤ) (s i : ℕ) : Type 0 where
  pub itself : RowFits T S i
  pub sorted : (j : ℕ) → j < i → InOrder S j i
  pub own : row_supplier S i ≡ s

-- rule 13 of the part of supplier s, row by row
abbrev pub part_row_rules : Tables → List ℤ → ℕ → List RowRules
part_row_rules T S s = asking schedule_at (schedule_count S) (PartRow T S s) ∷ asking supplier_at 1 (λ r. s < suppliers) ∷ []

-- how many rows before row i are of its supplier
abbrev pub rows_before : List ℤ → ℕ → ℕ
rows_before S i = length (those (λ j. eqb (row_supplier S j) (row_supplier S i)) (λ j. j) i 0)

-- what rule 13 asks of row i of the joined schedule: by itself, against the rows before it, and that it is no 257th row of its supplier
pub record JoinedRow (T : Tables) (S : List ℤ) (i : ℕ) : Type 0 where
  pub itself : RowFits T S i
  pub sorted : (j : ℕ) → j < i → InOrder S j i
  pub few : rows_before S i < max_part

-- rule 13 of the joined schedule, row by row
abbrev pub joined_row_rules : Tables → List ℤ → List RowRules
joined_row_rules T S = asking schedule_at (schedule_count S) (JoinedRow T S) ∷ []
