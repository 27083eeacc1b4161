-- One schedule after another: its rows are the rows of the first and then those of the second, so those that pass a test are too, and rows
-- that fit and are sorted remain so. Assumes that the first is whole rows; of sorted rows, that those of the first are of lower suppliers.
use Prim.Native.Nat.{ℕ, ◌+◌, ◌-◌, ◌*◌, ◌≤◌, ◌<◌}
use mathlib.Core.Path.{◌≡◌, sym, ap, ap₂, subst, ◌∙◌}
use mathlib.Core.Bool.{Bool}
use mathlib.Core.List.{List, ◌++◌}
use mathlib.Core.Logic.{◌⊎◌, inl, inr, ⊎_elim}
use native.Mathlib.Omega.{arith}
use native.Mathlib.Decide.{dec_lt}
use lib.IntN.{ℤ, pos}
use lib.ListN.{length, length-append, get_or-append}
use lib.Seq.{get_or-append-add}
use Rattle.theory.specs.Lists.{those}
use Rattle.theory.proofs.Lists.{those-split, those-moved}
use Rattle.cells.specs.Cell.{cell_at, index_of, num_at, name_of, name_at}
use Rattle.cells.specs.Limits.{suppliers}
use Rattle.program.specs.Tables.{Tables, task_count, task_supplier}
use Rattle.code.specs.Compile.{listing_of, delay_at}
use Rattle.runs.specs.Schedule.{schedule_width, supplier_column, address_column, kind_column, task_column, timeout_column, schedule_count}
use Rattle.runs.specs.Schedule.{row_supplier, row_address, row_kind, row_task, row_timeout, kind_of, row_of, Sorted}
use Rattle.suppliers.specs.Schedule.{RowFits, Rows}

-- row i of S has the cells of row j of R
abbrev pub SameRow : List ℤ → ℕ → List ℤ → ℕ → Type 0
SameRow S i R j = (c : ℕ) → c < schedule_width → cell_at S (i * schedule_width + c) ≡ cell_at R (j * schedule_width + c)

module _ (S : List ℤ) (i : ℕ) (R : List ℤ) (j : ℕ) (h : SameRow S i R j) where
  -- rows that have the same cells have the same supplier
  pub same-supplier : row_supplier S i ≡ row_supplier R j
  unfolding num_at
  same-supplier = ap index_of (h supplier_column (omega arith))

  -- rows that have the same cells have the same address
  pub same_address : row_address S i ≡ row_address R j
  unfolding num_at
  same_address = ap index_of (h address_column (omega arith))

  -- rows that have the same cells have the same kind
  same_kind : row_kind S i ≡ row_kind R j
  unfolding num_at
  same_kind = ap index_of (h kind_column (omega arith))

  -- rows that have the same cells have the same task
  same-task : row_task S i ≡ row_task R j
  unfolding name_at num_at
  same-task = ap (λ z. name_of (index_of z)) (h task_column (omega arith))

  -- rows that have the same cells have the same timeout
  same-timeout : row_timeout S i ≡ row_timeout R j
  unfolding num_at
  same-timeout = ap index_of (h timeout_column (omega arith))

  -- rows that have the same cells are the same to a tick
  pub same_row : row_of S i ≡ row_of R j
  same_row = λ k. record { kind = kind_of (same_kind k); job = same-task k; timeout = same-timeout k }

  -- a row that has the cells of a row that fits fits too
  same-fits : (T : Tables) → RowFits T R j → RowFits T S i
  same-fits T f = record {
    supplier = subst (λ n. n < suppliers) (sym same-supplier) f.supplier;
    action = ⊎_elim
        (λ d. inl (record {
          kind = same_kind ∙ d.kind;
          task = subst (λ n. n < task_count T) (sym same-task) d.task;
          own = ap (task_supplier T) same-task ∙ d.own ∙ sym same-supplier;
        }))
        (λ d. inr (record { kind = same_kind ∙ d.kind; task = same-task ∙ d.task })) f.action;
    delay = f.delay;
    holds-future = ap (delay_at (listing_of T)) same_address ∙ f.holds-future;
    timeout = subst (λ n. n ≤ f.delay) (sym same-timeout) f.timeout;
  }

-- row i of ys after n whole rows xs is a row of xs or of ys
abbrev pub FromEither : List ℤ → List ℤ → ℕ → ℕ → Type 0
FromEither xs ys n i =
    ((i < schedule_count xs) × SameRow (xs ++ ys) i xs i) ⊎ ((k : ℕ) × (i ≡ n + k) × (k < schedule_count ys) × SameRow (xs ++ ys) i ys k)

module _ (xs ys : List ℤ) (n : ℕ) (e : length xs ≡ n * schedule_width) where
  -- the first schedule has n rows
  pub first_count : schedule_count xs ≡ n
  first_count = omega arith

  -- both schedules together have as many rows as each has
  pub appended-count : schedule_count (xs ++ ys) ≡ n + schedule_count ys
  appended-count = omega (arith, length-append xs ys)

  -- a row before the end of the first schedule is a row of the first
  row_first : (i : ℕ) → i < n → SameRow (xs ++ ys) i xs i
  row_first i l c m = get_or-append xs ys (pos 0) (i * schedule_width + c) (omega arith)

  -- a row after the end of the first schedule is a row of the second
  row-second : (i k : ℕ) → i ≡ n + k → SameRow (xs ++ ys) i ys k
  row-second i k q c m =
      let z : i * schedule_width + c ≡ length xs + (k * schedule_width + c) = omega arith in
      ap (cell_at (xs ++ ys)) z ∙ get_or-append-add xs ys (k * schedule_width + c) (pos 0)

  -- a row of both together is a row of the first or of the second
  pub row-either : (i : ℕ) → i < schedule_count (xs ++ ys) → FromEither xs ys n i
  row-either i l = go (dec_lt i n)
    where
      go : Dec (i < n) → FromEither xs ys n i
      go (yes m) = inl (omega (arith, first_count), row_first i m)
      go (no m) =
          let q : i ≡ n + (i - n) = omega arith in
          inr (i - n, q, omega (arith, appended-count), row-second i (i - n) q)

  -- the rows that pass a test that asks for a row's cells alone are those of the first, and then those of the second
  pub appended-those : {A : Type 0} (p : List ℤ → ℕ → Bool) (row : List ℤ → ℕ → A)
      → ((S : List ℤ) (i : ℕ) (R : List ℤ) (j : ℕ) → SameRow S i R j → (p S i ≡ p R j) × (row S i ≡ row R j))
      → those (p (xs ++ ys)) (row (xs ++ ys)) (schedule_count (xs ++ ys)) 0
      ≡ those (p xs) (row xs) (schedule_count xs) 0 ++ those (p ys) (row ys) (schedule_count ys) 0
  appended-those {A} p row same =
      let all : ℕ → ℕ → List A = those (p (xs ++ ys)) (row (xs ++ ys)) in
      ap (λ k. all k 0) (appended-count ∙ ap (λ k. k + schedule_count ys) (sym first_count))
      ∙ those-split (p (xs ++ ys)) (row (xs ++ ys)) (schedule_count xs) (schedule_count ys) 0
      ∙ ap₂ (λ (a b : List A). a ++ b)
      (those-moved (p (xs ++ ys)) (p xs) (row (xs ++ ys)) (row xs) (schedule_count xs) 0 0
      (λ k l. same (xs ++ ys) (0 + k) xs (0 + k) (row_first (0 + k) (omega (arith, first_count)))))
      (those-moved (p (xs ++ ys)) (p ys) (row (xs ++ ys)) (row ys) (schedule_count ys) (0 + schedule_count xs) 0
      (λ k l. same (xs ++ ys) (0 + schedule_count xs + k) ys (0 + k) (row-second (0 + schedule_count xs + k) (0 + k) (omega (arith, first_count)))))

  -- both together are rows that fit and are sorted, where each are so and those of the first are of lower suppliers
  pub appended-rows : (T : Tables) → Rows T xs → Rows T ys
      → ((i j : ℕ) → i < schedule_count xs → j < schedule_count ys → row_supplier xs i < row_supplier ys j) → Rows T (xs ++ ys)
  appended-rows T f g lower = record {
    each = λ i l.
        ⊎_elim (λ w. same-fits (xs ++ ys) i xs i w.1 T (f.each i w.0))
        (λ w. same-fits (xs ++ ys) i ys w.0 w.3 T (g.each w.0 w.2)) (row-either i l);
    sorted = record { by-supplier = λ j i l m. (ordered j i l m).0; by_address = λ j i l m. (ordered j i l m).1 };
  }
    where
      supplier : (i : ℕ) (R : List ℤ) (j : ℕ) → SameRow (xs ++ ys) i R j → row_supplier (xs ++ ys) i ≡ row_supplier R j
      supplier i R j = same-supplier (xs ++ ys) i R j

      address : (i : ℕ) (R : List ℤ) (j : ℕ) → SameRow (xs ++ ys) i R j → row_address (xs ++ ys) i ≡ row_address R j
      address i R j = same_address (xs ++ ys) i R j

      Ordered : ℕ → ℕ → Type 0
      Ordered j i =
          (row_supplier (xs ++ ys) j ≤ row_supplier (xs ++ ys) i)
          × (row_supplier (xs ++ ys) j ≡ row_supplier (xs ++ ys) i → row_address (xs ++ ys) j ≤ row_address (xs ++ ys) i)

      -- two rows that are rows of one sorted schedule are in order
      within : (R : List ℤ) → Sorted R → (j i j' i' : ℕ) → SameRow (xs ++ ys) j R j' → SameRow (xs ++ ys) i R i'
          → j' < i' → i' < schedule_count R → Ordered j i
      within R o j i j' i' a b l m = (
        omega (arith, supplier j R j' a, supplier i R i' b, o.by-supplier j' i' l m),
        λ q. omega (arith, address j R j' a, address i R i' b, o.by_address j' i' l m (sym (supplier j R j' a) ∙ q ∙ supplier i R i' b)),
      )

      ordered : (j i : ℕ) → j < i → i < schedule_count (xs ++ ys) → Ordered j i
      ordered j i l m = go (row-either j (omega arith)) (row-either i m)
        where
          go : FromEither xs ys n j → FromEither xs ys n i → Ordered j i
          go (inl a) (inl b) = within xs f.sorted j i j i a.1 b.1 l b.0
          go (inl a) (inr b) =
              let s = supplier j xs j a.1 in
              let t = supplier i ys b.0 b.3 in
              let d = lower j b.0 a.0 b.2 in
              (omega arith, λ q. absurd (omega arith))
          go (inr a) (inl b) = absurd (omega (arith, first_count, a.1, b.0))
          go (inr a) (inr b) = within ys g.sorted j i a.0 b.0 a.3 b.3 (omega (arith, a.1, b.1)) b.2
