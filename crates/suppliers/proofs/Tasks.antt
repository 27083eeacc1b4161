-- Tables that differ in their tasks alone, by the worst-case times of other suppliers than s: the listing, the tests of a part of
-- s and the courses of s are the same. Assumes as many tasks, each with the same supplier, and the same times of those of s.
use Prim.Native.Nat.{ℕ, ◌+◌, ◌-◌, ◌/◌, ◌≤◌, ◌<◌}
use mathlib.Core.Path.{◌≡◌, refl, ap, ◌∙◌}
use mathlib.Core.Bool.{true, not, ◌&&◌, ◌||◌}
use mathlib.Core.List.{List, [], ◌∷◌, ◌++◌}
use native.Mathlib.Omega.{arith}
use native.Mathlib.Decide.{dec_lt}
use lib.Dec.{eqb, ltb}
use lib.IntN.{ℤ}
use lib.ListN.{length, get_or-eq_default}
use borrow.Author.Tests.{eqb-true}
use Rattle.theory.specs.Lists.{keep, cat, member}
use Rattle.theory.specs.Rows.{some_bad}
use Rattle.theory.proofs.Lists.{each-length}
use Rattle.theory.proofs.Members.{has-then, has-keep, member-says}
use Rattle.cells.specs.Limits.{suppliers}
use Rattle.program.specs.Tables.{Tables, tables, task_width, task_count, task_supplier, task_worst}
use Rattle.program.specs.Sets.{is_kind}
use Rattle.program.specs.Units.{row_misses, is_multiple, units}
use Rattle.program.specs.Program.{Program, Switch, program_of, task, task_row, mode, entered_unit, next_unit, due_switches, due_tasks}
use Rattle.program.proofs.Decoded.{task-row}
use Rattle.code.specs.Op.{jump}
use Rattle.code.specs.Listing.{call_driver, block_address, entry_address, future_address, head_of, tests_of, body_of, end_of, stubs_of, block_code}
use Rattle.code.specs.Listing.{listing}
use Rattle.code.specs.Compile.{listing_of, delay_at}
use Rattle.runs.specs.Schedule.{row_supplier, row_address, row_kind, row_task, row_timeout, kind_dispatch}
use Rattle.runs.specs.Windows.{in_window}
use Rattle.runs.specs.Round.{Course, worst_case, worst_break, nothing}
use Rattle.runs.proofs.Same.{SameCourse, judge-same}
use Rattle.suppliers.specs.Schedule.{in_delay, dispatch_fits, idle_fits, precedes, row_wrong, part_tests_by, part_tests, part_bad}
use Rattle.suppliers.specs.Supplier.{own_tasks, course}

-- the same tables with other tasks
abbrev pub with_tasks : Tables → List ℤ → Tables
with_tasks T x = tables T.ports x T.task_ports T.drivers T.copies T.modes T.mode_ports T.invocations T.updates T.switches T.start

-- a listing uses only start mode, sensors and modes
abbrev other : Program → Program → Program
other P Q = record { start = P.start; first = Q.first; sensors = P.sensors; tasks = Q.tasks; drivers = Q.drivers; modes = P.modes }

stubs-other : (P Q : Program) (k : ℕ) (ws : List Switch) → stubs_of P k ws ≡ stubs_of (other P Q) k ws
stubs-other P Q k [] = refl
stubs-other P Q k (w ∷ ws) = ap (λ l. call_driver w.driver ∷ jump (entry_address P w.target (entered_unit k w)) ∷ l) (stubs-other P Q k ws)

listing-other : (P Q : Program) → listing P ≡ listing (other P Q)
unfolding listing
listing-other P Q = λ i. jump (block_address P P.start 0) ∷ cat (λ m. cat (λ k. block m k i) (mode P m).units) (length P.modes)
  where
    block : (m k : ℕ) → block_code P m k ≡ block_code (other P Q) m k
    block m k = λ i.
        head_of P (mode P m) k
        ++ (tests_of (due_switches (mode P m) k) (2 + future_address P m k)
        ++ (body_of (mode P m) k
        ++ (end_of P m k
        ++ stubs-other P Q k (due_switches (mode P m) k) i)))

-- the listing of the tables uses nothing of their tasks
pub listing-tasks : (T : Tables) (x : List ℤ) → listing_of T ≡ listing_of (with_tasks T x)
unfolding listing_of units is_multiple row_misses is_kind
listing-tasks T x = listing-other (program_of T) (program_of (with_tasks T x))

-- a task that no row declares has supplier 0, no time and no ports
no-task : (T : Tables) (t : ℕ) → task_count T ≤ t → task (program_of T) t ≡ record { supplier = 0; worst = 0; takes = []; gives = [] }
no-task T t l = get_or-eq_default (program_of T).tasks (record { supplier = 0; worst = 0; takes = []; gives = [] }) {n = t} (rw (each-length (task_row T) (task_count T) 0) l)

module _ (T : Tables) (x : List ℤ) (s : ℕ) (as_many : length T.tasks ≡ length x)
    (same-supplier : (t : ℕ) → task_supplier T t ≡ task_supplier (with_tasks T x) t)
    (same-worst : (t : ℕ) → task_supplier T t ≡ s → task_worst T t ≡ task_worst (with_tasks T x) t) where
  count : task_count T ≡ task_count (with_tasks T x)
  count = ap (λ n. n / task_width) as_many

  -- number 13 tests the rows of a part with the other tasks as with these
  pub tests-tasks : (S : List ℤ) (r : ℕ) → part_tests T S r ≡ part_tests (with_tasks T x) S r
  unfolding row_wrong dispatch_fits
  tests-tasks S r = λ k. part_tests_by (λ i. wrong i k) S r
    where
      wrong : (i : ℕ) → row_wrong T (listing_of T) S i ≡ row_wrong (with_tasks T x) (listing_of (with_tasks T x)) S i
      wrong i = λ k.
          not
          (ltb (row_supplier S i) suppliers
          && ((eqb (row_kind S i) kind_dispatch && ltb (row_task S i) (count k) && eqb (same-supplier (row_task S i) k) (row_supplier S i)) || idle_fits S i)
          && in_delay (delay_at (listing-tasks T x k) (row_address S i)) (row_timeout S i))
          || precedes S i (i - 1)

  -- number 13 says the same of a part with the other tasks
  pub part-tasks : (S : List ℤ) (r : ℕ) → part_bad T S r ≡ part_bad (with_tasks T x) S r
  unfolding part_bad
  part-tasks S r = ap some_bad (tests-tasks S r)

  -- a task has the same supplier, and one of s the same worst-case time
  task-same : (t : ℕ) → ((task (program_of T) t).supplier ≡ (task (program_of (with_tasks T x)) t).supplier)
      × ((task (program_of T) t).supplier ≡ s → (task (program_of T) t).worst ≡ (task (program_of (with_tasks T x)) t).worst)
  task-same t = go (dec_lt t (task_count T))
    where
      go : Dec (t < task_count T) → ((task (program_of T) t).supplier ≡ (task (program_of (with_tasks T x)) t).supplier)
          × ((task (program_of T) t).supplier ≡ s → (task (program_of T) t).worst ≡ (task (program_of (with_tasks T x)) t).worst)
      go (yes l) = rw (task-row T t l, task-row (with_tasks T x) t (omega (arith, count))) (same-supplier t, same-worst t)
      go (no l) = rw (no-task T t (omega arith), no-task (with_tasks T x) t (omega (arith, count))) (refl, λ e. refl)

  -- the tasks of s among some tasks are the same
  own_same : (ts : List ℕ) → own_tasks (program_of T) s ts ≡ own_tasks (program_of (with_tasks T x)) s ts
  own_same ts = λ i. keep (λ t. eqb ((task-same t).0 i) s) ts

  own-supplier : (ts : List ℕ) (t : ℕ) → member t (own_tasks (program_of T) s ts) ≡ true → (task (program_of T) t).supplier ≡ s
  own-supplier ts t h =
      has-then (λ u. (eqb (task (program_of T) u).supplier s ≡ true) × (t ≡ u)) ts
      (λ u w. ap (λ u. (task (program_of T) u).supplier) w.1 ∙ eqb-true (task (program_of T) u).supplier s w.0)
      ((has-keep (λ u. t ≡ u) (λ u. eqb (task (program_of T) u).supplier s) ts).0 ((member-says t (own_tasks (program_of T) s ts)).yes h))

  -- the course of s in a mode is the same but for worst-case times, where its windows are
  course-same : (W X S : List ℤ) (m : ℕ) → in_window W s m ≡ in_window X s m
      → SameCourse (course (program_of T) W S s m) (course (program_of (with_tasks T x)) X S s m)
  unfolding units is_multiple row_misses is_kind
  course-same W X S m w = record {
    ticks = refl;
    units = refl;
    block = refl;
    released = λ i k. own_same (due_tasks (mode (program_of T) m) k) i;
    ending = λ i k. own_same (due_tasks (mode (program_of T) m) (next_unit (mode (program_of T) m) k)) i;
    window = w;
  }

  -- the first break of the worst-case run of s is the same
  pub break-tasks : (W X S : List ℤ) (m : ℕ) → in_window W s m ≡ in_window X s m
      → worst_break (course (program_of T) W S s m) nothing ≡ worst_break (course (program_of (with_tasks T x)) X S s m) nothing
  unfolding units is_multiple row_misses
  break-tasks W X S m w =
      judge-same C D (course-same W X S m w) (worst_case C) (worst_case D)
      (λ k t h. (task-same t).1 (own-supplier (due_tasks (mode (program_of T) m) k) t h)) C.units 0 nothing
    where
      C : Course
      C = course (program_of T) W S s m

      D : Course
      D = course (program_of (with_tasks T x)) X S s m
