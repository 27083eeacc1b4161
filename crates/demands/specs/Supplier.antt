-- Demand 3, first half, as statements: a supplier's schedule code is accepted exactly when, in every mode and for every
-- choice of execution times, it stays in its windows and ends in time; the place; why the worst case decides; the independence
-- of other suppliers.
-- Proved of these definitions in proofs/Supplier.antt.
use Rattle.std.specs.Prelude.{ℕ, ◌≤◌, ◌<◌, ◌≡◌, true, List, ◌⊎◌, ◌↔◌, eqb, ℤ, length}
use Rattle.theory.specs.Lists.{those, member}
use Rattle.theory.specs.Rows.{placeless}
use Rattle.theory.specs.Verdict.{accepted_number, OneOf, Keep, FirstAt}
use Rattle.theory.specs.declared.Answer.{Answer}
use Rattle.cells.specs.Refusals.{outside_refused, late_refused}
use Rattle.program.specs.Tables.{Tables, mode_count, task_supplier, task_worst}
use Rattle.runs.specs.Tick.{left_of, Place, runs_in}
use Rattle.runs.specs.Windows.{window_count, window_supplier, window_mode, window_from, window_to}
use Rattle.runs.specs.Round.{Course, Choice, unit_start, going, Good, WithinWorst, worst_case, Break, outside, late, FirstBreak, nothing}
use Rattle.suppliers.specs.Windows.{windows_verdict}
use Rattle.suppliers.specs.Supplier.{Asked, supplier_of, course_of, windowed_of, part_rules, at_tick, supplier_verdict}

-- The place is that of the run with all worst-case times: the lowest mode whose run breaks, and the first break in it
pub record BreaksAt (L : Asked) (m : ℕ) (b : Break) : Type 0 where
  pub declared : m < mode_count L.tables
  pub lower-good : (i : ℕ) → i < m → Good (course_of L i) (worst_case (course_of L i)) nothing
  pub first-break : FirstBreak (course_of L m) (worst_case (course_of L m)) nothing b

-- What a supplier's verdict answers, the place included
pub record SupplierExact (L : Asked) : Type 0 where
  -- the answer is a number of its rules, 1 to 13 or 24, with its place, exactly where that rule is the first that is broken
  pub refused : (x : Answer) → OneOf part_rules x.number → (supplier_verdict L ≡ x) ↔ FirstAt part_rules L x
  -- where program and windows are accepted and the part is well-formed, it is accepted exactly when, in every mode, reached or not, and
  -- for every choice of an execution time from 1 to the worst case for every release, every tick in which the supplier runs lies in
  -- one of its windows and every task has ended at each of its termination instants
  pub accepted : (supplier_verdict L ≡ placeless accepted_number)
      ↔ (Keep part_rules L
      × ((m : ℕ) → m < mode_count L.tables → (c : Choice) → WithinWorst (course_of L m) c → Good (course_of L m) c nothing))
  -- the answer is 14 or 15 exactly at its place
  pub outside-at : (m t : ℕ)
      → (supplier_verdict L ≡ at_tick outside_refused m t) ↔ (Keep part_rules L × BreaksAt L m (outside t))
  pub late-at : (m t : ℕ)
      → (supplier_verdict L ≡ at_tick late_refused m t) ↔ (Keep part_rules L × BreaksAt L m (late t))
  -- there is no other answer
  pub only-these : (supplier_verdict L ≡ placeless accepted_number)
      ⊎ (OneOf part_rules (supplier_verdict L).number
      ⊎ (((supplier_verdict L).number ≡ outside_refused) ⊎ ((supplier_verdict L).number ≡ late_refused)))

-- The worst case decides because a shorter run is dominated. Two runs of unit k of a course, of choice c from the remaining times r
-- and of choice d from q:
module _ (C : Course) (c d : Choice) (k : ℕ) (r q : List ℕ) where
  -- the place of the shorter run after e ticks of the unit, and that of the longer
  abbrev pub shorter : ℕ → Place
  shorter e = going (C.block k) (unit_start C c k r) e

  abbrev pub longer : ℕ → Place
  longer e = going (C.block k) (unit_start C d k q) e

  -- after every tick the shorter run is at least as far and owes at most as much, and it runs only when the longer does
  pub record DominatedUnit : Type 0 where
    pub further : (e : ℕ) → (longer e).position ≤ (shorter e).position
    pub owes : (e j : ℕ) → left_of (shorter e).left j ≤ left_of (longer e).left j
    pub runs-only : (e : ℕ) → runs_in (C.block k) e (shorter e) ≡ true → runs_in (C.block k) e (longer e) ≡ true

-- a shorter run of a unit is dominated, from any remaining times at the unit's start, not only from none
abbrev pub Domination : Type 0
Domination =
    (C : Course) (c d : Choice) (k : ℕ) (r q : List ℕ)
    → ((j : ℕ) → member j (C.released k) ≡ true → c k j ≤ d k j)
    → length r ≤ length q
    → ((j : ℕ) → left_of r j ≤ left_of q j)
    → DominatedUnit C c d k r q

-- Two programs that differ only in the worst-case times of other suppliers than s
pub record SameFor (s : ℕ) (T U : Tables) : Type 0 where
  pub ports : T.ports ≡ U.ports
  pub tasks : length T.tasks ≡ length U.tasks
  pub suppliers : (t : ℕ) → task_supplier T t ≡ task_supplier U t
  pub own-worst : (t : ℕ) → task_supplier T t ≡ s → task_worst T t ≡ task_worst U t
  pub task-ports : T.task_ports ≡ U.task_ports
  pub drivers : T.drivers ≡ U.drivers
  pub copies : T.copies ≡ U.copies
  pub modes : T.modes ≡ U.modes
  pub mode-ports : T.mode_ports ≡ U.mode_ports
  pub invocations : T.invocations ≡ U.invocations
  pub updates : T.updates ≡ U.updates
  pub switches : T.switches ≡ U.switches
  pub start : T.start ≡ U.start

-- a window of a supplier; and the windows of supplier s, in table order
pub record Window : Type 0 where
  pub mode : ℕ
  pub from : ℕ
  pub to : ℕ

abbrev pub own_windows : List ℤ → ℕ → List Window
own_windows W s =
    those (λ i. eqb (window_supplier W i) s) (λ i. record { mode = window_mode W i; from = window_from W i; to = window_to W i })
    (window_count W) 0

-- The verdict, place included, is the same when only other suppliers' worst-case times and windows change, both passing 1 to 12 and 24
abbrev pub Independent : Type 0
Independent =
    (L K : Asked) → L.part ≡ K.part → L.supplier ≡ K.supplier
    → SameFor (supplier_of L) L.tables K.tables
    → own_windows L.windows (supplier_of L) ≡ own_windows K.windows (supplier_of K)
    → windows_verdict (windowed_of L) ≡ accepted_number
    → windows_verdict (windowed_of K) ≡ accepted_number
    → supplier_verdict L ≡ supplier_verdict K
