-- Demand 3, first half, holds of the definitions: a supplier's schedule code is accepted exactly where every fair run keeps to
-- its windows and terminations; the place is that of the worst-case run; a shorter run is dominated; other suppliers do not matter.
use Prim.Native.Nat.{ℕ, zero, suc, ◌≤◌, ◌<◌}
use mathlib.Core.Path.{◌≡◌, refl, sym, ap, subst, ◌∙◌, fun_ext}
use mathlib.Core.Bool.{true, cond}
use mathlib.Core.List.{List}
use mathlib.Core.Logic.Iff
use mathlib.Core.Logic.{inl, inr, ⊎_elim, ◌↔◌}
use native.Mathlib.Omega.{arith}
use lib.Dec.{eqb}
use lib.IntN.{ℤ}
use lib.ListN.{length}
use borrow.Author.Tests.{eqb-true, eq-eqb}
use Rattle.theory.specs.Rows.{placeless}
use Rattle.theory.specs.Verdict.{accepted_number, or_else, rows_answer, OneOf, Keep}
use Rattle.theory.specs.declared.Answer.{Answer}
use Rattle.theory.proofs.Bools.{iff, is_true}
use Rattle.theory.proofs.Members.{Has, has-those}
use Rattle.cells.specs.Cell.{index_of}
use Rattle.cells.specs.Limits.{max_part}
use Rattle.cells.specs.Refusals.{shape_refused, schedule_refused, outside_refused, late_refused}
use Rattle.program.specs.Tables.{tables, mode_count, task_supplier, task_worst}
use Rattle.program.specs.Units.{row_misses, is_multiple, units}
use Rattle.program.specs.Program.{program_of}
use Rattle.rules.specs.Shape.{bad_slice}
use Rattle.runs.specs.Windows.{window_count, window_supplier, window_mode, window_from, window_to, in_window, InWindow}
use Rattle.runs.specs.Schedule.{schedule_width}
use Rattle.runs.specs.Round.{Choice, Good, WithinWorst, worst_case, Break, none, outside, late, worst_break, nothing}
use Rattle.runs.proofs.Windows.{in-window-says}
use Rattle.runs.proofs.Tick.{tick-runs}
use Rattle.runs.proofs.Dominated.{Any, any-rows, unit-dominated}
use Rattle.runs.proofs.First.{judge-exactly}
use Rattle.runs.proofs.Exactly.{no-break-exactly}
use Rattle.suppliers.specs.Windows.{windows_verdict}
use Rattle.suppliers.specs.Supplier.{Asked, supplier_of, course_of, answer_of, answer_from, judged, part_verdict, part_answer, part_rules, supplier_verdict}
use Rattle.suppliers.proofs.Modes.{AllGood, BreaksFirst, answer-good, answer-break}
use Rattle.suppliers.proofs.Accepted.{part-some-time, part-after, part-answer-after}
use Rattle.suppliers.proofs.Judged.{judged-modes}
use Rattle.suppliers.proofs.Answers.{not-of-run, judged-accepted, refused-exactly, judged-exactly, only-these}
use Rattle.suppliers.proofs.Tasks.{with_tasks, tests-tasks, part-tasks, break-tasks}
use Rattle.demands.specs.Supplier.{BreaksAt, SupplierExact, shorter, longer, Domination, Window, own_windows, Independent}
use Rattle.demands.proofs.Calls.{part-first-at, part-kept}

module _ (L : Asked) (a : part_verdict L ≡ accepted_number) where
  -- no run breaks exactly where every fair run of every mode is good
  all-good : AllGood (λ m. worst_break (course_of L m) nothing) (mode_count L.tables) 0
      ↔ ((m : ℕ) → m < mode_count L.tables → (c : Choice) → WithinWorst (course_of L m) c → Good (course_of L m) c nothing)
  all-good = (
    λ g m l. (no-break-exactly (course_of L m) nothing (part-some-time L a m l)).0 (g m (omega arith) (omega arith)),
    λ h m _ l. (no-break-exactly (course_of L m) nothing (part-some-time L a m (omega arith))).1 (h m (omega arith)),
  )

  -- the first mode whose run breaks, and its break, are the place
  breaks-at : (m : ℕ) (b : Break) → (b ≡ none → ⊥) → BreaksFirst (λ m. worst_break (course_of L m) nothing) (mode_count L.tables) 0 m b ↔ BreaksAt L m b
  breaks-at m b d = (
    λ w. record {
      declared = omega (arith, w.below);
      lower-good = λ i l. (judge-exactly (course_of L i) (worst_case (course_of L i)) nothing none).0 (w.lower i (omega arith) l);
      first-break = (judge-exactly (course_of L m) (worst_case (course_of L m)) nothing b).0 w.break;
    },
    λ w. record {
      from = omega arith;
      below = omega (arith, w.declared);
      lower = λ i _ l. (judge-exactly (course_of L i) (worst_case (course_of L i)) nothing none).1 (w.lower-good i l);
      break = (judge-exactly (course_of L m) (worst_case (course_of L m)) nothing b).1 w.first-break;
      is-break = d;
    },
  )

-- a shorter run of a unit is dominated
pub domination : Domination
domination C c d k r q h l b =
    let o = any-rows (C.block k) in
    let w = unit-dominated Any C c d k o (λ j _. h j) r q l (λ j _. b j) in
    record {
      further = λ e. (w e).further;
      owes = λ e j. (w e).owes j tt;
      runs-only = λ e. tick-runs Any (C.block k) e (shorter C c d k r q e) (longer C c d k r q e) o (w e);
    }

-- the run is accepted exactly where every fair run of every mode keeps to its windows and terminations
pub good-exactly : (L : Asked) → part_verdict L ≡ accepted_number
    → ((judged L).number ≡ accepted_number)
    ↔ ((m : ℕ) → m < mode_count L.tables → (c : Choice) → WithinWorst (course_of L m) c → Good (course_of L m) c nothing)
good-exactly L a =
    rw (judged-modes L) (Iff.trans (answer-good (λ m. worst_break (course_of L m) nothing) (mode_count L.tables) 0) (all-good L a))

-- the run's break is that of the lowest mode whose worst-case run breaks, and the first in it
break-exactly : (L : Asked) → part_verdict L ≡ accepted_number → (m : ℕ) (b : Break) → (b ≡ none → ⊥)
    → (judged L ≡ answer_of m b) ↔ BreaksAt L m b
break-exactly L a m b d =
    rw (judged-modes L) (Iff.trans (answer-break (λ m. worst_break (course_of L m) nothing) (mode_count L.tables) 0 m b d) (breaks-at L a m b d))

-- what a supplier's verdict answers
pub supplier-exact : (L : Asked) → SupplierExact L
supplier-exact L = record {
  refused = λ x o. Iff.trans (refused-exactly L x o) (part-first-at L x);
  accepted = (
    λ e. let (z, j) = (judged-exactly L (answer_of 0 none) accepts).0 e in ((part-kept L).0 z, (good-exactly L z).0 (ap (λ (a : Answer). a.number) j)),
    λ w.
        let z = (part-kept L).1 w.0 in
        (judged-exactly L (answer_of 0 none) accepts).1 (z, judged-accepted L ((good-exactly L z).1 w.1)),
  );
  outside-at = λ m t. place m (outside t) (λ o. (not-of-run outside_refused o).1 refl) (λ q. absurd (let z : ◌≡◌ {A = ℕ} 0 1 = cc in omega arith));
  late-at = λ m t. place m (late t) (λ o. (not-of-run late_refused o).2 refl) (λ q. absurd (let z : ◌≡◌ {A = ℕ} 0 1 = cc in omega arith));
  only-these = ⊎_elim (λ w. inr (inl w.1)) (⊎_elim (λ e. inl e) (λ r. inr (inr r))) (only-these L);
}
  where
    accepts : OneOf part_rules accepted_number → ⊥
    accepts o = omega (arith, (not-of-run accepted_number o).0)

    place : (m : ℕ) (b : Break) → (OneOf part_rules (answer_of m b).number → ⊥) → (b ≡ none → ⊥)
        → (supplier_verdict L ≡ answer_of m b) ↔ (Keep part_rules L × BreaksAt L m b)
    place m b o d = (
      λ e. let (z, j) = (judged-exactly L (answer_of m b) o).0 e in ((part-kept L).0 z, (break-exactly L z m b d).0 j),
      λ w. let z = (part-kept L).1 w.0 in (judged-exactly L (answer_of m b) o).1 (z, (break-exactly L z m b d).1 w.1),
    )

-- a window has tick t of mode m
abbrev HasTick : ℕ → ℕ → Window → Type 0
HasTick m t w = (w.mode ≡ m) × (w.from ≤ t) × (t < w.to)

-- a tick lies in a window of s exactly where one of the windows of s has it
own-window : (W : List ℤ) (s m t : ℕ) → InWindow W s m t ↔ Has (HasTick m t) (own_windows W s)
own-window W s m t =
    let r = has-those (HasTick m t) (λ i. eqb (window_supplier W i) s) (λ i. record { mode = window_mode W i; from = window_from W i; to = window_to W i }) (window_count W) in (
      λ w. r.1 (w.row, w.in_table, eq-eqb (window_supplier W w.row) s w.owner, (w.has.of-mode, w.has.begun, w.has.not-over)),
      λ h. let (i, l, p, q) = r.0 h in record {
        row = i;
        in_table = l;
        owner = eqb-true (window_supplier W i) s p;
        has = record { of-mode = q.0; begun = q.1; not-over = q.2 };
      },
    )

-- where the windows of s are the same, the same ticks lie in them
window_same : (W X : List ℤ) (s m : ℕ) → own_windows W s ≡ own_windows X s → in_window W s m ≡ in_window X s m
window_same W X s m e = fun_ext (λ t. iff (in_window W s m t) (in_window X s m t) (over W X e t) (over X W (sym e) t))
  where
    over : (W X : List ℤ) → own_windows W s ≡ own_windows X s → (t : ℕ) → in_window W s m t ≡ true → in_window X s m t ≡ true
    over W X e t h =
        is_true (in-window-says X s m t)
        ((own-window X s m t).1 (subst (Has (HasTick m t)) e ((own-window W s m t).0 ((in-window-says W s m t).yes h))))

-- the same part of the same supplier with other tasks and windows
abbrev changed : Asked → List ℤ → List ℤ → Asked
changed L x W = record { tables = with_tasks L.tables x; windows = W; part = L.part; supplier = L.supplier }

-- Only worst-case times and windows of other suppliers differ.
module _ (L : Asked) (x W : List ℤ) (n : length L.tables.tasks ≡ length x)
    (p : (t : ℕ) → task_supplier L.tables t ≡ task_supplier (with_tasks L.tables x) t)
    (q : (t : ℕ) → task_supplier L.tables t ≡ supplier_of L → task_worst L.tables t ≡ task_worst (with_tasks L.tables x) t)
    (w : own_windows L.windows (supplier_of L) ≡ own_windows W (supplier_of L)) where
  judged-same : judged L ≡ judged (changed L x W)
  unfolding units is_multiple row_misses
  judged-same = λ i.
      answer_from (λ m. break-tasks L.tables x (supplier_of L) n p q L.windows W L.part m (window_same L.windows W (supplier_of L) m w) i)
      (length (program_of L.tables).modes) 0

  changed-same : windows_verdict (record { tables = L.tables; windows = L.windows }) ≡ accepted_number
      → windows_verdict (record { tables = with_tasks L.tables x; windows = W }) ≡ accepted_number
      → supplier_verdict L ≡ supplier_verdict (changed L x W)
  unfolding supplier_verdict
  changed-same a b =
      let e : part_verdict L ≡ part_verdict (changed L x W) =
      part-after L a
      ∙ (λ i. or_else (bad_slice schedule_width max_part L.part) shape_refused (or_else (part-tasks L.tables x (supplier_of L) n p q L.part (supplier_of L) i) schedule_refused accepted_number))
      ∙ sym (part-after (changed L x W) b) in
      let f : part_answer L ≡ part_answer (changed L x W) =
      part-answer-after L a
      ∙ (λ i. cond (bad_slice schedule_width max_part L.part) (placeless shape_refused) (rows_answer schedule_refused (tests-tasks L.tables x (supplier_of L) n p q L.part (supplier_of L) i)))
      ∙ sym (part-answer-after (changed L x W) b) in
      λ i. elim (e i) as (λ n. Answer) [ zero ↦ judged-same i | suc n ↦ f i ]

-- other suppliers' worst-case times and windows do not matter
pub independent : Independent
independent L K e f h w a b =
    changed-same L K.tables.tasks K.windows h.tasks h.suppliers h.own-worst
    (w ∙ ap (λ z. own_windows K.windows (index_of z)) (sym f)) a
    (subst (λ A. windows_verdict (record { tables = A.tables; windows = A.windows }) ≡ accepted_number) (sym same) b)
    ∙ ap supplier_verdict same
  where
    same : changed L K.tables.tasks K.windows ≡ K
    same = λ i. record {
      tables = tables (h.ports i) K.tables.tasks (h.task-ports i) (h.drivers i) (h.copies i) (h.modes i) (h.mode-ports i) (h.invocations i) (h.updates i) (h.switches i) (h.start i);
      windows = K.windows;
      part = e i;
      supplier = f i;
    }
