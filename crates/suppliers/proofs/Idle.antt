-- A supplier without tasks and rows is accepted: nothing of it runs, and nothing of it has to end.
-- Assumes that the windows verdict is 0 and that the supplier is one of the suppliers.
use Prim.Native.Nat.{ℕ, zero, suc, ◌<◌}
use mathlib.Core.Path.{◌≡◌, refl, sym, ap, ◌∙◌}
use mathlib.Core.Bool.{true, false}
use mathlib.Core.List.{List, []}
use native.Mathlib.Omega.{arith}
use lib.Dec.{eqb}
use lib.IntN.{ℤ}
use lib.ListN.{drop}
use Rattle.theory.specs.Lists.{member}
use Rattle.theory.specs.Rows.{placeless}
use Rattle.theory.specs.Verdict.{accepted_number, or_else}
use Rattle.theory.proofs.Bools.{clash, bars-iff, says_eq, says-itself, ◌and◌}
use Rattle.theory.proofs.Members.{member-keep}
use Rattle.cells.specs.Limits.{suppliers, max_part}
use Rattle.cells.specs.Refusals.{schedule_refused}
use Rattle.program.specs.Tables.{Tables, mode_count, task_count, task_supplier}
use Rattle.program.specs.Program.{Program, Task, program_of, task, mode, next_unit, due_tasks}
use Rattle.program.proofs.Decoded.{task-row}
use Rattle.rules.specs.Verdict.{program_verdict}
use Rattle.rules.proofs.Shape.{slice-bars}
use Rattle.rules.proofs.Accepted.{due-declared}
use Rattle.runs.specs.Tick.{runs, act, Place, moved, runs_in}
use Rattle.runs.specs.Schedule.{schedule_width}
use Rattle.runs.specs.Round.{alone, Good, worst_case, nothing}
use Rattle.suppliers.specs.Windows.{windows_verdict}
use Rattle.suppliers.specs.Schedule.{Part}
use Rattle.suppliers.specs.Supplier.{Asked, supplier_of, own_tasks, course, windowed_of, part_verdict, supplier_verdict}
use Rattle.suppliers.proofs.Schedule.{part-bars}
use Rattle.suppliers.proofs.Accepted.{windows-accepted, part-after}
use Rattle.suppliers.proofs.Judged.{good-accepted}

-- a part without rows passes number 13
no_rows : (T : Tables) (s : ℕ) → s < suppliers → Part T [] s
no_rows T s l = record {
  rows = record {
    each = λ i b. absurd (omega arith);
    sorted = record { by-supplier = λ j i b c. absurd (omega arith); by_address = λ j i b c. absurd (omega arith) };
  };
  own = λ i b. absurd (omega arith);
  supplier = l;
}

-- without rows nothing runs
nothing-runs : (e : ℕ) (p : Place) → runs_in [] e p ≡ true → ⊥
nothing-runs e p = go (moved [] e p)
  where
    go : (n : ℕ) → runs (act (drop n [])) ≡ true → ⊥
    go zero r = clash {b = false} r refl
    go (suc n) r = clash {b = false} r refl

module _ (T : Tables) (W : List ℤ) (s : ℕ) (accepted : program_verdict T ≡ accepted_number)
    (no-tasks : (t : ℕ) → t < task_count T → task_supplier T t ≡ s → ⊥) where
  abbrev P : Program
  P = program_of T

  -- no task of the supplier is due
  none-due : (m k t : ℕ) → m < mode_count T → member t (own_tasks P s (due_tasks (mode P m) k)) ≡ true → ⊥
  none-due m k t l e =
      let due = due_tasks (mode P m) k in
      let (o, d) = (says_eq (task P t).supplier s and says-itself (member t due)).yes (sym (member-keep (λ t. eqb (task P t).supplier s) t due) ∙ e) in
      let declared = due-declared T accepted m k t l d in
      no-tasks t declared (sym (ap (λ (K : Task). K.supplier) (task-row T t declared)) ∙ o)

  -- the run of a supplier of which no task is due, and that has no rows, is good in every mode
  idle-good : (m : ℕ) → m < mode_count T → Good (course P W [] s m) (worst_case (course P W [] s m)) nothing
  idle-good m l = record {
    inside = λ k e _ _ r. absurd (nothing-runs e (alone (course P W [] s m) (worst_case (course P W [] s m)) nothing k e) r);
    ends = λ k t _ e. absurd (none-due m (next_unit (mode P m) k) t l e);
  }

-- a supplier without tasks and rows is accepted
pub idle-accepted : (L : Asked) → windows_verdict (windowed_of L) ≡ accepted_number → supplier_of L < suppliers → L.part ≡ []
    → ((t : ℕ) → t < task_count L.tables → task_supplier L.tables t ≡ supplier_of L → ⊥)
    → supplier_verdict L ≡ placeless accepted_number
idle-accepted L w l e f =
    ap supplier_verdict same
    ∙ good-accepted idle passes (idle-good L.tables L.windows (supplier_of L) (windows-accepted (windowed_of L) w) f)
  where
    idle : Asked
    idle = record { tables = L.tables; windows = L.windows; part = []; supplier = L.supplier }

    same : L ≡ idle
    same = λ i. record { tables = L.tables; windows = L.windows; part = e i; supplier = L.supplier }

    passes : part_verdict idle ≡ accepted_number
    passes =
        part-after idle w
        ∙ (λ i. or_else ((bars-iff (slice-bars {A = ℤ} schedule_width max_part [])).1 (0, refl, omega arith) i) 1
        (or_else ((bars-iff (part-bars L.tables [] (supplier_of L))).1 (no_rows L.tables (supplier_of L) l) i) schedule_refused
        accepted_number))
