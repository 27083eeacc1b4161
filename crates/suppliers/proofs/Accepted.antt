-- What has its shape; a supplier's part that is not refused by 1 to 13 or 24: the program is accepted, and every task of it that is
-- released is declared and takes time. Assumes that the verdict on the part is 0; of `windows-accepted` and `part-..-after`, that the windows
-- verdict is; of `own-declared` and `owner-declared`, that the program is accepted; of what has its shape, that number 1 does not apply.
use Prim.Native.Nat.{ℕ, ◌<◌}
use mathlib.Core.Path.{◌≡◌, refl, sym, ap, subst, ◌∙◌}
use mathlib.Core.Bool.{Bool, true, false, ◌&&◌, ◌||◌, cond}
use mathlib.Core.List.{List, [], ◌∷◌, ◌++◌, map}
use native.Mathlib.Omega.{arith}
use lib.Dec.{eqb}
use borrow.Author.Tests.{eq-eqb}
use Rattle.theory.specs.Lists.{member}
use Rattle.theory.specs.Rows.{placeless}
use Rattle.theory.specs.Verdict.{accepted_number, Refusal, or_else, within, first_refusal, or_next, rows_answer}
use Rattle.theory.specs.declared.Answer.{Answer}
use Rattle.theory.proofs.Bools.{neither, says-itself, ◌and◌}
use Rattle.theory.proofs.Verdict.{verdict-clear, verdict-skip, answer-append, clear-answer, one_answer}
use Rattle.theory.proofs.Members.{member-keep}
use Rattle.cells.specs.Limits.{suppliers, max_windows, max_part}
use Rattle.cells.specs.Refusals.{shape_refused, schedule_refused}
use Rattle.program.specs.Tables.{Tables, mode_count, task_count}
use Rattle.program.specs.Program.{Program, Task, program_of, task, mode, due_tasks}
use Rattle.program.proofs.Decoded.{task-row}
use Rattle.rules.specs.Shape.{bad_slice, shape_bad}
use Rattle.rules.specs.Verdict.{table_refusals, program_verdict}
use Rattle.rules.proofs.Accepted.{accepted-fields, due-declared, lent-accepted}
use Rattle.code.specs.Compile.{long_refusal}
use Rattle.runs.specs.Windows.{window_width}
use Rattle.runs.specs.Schedule.{schedule_width}
use Rattle.runs.proofs.Exactly.{SomeTime}
use Rattle.suppliers.specs.Windows.{Windowed, windows_shape_bad, windows_refusal, window_rows_refusals, windows_verdict_refusals}
use Rattle.suppliers.specs.Windows.{windows_verdict}
use Rattle.suppliers.specs.Schedule.{part_tests, part_bad}
use Rattle.suppliers.specs.Supplier.{Asked, supplier_of, own_tasks, course_of, part_shape_bad, windowed_of, part_refusal, own_refusals, part_verdict}
use Rattle.suppliers.specs.Supplier.{part_answer}

-- tables and windows that number 1 passes have their shape; so has a part
pub windows-shaped : (L : Windowed) → windows_shape_bad L ≡ false → shape_bad L.tables ≡ false
unfolding windows_shape_bad
windows-shaped L e = (neither (shape_bad L.tables) (bad_slice window_width max_windows L.windows) e).0

pub part-shaped : (L : Asked) → part_shape_bad L ≡ false → windows_shape_bad (windowed_of L) ≡ false
unfolding part_shape_bad windows_shape_bad
part-shaped L e = (neither (windows_shape_bad (windowed_of L)) (bad_slice schedule_width max_part L.part) e).0

-- windows are accepted only with their program
pub windows-accepted : (L : Windowed) → windows_verdict L ≡ accepted_number → program_verdict L.tables ≡ accepted_number
unfolding windows_verdict
windows-accepted L e =
    lent-accepted (λ (L : Windowed). L.tables) windows_shape_bad (within (λ L. L.tables) long_refusal ∷ window_rows_refusals) L (windows-shaped L) e

-- what the verdict on a part asks between number 1 and number 13
abbrev between : List (Refusal Asked)
between =
    map (within (λ (L : Asked). L.tables)) (table_refusals ++ (long_refusal ∷ []))
    ++ (within windowed_of windows_refusal ∷ [])

-- where the windows verdict is 0, the verdict on a part asks only for the part's shape and number 13
pub part-after : (L : Asked) → windows_verdict (windowed_of L) ≡ accepted_number
    → part_verdict L
    ≡ or_else (bad_slice schedule_width max_part L.part) shape_refused
    (or_else (part_bad L.tables L.part (supplier_of L)) schedule_refused accepted_number)
unfolding part_verdict windows_verdict part_shape_bad windows_shape_bad
part-after L e =
    let c = verdict-clear windows_verdict_refusals (windowed_of L) (omega arith) e in
    λ i. or_else (c.0 i || bad_slice schedule_width max_part L.part) 1 (verdict-skip between (part_refusal ∷ []) L c.1 i)

-- where the windows verdict is 0, the answer on a part is that of its shape, or what its rows give for number 13
pub part-answer-after : (L : Asked) → windows_verdict (windowed_of L) ≡ accepted_number
    → part_answer L
    ≡ cond (bad_slice schedule_width max_part L.part) (placeless shape_refused)
    (rows_answer schedule_refused (part_tests L.tables L.part (supplier_of L)))
unfolding part_answer windows_verdict part_shape_bad windows_shape_bad part_bad
part-answer-after L e =
    let c = verdict-clear windows_verdict_refusals (windowed_of L) (omega arith) e in
    let rest : first_refusal (between ++ (part_refusal ∷ [])) L ≡ rows_answer schedule_refused (part_tests L.tables L.part (supplier_of L)) =
    answer-append between (part_refusal ∷ []) L (omega arith)
    ∙ ap (λ (x : Answer). or_next x (first_refusal (part_refusal ∷ []) L)) (clear-answer between L c.1)
    ∙ one_answer part_refusal L refl in
    λ i. cond (c.0 i || bad_slice schedule_width max_part L.part) (placeless shape_refused) (rest i)

-- of a supplier's own tasks among some, a task of it is one exactly where it is among them
pub own-member : (P : Program) (j t : ℕ) (ts : List ℕ) → (task P t).supplier ≡ j → member t (own_tasks P j ts) ≡ member t ts
own-member P j t ts o =
    member-keep (λ x. eqb (task P x).supplier j) t ts ∙ ap (λ (b : Bool). b && member t ts) (eq-eqb (task P t).supplier j o)

-- a declared task's supplier is one of the suppliers
pub owner-declared : (T : Tables) → program_verdict T ≡ accepted_number → (t : ℕ) → t < task_count T
    → (task (program_of T) t).supplier < suppliers
owner-declared T a t l = subst (λ (K : Task). K.supplier < suppliers) (sym (task-row T t l)) ((accepted-fields T a).tasks t l).supplier

-- a task of a supplier that is due in a declared mode of an accepted program is declared
pub own-declared : (T : Tables) → program_verdict T ≡ accepted_number → (s m k j : ℕ) → m < mode_count T
    → member j (own_tasks (program_of T) s (due_tasks (mode (program_of T) m) k)) ≡ true → j < task_count T
own-declared T v s m k j l r =
    due-declared T v m k j l
    ((says-itself (eqb (task (program_of T) j).supplier s) and says-itself (member j (due_tasks (mode (program_of T) m) k))).yes
    (sym (member-keep (λ t. eqb (task (program_of T) t).supplier s) j (due_tasks (mode (program_of T) m) k)) ∙ r)).1

module _ (L : Asked) (a : part_verdict L ≡ accepted_number) where
  -- the program of an accepted part is accepted
  pub part-accepted : program_verdict L.tables ≡ accepted_number
  unfolding part_verdict
  part-accepted =
      lent-accepted (λ (L : Asked). L.tables) part_shape_bad (within (λ L. L.tables) long_refusal ∷ own_refusals) L
      (λ e. windows-shaped (windowed_of L) (part-shaped L e)) a

  -- in every declared mode, each released task of the supplier takes at least one tick
  pub part-some-time : (m : ℕ) → m < mode_count L.tables → SomeTime (course_of L m)
  part-some-time m l k j r =
      let T = L.tables in
      let b = own-declared T part-accepted (supplier_of L) m k j l r in rw (task-row T j b) ((accepted-fields T part-accepted).tasks j b).worst.0
