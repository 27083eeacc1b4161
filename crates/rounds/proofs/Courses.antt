-- The courses that are counted from the tables of an accepted program are those of the definitions, so the answer over all modes
-- is theirs. Assumes that the verdict on the tables is 0, and the number of the sensors; of a mode by number, that it is declared.
use Prim.Native.Nat.{ℕ, zero, suc, ◌+◌, ◌<◌}
use mathlib.Core.Path.{◌≡◌, refl, sym, ap, subst, ◌∙◌}
use mathlib.Core.Bool.{true, ◌&&◌}
use mathlib.Core.List.{List}
use native.Mathlib.Omega.{arith}
use lib.Dec.{eqb}
use lib.IntN.{ℤ}
use lib.ListN.{length}
use Rattle.theory.specs.Lists.{keep, member}
use Rattle.theory.specs.Verdict.{accepted_number}
use Rattle.theory.proofs.Lists.{sum_same, keep-those, those-same}
use Rattle.program.specs.Tables.{Tables, task_count, task_supplier, mode_count, invocation_width, invocation_count, invocation_task}
use Rattle.program.specs.Units.{units, row_due}
use Rattle.program.specs.Program.{Program, Mode, Task, program_of, task, mode, ticks_of, next_of, next_unit, due_tasks}
use Rattle.program.proofs.Decoded.{mode-count, mode-row, task-row, due-task-rows}
use Rattle.rules.specs.Verdict.{program_verdict}
use Rattle.rules.proofs.Accepted.{accepted-fields}
use Rattle.code.specs.Listing.{block_size, future_address}
use Rattle.layout.specs.Counts.{before_future, size_of}
use Rattle.layout.specs.Layout.{unit_counts, start_in}
use Rattle.layout.proofs.Sizes.{future-counted}
use Rattle.layout.proofs.Laid.{counts-mode, start-mode}
use Rattle.runs.specs.Round.{Course, worst_case, Break, none, outside, late, judge, worst_break, nothing}
use Rattle.runs.specs.Schedule.{block_of}
use Rattle.runs.proofs.Same.{SameCourse, judge-same}
use Rattle.suppliers.specs.Supplier.{Asked, supplier_of, own_tasks, course, answer_of, answer_from, judged, part_verdict}
use Rattle.suppliers.proofs.Accepted.{own-declared, part-accepted}
use Rattle.rounds.specs.Course.{own_due, own_rows, block_at, course_on}

module _ (T : Tables) (a : program_verdict T ≡ accepted_number) where
  -- the program that the tables say
  abbrev P : Program
  P = program_of T

  -- every invocation names a declared task, so its row is the task's
  named-row : (i : ℕ) → i < invocation_count T → (task P (invocation_task T i)).supplier ≡ task_supplier T (invocation_task T i)
  named-row i l = ap (λ (t : Task). t.supplier) (task-row T (invocation_task T i) ((accepted-fields T a).invocations i l).task)

  module _ (s m : ℕ) (l : m < mode_count T) where
    -- of the mode's due tasks those of the supplier are the rows that are its own
    own-rows : (k : ℕ) → own_rows T.tasks T.invocations s m (units T m) k ≡ own_tasks P s (due_tasks (mode P m) k)
    unfolding own_due
    own-rows k =
        those-same _ _ (invocation_task T) (invocation_count T) 0
        (λ i h j. ap (λ (n : ℕ). row_due invocation_width T.invocations m (units T m) k i && eqb n s) (sym (named-row i (omega arith))))
        ∙ sym (ap (keep (λ t. eqb (task P t).supplier s)) (due-task-rows T m k l)
        ∙ keep-those (λ t. eqb (task P t).supplier s) (row_due invocation_width T.invocations m (units T m) k) (invocation_task T) (invocation_count T) 0)

    -- a task of the supplier that is due is declared
    rows-declared : (k j : ℕ) → member j (own_rows T.tasks T.invocations s m (units T m) k) ≡ true → j < task_count T
    rows-declared k j r = own-declared T a s m k j l (subst (λ (js : List ℕ). member j js ≡ true) (own-rows k) r)

    -- the unit after a unit is the same by the tables and by the program
    after_same : (k : ℕ) → next_of (units T m) k ≡ next_unit (mode P m) k
    after_same k = ap (λ (M : Mode). next_unit M k) (sym (mode-row T m l))

    module _ (sensors : ℕ) (e : sensors ≡ length (program_of T).sensors) (W S : List ℤ) where
      -- the `future` of a unit stands where it was counted
      future-same : (k : ℕ) → block_at (unit_counts T sensors m) (start_in T sensors m) k + before_future (unit_counts T sensors m k) ≡ future_address P m k
      future-same k =
          omega (
            arith,
            start-mode T sensors e m (omega arith),
            sum_same (λ j. size_of (unit_counts T sensors m j)) (block_size P (mode P m)) k (λ j h. ap size_of (counts-mode T sensors e m j l)),
            ap before_future (counts-mode T sensors e m k l),
            future-counted P m k,
          )

      -- the course C that was counted, and the course D of the definitions
      abbrev C : Course
      C = course_on T W S s sensors m (start_in T sensors m)

      abbrev D : Course
      D = course P W S s m

      course-same : SameCourse C D
      course-same = record {
        ticks = ap ticks_of (sym (mode-row T m l));
        units = ap (λ (M : Mode). M.units) (sym (mode-row T m l));
        block = λ i k. block_of S s (future-same k i);
        released = λ i k. own-rows k i;
        ending = λ i k. (ap (λ (n : ℕ). own_rows T.tasks T.invocations s m (units T m) n) (after_same k) ∙ own-rows (next_unit (mode P m) k)) i;
        window = refl;
      }

      -- the worst-case runs of both courses break alike
      break-same : worst_break C nothing ≡ worst_break D nothing
      break-same =
          judge-same C D course-same (worst_case C) (worst_case D)
          (λ k j h. ap (λ (t : Task). t.worst) (sym (task-row T j (rows-declared k j h)))) C.units 0 nothing
          ∙ ap (λ (u : ℕ). judge D (worst_case D) u 0 nothing) course-same.units

-- answers over modes that break alike are the same
answer-same : (b c : ℕ → Break) (n m : ℕ) → ((i : ℕ) → i < m + n → b i ≡ c i) → answer_from b n m ≡ answer_from c n m
answer-same b c zero m h = refl
answer-same b c (suc n) m h =
    λ i. elim (h m (omega arith) i) [
      | none ↦ answer-same b c n (suc m) (λ j l. h j (omega arith)) i
      | outside t ↦ answer_of m (outside t)
      | late t ↦ answer_of m (late t)
    ]

-- the answer over all modes as they were counted is that of the definitions
pub judged-counted : (L : Asked) → part_verdict L ≡ accepted_number → (sensors : ℕ) → sensors ≡ length (program_of L.tables).sensors
    → answer_from (λ m. worst_break (course_on L.tables L.windows L.part (supplier_of L) sensors m (start_in L.tables sensors m)) nothing) (mode_count L.tables) 0
    ≡ judged L
judged-counted L a sensors e =
    answer-same _ _ (mode_count L.tables) 0
    (λ m h. break-same L.tables (part-accepted L a) (supplier_of L) m (omega arith) sensors e L.windows L.part)
    ∙ ap (λ (n : ℕ). answer_from (λ m. worst_break (course (program_of L.tables) L.windows L.part (supplier_of L) m) nothing) n 0) (sym (mode-count L.tables))
