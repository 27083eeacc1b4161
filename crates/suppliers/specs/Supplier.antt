-- Numbers 14 and 15, and the verdict on a supplier's schedule code: judged from unit 0 of each mode, nothing running, with
-- all worst-case times; the place is the lowest mode, then the lowest tick.
use Rattle.std.specs.Prelude.{ℕ, zero, suc, Bool, ◌||◌, List, [], ◌∷◌, eqb, ℤ, length}
use Rattle.theory.specs.Lists.{keep}
use Rattle.theory.specs.Rows.{placeless}
use Rattle.theory.specs.Verdict.{accepted_number, Refusal, within, verdict, first_refusal, Rule, holding}
use Rattle.theory.specs.declared.Answer.{Answer}
use Rattle.cells.specs.Cell.{index_of}
use Rattle.cells.specs.Limits.{max_windows, max_part}
use Rattle.cells.specs.Refusals.{schedule_refused, outside_refused, late_refused}
use Rattle.program.specs.Tables.{Tables}
use Rattle.program.specs.Program.{Program, program_of, task, mode, ticks_of, next_unit, due_tasks}
use Rattle.rules.specs.Shape.{bad_slice, shape_bad, WholeRows, Shaped}
use Rattle.code.specs.Listing.{future_address}
use Rattle.code.specs.Compile.{call_refusals, call_rules}
use Rattle.runs.specs.Windows.{window_width, in_window}
use Rattle.runs.specs.Schedule.{schedule_width, block_of}
use Rattle.runs.specs.Round.{Course, Break, none, outside, late, worst_break, nothing}
use Rattle.suppliers.specs.Windows.{Windowed, windows_refusal, windows_rule}
use Rattle.suppliers.specs.Schedule.{part_tests, part_bad, Part, part_row_rules}

-- what a supplier's verdict is lent: its part of the schedule, and its number as it is given
pub record Asked : Type 0 where
  pub tables : Tables
  pub windows : List ℤ
  pub part : List ℤ
  pub supplier : ℤ

abbrev pub supplier_of : Asked → ℕ
supplier_of L = index_of L.supplier

-- the tasks of a list that are of supplier s
abbrev pub own_tasks : Program → ℕ → List ℕ → List ℕ
own_tasks P s ts = keep (λ t. eqb (task P t).supplier s) ts

-- what supplier s does in mode m with schedule S
abbrev pub course : Program → List ℤ → List ℤ → ℕ → ℕ → Course
course P W S s m = record {
  ticks = ticks_of (mode P m);
  units = (mode P m).units;
  block = λ k. block_of S s (future_address P m k);
  released = λ k. own_tasks P s (due_tasks (mode P m) k);
  ending = λ k. own_tasks P s (due_tasks (mode P m) (next_unit (mode P m) k));
  worst = λ t. (task P t).worst;
  window = in_window W s m;
}

abbrev pub course_of : Asked → ℕ → Course
course_of L m = course (program_of L.tables) L.windows L.part (supplier_of L) m

-- the number and the tick of the first break of a run
abbrev pub break_number : Break → ℕ
break_number none = accepted_number
break_number (outside t) = outside_refused
break_number (late t) = late_refused

abbrev pub break_tick : Break → ℕ
break_tick none = 0
break_tick (outside t) = t
break_tick (late t) = t

-- an answer that has this number, at tick t of mode m
abbrev pub at_tick : ℕ → ℕ → ℕ → Answer
at_tick n m t = record { number = n; outer = m; inner = t }

-- the answer on a mode with its first break: only a break adds a place
abbrev pub answer_of : ℕ → Break → Answer
answer_of m none = placeless accepted_number
answer_of m (outside t) = at_tick (break_number (outside t)) m t
answer_of m (late t) = at_tick (break_number (late t)) m t

-- the answer on the n modes from m on: that of the first whose run breaks
abbrev pub answer_from : (ℕ → Break) → ℕ → ℕ → Answer
answer_from breaks zero m = answer_of m none
answer_from breaks (suc n) m = elim (breaks m) [
  | none ↦ answer_from breaks n (suc m)
  | outside t ↦ answer_of m (outside t)
  | late t ↦ answer_of m (late t)
]

abbrev pub judged : Asked → Answer
judged L = answer_from (λ m. worst_break (course_of L m) nothing) (length (program_of L.tables).modes) 0

-- number 1 applies to what a supplier's verdict is lent: a table, the windows or the part is not whole rows, or has too many
unfoldable pub part_shape_bad : Asked → Bool
part_shape_bad L =
    shape_bad L.tables || bad_slice window_width max_windows L.windows || bad_slice schedule_width max_part L.part

-- the tables and windows of what a supplier's verdict is lent
abbrev pub windowed_of : Asked → Windowed
windowed_of L = record { tables = L.tables; windows = L.windows }

-- the refusal of number 13, of a part
abbrev pub part_refusal : Refusal Asked
part_refusal = record {
  number = schedule_refused;
  applies = λ L. part_bad L.tables L.part (supplier_of L);
  rows = λ L. part_tests L.tables L.part (supplier_of L);
}

abbrev pub own_refusals : List (Refusal Asked)
own_refusals = within windowed_of windows_refusal ∷ part_refusal ∷ []

abbrev pub part_refusals : List (Refusal Asked)
part_refusals = call_refusals (λ L. L.tables) part_shape_bad own_refusals

-- the verdict on a supplier's part before it is run: numbers 1 to 13 and 24
unfoldable pub part_verdict : Asked → ℕ
part_verdict L = verdict part_refusals L

abbrev pub PartShaped : Asked → Type 0
PartShaped L = Shaped L.tables × WholeRows window_width max_windows L.windows × WholeRows schedule_width max_part L.part

-- rule 13, of a part
abbrev pub part_rule : Rule Asked
part_rule = record {
  number = schedule_refused;
  holds = λ L. Part L.tables L.part (supplier_of L);
  rows = λ L. part_row_rules L.tables L.part (supplier_of L);
}

abbrev pub own_rules : List (Rule Asked)
own_rules = holding windowed_of windows_rule ∷ part_rule ∷ []

abbrev pub part_rules : List (Rule Asked)
part_rules = call_rules (λ L. L.tables) PartShaped own_rules

-- the answer on a supplier's part before it is run: that number with its place
unfoldable pub part_answer : Asked → Answer
part_answer L = first_refusal part_refusals L

-- the verdict on a supplier's schedule code: the first of numbers 1 to 13 and 24 with its place, else what its run comes to
unfoldable pub supplier_verdict : Asked → Answer
supplier_verdict L = elim (part_verdict L) [ zero ↦ judged L | suc n ↦ part_answer L ]
