-- What a supplier does in a mode, from the rows of the lent tables: the tasks that are released and that terminate, where each
-- block stands. That it is the course of suppliers/specs/Supplier for an accepted program is proved in proofs/.
use Rattle.std.specs.Prelude.{ℕ, zero, suc, ◌+◌, ◌/◌, ◌≤◌, Bool, ◌&&◌, List, eqb, ℤ}
use Rattle.theory.specs.Lists.{those, sum}
use Rattle.cells.specs.Cell.{rows_in, field_at, named_at}
use Rattle.program.specs.Tables.{Tables, task_width, task_supplier_column, task_worst_column, invocation_width, invocation_task_column, mode_period}
use Rattle.program.specs.Units.{units, row_due}
use Rattle.program.specs.Program.{next_of}
use Rattle.layout.specs.declared.counts.Counts.{Counts}
use Rattle.layout.specs.Counts.{counts_in, before_future, size_of}
use Rattle.runs.specs.Tick.{Row}
use Rattle.runs.specs.Windows.{in_window}
use Rattle.runs.specs.Schedule.{schedule_count, block_of, Behind, found}
use Rattle.runs.specs.Round.{Course}

-- the invocation in row i is due at unit k of mode m, which has u units, and its task is one of supplier s
unfoldable pub own_due : List ℤ → List ℤ → ℕ → ℕ → ℕ → ℕ → ℕ → Bool
own_due tasks invocations s m u k i =
    row_due invocation_width invocations m u k i
    && eqb (field_at task_width task_supplier_column tasks (named_at invocation_width invocation_task_column invocations i)) s

-- the tasks of supplier s that are due at unit k of mode m, which has u units, in table order of the invocations
abbrev pub own_rows : List ℤ → List ℤ → ℕ → ℕ → ℕ → ℕ → List ℕ
own_rows tasks invocations s m u k =
    those (own_due tasks invocations s m u k) (named_at invocation_width invocation_task_column invocations)
    (rows_in invocation_width invocations) 0

-- the course of supplier s in mode m, which has u units of so many ticks, with these blocks
abbrev pub course_in : List ℤ → List ℤ → List ℤ → ℕ → ℕ → ℕ → ℕ → (ℕ → List Row) → Course
course_in tasks invocations W s m u ticks block = record {
  ticks = ticks;
  units = u;
  block = block;
  released = λ k. own_rows tasks invocations s m u k;
  ending = λ k. own_rows tasks invocations s m u (next_of u k);
  worst = field_at task_width task_worst_column tasks;
  window = in_window W s m;
}

-- where the block of unit k stands in the listing, if that of unit 0 stands at `first` and the units have these counts
abbrev pub block_at : (ℕ → Counts) → ℕ → ℕ → ℕ
block_at counts first k = first + sum (λ j. size_of (counts j)) k

-- the schedule rows at the `future` of unit k, if the block of unit 0 stands at `first` and the units have these counts
abbrev pub rows_at_future : List ℤ → ℕ → (ℕ → Counts) → ℕ → ℕ → List Row
rows_at_future S s counts first k = block_of S s (block_at counts first k + before_future (counts k))

-- the schedule's row that a walk has come to before the block of unit k, from row `from` before that of unit 0
abbrev pub row_before : List ℤ → ℕ → (ℕ → Counts) → ℕ → ℕ → ℕ → ℕ
row_before S s counts first from zero = from
row_before S s counts first from (suc k) =
    (found S (row_before S s counts first from k) s (block_at counts first k + before_future (counts k))).end

-- the course of supplier s in mode m of these tables, whose first block stands at `first`
abbrev pub course_on : Tables → List ℤ → List ℤ → ℕ → ℕ → ℕ → ℕ → Course
course_on T W S s sensors m first =
    course_in T.tasks T.invocations W s m (units T m) (mode_period T m / units T m)
    (rows_at_future S s (counts_in T.invocations T.updates T.switches sensors m (units T m)) first)

-- a walk over the listing and the schedule has come to this address and this row: every row before it is behind
pub record Come (S : List ℤ) (s at row : ℕ) : Type 0 where
  pub within : row ≤ schedule_count S
  pub behind : Behind S s at row
