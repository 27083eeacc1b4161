-- F's schedule code meets the premises of the laws that a supplier's verdict walks by: its blocks are found, its delays told, its
-- runs as they were counted.
use mathlib.Core.Path.{◌≡◌, refl}
use mathlib.Core.Bool.{false}
use mathlib.Core.List.{List}
use native.Mathlib.Omega.{arith}
use lib.IntN.{ℤ}
use lib.ListN.{length}
use Rattle.program.specs.Tables.{mode_count}
use Rattle.program.specs.Program.{program_of}
use Rattle.layout.specs.Layout.{start_in}
use Rattle.layout.specs.Delays.{counted_delays}
use Rattle.runs.specs.Schedule.{schedule_count, reaches, reach, Sorted, Behind, found, span_of, rows_of, block_of}
use Rattle.runs.specs.Round.{worst_break, nothing}
use Rattle.runs.proofs.Blocks.{behind-none, behind-later, found-behind}
use Rattle.runs.proofs.Found.{block-found}
use Rattle.suppliers.specs.Schedule.{part_tests, part_bad, joined_tests}
use Rattle.suppliers.specs.Delays.{part_tests_in, joined_tests_in}
use Rattle.suppliers.specs.Supplier.{answer_from, judged}
use Rattle.suppliers.proofs.Schedule.{part-bars}
use Rattle.suppliers.proofs.Delays.{part-counted, joined-counted}
use Rattle.rounds.specs.Course.{course_on}
use Rattle.rounds.proofs.Courses.{judged-counted}
use Rattle.worked.specs.Computed.{computed}
use Rattle.worked.specs.Programs.{program_f, window, schedule}
use Rattle.worked.specs.Systems.{F-asked}
use Rattle.worked.proofs.Table.{F-length}
use Rattle.worked.proofs.Instances.{F-verdict, F-part}

-- the rows of F's part: both blocks, at addresses 9 and 15
abbrev rows : List ℤ
rows = schedule 1 0

-- F's part passes 13, so it is sorted
part-fits : part_bad (program_f 6 2) rows 0 ≡ false
unfolding computed
part-fits = refl

in_order : Sorted rows
in_order = ((part-bars (program_f 6 2) rows 0).ok part-fits).rows.sorted

-- the first block ends at row 2, and no row of the second stands before
first-end : (found rows 0 0 9).end ≡ 2
unfolding computed reach reaches
first-end = refl

behind : Behind rows 0 15 (found rows 0 0 9).end
behind = behind-later rows 0 10 15 (found rows 0 0 9).end (omega arith) (found-behind rows 0 9 0 (behind-none rows 0 9))

-- the second block is found from the end of the first on
pub second_block : rows_of (span_of rows (found rows (found rows 0 0 9).end 0 15)) ≡ block_of rows 0 15
second_block =
    let n : schedule_count rows ≡ 4 = refl in
    block-found rows 0 15 (found rows 0 0 9).end in_order (omega (arith, first-end)) behind

-- F's part is held against its counted delays as against its listing; so is the schedule of its only part
pub F-delays : part_tests_in (program_f 6 2) (counted_delays (program_f 6 2)) rows 0 ≡ part_tests (program_f 6 2) rows 0
F-delays = part-counted (program_f 6 2) F-verdict (omega (arith, F-length)) rows 0

pub F-joined-delays : joined_tests_in (program_f 6 2) (counted_delays (program_f 6 2)) rows ≡ joined_tests (program_f 6 2) rows
F-joined-delays = joined-counted (program_f 6 2) F-verdict (omega (arith, F-length)) rows

-- F's run, as it is counted from the tables with its one sensor
one-sensor : 1 ≡ length (program_of (program_f 6 2)).sensors
unfolding computed
one-sensor = refl

pub F-counted :
    answer_from (λ m. worst_break (course_on (program_f 6 2) (window 0 10) rows 0 1 m (start_in (program_f 6 2) 1 m)) nothing) (mode_count (program_f 6 2)) 0 ≡ judged F-asked
F-counted = judged-counted F-asked F-part 1 one-sensor
