-- What is known of an accepted program with accepted windows and a joined schedule whose parts were accepted one by one.
use Rattle.std.specs.Prelude.{ℕ, ◌<◌, ◌≡◌, List, ℤ}
use Rattle.theory.specs.Verdict.{accepted_number}
use Rattle.cells.specs.Limits.{suppliers, max_schedule}
use Rattle.program.specs.Tables.{Tables, mode_count}
use Rattle.program.specs.Program.{program_of}
use Rattle.rules.specs.Shape.{WholeRows}
use Rattle.rules.specs.Verdict.{program_verdict}
use Rattle.code.specs.Compile.{CodeFits}
use Rattle.runs.specs.Schedule.{schedule_width}
use Rattle.runs.specs.Round.{Good, worst_case, nothing}
use Rattle.suppliers.specs.Windows.{Windows}
use Rattle.suppliers.specs.Schedule.{Joined}
use Rattle.suppliers.specs.Supplier.{course}

pub record Sound (T : Tables) (W S : List ℤ) : Type 0 where
  pub accepted : program_verdict T ≡ accepted_number
  pub fits : CodeFits T
  pub windows : Windows (record { tables = T; windows = W })
  -- the joined schedule has its shape, and passes 13
  pub whole : WholeRows schedule_width max_schedule S
  pub joined : Joined T S
  -- each supplier's worst-case run alone, in every mode, keeps to its windows and its terminations
  pub good : (j m : ℕ) → j < suppliers → m < mode_count T
      → Good (course (program_of T) W S j m) (worst_case (course (program_of T) W S j m)) nothing
