-- Number 1: a slice is not whole rows, exceeds its limit, or there is no mode.
-- Tested on just the slices that a call is lent: a call that is lent more asks more.
use Rattle.std.specs.Prelude.{ℕ, ◌*◌, ◌/◌, ◌%◌, ◌≤◌, ◌≡◌, Bool, false, not, ◌||◌, List, eqb, ltb, ℤ, length}
use Rattle.cells.specs.declared.tables.ProgramTables.{ProgramTables}
use Rattle.cells.specs.Limits.{max_ports, max_tasks, max_task_ports, max_drivers, max_copies, max_modes, max_mode_ports, max_invocations}
use Rattle.cells.specs.Limits.{max_updates, max_switches}
use Rattle.program.specs.Tables.{Tables, tables_in, port_width, task_width, task_port_width, driver_width, copy_width, mode_width, mode_count}
use Rattle.program.specs.Tables.{mode_port_width, invocation_width, update_width, switch_width}

module _ {A : Type 0} where
  -- a slice is not whole rows of this width, or has more rows than the limit
  unfoldable pub bad_slice : ℕ → ℕ → List A → Bool
  bad_slice width limit t = not (eqb (length t % width) 0) || ltb limit (length t / width)

  -- a slice is whole rows of this width, and no more than the limit
  abbrev pub WholeRows : ℕ → ℕ → List A → Type 0
  WholeRows width limit t = (n : ℕ) × (length t ≡ n * width) × (n ≤ limit)

  -- a slice by port or by task does not have this length
  unfoldable pub bad_length : ℕ → List A → Bool
  bad_length n t = not (eqb (length t) n)

-- number 1: some table is not whole rows or has too many, or there is no mode
unfoldable pub shape_bad : Tables → Bool
shape_bad T =
    bad_slice port_width max_ports T.ports
    || bad_slice task_width max_tasks T.tasks
    || bad_slice task_port_width max_task_ports T.task_ports
    || bad_slice driver_width max_drivers T.drivers
    || bad_slice copy_width max_copies T.copies
    || bad_slice mode_width max_modes T.modes
    || bad_slice mode_port_width max_mode_ports T.mode_ports
    || bad_slice invocation_width max_invocations T.invocations
    || bad_slice update_width max_updates T.updates
    || bad_slice switch_width max_switches T.switches
    || eqb (mode_count T) 0

-- rule 1: every table is whole rows within its limit, and there is some mode
pub record Shaped (T : Tables) : Type 0 where
  pub ports : WholeRows port_width max_ports T.ports
  pub tasks : WholeRows task_width max_tasks T.tasks
  pub task-ports : WholeRows task_port_width max_task_ports T.task_ports
  pub drivers : WholeRows driver_width max_drivers T.drivers
  pub copies : WholeRows copy_width max_copies T.copies
  pub modes : WholeRows mode_width max_modes T.modes
  pub mode-ports : WholeRows mode_port_width max_mode_ports T.mode_ports
  pub invocations : WholeRows invocation_width max_invocations T.invocations
  pub updates : WholeRows update_width max_updates T.updates
  pub switches : WholeRows switch_width max_switches T.switches
  pub some-mode : 1 ≤ mode_count T

-- the tables that are lent have their shape, whatever the start mode
abbrev pub InShape : ProgramTables → Type 0
InShape lent = (start : ℤ) → shape_bad (tables_in lent start) ≡ false
