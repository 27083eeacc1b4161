-- Tables and counts within document 01's limits, so that no sum of a listing's sizes wraps.
use Rattle.std.specs.Prelude.{ℕ, ◌≤◌, ◌<◌, List, ℤ}
use Rattle.cells.specs.Cell.{rows_in, field_at}
use Rattle.cells.specs.Limits.{max_ports, max_invocations, max_updates, max_switches, max_period}
use Rattle.program.specs.Tables.{mode_width, invocation_width, update_width, switch_width}
use Rattle.layout.specs.declared.counts.Counts.{Counts}

-- invocations, updates and switches have no more rows than document 01 allows
pub record Few (lent-invocations lent-updates lent-switches : List ℤ) : Type 0 where
  pub invocations : rows_in invocation_width lent-invocations ≤ max_invocations
  pub updates : rows_in update_width lent-updates ≤ max_updates
  pub switches : rows_in switch_width lent-switches ≤ max_switches

-- a unit has no more due rows, and a program no more sensors, than document 01 allows
pub record Sized (c : Counts) : Type 0 where
  pub invocations : c.invocations ≤ max_invocations
  pub updates : c.updates ≤ max_updates
  pub switches : c.switches ≤ max_switches
  pub sensors : c.sensors ≤ max_ports

-- no period is longer than document 01 allows
abbrev pub Periods : List ℤ → Type 0
Periods modes = (m : ℕ) → m < rows_in mode_width modes → field_at mode_width 0 modes m ≤ max_period
