-- The tables by their place: which stands where, how many rows each has, and what is past the last.
use Prim.Native.Nat.{ℕ, zero, suc, ◌/◌, ◌≤◌, ◌<◌}
use mathlib.Core.Path.{◌≡◌, refl}
use mathlib.Core.List.{List, [], ◌∷◌}
use native.Mathlib.Omega.{arith}
use lib.IntN.{ℤ}
use lib.ListN.{get_or, length, get_or-eq_default}
use Rattle.cells.specs.declared.tables.ProgramTables.{ProgramTables}
use Rattle.theory.specs.Lists.{Every}
use Rattle.cells.specs.Cell.{rows_in}
use Rattle.cells.specs.Limits.{table_count}
use Rattle.program.specs.Tables.{table_at, tables_in, rows_at, port_width, task_width, task_port_width, driver_width, copy_width}
use Rattle.program.specs.Tables.{mode_width, mode_port_width, invocation_width, update_width, switch_width}
use Rattle.program.specs.Tables.{Tables, ports_at, tasks_at, task_ports_at, drivers_at, copies_at, modes_at, mode_ports_at, invocations_at}
use Rattle.program.specs.Tables.{updates_at, switches_at, port_count, task_count, task_port_count, driver_count, copy_count, mode_count}
use Rattle.program.specs.Tables.{mode_port_count, invocation_count, update_count, switch_count}

-- how many numbers a row of each table has, in the order of the tables
abbrev pub widths : List ℕ
widths =
    port_width
    ∷ task_width
    ∷ task_port_width
    ∷ driver_width
    ∷ copy_width
    ∷ mode_width
    ∷ mode_port_width
    ∷ invocation_width
    ∷ update_width
    ∷ switch_width
    ∷ []

-- tables by their place, each with its width: their rows, counted
abbrev counts : List ℕ → (ℕ → List ℤ) → List ℕ
counts [] t = []
counts (w ∷ ws) t = rows_in w (t 0) ∷ counts ws (λ k. t (suc k))

counted : (ws : List ℕ) (t : ℕ → List ℤ) (k : ℕ) → k < length ws → length (t k) / get_or ws k 0 ≡ get_or (counts ws t) k 0
counted [] t k l = absurd (omega arith)
counted (w ∷ ws) t zero l = refl
counted (w ∷ ws) t (suc k) l = counted ws (λ j. t (suc j)) k (omega arith)

-- the rows of the table at a place are as many as its numbers have room for
pub rows-at : (lent : ProgramTables) (start : ℤ) (place : ℕ) → place < table_count
    → length (table_at lent place) / get_or widths place 0 ≡ rows_at (tables_in lent start) place
rows-at lent start place l = counted widths (table_at lent) place l

-- a row of each table has some number
some-width : (ws : List ℕ) → Every (λ w. 0 < w) ws → (k : ℕ) → k < length ws → 0 < get_or ws k 0
some-width [] h k l = absurd (omega arith)
some-width (w ∷ ws) h zero l = h.0
some-width (w ∷ ws) h (suc k) l = some-width ws h.1 k (omega arith)

pub width_some : (place : ℕ) → place < table_count → 0 < get_or widths place 0
width_some place l = some-width widths (search arith) place l

-- past the last table there are no rows
pub rows-past : (lent : ProgramTables) (start : ℤ) (place : ℕ) → table_count ≤ place → rows_at (tables_in lent start) place ≡ 0
rows-past lent start place h = get_or-eq_default (counts widths (table_at lent)) 0 h

-- ten lent tables stand in 01's order: ports, tasks, task ports, drivers, copies, modes, mode ports, invocations, updates, switches
pub in_order : (lent : ProgramTables) (start : ℤ)
    → tables_in lent start
    ≡ record {
      ports = lent.ports.now;
      tasks = lent.tasks.now;
      task_ports = lent.task_ports.now;
      drivers = lent.drivers.now;
      copies = lent.copies.now;
      modes = lent.modes.now;
      mode_ports = lent.mode_ports.now;
      invocations = lent.invocations.now;
      updates = lent.updates.now;
      switches = lent.switches.now;
      start = start;
    }
in_order lent start = refl

-- each place by its name has the table of that name
pub placed : (lent : ProgramTables)
    → table_at lent ports_at
    ∷ table_at lent tasks_at
    ∷ table_at lent task_ports_at
    ∷ table_at lent drivers_at
    ∷ table_at lent copies_at
    ∷ table_at lent modes_at
    ∷ table_at lent mode_ports_at
    ∷ table_at lent invocations_at
    ∷ table_at lent updates_at
    ∷ table_at lent switches_at
    ∷ []
    ≡ lent.ports.now
    ∷ lent.tasks.now
    ∷ lent.task_ports.now
    ∷ lent.drivers.now
    ∷ lent.copies.now
    ∷ lent.modes.now
    ∷ lent.mode_ports.now
    ∷ lent.invocations.now
    ∷ lent.updates.now
    ∷ lent.switches.now
    ∷ []
placed lent = refl

-- and the rows that are counted at a place by its name are those of the table of that name
pub placed-rows : (T : Tables)
    → rows_at T ports_at
    ∷ rows_at T tasks_at
    ∷ rows_at T task_ports_at
    ∷ rows_at T drivers_at
    ∷ rows_at T copies_at
    ∷ rows_at T modes_at
    ∷ rows_at T mode_ports_at
    ∷ rows_at T invocations_at
    ∷ rows_at T updates_at
    ∷ rows_at T switches_at
    ∷ []
    ≡ port_count T
    ∷ task_count T
    ∷ task_port_count T
    ∷ driver_count T
    ∷ copy_count T
    ∷ mode_count T
    ∷ mode_port_count T
    ∷ invocation_count T
    ∷ update_count T
    ∷ switch_count T
    ∷ []
placed-rows T = refl
