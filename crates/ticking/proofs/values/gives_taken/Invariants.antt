-- `ticking::values::gives_taken` meets its contract: from every row on, the outputs left come to what all outputs come to.
use Rattle.std.proofs.Common.{◌≡◌, length}
use Rattle.cells.specs.Cell.{rows_in}
use Rattle.cells.specs.Limits.{max_ports}
use Rattle.program.specs.Tables.{Tables, task_port_width}
use Rattle.ticking.specs.Values.{gives_row, gives_put}
use Rattle.ticking.proofs.Rowwise.{RowsPut}
use Rattle.ticking.proofs.values.gives_taken.Given as goal

abbrev pub invariant-loop-k : goal.invariant-loop-k
invariant-loop-k l =
    (length l.next ≡ max_ports)
    × ((T : Tables) → T.ports ≡ l.tables.ports.now → T.task_ports ≡ l.tables.task_ports.now
    → RowsPut (gives_row T l.t.0) (gives_put T l.given) (rows_in task_port_width l.tables.task_ports.now) l.initial.next l.k l.next)
