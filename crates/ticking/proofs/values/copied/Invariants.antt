-- `ticking::values::copied` meets its contract: from every row on, the copies left come to what all copies come to.
use Rattle.std.proofs.Common.{◌≡◌, length}
use Rattle.cells.specs.Cell.{rows_in}
use Rattle.cells.specs.Limits.{max_ports}
use Rattle.program.specs.Tables.{Tables, copy_width}
use Rattle.ticking.specs.Values.{copy_put}
use Rattle.ticking.proofs.Rowwise.{RowsPut}
use Rattle.ticking.proofs.Assigned.{is_copy_of}
use Rattle.ticking.proofs.values.copied.Given as goal

abbrev pub invariant-loop-i : goal.invariant-loop-i
invariant-loop-i l =
    (length l.next ≡ max_ports)
    × ((T : Tables) → T.copies ≡ l.copies
    → RowsPut (is_copy_of T l.d.0) (copy_put T l.values) (rows_in copy_width l.copies) l.values l.i l.next)
