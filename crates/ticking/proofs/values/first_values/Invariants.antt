-- `ticking::values::first_values` meets its contract: after k ports the first k values are those of the first k rows.
use Rattle.std.proofs.Common.{◌≡◌, length, replicate, pos}
use Rattle.theory.specs.Lists.{filled}
use Rattle.cells.specs.Limits.{max_ports}
use Rattle.program.specs.Tables.{Tables, port_first}
use Rattle.ticking.proofs.values.first_values.Given as goal

abbrev pub invariant-loop-k : goal.invariant-loop-k
invariant-loop-k l =
    (length l.values ≡ max_ports) × ((T : Tables) → T.ports ≡ l.ports → l.values ≡ filled (port_first T) l.k (replicate max_ports (pos 0)))
