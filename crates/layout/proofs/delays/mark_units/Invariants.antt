-- `layout::delays::mark_units` meets its contract: after k units the marks are those of the first k, and the next block begins behind
-- them.
use Prim.Native.Nat.{◌+◌}
use lib.IntN.{pos}
use lib.ListN.{set}
use Rattle.program.specs.Tables.{tables_in}
use Rattle.layout.specs.Counts.{counts_in, before_future, size_of}
use Rattle.layout.proofs.Walked.{Walking}
use Rattle.layout.proofs.delays.mark_units.Given as goal

abbrev pub invariant-loop-k : goal.invariant-loop-k
invariant-loop-k l =
    let T = tables_in l.tables (pos 0) in
    Walking (λ k. size_of (counts_in T.invocations T.updates T.switches l.sensors l.m.0 l.u k))
    (λ k at table. set table (at + before_future (counts_in T.invocations T.updates T.switches l.sensors l.m.0 l.u k)) l.m.0) l.at l.u l.initial.marks l.k l.next l.marks
