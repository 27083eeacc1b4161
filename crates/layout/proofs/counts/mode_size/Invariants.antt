-- `layout::counts::mode_size` meets its contract: the sizes of the units so far, each no more than the most.
use lib.IntN.{pos}
use Rattle.program.specs.Tables.{tables_in}
use Rattle.theory.proofs.Summing.{Summed}
use Rattle.layout.specs.Counts.{counts_in, size_of}
use Rattle.layout.proofs.counts.mode_size.Given as goal

abbrev pub invariant-loop-k : goal.invariant-loop-k
invariant-loop-k l =
    let T = tables_in l.tables (pos 0) in
    Summed (λ k. size_of (counts_in T.invocations T.updates T.switches l.sensors l.m.0 l.u k)) l.u l.k l.total
