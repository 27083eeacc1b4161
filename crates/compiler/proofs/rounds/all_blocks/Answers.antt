-- `compiler::rounds::all_blocks` meets its contract: after so many units their blocks are written.
use Prim.Native.Nat.{ℕ}
use mathlib.Core.Path.{ap, ◌∙◌}
use native.Mathlib.Omega.{arith}
use lib.IntN.{pos}
use Rattle.program.specs.Tables.{tables_in}
use Rattle.words.specs.Written.{written, writes}
use Rattle.compiler.specs.Rounds.{block_in}
use Rattle.compiler.proofs.Aims.{round_at, start-before}
use Rattle.compiler.proofs.Grown.{grown-more}
use Rattle.compiler.proofs.rounds.all_blocks.Goals as goal

pub block-at-requires-clause-most_block_bound : goal.block-at-requires-clause-most_block_bound
block-at-requires-clause-most_block_bound c =
    let r = c.requires in
    let T = tables_in c.args.source.tables.now (pos 0) in
    let l = c.loop-unit in
    let before = start-before T c.args.round (r.sourced.in_shape (pos 0)) l.unit (omega (arith, c.loop-unit-test.true, r.units_bound)) in
    omega (arith, round_at T c.args.round c.args.source.entries.now l.invariant, before, r.most_mode_bound)

pub loop-unit-preserved : goal.loop-unit-preserved
loop-unit-preserved c =
    let a = c.args in
    let T = tables_in a.source.tables.now (pos 0) in
    let l = c.loop-unit in
    grown-more l.invariant c.loop-unit-test.true
    (c.block-at.ensures (pos 0)
    ∙ ap (λ (at : ℕ). writes (block_in T a.source.entries.now a.round l.unit at) (written l.code l.at)) (round_at T a.round a.source.entries.now l.invariant))
