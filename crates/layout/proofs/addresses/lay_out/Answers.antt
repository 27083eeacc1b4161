-- `layout::addresses::lay_out` meets its contract: after k modes the lists have the first k, and the next one begins behind them.
use native.Mathlib.Omega.{arith}
use lib.IntN.{pos}
use Rattle.program.specs.Tables.{tables_in}
use Rattle.layout.proofs.Limits.{few-rows, few-modes, mode-named}
use Rattle.layout.proofs.Laid.{mode-near, laying-more, laying-all, laid_out, laid-small}
use Rattle.layout.proofs.addresses.lay_out.Goals as goal

pub one_more-at-requires-clause-at_le_most_code : goal.one_more-at-requires-clause-at_le_most_code
one_more-at-requires-clause-at_le_most_code c =
    let T = tables_in c.args.tables.now (pos 0) in
    let l = c.loop-k in
    omega (arith, mode-near T c.args.sensors (c.requires.in_shape (pos 0)) c.requires.sensors_le_max_ports l.k c.loop-k-test.true (l.invariant (pos 0)).here)

pub loop-k-preserved : goal.loop-k-preserved
loop-k-preserved c start =
    let T = tables_in c.args.tables.now start in
    let told = c.one_more-at.ensures in
    let named = mode-named T (c.requires.in_shape start) c.loop-k-test.true c.of.ensures in
    laying-more _ _ _ _ (c.loop-k.invariant start) c.loop-k-test.true named told.begins (told.enters start) (told.end start)

pub returns-clause-laid : goal.returns-clause-laid
returns-clause-laid c start = laid_out _ _ _ _ (laying-all _ _ _ _ (c.loop-k.invariant start) c.loop-k-test.false)

pub returns-clause-small : goal.returns-clause-small
returns-clause-small c =
    let T = tables_in c.args.tables.now (pos 0) in
    let e = c.requires.in_shape (pos 0) in
    laid-small _ _ _ _ (laying-all _ _ _ _ (c.loop-k.invariant (pos 0)) c.loop-k-test.false) (few-rows T e) c.requires.sensors_le_max_ports (few-modes T e)
