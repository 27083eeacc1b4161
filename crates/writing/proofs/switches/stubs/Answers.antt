-- `writing::switches::stubs` meets its contract: the stub of a row that is due is written behind those before it.
use native.Mathlib.Omega.{arith}
use Rattle.writing.proofs.Tests.{stubs-near, stubs-more}
use Rattle.writing.proofs.switches.stubs.Goals as goal

pub stub_row-next-requires-clause-at_lt_greatest_word : goal.stub_row-next-requires-clause-at_lt_greatest_word
stub_row-next-requires-clause-at_lt_greatest_word c =
    omega (arith, stubs-near c.loop-i.invariant, c.loop-i-test.true, c.requires.switches_bound)

pub loop-i-preserved : goal.loop-i-preserved
loop-i-preserved c = stubs-more c.loop-i.invariant c.stub_row-next.ensures
