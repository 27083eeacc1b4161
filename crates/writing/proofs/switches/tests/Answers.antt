-- `writing::switches::tests` meets its contract: each row's test goes to the stub behind those of the rows before it.
use native.Mathlib.Omega.{arith}
use Rattle.writing.proofs.Tests.{tests-at, tests-near, tests-more}
use Rattle.writing.proofs.switches.tests.Goals as goal

pub overflow_sub-next : goal.overflow_sub-next
overflow_sub-next c = omega (arith, tests-at c.loop-i.invariant)

pub overflow_mul-next : goal.overflow_mul-next
overflow_mul-next c =
    record { fits = omega (arith, tests-near c.loop-i.invariant, c.loop-i-test.true, c.requires.switches_bound_2) }

pub overflow_add-stub : goal.overflow_add-stub
overflow_add-stub c =
    record { fits = omega (arith, tests-near c.loop-i.invariant, c.loop-i-test.true, c.requires.switches_bound_2) }

pub test_row-next-requires-clause-at_le_greatest_word : goal.test_row-next-requires-clause-at_le_greatest_word
test_row-next-requires-clause-at_le_greatest_word c =
    omega (arith, tests-near c.loop-i.invariant, c.loop-i-test.true, c.requires.switches_bound)

pub test_row-next-requires-clause-stub_le_greatest_word : goal.test_row-next-requires-clause-stub_le_greatest_word
test_row-next-requires-clause-stub_le_greatest_word c =
    omega (arith, tests-near c.loop-i.invariant, c.loop-i-test.true, c.requires.switches_bound_2)

pub loop-i-preserved : goal.loop-i-preserved
loop-i-preserved c = tests-more c.loop-i.invariant c.test_row-next.ensures
