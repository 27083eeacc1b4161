-- `writing::switches::tests` meets its contract: after i rows the tests of those that are due are written.
use Rattle.program.specs.Tables.{switch_width}
use Rattle.words.specs.Written.{written}
use Rattle.writing.specs.Rows.{is_due}
use Rattle.writing.specs.Switches.{switch_in}
use Rattle.writing.proofs.Tests.{Tested}
use Rattle.writing.proofs.switches.tests.Given as goal

abbrev pub invariant-loop-i : goal.invariant-loop-i
invariant-loop-i l =
    Tested (is_due switch_width l.switches l.when) (switch_in l.switches) l.stub l.i (written l.initial.code l.at) (written l.code l.next)
