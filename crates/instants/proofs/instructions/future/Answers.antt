-- `instants::instructions::future` meets its contract: it is refused by its one test, or a block begins here.
use Rattle.instants.proofs.Steps.{future-refused, future-executed}
use Rattle.instants.proofs.instructions.future.Goals as goal

pub returns-then-at-in_range : goal.returns-then-at-in_range
returns-then-at-in_range c T readings times =
    let s = c.args in
    future-refused _ readings times s.count s.at s.delay s.to c.if-at-in_range.true

pub returns : goal.returns
returns c T readings times =
    let s = c.args in
    future-executed _ readings times s.count s.at s.delay s.to c.if-at-in_range.false
