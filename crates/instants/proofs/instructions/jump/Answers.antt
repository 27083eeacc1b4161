-- `instants::instructions::jump` meets its contract: it is refused by its one test, or goes on at its address.
use Rattle.instants.proofs.Steps.{jump-refused, jump-executed}
use Rattle.instants.proofs.instructions.jump.Goals as goal

pub returns-then-unused-count : goal.returns-then-unused-count
returns-then-unused-count c T readings times =
    let s = c.args in
    jump-refused _ readings times s.count s.at s.to s.unused c.if-unused-count.true

pub returns : goal.returns
returns c T readings times =
    let s = c.args in jump-executed _ readings times s.count s.at s.to s.unused c.if-unused-count.false
