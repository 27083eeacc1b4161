-- `instants::instructions::finish` meets its contract: it is refused by its one test, or the instant is over.
use Rattle.instants.proofs.Steps.{return_refused, return-executed}
use Rattle.instants.proofs.instructions.finish.Goals as goal

pub returns-then-first-second : goal.returns-then-first-second
returns-then-first-second c T readings times count =
    let s = c.args in
    return_refused _ readings times count s.at s.first s.second c.if-first-second.true

pub returns : goal.returns
returns c T readings times count =
    let s = c.args in return-executed _ readings times count s.at s.first s.second c.if-first-second.false
