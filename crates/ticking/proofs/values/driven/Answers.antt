-- `ticking::values::driven` meets its contract: the copies are made where the guard holds.
use Rattle.std.proofs.Common.{rules}
use Rattle.ticking.proofs.values.driven.Goals as goal

pub returns-then-guard_holds : goal.returns-then-guard_holds
returns-then-guard_holds c T e f = search (rules, c.guard_holds.ensures T e, c.copied.ensures T f)

pub returns : goal.returns
returns c T e f = search (rules, c.guard_holds.ensures T e)
