-- `ticking::range::some_long` meets its contract: the search asks the remaining time of each task, which its number names.
use Rattle.std.proofs.Common.{rules, arith}
use Rattle.cells.proofs.Names.{name-small}
use Rattle.ticking.proofs.range.some_long.Goals as goal

pub returns : goal.returns
returns c = c.any.ensures _ (λ k l b r. let e = name-small k (omega arith) in search rules)
