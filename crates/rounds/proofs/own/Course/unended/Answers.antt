-- `rounds::own::Course::unended` meets its contract: a row is sought that is due and names a task that has not ended.
use mathlib.Core.Path.{◌∙◌}
use borrow.Author.Rules.{rules}
use lib.Dec.{leb}
use Rattle.runs.specs.Tick.{left_of}
use Rattle.rounds.proofs.Releases.{any-those}
use Rattle.rounds.proofs.own.Course.unended.Goals as goal

pub returns : goal.returns
returns c = c.any.ensures _ (λ k l b r. search rules) ∙ any-those (λ j. leb 1 (left_of c.args.left.now j)) _ _ _
