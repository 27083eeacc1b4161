-- `runs::window::Windows::end` meets its contract: the end is that of the row that the search answers with.
use mathlib.Core.Path.{◌∙◌}
use borrow.Author.Rules.{rules}
use Rattle.runs.proofs.Ends.{end-sought}
use Rattle.runs.proofs.window.Windows.end.Goals as goal

pub returns-in-Some : goal.returns-in-Some
returns-in-Some c = c.field.ensures ∙ end-sought _ _ _ _ _ (c.in-Some.ensures.row _ (λ k l b r. search rules))

pub returns-in-None : goal.returns-in-None
returns-in-None c = end-sought _ _ _ _ _ (c.in-None.ensures.row _ (λ k l b r. search rules))
