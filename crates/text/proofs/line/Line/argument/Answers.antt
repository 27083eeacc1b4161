-- `text::line::Line::argument` meets its contract: a space, then the number.
use mathlib.Core.Path.{subst}
use mathlib.Core.List.{[], ◌∷◌}
use Rattle.text.specs.Decimal.{space, decimal}
use Rattle.text.specs.Line.{Appended}
use Rattle.text.proofs.Lines.{appended-both}
use Rattle.text.proofs.Said.{spaced-one}
use Rattle.text.proofs.line.Line.argument.Goals as goal

pub returns : goal.returns
returns c =
    let n = c.args.n in
    subst (Appended _ _) (spaced-one n) (appended-both (space ∷ []) (decimal n) c.push.ensures c.number.ensures)
