-- `cells::kinds::name` meets its contract: a number below 255 fits a byte, any other is 255.
use mathlib.Core.Path.{sym}
use Rattle.cells.proofs.Names.{name-small, name-unnamed}
use Rattle.cells.proofs.kinds.name.Goals as goal

pub returns-then-n-lt-UNNAMED : goal.returns-then-n-lt-UNNAMED
returns-then-n-lt-UNNAMED c = sym (name-small _ c.if-n-lt-UNNAMED.true)

pub returns : goal.returns
returns c = sym (name-unnamed _ c.if-n-lt-UNNAMED.false)
