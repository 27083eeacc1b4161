-- `operation::judged::bad_code` meets its contract: the length says both.
use mathlib.Core.Path.{refl}
use Rattle.rules.specs.Shape.{bad_slice}
use Rattle.operation.proofs.judged.bad_code.Goals as goal

pub returns : goal.returns
unfolding bad_slice
returns c = refl
