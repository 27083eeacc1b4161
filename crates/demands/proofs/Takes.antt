-- In a composed run a missing reading takes its switch: it has a file of its own, so that it stands on what proofs/Missing says.
use mathlib.Core.Path.{◌∙◌}
use Rattle.demands.specs.Missing.{MissingTakes}
use Rattle.demands.proofs.Missing.{due-taken}

-- a missing reading takes the switch at an instant at which it is due
pub missing-takes : MissingTakes
missing-takes Y a F lents n f i p s w d e = due-taken Y a F lents n f i p s (λ v r. w v (r ∙ e)) d
