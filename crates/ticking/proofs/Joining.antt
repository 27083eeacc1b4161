-- One supplier's turn more, as the code joins it, is the join of who runs; and who runs is read back from what the code hands on.
use Rattle.std.proofs.Common.{◌≡◌, Option, refl, ◌∙◌, ap₂}
use Rattle.cells.specs.declared.kinds.Task.{Task}
use Rattle.runs.specs.Tick.{Act, rest, work, job_of}
use Rattle.machine.specs.declared.Running.{Running}
use Rattle.machine.specs.declared.Running.TheVariants.{Nobody, One, Several}
use Rattle.machine.specs.Schedules.{Who, nobody, one, several, join, told}
use Rattle.ticking.specs.Joined.{join_told}

-- a turn more, joined as the code does, is the join of who runs, case by case
told-joined : (w : Who) (a : Act) → join_told (told w) (job_of a) ≡ told (join w a)
told-joined nobody rest = refl
told-joined nobody (work t) = refl
told-joined (one t) rest = refl
told-joined (one t) (work u) = refl
told-joined several rest = refl
told-joined several (work t) = refl

-- a turn more, as the code has it at hand, is the join of who runs
pub joined-told : (before : Running) (job : Option Task) (w : Who) (a : Act) → before ≡ told w → job ≡ job_of a
    → join_told before job ≡ told (join w a)
joined-told before job w a e q = ap₂ join_told e q ∙ told-joined w a

-- who runs, read back
abbrev pub who : Running → Who
who Nobody = nobody
who (One t) = one t.0
who Several = several

pub who-told : (w : Who) → who (told w) ≡ w
who-told nobody = refl
who-told (one t) = refl
who-told several = refl
