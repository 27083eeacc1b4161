-- A turn as the code hands it on is a tick: its remaining times are those after what the tick does.
use Prim.Native.Nat.{ℕ}
use mathlib.Core.Path.{◌≡◌, refl}
use mathlib.Core.List.{List}
use Rattle.std.specs.Prelude.{is_some}
use Rattle.runs.specs.Tick.{Act, rest, work, runs, left_after, job_of, after_turn}

-- the remaining times after a turn are those after its act
pub turn-after : (a : Act) (left : List ℕ) → after_turn (job_of a) left ≡ left_after a left
unfolding after_turn
turn-after rest left = refl
turn-after (work j) left = refl

-- a turn has a job exactly where its act runs
pub turn-runs : (a : Act) → is_some (job_of a) ≡ runs a
turn-runs rest = refl
turn-runs (work j) = refl
