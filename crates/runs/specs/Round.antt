-- A unit and a round of one supplier in one mode; the run with given execution times; the worst-case run and its first
-- break. Starts from any unit and any remaining times. Knows no program.
use Rattle.std.specs.Prelude.{ℕ, zero, suc, ◌+◌, ◌*◌, ◌≤◌, ◌<◌, ◌≡◌, Bool, true, false, not, ◌&&◌, List, [], ◌∷◌, leb, set, replicate, Result, Ok, Err}
use Rattle.theory.specs.Lists.{some, member}
use Rattle.cells.specs.Limits.{max_tasks}
use Rattle.runs.specs.Tick.{Row, left_of, Place, runs_in, tick}

-- what one supplier does in one mode: ticks of a unit and units of the round; by unit its block, the jobs released at the
-- unit's start and those whose termination instant is its end; by job the worst-case time; by tick of the round its windows
pub record Course : Type 0 where
  pub ticks : ℕ
  pub units : ℕ
  pub block : ℕ → List Row
  pub released : ℕ → List ℕ
  pub ending : ℕ → List ℕ
  pub worst : ℕ → ℕ
  pub window : ℕ → Bool

-- a choice of execution times: one for each release, by unit and job
abbrev pub Choice : Type 0
Choice = ℕ → ℕ → ℕ

-- the remaining times after some jobs are released with some times
abbrev pub release : List ℕ → (ℕ → ℕ) → List ℕ → List ℕ
release [] time left = left
release (j ∷ js) time left = release js time (set left j (time j))

-- unit k of a course begins: its jobs are released, and it stands at its block's start
abbrev pub unit_start : Course → Choice → ℕ → List ℕ → Place
unit_start C c k left = record { position = 0; left = release (C.released k) (c k) left }

-- the place that e ticks of a block come to from a place
abbrev pub going : List Row → Place → ℕ → Place
going block s zero = s
going block s (suc e) = let t = going block s e in tick block e t

-- The run from unit 0 with remaining times `left`, for given execution times.
module _ (C : Course) (c : Choice) (left : List ℕ) where
  -- the remaining times before unit k of the run
  abbrev pub before : ℕ → List ℕ
  before zero = left
  before (suc k) = let r = before k in (going (C.block k) (unit_start C c k r) C.ticks).left

  -- the place of the run in unit k after e ticks
  abbrev pub alone : ℕ → ℕ → Place
  alone k e = let r = before k in going (C.block k) (unit_start C c k r) e

-- The run keeps to its windows and its terminations.
pub record Good (C : Course) (c : Choice) (left : List ℕ) : Type 0 where
  -- every tick in which it runs lies in one of its windows
  pub inside : (k e : ℕ) → k < C.units → e < C.ticks
      → runs_in (C.block k) e (alone C c left k e) ≡ true → C.window (k * C.ticks + e) ≡ true
  -- every job has ended at each of its termination instants
  pub ends : (k j : ℕ) → k < C.units → member j (C.ending k) ≡ true → left_of (alone C c left k C.ticks).left j ≡ 0

-- every execution time of a release is from one tick up to the job's worst case
abbrev pub WithinWorst : Course → Choice → Type 0
WithinWorst C c = (k j : ℕ) → member j (C.released k) ≡ true → (1 ≤ c k j) × (c k j ≤ C.worst j)

abbrev pub worst_case : Course → Choice
worst_case C k j = C.worst j

-- The first break of a run: outside its windows (14), or a job unfinished at its termination (15), at a tick of the round.
pub data Break : Type 0 where
  none : Break
  outside : ℕ → Break
  late : ℕ → Break

-- what n ticks of a block come to: the remaining times after them, or the first tick that runs outside the windows
pub data Ticked : Type 0 where
  ended : List ℕ → Ticked
  left_at : ℕ → Ticked

-- what n ticks of a block come to under some windows, where e ticks of the unit and t of the round have gone by before them
abbrev pub watched : (ℕ → Bool) → List Row → ℕ → ℕ → ℕ → Place → Ticked
watched window block zero e t s = ended s.left
watched window block (suc n) e t s = elim (runs_in block e s && not (window t)) [
  | true ↦ left_at t
  | false ↦ watched window block n (suc e) (suc t) (tick block e s)
]

-- the remaining times where nothing is running
abbrev pub nothing : List ℕ
nothing = replicate max_tasks 0

-- what n ticks of a block come to, as the code hands it on
abbrev pub told_ticks : Ticked → Result (List ℕ) ℕ
told_ticks (ended left) = Ok left
told_ticks (left_at t) = Err t

-- some of these jobs is unfinished, by these remaining times
abbrev pub unfinished : List ℕ → List ℕ → Bool
unfinished js left = some (λ j. leb 1 (left_of left j)) js

-- the first break of a run of which u units are left, from unit k on: "at one tick 15 is found before 14"
abbrev pub judge : Course → Choice → ℕ → ℕ → List ℕ → Break
judge C c zero k left = none
judge C c (suc u) k left = elim (watched C.window (C.block k) C.ticks 0 (k * C.ticks) (unit_start C c k left)) [
  | left_at t ↦ outside t
  | ended r ↦ elim (unfinished (C.ending k) r) [ true ↦ late (suc k * C.ticks) | false ↦ judge C c u (suc k) r ]
]

-- the first break of the worst-case run, from unit 0 with nothing running
abbrev pub worst_break : Course → List ℕ → Break
worst_break C left = judge C (worst_case C) C.units 0 left

-- The first break as claims: here the run breaks, and it does not before. (The place of a 14 is the tick, of a 15 the
-- termination instant.)
pub record OutsideAt (C : Course) (c : Choice) (left : List ℕ) (t : ℕ) : Type 0 where
  pub unit : ℕ
  pub elapsed : ℕ
  pub in-round : unit < C.units
  pub in-unit : elapsed < C.ticks
  pub is-tick : t ≡ unit * C.ticks + elapsed
  pub runs_then : runs_in (C.block unit) elapsed (alone C c left unit elapsed) ≡ true
  pub no-window : C.window t ≡ false

pub record LateAt (C : Course) (c : Choice) (left : List ℕ) (t : ℕ) : Type 0 where
  pub unit : ℕ
  pub job : ℕ
  pub in-round : unit < C.units
  pub is-tick : t ≡ suc unit * C.ticks
  pub should-end : member job (C.ending unit) ≡ true
  pub unended : 1 ≤ left_of (alone C c left unit C.ticks).left job

-- b is the first break of a run: the one at the lowest tick, 15 before 14 at one tick
abbrev pub FirstBreak : Course → Choice → List ℕ → Break → Type 0
FirstBreak C c left none = Good C c left
FirstBreak C c left (outside t) =
    OutsideAt C c left t × ((s : ℕ) → s < t → OutsideAt C c left s → ⊥) × ((s : ℕ) → s ≤ t → LateAt C c left s → ⊥)
FirstBreak C c left (late t) =
    LateAt C c left t × ((s : ℕ) → s < t → OutsideAt C c left s → ⊥) × ((s : ℕ) → s < t → LateAt C c left s → ⊥)
