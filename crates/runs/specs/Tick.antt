-- One tick of one supplier's block, after 003. A row is a dispatch of a job or an idle, with a timeout counted from the
-- block's start; a job is a number, its remaining time stands in a list. Knows no program.
use Rattle.std.specs.Prelude.{ℕ, suc, ◌+◌, ◌-◌, Bool, true, false, ◌||◌, List, [], ◌∷◌, leb, get_or, set, drop, Option, Some, None}
use Rattle.cells.specs.declared.kinds.Task.{Task}
use Rattle.runs.specs.declared.turn.Turn.{Turn}

pub data Kind : Type 0 where
  dispatch idle : Kind

pub record Row : Type 0 where
  pub kind : Kind
  pub job : ℕ
  pub timeout : ℕ

-- the remaining time of a job; 0 where there are not so many
abbrev pub left_of : List ℕ → ℕ → ℕ
left_of left j = get_or left j 0

-- a row has nothing to do where it is a dispatch whose job is not running; an idle always waits
abbrev pub nothing_to_do : Kind → ℕ → Bool
nothing_to_do dispatch n = leb n 0
nothing_to_do idle n = false

-- a timeout is reached when so many ticks have gone by since the block's start
abbrev pub reached : ℕ → ℕ → Bool
reached timeout elapsed = leb timeout elapsed

-- a row is "skipped if the task is not running or the timeout is reached"; "idle waits for its timeout"
abbrev pub skipped : ℕ → List ℕ → Row → Bool
skipped elapsed left x = reached x.timeout elapsed || nothing_to_do x.kind (left_of left x.job)

-- how many rows at the front of a block are passed, on the values at the tick's start
abbrev pub passed : List Row → ℕ → List ℕ → ℕ
passed [] elapsed left = 0
passed (x ∷ xs) elapsed left = elim (skipped elapsed left x) [ true ↦ suc (passed xs elapsed left) | false ↦ 0 ]

-- what runs in a tick: nothing, or a job
pub data Act : Type 0 where
  rest : Act
  work : ℕ → Act

abbrev pub does : Kind → ℕ → Act
does dispatch j = work j
does idle j = rest

-- what runs where these rows are still to do: the job of the first, if it is a dispatch; "after the last row nothing runs"
abbrev pub act : List Row → Act
act [] = rest
act (x ∷ xs) = does x.kind x.job

abbrev pub runs : Act → Bool
runs rest = false
runs (work j) = true

-- the remaining times after a tick in which that runs
abbrev pub left_after : Act → List ℕ → List ℕ
left_after rest left = left
left_after (work j) left = set left j (left_of left j - 1)

-- a supplier within a unit: rows of its block passed, and the remaining times
pub record Place : Type 0 where
  pub position : ℕ
  pub left : List ℕ

-- the position after a tick's start: "rows are passed only at a tick's start"
abbrev pub moved : List Row → ℕ → Place → ℕ
moved block elapsed s = s.position + passed (drop s.position block) elapsed s.left

abbrev pub doing : List Row → ℕ → Place → Act
doing block elapsed s = act (drop (moved block elapsed s) block)

-- a job runs in a tick of a block, from a place
abbrev pub runs_in : List Row → ℕ → Place → Bool
runs_in block elapsed s = runs (doing block elapsed s)

abbrev pub tick : List Row → ℕ → Place → Place
tick block elapsed s = record { position = moved block elapsed s; left = left_after (doing block elapsed s) s.left }

-- what a tick does, as the code hands it on: the new position, and the job that runs, if one does
abbrev pub job_of : Act → Option Task
job_of rest = None
job_of (work j) = Some (record { 0 = j })

abbrev pub turn_of : ℕ → Act → Turn
turn_of position a = record { position = position; job = job_of a }

abbrev pub turn : List Row → ℕ → Place → Turn
turn block elapsed s = turn_of (moved block elapsed s) (doing block elapsed s)

-- the remaining times after a turn in which that job runs, or none
unfoldable pub after_turn : Option Task → List ℕ → List ℕ
after_turn job left = elim job [ Some j ↦ set left j.0 (left_of left j.0 - 1) | None ↦ left ]
