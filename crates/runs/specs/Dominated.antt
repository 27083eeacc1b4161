-- A supplier within a unit is ahead of another run of the same block: at least as far, and owing at most as much of the jobs that are
-- asked about (`Own`: all jobs, or those of one supplier). As claims.
use Rattle.std.specs.Prelude.{ℕ, ◌≤◌, ◌≡◌, List}
use Rattle.theory.specs.Lists.{Every}
use Rattle.runs.specs.Tick.{dispatch, Row, left_of, passed, Place}

-- a place is settled at a tick: the rows that it has passed so far are passed at this tick too
abbrev pub Settled : List Row → ℕ → Place → Type 0
Settled block elapsed s = s.position ≤ passed block elapsed s.left

module _ (Own : ℕ → Type 0) where
  -- every dispatch of these rows is of a job that is asked about
  abbrev pub OwnRows : List Row → Type 0
  OwnRows block = Every (λ x. x.kind ≡ dispatch → Own x.job) block

  -- of every job that is asked about, remaining times r owe at most as much as q
  abbrev pub AtMost : List ℕ → List ℕ → Type 0
  AtMost r q = (j : ℕ) → Own j → left_of r j ≤ left_of q j

  -- place s is dominated by place d: s is at least as far in the block and owes at most as much
  pub record Dominated (block : List Row) (elapsed : ℕ) (s d : Place) : Type 0 where
    pub further : d.position ≤ s.position
    pub owes : AtMost s.left d.left
    pub settled-s : Settled block elapsed s
    pub settled-d : Settled block elapsed d
