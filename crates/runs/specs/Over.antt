-- What a tick of a block does, in 003's words, as claims: which rows are over, the first that is not, and what runs then. (proofs/Over.antt
-- joins them with the functions of Tick.antt.)
use Rattle.std.specs.Prelude.{ℕ, ◌+◌, ◌-◌, ◌≤◌, ◌≡◌, List, [], ◌∷◌, ◌++◌, ◌⊎◌, ◌↔◌, length, drop}
use Rattle.theory.specs.Lists.{Every}
use Rattle.runs.specs.Tick.{Kind, dispatch, idle, Row, left_of, rest, work, Place, doing, tick}

-- when e ticks of the block have gone by, a dispatch is over if its timeout is reached or its task has completed, an idle if its timeout is
-- reached; timeouts are counted from the block's start
abbrev pub OverBy : Kind → ℕ → ℕ → ℕ → Type 0
OverBy dispatch timeout left e = (timeout ≤ e) ⊎ (left ≡ 0)
OverBy idle timeout left e = timeout ≤ e

abbrev pub Over : ℕ → List ℕ → Row → Type 0
Over e left x = OverBy x.kind x.timeout (left_of left x.job) e

module _ (e : ℕ) (left : List ℕ) where
  -- the first of some rows, if there is one, is not over
  abbrev pub Open : List Row → Type 0
  Open [] = Unit {0}
  Open (x ∷ xs) = Over e left x → ⊥

  -- some rows are passed up to those behind: the rows in front are over, and the first of those behind is not
  pub record PassedTo (rows behind : List Row) : Type 0 where
    pub before : List Row
    pub in_order : rows ≡ before ++ behind
    pub all-over : Every (Over e left) before
    pub not-over : Open behind

-- In a tick, when e ticks of the block have gone by before it:
module _ (block : List Row) (e : ℕ) (s : Place) where
  -- the rows of the block from the place's position on
  abbrev pub ahead : List Row
  ahead = drop s.position block

  -- job j runs: the first row from the position on that is not over is a dispatch of j
  pub record Runs (j : ℕ) : Type 0 where
    pub row : Row
    pub behind : List Row
    pub first : PassedTo e s.left ahead (row ∷ behind)
    pub dispatches : row.kind ≡ dispatch
    pub of-job : row.job ≡ j

  -- nothing runs: the first row from the position on that is not over is an idle
  pub record Waits : Type 0 where
    pub row : Row
    pub behind : List Row
    pub first : PassedTo e s.left ahead (row ∷ behind)
    pub idles : row.kind ≡ idle

  pub record TickSays : Type 0 where
    pub runs : (j : ℕ) → (doing block e s ≡ work j) ↔ Runs j
    -- nothing runs where the first row that is not over is an idle, or where every row is over: "after the last row nothing runs"
    pub rests : (doing block e s ≡ rest) ↔ (Waits ⊎ Every (Over e s.left) ahead)
    -- the rows that are over are passed at the tick's start, and no other
    pub passes : (behind : List Row) (p : PassedTo e s.left ahead behind) → (tick block e s).position ≡ s.position + length p.before
    -- the job that runs has a tick less to run, and every other as much as before
    pub worked : (j : ℕ) → doing block e s ≡ work j → left_of (tick block e s).left j ≡ left_of s.left j - 1
    pub others : (j : ℕ) → (doing block e s ≡ work j → ⊥) → left_of (tick block e s).left j ≡ left_of s.left j
