-- `writing::rows::passing` meets its contract: after k rows the instructions of those that pass are written.
use Rattle.std.proofs.Common.{ℕ, Bool, ◌+◌, ◌≤◌}
use Rattle.theory.specs.Search.{Tests}
use Rattle.words.specs.Written.{Words, written}
use Rattle.writing.specs.Rows.{Makes}
use Rattle.writing.proofs.Passing.{Passing}
use Rattle.writing.proofs.rows.passing.Given as goal

abbrev pub invariant-loop-k : goal.invariant-loop-k
invariant-loop-k g l =
    (l.next ≤ l.at + l.k)
    × ((p : ℕ → Bool) → (words : ℕ → Words) → Tests (goal.T-post g l.test) l.n p → Makes (goal.R-post g l.row) l.n words
    → Passing p words l.k (written l.initial.code l.at) (written l.code l.next))
