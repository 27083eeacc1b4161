-- `theory::scan::count` meets its contract: what was counted and what is left are all.
use Rattle.std.proofs.Common.{ℕ, Bool, ◌≤◌}
use Rattle.theory.specs.Search.{Tests}
use Rattle.theory.proofs.Counting.{Counted}
use Rattle.theory.proofs.scan.count.Given as goal

abbrev pub invariant-loop-k : goal.invariant-loop-k
invariant-loop-k g l = (l.count ≤ l.k) × ((p : ℕ → Bool) → Tests (goal.F-post g l.test) l.n p → Counted p l.n l.k l.count)
