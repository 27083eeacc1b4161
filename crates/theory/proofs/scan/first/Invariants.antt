-- `theory::scan::first` meets its contract: the loop has passed the numbers below k, and none of them passes the test.
use Rattle.std.proofs.Common.{ℕ, Bool}
use Rattle.theory.specs.Search.{Tests}
use Rattle.theory.proofs.Search.{Passed}
use Rattle.theory.proofs.scan.first.Given as goal

abbrev pub invariant-loop-k : goal.invariant-loop-k
invariant-loop-k g l = (p : ℕ → Bool) → Tests (goal.F-post g l.test) l.n p → Passed p l.n l.k
