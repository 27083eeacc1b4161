-- The worst case decides: the run with all worst-case times keeps to its windows and terminations exactly where every fair
-- run does. Assumes, for that every fair run's doing so settles the worst case, that each released job's worst case is at least 1.
use Prim.Native.Nat.{ℕ, ◌≤◌}
use mathlib.Core.Path.{◌≡◌}
use mathlib.Core.Bool.{true}
use mathlib.Core.List.{List}
use mathlib.Core.Logic.Iff
use mathlib.Core.Logic.{◌↔◌}
use native.Mathlib.Omega.{arith}
use Rattle.theory.specs.Lists.{member}
use Rattle.runs.specs.Round.{Course, Choice, Good, WithinWorst, worst_case, none, worst_break}
use Rattle.runs.proofs.Dominated.{good-shorter}
use Rattle.runs.proofs.First.{judge-exactly}

-- where the worst-case run is good, every fair run is
pub worst-decides : (C : Course) (left : List ℕ) → Good C (worst_case C) left → (c : Choice) → WithinWorst C c → Good C c left
worst-decides C left g c f = good-shorter C c (worst_case C) (λ k j m. (f k j m).1) left left (omega arith) (λ j w. omega arith) g

-- every released job takes at least one tick
abbrev pub SomeTime : Course → Type 0
SomeTime C = (k j : ℕ) → member j (C.released k) ≡ true → 1 ≤ C.worst j

-- the worst-case choice is fair
pub worst-suited : (C : Course) → SomeTime C → WithinWorst C (worst_case C)
worst-suited C one k j m = (one k j m, omega arith)

-- the worst-case run is good exactly where every fair run is
pub exactly : (C : Course) (left : List ℕ) → SomeTime C → Good C (worst_case C) left ↔ ((c : Choice) → WithinWorst C c → Good C c left)
exactly C left one = (worst-decides C left, λ h. h (worst_case C) (worst-suited C one))

-- the worst-case run has no break exactly where every fair run is good
pub no-break-exactly : (C : Course) (left : List ℕ) → SomeTime C → (worst_break C left ≡ none) ↔ ((c : Choice) → WithinWorst C c → Good C c left)
no-break-exactly C left one = Iff.trans (judge-exactly C (worst_case C) left none) (exactly C left one)
