-- `layout::delays::fill` meets its contract: after k modes the marks and the ticks are those of the first k, and the next
-- one begins behind them.
use Prim.Native.Nat.{ℕ}
use mathlib.Core.Path.{◌≡◌}
use mathlib.Core.List.{List}
use lib.IntN.{ℤ}
use Rattle.theory.specs.Lists.{filled}
use Rattle.program.specs.Tables.{Tables, tables_in, mode_count}
use Rattle.program.specs.Units.{units}
use Rattle.layout.specs.Layout.{unit_counts, size_in}
use Rattle.layout.specs.Delays.{units_marked, ticks_in}
use Rattle.layout.proofs.Walked.{Walking}
use Rattle.layout.proofs.delays.fill.Given as goal

-- what the modes before mode m have marked and put, and where mode m begins
abbrev pub Marked : Tables → ℕ → List ℕ → List ℕ → ℕ → ℕ → List ℕ → List ℕ → Type 0
Marked T sensors marks₀ ticks₀ m at marks ticks =
    Walking (size_in T sensors) (λ m at table. units_marked (unit_counts T sensors m) m at (units T m) table) 1 (mode_count T) marks₀ m at marks
    × (ticks ≡ filled (ticks_in T) m ticks₀)

abbrev pub invariant-loop-k : goal.invariant-loop-k
invariant-loop-k l =
    (start : ℤ) → Marked (tables_in l.tables start) l.sensors l.initial.marks l.initial.ticks l.k l.at l.marks l.ticks
