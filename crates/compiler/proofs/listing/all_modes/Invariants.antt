-- `compiler::listing::all_modes` meets its contract: after so many modes their blocks are written.
use Prim.Native.Nat.{ℕ}
use mathlib.Core.List.{List}
use lib.IntN.{ℤ}
use Rattle.program.specs.Tables.{Tables, tables_in, mode_count}
use Rattle.words.specs.Written.{Words, written}
use Rattle.compiler.specs.Modes.{mode_in, mode_start}
use Rattle.compiler.proofs.Grown.{Grown}
use Rattle.compiler.proofs.listing.all_modes.Given as goal

-- the blocks of mode m, where the mode stands
abbrev pub piece : Tables → List ℕ → ℕ → List Words
piece T entries m = mode_in T entries m (mode_start T m)

abbrev pub invariant-loop-k : goal.invariant-loop-k
invariant-loop-k l =
    (start : ℤ) → let T = tables_in l.source.tables.now start in Grown (piece T l.source.entries.now) (mode_count T) l.k (written l.initial.code 1) (written l.code l.at)
