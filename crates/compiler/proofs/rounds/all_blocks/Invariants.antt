-- `compiler::rounds::all_blocks` meets its contract: after so many units their blocks are written.
use Prim.Native.Nat.{ℕ}
use mathlib.Core.List.{List}
use lib.IntN.{pos}
use Rattle.program.specs.Tables.{Tables, tables_in}
use Rattle.compiler.specs.declared.rounds.Round.{Round}
use Rattle.words.specs.Written.{Words, written}
use Rattle.compiler.specs.Rounds.{block_in, block_start}
use Rattle.compiler.proofs.Grown.{Grown}
use Rattle.compiler.proofs.rounds.all_blocks.Given as goal

-- the block of unit k, at its address
abbrev pub piece : Tables → List ℕ → Round → ℕ → List Words
piece T entries round k = block_in T entries round k (block_start T round k)

abbrev pub invariant-loop-unit : goal.invariant-loop-unit
invariant-loop-unit l =
    Grown (piece (tables_in l.source.tables.now (pos 0)) l.source.entries.now l.round) l.round.units l.unit (written l.initial.code l.round.first) (written l.code l.at)
