-- The blocks of a mode, as they are written from the lent tables; where each stands is counted.
use Rattle.std.specs.Prelude.{ℕ, suc, ◌+◌, true, false, List, eqb}
use Rattle.theory.specs.Lists.{cat, sum}
use Rattle.program.specs.Tables.{Tables}
use Rattle.layout.specs.declared.counts.Counts.{Counts}
use Rattle.layout.specs.Counts.{before_future, size_of}
use Rattle.words.specs.Written.{Words}
use Rattle.writing.specs.Block.{parts_in, counts_at}
use Rattle.layout.specs.declared.counts.Instant.{Instant}
use Rattle.writing.specs.declared.blocks.Aim.{Aim}
use Rattle.compiler.specs.declared.rounds.Round.{Round}

-- unit k of a round
abbrev pub unit_of : Round → ℕ → Instant
unit_of round k = record { mode = round.mode; units = round.units; unit = k }

-- the block after that of unit k, which ends at `end`: around the round it is the first
abbrev pub next_in : Round → ℕ → ℕ → ℕ
next_in round k end = elim (eqb (suc k) round.units) [ true ↦ round.first | false ↦ end ]

-- the numbers in the block of unit k at an address: its stubs stand behind its `future` and `return`
abbrev pub aim_in : Round → ℕ → ℕ → Counts → Aim
aim_in round k at due =
    record { stub = at + before_future due + 2; ticks = round.ticks; next = next_in round k (at + size_of due) }

-- the block of unit k at an address
abbrev pub block_in : Tables → List ℕ → Round → ℕ → ℕ → List Words
block_in T entries round k at = parts_in T entries (unit_of round k) (aim_in round k at (counts_at T (unit_of round k)))

-- where the block of unit k of a round stands
abbrev pub block_start : Tables → Round → ℕ → ℕ
block_start T round k = round.first + sum (λ j. size_of (counts_at T (unit_of round j))) k

-- the blocks of a round, one after the other
abbrev pub round_in : Tables → List ℕ → Round → List Words
round_in T entries round = cat (λ k. block_in T entries round k (block_start T round k)) round.units
