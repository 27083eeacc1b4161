-- The blocks of all modes, as they are written from the lent tables; where each mode stands is counted.
use Rattle.std.specs.Prelude.{ℕ, ◌/◌, List, ◌∷◌, length}
use Rattle.theory.specs.Lists.{cat}
use Rattle.program.specs.Tables.{Tables, mode_count, mode_period}
use Rattle.program.specs.Sets.{sensor_rows}
use Rattle.program.specs.Units.{units}
use Rattle.code.specs.Op.{jump}
use Rattle.layout.specs.Layout.{start_in}
use Rattle.words.specs.Written.{Words, three}
use Rattle.compiler.specs.Rounds.{round_in}
use Rattle.compiler.specs.declared.rounds.Round.{Round}

-- the round of mode m, whose first block stands at an address
abbrev pub round_of : Tables → ℕ → ℕ → Round
round_of T m first = record { mode = record { 0 = m }; units = units T m; ticks = mode_period T m / units T m; first = first }

-- the blocks of mode m, of which the first stands at an address
abbrev pub mode_in : Tables → List ℕ → ℕ → ℕ → List Words
mode_in T entries m first = round_in T entries (round_of T m first)

-- where mode m stands
abbrev pub mode_start : Tables → ℕ → ℕ
mode_start T m = start_in T (length (sensor_rows T.ports (λ p. p))) m

-- the blocks of the first n modes, one mode after the other
abbrev pub modes_in : Tables → List ℕ → ℕ → List Words
modes_in T entries n = cat (λ m. mode_in T entries m (mode_start T m)) n

-- the whole listing: a jump to this address, then all modes
abbrev pub all_in : Tables → List ℕ → ℕ → List Words
all_in T entries first = three (jump first) ∷ modes_in T entries (mode_count T)
