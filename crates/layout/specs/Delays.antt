-- The delays of a code's `future`s by address, 0 where none stands: as a table; and, since all delays of a mode are the ticks of its
-- unit, as marks of the modes whose `future`s stand there with the ticks of each mode.
use Rattle.std.specs.Prelude.{ℕ, zero, suc, ◌+◌, ◌/◌, List, [], ◌∷◌, length, get_or, set, replicate}
use Rattle.std.proofs.Math.Option.{Option, none, some}
use Rattle.theory.specs.Lists.{filled, sum}
use Rattle.cells.specs.Cell.{unnamed}
use Rattle.cells.specs.Limits.{max_modes, max_code}
use Rattle.program.specs.Tables.{Tables, mode_count, mode_period}
use Rattle.program.specs.Sets.{sensor_rows}
use Rattle.program.specs.Units.{units}
use Rattle.code.specs.Op.{Op}
use Rattle.code.specs.Compile.{future_delay}
use Rattle.layout.specs.declared.counts.Counts.{Counts}
use Rattle.layout.specs.Counts.{before_future, size_of}
use Rattle.layout.specs.Layout.{unit_counts, size_in}

-- a delay as a number, and 0 where there is none
abbrev pub delay_number : Option ℕ → ℕ
delay_number none = 0
delay_number (some d) = d

-- a delay put at its address
abbrev pub mark : Option ℕ → ℕ → List ℕ → List ℕ
mark none a table = table
mark (some d) a table = set table a d

-- the delay of each `future` of these instructions put at its address; the first instruction stands at address a
abbrev pub marked : List Op → ℕ → List ℕ → List ℕ
marked [] a table = table
marked (o ∷ os) a table = marked os (suc a) (mark (future_delay o) a table)

-- pieces that stand one after the other from address a on: what the first n of them do to the table, each at its address
abbrev pub walked : (ℕ → ℕ) → (ℕ → ℕ → List ℕ → List ℕ) → ℕ → ℕ → List ℕ → List ℕ
walked size step a zero table = table
walked size step a (suc n) table = step n (a + sum size n) (walked size step a n table)

-- a number at the `future` of each of the first n units of a mode, which begins at address a
abbrev pub units_marked : (ℕ → Counts) → ℕ → ℕ → ℕ → List ℕ → List ℕ
units_marked counts x = walked (λ k. size_of (counts k)) (λ k at table. set table (at + before_future (counts k)) x)

-- the number that each of the first n modes is given at the `future` of each of its units, behind the jump at address 0
abbrev pub modes_marked : Tables → ℕ → (ℕ → ℕ) → ℕ → List ℕ → List ℕ
modes_marked T sensors given =
    walked (size_in T sensors) (λ m at table. units_marked (unit_counts T sensors m) (given m) at (units T m) table) 1

-- every mode at the `future` of each of its units
abbrev pub mode_marks : Tables → List ℕ → List ℕ
mode_marks T = modes_marked T (length (sensor_rows T.ports (λ p. p))) (λ m. m) (mode_count T)

-- the ticks of a unit of mode m
abbrev pub ticks_in : Tables → ℕ → ℕ
ticks_in T m = mode_period T m / units T m

-- the ticks of a unit of each mode, by mode
abbrev pub mode_ticks : Tables → List ℕ → List ℕ
mode_ticks T = filled (ticks_in T) (mode_count T)

-- the delay at each address: the ticks of the mode that is marked there; where none is, `unnamed` is, and past the end stands 0
unfoldable pub delays_of : List ℕ → List ℕ → ℕ → ℕ
delays_of marks ticks a = get_or ticks (get_or marks a unnamed) 0

-- the delays that are counted from the tables
abbrev pub counted_delays : Tables → ℕ → ℕ
counted_delays T = delays_of (mode_marks T (replicate max_code unnamed)) (mode_ticks T (replicate max_modes 0))
