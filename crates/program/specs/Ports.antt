-- Port values, as a list of the 64 ports; what a driver and what a task gives do to them.
use Rattle.std.specs.Prelude.{ℕ, true, false, List, [], map, ℤ, pos, get_or}
use Rattle.theory.specs.Lists.{gather, Put, puts}
use Rattle.program.specs.Guard.{holds}
use Rattle.program.specs.Program.{Driver}

-- the value of a port, among values by port
abbrev pub value_of : List ℤ → ℕ → ℤ
value_of v p = get_or v p (pos 0)

abbrev pub values_of : List ℤ → List ℕ → List ℤ
values_of v ps = map (value_of v) ps

-- the assignments that these ports take these values
abbrev pub assigned : (ℕ → ℤ) → List ℕ → List Put
assigned value ps = map (λ p. record { place = p; value = value p }) ps

-- what a driver's copies move where the ports have the values v
abbrev pub copy_puts : List ℤ → Driver → List Put
copy_puts v D = map (λ c. record { place = c.destination; value = value_of v c.source }) D.copies

-- what a driver moves where the ports have the values v: nothing unless its guard holds
abbrev pub moves : List ℤ → Driver → List Put
moves v D = elim (holds D.guard (value_of v)) [ true ↦ copy_puts v D | false ↦ [] ]

-- the values after a driver: "a driver reads all its sources before it writes any destination"
abbrev pub drive : Driver → List ℤ → List ℤ
drive D v = puts (moves v D) v

-- the values after several drivers at once: all read before any writes
abbrev pub drive_all : List Driver → List ℤ → List ℤ
drive_all Ds v = puts (gather (moves v) Ds) v
