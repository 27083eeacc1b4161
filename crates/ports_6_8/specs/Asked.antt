-- A question asked of a port, by a call that answers it.
use Rattle.std.specs.Prelude.{ℕ, ◌<◌, ◌≡◌, Bool}
use Rattle.cells.specs.declared.kinds.Port.{Port}

-- what is asked of each port, by a call that may answer b, answers what the test bad says of the port's number
abbrev pub Asks : (Port → Bool → Type 0) → (ℕ → Bool) → Type 0
Asks answers bad = (p : Port) → p.0 < 256 → (b : Bool) → answers p b → b ≡ bad p.0
