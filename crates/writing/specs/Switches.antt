-- What is written for the switches of a mode that are due: from the rows of their table, and the addresses at which modes are entered.
use Rattle.std.specs.Prelude.{ℕ, ◌≤◌, List, [], ◌∷◌, ℤ, get_or}
use Rattle.cells.specs.Cell.{named_at, greatest_word}
use Rattle.program.specs.Tables.{row_frequency, switch_width, switch_target_column, switch_driver_column}
use Rattle.program.specs.Program.{Switch}
use Rattle.code.specs.Op.{Op, jump}
use Rattle.code.specs.Listing.{call_driver}
use Rattle.writing.specs.Rows.{due_at}
use Rattle.layout.specs.declared.counts.Instant.{Instant}

-- the switch that row i of the table says
abbrev pub switch_in : List ℤ → ℕ → Switch
switch_in t i =
    record {
      frequency = row_frequency switch_width t i;
      target = named_at switch_width switch_target_column t i;
      driver = named_at switch_width switch_driver_column t i;
    }

-- the switches of the table that are due at the unit
abbrev pub switches_in : List ℤ → Instant → List Switch
switches_in t when = due_at switch_width t when (switch_in t)

-- the stubs of switches: for each `call driver`, `jump` to where its target is entered
abbrev pub stubs_in : List ℕ → List Switch → List Op
stubs_in entries [] = []
stubs_in entries (w ∷ ws) = call_driver w.driver ∷ jump (get_or entries w.target 0) ∷ stubs_in entries ws

-- every address of a list fits a word
abbrev pub Addresses : List ℕ → Type 0
Addresses entries = (m : ℕ) → get_or entries m 0 ≤ greatest_word
