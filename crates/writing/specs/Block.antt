-- A block as it is written from the lent tables.
use Rattle.std.specs.Prelude.{ℕ, ◌+◌, ◌*◌, ◌≤◌, List, [], ◌∷◌, ◌++◌, map, ℤ, length}
use Rattle.cells.specs.Cell.{greatest_word}
use Rattle.cells.specs.Limits.{max_switches}
use Rattle.program.specs.Tables.{Tables}
use Rattle.program.specs.Sets.{sensor_rows}
use Rattle.code.specs.Op.{future, return}
use Rattle.code.specs.Listing.{tests_of}
use Rattle.layout.specs.declared.counts.Counts.{Counts}
use Rattle.layout.specs.Counts.{counts_in}
use Rattle.words.specs.Written.{Words, three}
use Rattle.writing.specs.Rows.{reading, outputs_in, updates_in, drivers_in, schedules_in}
use Rattle.writing.specs.Switches.{switches_in, stubs_in}
use Rattle.layout.specs.declared.counts.Instant.{Instant}
use Rattle.writing.specs.declared.blocks.Aim.{Aim}

-- the numbers in a block fit words, and so does the address of each of its stubs
pub record Aimed (aim : Aim) : Type 0 where
  pub stub : aim.stub + 2 * max_switches ≤ greatest_word
  pub ticks : aim.ticks ≤ greatest_word
  pub next : aim.next ≤ greatest_word

-- what stands before the switch tests of a block: output copies of due tasks; due updates; all sensors
abbrev pub head_in : List ℤ → List ℤ → List ℤ → Instant → List Words
head_in ports invocations updates when =
    outputs_in invocations when ++ (updates_in updates when ++ sensor_rows ports reading)

-- what stands from the entry of a block to its `future`: due task drivers; their schedules
abbrev pub body_in : List ℤ → Instant → List Words
body_in invocations when = drivers_in invocations when ++ schedules_in invocations when

-- what stands between the schedules of a block and its stubs: `future` one unit, next unit's block; `return`
abbrev pub end_in : Aim → List Words
end_in aim = map three (future aim.ticks aim.next ∷ return ∷ [])

-- the parts of a block, with these numbers in them
abbrev pub parts_in : Tables → List ℕ → Instant → Aim → List Words
parts_in T entries when aim =
    head_in T.ports T.invocations T.updates when
    ++ (map three (tests_of (switches_in T.switches when) aim.stub)
    ++ (body_in T.invocations when
    ++ (end_in aim
    ++ map three (stubs_in entries (switches_in T.switches when)))))

-- how many rows of each table are due at the unit, and how many sensors there are
abbrev pub counts_at : Tables → Instant → Counts
counts_at T when =
    counts_in T.invocations T.updates T.switches (length (sensor_rows T.ports (λ p. p))) when.mode.0 when.units
    when.unit
