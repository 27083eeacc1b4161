-- What is written for a row of a table, for the rows that are due, and for a sensor.
use Rattle.std.specs.Prelude.{ℕ, ◌<◌, ◌≡◌, Bool, List, ℤ}
use Rattle.cells.specs.Cell.{named_at}
use Rattle.program.specs.Tables.{invocation_width, invocation_task_column, invocation_driver_column, update_width, update_driver_column}
use Rattle.program.specs.Units.{row_due, due_rows}
use Rattle.code.specs.Op.{schedule}
use Rattle.code.specs.Listing.{call_driver, call_output, call_sensor}
use Rattle.words.specs.Written.{Words, words_in, three}
use Rattle.words.specs.declared.Instruction.{Instruction}
use Rattle.layout.specs.declared.counts.Instant.{Instant}

-- row i of a table of this width is due at the unit
abbrev pub is_due : ℕ → List ℤ → Instant → ℕ → Bool
is_due width t when = row_due width t when.mode.0 when.units when.unit

-- what stands in each row of a table of this width that is due at the unit, in table order
abbrev pub due_at : {A : Type 0} → ℕ → List ℤ → Instant → (ℕ → A) → List A
due_at width t when row = due_rows width t when.mode.0 when.units when.unit row

-- what row i is written as: of an invocation its task's output copy, its driver or its task's schedule; of an update its driver
abbrev pub output_in : List ℤ → ℕ → Words
output_in t i = three (call_output (named_at invocation_width invocation_task_column t i))

abbrev pub update_in : List ℤ → ℕ → Words
update_in t i = three (call_driver (named_at update_width update_driver_column t i))

abbrev pub driver_in : List ℤ → ℕ → Words
driver_in t i = three (call_driver (named_at invocation_width invocation_driver_column t i))

abbrev pub schedule_in : List ℤ → ℕ → Words
schedule_in t i = three (schedule (named_at invocation_width invocation_task_column t i))

-- the instructions of the rows that are due at the unit
abbrev pub outputs_in : List ℤ → Instant → List Words
outputs_in t when = due_at invocation_width t when (output_in t)

abbrev pub updates_in : List ℤ → Instant → List Words
updates_in t when = due_at update_width t when (update_in t)

abbrev pub drivers_in : List ℤ → Instant → List Words
drivers_in t when = due_at invocation_width t when (driver_in t)

abbrev pub schedules_in : List ℤ → Instant → List Words
schedules_in t when = due_at invocation_width t when (schedule_in t)

-- the instruction that reads sensor p
abbrev pub reading : ℕ → Words
reading p = three (call_sensor p)

-- what is asked of each row below n, by a call that may make instruction o, makes what `words` says
abbrev pub Makes : (ℕ → Instruction → Type 0) → ℕ → (ℕ → Words) → Type 0
Makes made n words = (k : ℕ) → k < n → (o : Instruction) → made k o → words_in o ≡ words k
