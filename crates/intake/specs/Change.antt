-- The intake of a text: what is known after some of its bytes, at the start and with some of its fields changed. It is the code's
-- own struct.
use Rattle.std.specs.Prelude.{ℕ, ◌+◌, ◌-◌, ℤ, set, replicate, Some, None}
use Rattle.std.specs.Option.{option_or}
use Rattle.cells.specs.Limits.{table_count}
use Rattle.text.specs.Part.{start_part}
use Rattle.text.specs.declared.number.Part.{Part}
use Rattle.intake.specs.declared.state.Intake.{Intake}
use Rattle.intake.specs.declared.state.Span.{Span}
use Rattle.intake.specs.declared.state.Wrong.TheVariants.{Bad, TooMany}

-- the place of a table that was not begun: no numbers
abbrev pub nowhere : Span
nowhere = record { from = 0; len = 0 }

-- the intake of a text of which nothing was read yet
abbrev pub start_intake : Intake
start_intake = record {
  part = start_part;
  wrong = None;
  start = None;
  table = 0;
  left = 0;
  at = 0;
  spans = replicate table_count nowhere;
}

-- the intake with another part of a line
abbrev pub with_part : Intake → Part → Intake
with_part i p = record {
  part = p;
  wrong = i.wrong;
  start = i.start;
  table = i.table;
  left = i.left;
  at = i.at;
  spans = i.spans;
}

-- the intake of a text that is bad, unless another reason was known
abbrev pub as_bad : Intake → Intake
as_bad i = record {
  part = i.part;
  wrong = option_or i.wrong (Some Bad);
  start = i.start;
  table = i.table;
  left = i.left;
  at = i.at;
  spans = i.spans;
}

-- the intake of a text with a count out of its limit
abbrev pub as_too_many : Intake → Intake
as_too_many i = record {
  part = i.part;
  wrong = Some TooMany;
  start = i.start;
  table = i.table;
  left = i.left;
  at = i.at;
  spans = i.spans;
}

-- the intake after the start mode was read
abbrev pub with_start : Intake → ℤ → Intake
with_start i z = record {
  part = i.part;
  wrong = i.wrong;
  start = Some z;
  table = i.table;
  left = i.left;
  at = i.at;
  spans = i.spans;
}

-- the intake after a number of the latest table was put at the next free place
abbrev pub with_number : Intake → Intake
with_number i = record {
  part = i.part;
  wrong = i.wrong;
  start = i.start;
  table = i.table;
  left = i.left - 1;
  at = i.at + 1;
  spans = i.spans;
}

-- the intake with one table more, which has so many numbers and begins at the next free place
abbrev pub with_table : Intake → ℕ → Intake
with_table i n = record {
  part = i.part;
  wrong = i.wrong;
  start = i.start;
  table = i.table + 1;
  left = n;
  at = i.at;
  spans = set i.spans i.table (record { from = i.at; len = n });
}
