-- What the intake comes to: the program that was read, or why there is none.
use Rattle.std.specs.Prelude.{ℕ, cond, List, [], ℤ, pos, get_or, take, drop, Option, Some, None, unwrap_or, Result, Ok, Err}
use Rattle.cells.specs.declared.limits.Program.{Program}
use Rattle.program.specs.Tables.{Tables, tables}
use Rattle.text.specs.Input.{Read, bad, too_many, got}
use Rattle.intake.specs.Change.{nowhere}
use Rattle.intake.specs.Line.{Fed, is_complete}
use Rattle.intake.specs.declared.state.Intake.{Intake}
use Rattle.intake.specs.declared.state.Wrong.{Wrong}
use Rattle.intake.specs.declared.state.Wrong.TheVariants.{Bad, TooMany}

-- a table as it lies in the room: so many numbers from where it begins
abbrev pub piece : Intake → List ℤ → ℕ → List ℤ
piece i room k =
    let span = get_or i.spans k nowhere in
    take span.len (drop span.from room)

-- the program that was read: the ten tables in the room, and the start mode
abbrev pub tables_read : Fed → ℤ → Tables
tables_read f start =
    let t = piece f.intake f.room in
    tables (t 0) (t 1) (t 2) (t 3) (t 4) (t 5) (t 6) (t 7) (t 8) (t 9) start

-- the start mode of a text, 0 before it was read
abbrev pub start_mode : Intake → ℤ
start_mode i = unwrap_or i.start (pos 0)

-- what is heard of a text that says no program: that a count was out of its limit or that it is bad
abbrev pub none_heard : Option Wrong → Read Tables
none_heard None = bad
none_heard (Some Bad) = bad
none_heard (Some TooMany) = too_many

-- what is heard of a text: a program where it is complete, else that a count was out of its limit or that it is bad
unfoldable pub heard : Fed → Read Tables
heard f =
    let i = f.intake in
    cond (is_complete i) (got (tables_read f (start_mode i)) []) (none_heard i.wrong)

-- what is heard of a text that comes to this: its program, or why it says none
abbrev pub heard_as : Fed → Result Program Wrong → Read Tables
heard_as f (Ok p) = got (tables_read f p.start) []
heard_as f (Err w) = none_heard (Some w)
