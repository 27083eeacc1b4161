-- The intake after one line more: the start mode, a row count, or a number of a table, which goes into the room.
use Rattle.std.specs.Prelude.{◌*◌, Bool, cond, ◌&&◌, List, eqb, ltb, leb, ℤ, length, set, Option, Some, None, is_some, is_none}
use Rattle.cells.specs.Cell.{index_of}
use Rattle.cells.specs.Limits.{table_count}
use Rattle.intake.specs.Shapes.{shape_at}
use Rattle.intake.specs.Change.{as_bad, as_too_many, with_start, with_number, with_table}
use Rattle.intake.specs.declared.state.Intake.{Intake}

-- the intake and its room
pub record Fed : Type 0 where
  pub intake : Intake
  pub room : List ℤ

-- an intake and its room put together
abbrev pub fed : Intake → List ℤ → Fed
fed i room = record { intake = i; room = room }

-- the text is decided: more bytes change nothing
unfoldable pub is_decided : Intake → Bool
is_decided i = is_some i.wrong

-- the text is complete: the last row was read, and nothing after it
unfoldable pub is_complete : Intake → Bool
is_complete i = is_none i.wrong && is_some i.start && eqb i.table table_count && eqb i.left 0

-- after a number of the latest table: it stands at the next free place; without one the text is refused
unfoldable pub stored_of : Fed → ℤ → Fed
stored_of f z =
    let i = f.intake in
    cond (ltb i.at (length f.room)) (fed (with_number i) (set f.room i.at z)) (fed (as_bad i) f.room)

-- after the row count of the next table: a negative one is out of every range, and nothing may follow the last table
unfoldable pub counted_of : Intake → ℤ → Intake
counted_of i z =
    let rows = index_of z in
    let shape = shape_at i.table in
    cond (leb table_count i.table) (as_bad i)
    (cond (leb rows shape.limit) (with_table i (rows * shape.width)) (as_too_many i))

-- after a whole line of a text that is not decided: the start mode, a number of the latest table, or the next row count
abbrev pub number_read : Fed → Option ℤ → Fed
number_read f None = fed (as_bad f.intake) f.room
number_read f (Some z) =
    let i = f.intake in
    cond (is_none i.start) (fed (with_start i z) f.room)
    (cond (ltb 0 i.left) (stored_of f z) (fed (counted_of i z) f.room))

-- after a whole line: what is decided stays
unfoldable pub took_of : Fed → Option ℤ → Fed
took_of f number = cond (is_decided f.intake) f (number_read f number)
