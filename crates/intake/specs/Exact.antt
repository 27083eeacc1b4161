-- What is promised of the intake: it hears exactly what the definition `program` says of the text, however the input is cut and
-- whatever the room held before; and a caller may stop as soon as the text is decided.
use Rattle.std.specs.Prelude.{ℕ, ◌≤◌, ◌≡◌, true, List, ◌++◌, ℤ, pos, length, replicate}
use Rattle.text.specs.Input.{program_read}
use Rattle.intake.specs.Shapes.{whole_room}
use Rattle.intake.specs.Change.{start_intake}
use Rattle.intake.specs.Line.{Fed, fed, is_decided}
use Rattle.intake.specs.Bytes.{fed_all, ended_of}
use Rattle.intake.specs.Heard.{heard}

-- there is a place for every number of the largest program
abbrev pub Roomy : List ℤ → Type 0
Roomy room = whole_room ≤ length room

-- a room with a place for every number of the largest program, before anything is read
abbrev pub empty_room : List ℤ
empty_room = replicate whole_room (pos 0)

-- what is known of a text after all of its bytes, read into this room
abbrev pub taken_in : List ℤ → List ℕ → Fed
taken_in room text = fed_all (fed start_intake room) text

-- a whole text comes to what the definition says of it
abbrev pub ReadsExactly : Type 0
ReadsExactly = (room : List ℤ) → Roomy room → (text : List ℕ) → heard (ended_of (taken_in room text)) ≡ program_read text

-- two pieces of input, one after the other, are one
abbrev pub CutAnywhere : Type 0
CutAnywhere = (f : Fed) (first second : List ℕ) → fed_all (fed_all f first) second ≡ fed_all f (first ++ second)

-- once the text is decided, more bytes change nothing of what is heard
abbrev pub DecidedStays : Type 0
DecidedStays = (f : Fed) → is_decided f.intake ≡ true → (more : List ℕ) → heard (ended_of (fed_all f more)) ≡ heard f

-- once the text is decided, what was heard is what the definition says of the text, whatever follows
abbrev pub DecidesAtOnce : Type 0
DecidesAtOnce = (room : List ℤ) → Roomy room → (text more : List ℕ)
    → is_decided (taken_in room text).intake ≡ true → heard (taken_in room text) ≡ program_read (text ++ more)
