-- What reading comes to, whatever reads bring: after each read what is known of the text, and whether the program reads on.
use Rattle.std.specs.Prelude.{ℕ, zero, suc, ◌≡◌, Bool, true, false, not, List, [], ◌∷◌, ℤ, length, take, Option, Some, None}
use Rattle.std.specs.declared.ops.ControlFlow.{ControlFlow}
use Rattle.std.specs.declared.ops.ControlFlow.TheVariants.{Continue, Break}
use Rattle.streams.specs.Counts.{clamp_len}
use Rattle.intake.specs.Change.{start_intake, as_bad}
use Rattle.intake.specs.Line.{Fed, fed, is_decided}
use Rattle.intake.specs.Bytes.{fed_all, ended_of}
use Rattle.intake.specs.declared.state.Intake.{Intake}

-- what a read brings: a piece of the text, its end, or nothing because it failed
pub data Brought : Type 0 where
  piece : List ℕ → Brought
  end : Brought
  failure : Brought

-- what a read of so many bytes has brought to the buffer's start: none is the end of the input
abbrev pub piece_of : ℕ → List ℕ → Brought
piece_of zero buffer = end
piece_of (suc n) buffer = piece (take (suc n) buffer)

-- what a read has brought that moved so many bytes, or failed, and left this in the buffer
unfoldable pub brought : Option ℕ → List ℕ → Brought
brought None buffer = failure
brought (Some n) buffer = piece_of (clamp_len (Some n) (length buffer)) buffer

-- what is known of the text, and whether the program reads on
pub record Hearing : Type 0 where
  pub fed : Fed
  pub more : Bool

-- what is known of the text and whether the program reads on, put together
abbrev pub hearing : Fed → Bool → Hearing
hearing f more = record { fed = f; more = more }

-- what is known of the text, and whether the program reads on, as the code answers it
abbrev pub heard_as : ControlFlow Intake Intake → List ℤ → Hearing
heard_as (Continue i) room = hearing (fed i room) true
heard_as (Break i) room = hearing (fed i room) false

-- what is known after a read: at the end a last line without a line end is a line; a read that fails leaves the text bad
unfoldable pub after_read : Fed → Brought → Hearing
after_read f (piece bytes) = hearing (fed_all f bytes) (not (is_decided (fed_all f bytes).intake))
after_read f end = hearing (ended_of f) false
after_read f failure = hearing (fed (as_bad f.intake) f.room) false

-- what is known after these reads, as long as the program reads on
abbrev pub hears : Hearing → List Brought → Hearing
hears h [] = h
hears h (b ∷ bs) = elim h.more [ true ↦ hears (after_read h.fed b) bs | false ↦ h ]

-- what is known before the first read
abbrev pub silent : List ℤ → Hearing
silent room = hearing (fed start_intake room) true

-- what one read, whatever it brought, has come to
pub record AfterOne (before : Fed) (after : Hearing) : Type 0 where
  pub read : Brought
  pub comes : after_read before read ≡ after

-- what some reads have come to, from the first on
pub record AfterSome (room : List ℤ) (after : Hearing) : Type 0 where
  pub reads : List Brought
  pub comes : hears (silent room) reads ≡ after
