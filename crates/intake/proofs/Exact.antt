-- The intake hears exactly what the definition says of the text, and as soon as the text is decided.
use Prim.Native.Nat.{ℕ}
use mathlib.Core.Path.{◌≡◌, refl, sym, ap, ◌∙◌}
use mathlib.Core.List.{List, [], ◌++◌}
use native.Mathlib.Omega.{arith}
use lib.IntN.{ℤ, pos}
use lib.ListN.{length, replicate, length-replicate}
use Rattle.text.specs.Input.{program_read, lines, numbers_of}
use Rattle.intake.specs.Shapes.{whole_room}
use Rattle.intake.specs.Change.{start_intake}
use Rattle.intake.specs.Line.{Fed, fed}
use Rattle.intake.specs.Bytes.{ended_of}
use Rattle.intake.specs.Heard.{heard}
use Rattle.intake.specs.Exact.{Roomy, taken_in, ReadsExactly, DecidesAtOnce}
use Rattle.intake.proofs.Cut.{cut-anywhere}
use Rattle.intake.proofs.Decided.{decided-stays}
use Rattle.intake.proofs.Resume.{resume}
use Rattle.intake.proofs.Sound.{Sound}
use Rattle.intake.proofs.Text.{text-heard}

-- at the start there is room for all tables
sound-fresh : (room : List ℤ) → Roomy room → Sound start_intake (length room)
sound-fresh room h =
    record {
      fresh = λ e. (refl, refl);
      few = omega arith;
      spans-all = refl;
      apart = λ k b. absurd (omega arith);
      enough = omega arith;
    }

-- at the start all lines are left
all_left : (room : List ℤ) (text : List ℕ) → resume (fed start_intake room) (numbers_of (lines text)) ≡ program_read text
unfolding resume
all_left room text = refl

-- what is heard of a whole text is what the definition says of it
pub reads-exactly : ReadsExactly
reads-exactly room h text = text-heard text (fed start_intake room) [] tt (sound-fresh room h) refl ∙ all_left room text

-- what was heard of a text that is decided is what the definition says of it, whatever follows
pub decides-at-once : DecidesAtOnce
decides-at-once room h text more d =
    sym (decided-stays (taken_in room text) d more)
    ∙ ap (λ (f : Fed). heard (ended_of f)) (cut-anywhere (fed start_intake room) text more)
    ∙ reads-exactly room h (text ++ more)

-- a room of zeros has a place for every number: an instance of the premise
zeros-roomy : Roomy (replicate whole_room (pos 0))
zeros-roomy = omega (arith, length-replicate whole_room (pos 0))
