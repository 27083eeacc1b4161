-- What the definition says of the lines that are left, from what is known of the text so far.
use mathlib.Core.Path.{◌≡◌, refl, ap}
use mathlib.Core.Bool.{true, false, cond}
use mathlib.Core.List.{List, [], ◌++◌}
use mathlib.Core.Option.{Option as Line}
use lib.IntN.{ℤ}
use lib.ListN.{take, drop}
use Rattle.std.specs.Prelude.{Option, Some, None, is_some}
use Rattle.program.specs.Tables.{Tables}
use Rattle.text.specs.Input.{Read, then, one, shapes}
use Rattle.intake.specs.Line.{Fed, fed}
use Rattle.intake.specs.Heard.{piece, start_mode, none_heard}
use Rattle.intake.specs.declared.state.Intake.{Intake}
use Rattle.intake.specs.declared.state.Wrong.{Wrong}
use Rattle.intake.proofs.Rest.{finish, going}
use Rattle.intake.proofs.Pieces.{pieces}

-- the tables that were begun, with the numbers that are still to come
abbrev pub begun : Intake → List ℤ → List ℤ → List (List ℤ)
begun i room zs = pieces (piece i (take i.at room ++ zs)) i.table

-- what the definition says of all lines from the start mode on
abbrev pub from_start : List (Line ℤ) → Read Tables
from_start rest = then (one rest) (λ start more. finish shapes start [] more)

-- what the definition says of the lines that are left in the middle of a text
abbrev pub from_here : Intake → List ℤ → List (Line ℤ) → Read Tables
from_here i room rest = going i.left (drop i.table shapes) (begun i room) (start_mode i) rest

-- what the definition says, unless it was said already that the text is no program
abbrev pub unless_wrong : Option Wrong → Read Tables → Read Tables
unless_wrong None r = r
unless_wrong (Some w) r = none_heard (Some w)

-- what the definition says of the lines that are left, whatever is known of the text
unfoldable pub resume : Fed → List (Line ℤ) → Read Tables
resume f rest =
    let i = f.intake in
    unless_wrong i.wrong (cond (is_some i.start) (from_here i f.room rest) (from_start rest))

module _ (i : Intake) (room : List ℤ) (rest : List (Line ℤ)) where
  -- where the text says no program, that is said whatever is left
  pub resume_wrong : (w : Wrong) → i.wrong ≡ Some w → resume (fed i room) rest ≡ none_heard (Some w)
  unfolding resume
  resume_wrong w e = ap (λ (v : Option Wrong). unless_wrong v (cond (is_some i.start) (from_here i room rest) (from_start rest))) e

  module _ (w : i.wrong ≡ None) where
    -- where nothing was read yet, all lines are left
    pub resume-start : is_some i.start ≡ false → resume (fed i room) rest ≡ from_start rest
    unfolding resume
    resume-start s = simp (w, s) refl

    -- where the start mode was read, the rest of the text is left
    pub resume-here : is_some i.start ≡ true → resume (fed i room) rest ≡ from_here i room rest
    unfolding resume
    resume-here s = simp (w, s) refl
