-- `answering::answer::answer` meets its contract: a complete text is compiled; of the others a count was out of its limit, or the text is
-- bad.
use Prim.Native.Nat.{ℕ}
use mathlib.Core.Path.{◌≡◌, sym, ap, ◌∙◌}
use mathlib.Core.List.{List}
use Rattle.std.specs.Prelude.{Some}
use Rattle.theory.specs.Rows.{at_row}
use Rattle.theory.specs.declared.Answer.{Answer}
use Rattle.cells.specs.Refusals.{number_of}
use Rattle.answers.specs.declared.Refused.{Refused}
use Rattle.program.specs.Tables.{Tables}
use Rattle.text.specs.Input.{Read}
use Rattle.text.specs.Shipped.{printed}
use Rattle.intake.specs.Line.{fed}
use Rattle.intake.specs.Heard.{heard, none_heard}
use Rattle.intake.specs.declared.state.Wrong.{Wrong}
use Rattle.answering.specs.Answer.{Answered, answered, blank, answer_shown, text_of_answer}
use Rattle.answering.specs.declared.answer.Shown.TheVariants.{Said}
use Rattle.answering.proofs.Shipped.{read-text}
use Rattle.answering.proofs.answer.answer.Goals as goal

-- an answer with blank code is the one that document 01 has printed
into-blank : (r : Read Tables) (a : Answered) (code : List ℕ) → code ≡ blank → a ≡ answer_shown r code
    → (a ≡ answer_shown r blank) × (text_of_answer a ≡ printed r)
into-blank r a code e f = let g = f ∙ ap (answer_shown r) e in (g, ap text_of_answer g ∙ read-text r)

pub returns-in-Ok : goal.returns-in-Ok
unfolding answer_shown
returns-in-Ok c =
    let room = c.args.room.now in
    let code = c.args.code.now in
    let b = into-blank (heard (fed c.args.i room)) _ code c.requires
    (c.compiled.ensures ∙ ap (λ (r : Read Tables). answer_shown r code) (sym (c.in-Ok.ensures room))) in
    record { exact = b.0; says = b.1 }

pub returns-in-Err-TooMany : goal.returns-in-Err-TooMany
unfolding answer_shown
returns-in-Err-TooMany c =
    let room = c.args.room.now in
    let code = c.args.code.now in
    let arm = c.in-Err-TooMany in
    let one = c.answer.ensures ∙ ap (λ (r : Refused). at_row (number_of r.refusal) r.outer r.inner) c.from.ensures in
    let said = arm.ensures room ∙ ap (λ (w : Wrong). none_heard (Some w)) arm.field-0-is in
    let b = into-blank (heard (fed c.args.i room)) _ code c.requires
    (ap (λ (x : Answer). answered (Said x 0) code) one ∙ ap (λ (r : Read Tables). answer_shown r code) (sym said)) in
    record { exact = b.0; says = b.1 }

pub returns-in-Err-Bad : goal.returns-in-Err-Bad
unfolding answer_shown
returns-in-Err-Bad c =
    let room = c.args.room.now in
    let code = c.args.code.now in
    let arm = c.in-Err-Bad in
    let said = arm.ensures room ∙ ap (λ (w : Wrong). none_heard (Some w)) arm.field-0-is in
    let b = into-blank (heard (fed c.args.i room)) _ code c.requires (ap (λ (r : Read Tables). answer_shown r code) (sym said)) in
    record { exact = b.0; says = b.1 }
