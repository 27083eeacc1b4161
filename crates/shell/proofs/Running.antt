-- Reads, the answer and writes, one after the other, are a run of the program.
use Prim.Native.Nat.{ℕ, ◌≤◌}
use mathlib.Core.Path.{◌≡◌, sym, ap, subst, ◌∙◌}
use mathlib.Core.Bool.{Bool, false}
use mathlib.Core.List.{List}
use lib.IntN.{ℤ}
use lib.ListN.{length}
use Rattle.text.specs.Line.{room}
use Rattle.intake.specs.Line.{Fed}
use Rattle.intake.specs.Heard.{heard}
use Rattle.answering.specs.Answer.{Answered, answer_shown, blank}
use Rattle.shell.specs.Reading.{Hearing, hearing, AfterSome}
use Rattle.answering.specs.Writing.{page_of, Printed}
use Rattle.shell.specs.Running.{Ran}

-- some reads, the answer to what was heard and some writes of it are a run of the program
pub ran : (tables : List ℤ) (f : Fed) (a : Answered) (bytes buffer : List ℕ) (all : Bool) → AfterSome tables (hearing f false)
    → a ≡ answer_shown (heard f) blank → room ≤ length bytes → Printed a (page_of a false 0 bytes) all buffer
    → Ran tables f.room a.code buffer all
ran tables f a bytes buffer all s e r p =
    let answers = ap (λ (h : Hearing). answer_shown (heard h.fed) blank) s.comes ∙ sym e in
    record {
      reads = s.reads;
      over = ap (λ (h : Hearing). h.more) s.comes;
      filled = ap (λ (h : Hearing). h.fed.room) s.comes;
      listed = ap (λ (b : Answered). b.code) answers;
      bytes = bytes;
      fits = r;
      prints = subst (λ (b : Answered). Printed b (page_of b false 0 bytes) all buffer) (sym answers) p;
    }
