-- `answering::answer::is_larger` meets its contract: the code is counted only for 11, since then the tables have their shape.
use mathlib.Core.Path.{refl}
use borrow.Author.Tests.{ne_eqb}
use Rattle.text.specs.Shipped.{is_larger}
use Rattle.answering.proofs.Larger.{eleven-only}
use Rattle.answering.proofs.answer.is_larger.Goals as goal

pub returns-in-Code : goal.returns-in-Code
unfolding is_larger
returns-in-Code c start = simp (c.in-Code.is, c.code_long.ensures start) refl

pub returns-in_default : goal.returns-in_default
unfolding is_larger
returns-in_default c start = simp (ne_eqb _ _ (λ e. c.in_default.not-Code (eleven-only c.args.refusal e))) refl
