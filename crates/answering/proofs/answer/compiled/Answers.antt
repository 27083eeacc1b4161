-- `answering::answer::compiled` meets its contract: the tables are those that lie in the room, and what is shown is what compiling
-- answered, or that the listing is larger than is held.
use mathlib.Core.Path.{refl, sym, ap, ◌∙◌}
use mathlib.Core.Bool.{true, false}
use Rattle.theory.specs.declared.Answer.{Answer}
use Rattle.program.specs.Tables.{Tables, tables_in}
use Rattle.rules.proofs.Shape.{any-start}
use Rattle.code.specs.declared.Compiled.{Compiled}
use Rattle.compiler.specs.Listed.{compiled_of as outcome_of}
use Rattle.std.specs.Prelude.{Ok, Err}
use Rattle.text.specs.Shipped.{is_larger}
use Rattle.answering.specs.Answer.{compiled_of}
use Rattle.answering.specs.declared.answer.Shown.TheVariants.{Said}
use Rattle.answering.proofs.Larger.{eleven-shaped, compiled-shown}
use Rattle.answering.proofs.answer.compiled.Goals as goal

pub is_larger-requires : goal.is_larger-requires
is_larger-requires c e =
    any-start c.tables-tables.result _ (eleven-shaped _ (ap (λ (x : Compiled). x.answer.number) (sym c.in-Err.ensures.answer) ∙ e))

pub returns-in-Ok : goal.returns-in-Ok
unfolding is_larger
returns-in-Ok c =
    let a = c.args in
    let arm = c.in-Ok in
    compiled-shown (tables_in c.tables-tables.result a.program.start) a.code.now c.compile.new.code (outcome_of (Ok arm.length)) false _
    arm.ensures.answer arm.ensures.slice refl (ap (λ (x : Answer). Said x arm.length) c.answer.ensures)
    ∙ ap (λ (T : Tables). compiled_of T a.code.now) (c.tables-tables.ensures a.program.start)

pub returns-then-is_larger : goal.returns-then-is_larger
returns-then-is_larger c =
    let a = c.args in
    let arm = c.in-Err in
    compiled-shown (tables_in c.tables-tables.result a.program.start) a.code.now c.compile.new.code (outcome_of (Err arm.refused)) true _
    arm.ensures.answer arm.ensures.slice (sym c.if-is_larger.true ∙ c.is_larger.ensures a.program.start) refl
    ∙ ap (λ (T : Tables). compiled_of T a.code.now) (c.tables-tables.ensures a.program.start)

pub returns-else-is_larger : goal.returns-else-is_larger
returns-else-is_larger c =
    let a = c.args in
    let arm = c.in-Err in
    compiled-shown (tables_in c.tables-tables.result a.program.start) a.code.now c.compile.new.code (outcome_of (Err arm.refused)) false _
    arm.ensures.answer arm.ensures.slice (sym c.if-is_larger.false ∙ c.is_larger.ensures a.program.start)
    (ap (λ (x : Answer). Said x 0) c.answer-in-Err.ensures)
    ∙ ap (λ (T : Tables). compiled_of T a.code.now) (c.tables-tables.ensures a.program.start)
