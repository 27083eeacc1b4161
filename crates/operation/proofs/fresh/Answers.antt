-- `operation::fresh` meets its contract: the answer on the program, or a state with its first values.
use mathlib.Core.Path.{refl, sym, ap, ◌∙◌}
use native.Mathlib.Omega.{arith}
use Rattle.theory.specs.declared.Answer.{Answer}
use Rattle.cells.proofs.Numbers.{number-some}
use Rattle.program.specs.Tables.{tables_in}
use Rattle.rules.proofs.Verdict.{program-number}
use Rattle.machine.specs.Advance.{state_of}
use Rattle.machine.proofs.Answered.{fresh-refused, fresh-accepted}
use Rattle.operation.proofs.fresh.Goals as goal

pub returns-in-Ok : goal.returns-in-Ok
returns-in-Ok c =
    let T = tables_in c.args.tables.now c.args.program.start in
    (λ i. record { answer = c.answer.ensures i; state = (c.begun.ensures ∙ ap state_of (c.first_values.ensures T refl)) i })
    ∙ fresh-accepted T (sym (ap (λ (x : Answer). x.number) c.in-Ok.ensures ∙ program-number T))

pub returns-in-Err : goal.returns-in-Err
returns-in-Err c =
    let T = tables_in c.args.tables.now c.args.program.start in
    let e = c.in-Err.refused in
    (λ i. record { answer = (c.answer-in-Err.ensures ∙ c.in-Err.ensures) i; state = c.begun-in-Err.ensures i })
    ∙ fresh-refused T (omega (arith, number-some e.refusal, ap (λ (x : Answer). x.number) c.in-Err.ensures, program-number T))
