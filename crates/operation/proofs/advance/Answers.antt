-- `operation::advance` meets its contract: a refusal before anything runs, or the step of what has none.
use mathlib.Core.Path.{◌≡◌, sym, ap, ◌∙◌}
use native.Mathlib.Omega.{arith}
use Rattle.theory.specs.declared.Answer.{Answer}
use Rattle.cells.proofs.Numbers.{number-some}
use Rattle.program.specs.Tables.{tables_in}
use Rattle.machine.specs.Advance.{Advance, advance_verdict, handed}
use Rattle.machine.proofs.Answered.{judged-number, advance-refused, advance-steps}
use Rattle.rules.proofs.Shape.{any-start}
use Rattle.operation.specs.Advancing.{lent_of, advancing, judged_answer}
use Rattle.operation.proofs.Numbers.{runs-shaped, runs-few, runs-rows, runs-state}
use Rattle.operation.proofs.advance.Goals as goal

-- the number that was answered before anything ran is the verdict
told : (L : Advance) {x : Answer} → x ≡ judged_answer L → x.number ≡ advance_verdict L
unfolding judged_answer
told L e = ap (λ (x : Answer). x.number) e ∙ judged-number L

pub step-requires : goal.step-requires
step-requires c =
    let a = c.args in
    let L = advancing (tables_in a.tables.now a.program.start) a.code.now a.schedule.now a.s (lent_of a.readings.now a.results.now a.times.now) in
    let none = sym (told L c.in-Ok.ensures) in
    let f = runs-state L none in
    record { in_shape = any-start a.tables.now a.program.start (runs-shaped L none); words_each_len_bound = runs-few L none; current_in_bounds = f.current; elapsed_le_max_elapsed = f.elapsed }

pub returns-in-Ok : goal.returns-in-Ok
returns-in-Ok c =
    let a = c.args in
    let L = advancing (tables_in a.tables.now a.program.start) a.code.now a.schedule.now a.s (lent_of a.readings.now a.results.now a.times.now) in
    let none = sym (told L c.in-Ok.ensures) in
    c.handed.ensures ∙ ap handed (c.step.ensures a.program.start (runs-rows L none)) ∙ advance-steps L none

pub returns-in-Err : goal.returns-in-Err
unfolding judged_answer
returns-in-Err c =
    let a = c.args in
    let L = advancing (tables_in a.tables.now a.program.start) a.code.now a.schedule.now a.s (lent_of a.readings.now a.results.now a.times.now) in
    let e = c.in-Err.refused in
    (λ i. record { answer = (c.answer-in-Err.ensures ∙ c.in-Err.ensures) i; state = L.state })
    ∙ advance-refused L (omega (arith, number-some e.refusal, told L c.in-Err.ensures))
