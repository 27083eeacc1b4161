-- `instants::instructions::call` meets its contract: it comes to what its call answers.
use mathlib.Core.Path.{◌≡◌, ap, ◌∙◌}
use Rattle.std.proofs.Common.{rules, arith, Ok, Err}
use Rattle.cells.proofs.Numbers.{number-some}
use Rattle.machine.specs.Told.{advanced_of}
use Rattle.instants.proofs.Declared.{program_in}
use Rattle.instants.specs.declared.instructions.Stepping.{Stepping}
use Rattle.instants.specs.Step.{stepped_of}
use Rattle.instants.proofs.Executed.{call-faulty, call-refused, call-moved}
use Rattle.instants.proofs.instructions.call.Goals as goal

pub returns-then-unused-gt0 : goal.returns-then-unused-gt0
returns-then-unused-gt0 c start times count =
    let s = c.args in
    call-faulty (program_in s.tables.now start) s.readings.now times count s.at s.n s.unused c.if-unused-gt0.true

pub returns-in_err-state : goal.returns-in_err-state
returns-in_err-state c start times count =
    let a = c.args in
    let e = c.in_err-state.field-0.0 in
    let same : c.from_residual.result ≡ Err e = search rules in
    ap (stepped_of a.at) same
    ∙ call-refused (program_in a.tables.now start) a.readings.now times count a.at a.n a.unused (advanced_of a.at.state (Err e)) c.if-unused-gt0.false
    (c.in_err-state.ensures start times) (number-some e)

pub returns : goal.returns
returns c start times count =
    let a = c.args in
    ap (λ (m : Stepping). stepped_of a.at (Ok m)) c.moved.ensures
    ∙ call-moved (program_in a.tables.now start) a.readings.now times count a.at a.n a.unused (advanced_of a.at.state (Ok c.in_ok-state.state))
    c.if-unused-gt0.false (c.in_ok-state.ensures start times) (omega arith)
