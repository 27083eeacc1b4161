-- `verdict::table_verdict` meets its contract: what is declared comes before what the modes do.
use native.Mathlib.Omega.{arith}
use Rattle.theory.specs.Verdict.{first_refusal}
use Rattle.theory.proofs.Verdict.{answer-append}
use Rattle.answers.proofs.Told.{went-on}
use Rattle.program.specs.Tables.{tables_in}
use Rattle.verdict.specs.Parts.{declared_refusals, mode_refusals}
use Rattle.verdict.proofs.table_verdict.Goals as goal

pub returns : goal.returns
returns c =
    let T = tables_in c.args.tables.now c.args.program.start in
    went-on (first_refusal mode_refusals T) (answer-append declared_refusals mode_refusals T (omega arith)) c.declared.ensures c.in_ok-declared.was (c.modes.ensures c.args.program.start)
