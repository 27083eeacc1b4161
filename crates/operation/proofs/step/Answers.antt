-- `operation::step` meets its contract: a refusal of the E code, a refusal of the tick, or the state after both. The state between them is
-- within its limits, whatever the start mode.
use Prim.Native.Nat.{ℕ, ◌<◌}
use mathlib.Core.Path.{refl, sym, ap, subst, ◌∙◌}
use native.Mathlib.Omega.{arith}
use lib.IntN.{pos}
use Rattle.std.specs.Prelude.{Ok, Err}
use Rattle.std.proofs.lemmas.Result.{err_from_is_err_and}
use Rattle.cells.proofs.Numbers.{number-some}
use Rattle.program.specs.Tables.{tables_in}
use Rattle.code.specs.Op.{instructions}
use Rattle.code.proofs.Fetch.{instructions-length}
use Rattle.machine.specs.Told.{advanced_of}
use Rattle.instants.proofs.Declared.{program_in}
use Rattle.operation.specs.Advancing.{lent_of}
use Rattle.operation.proofs.Answers.{ready-told, ready-small, step-stops, step-goes}
use Rattle.operation.proofs.step.Goals as goal

pub returns-in_err-begun : goal.returns-in_err-begun
returns-in_err-begun c z r =
    let a = c.args in
    let e = c.in_err-begun.field-0.0 in
    let p = err_from_is_err_and c.from_residual.result c.from_residual.ensures.1 in
    ap (advanced_of a.s) (p.1 ∙ ap Err p.2)
    ∙ step-stops (program_in a.tables.now z) (instructions a.code.now) a.schedule.now (lent_of a.readings.now a.results.now a.times.now) a.s
    (advanced_of a.s (Err e)) (c.in_err-begun.ensures z) (number-some e)

pub tick_all-requires : goal.tick_all-requires
tick_all-requires c =
    let a = c.args in
    let n = instructions-length a.code.now in
    let P = program_in a.tables.now (pos 0) in
    let u = c.in_ok-begun.begun in
    let small =
    ready-small P (instructions a.code.now) a.readings.now a.times.now a.s u
    (subst (λ (k : ℕ). a.s.current < k) (sym n) c.requires.current_in_bounds) c.requires.elapsed_le_max_elapsed
    (ready-told P (instructions a.code.now) a.readings.now a.times.now a.s (advanced_of a.s (Ok u)) (c.in_ok-begun.ensures (pos 0)) refl) in
    record { current_le_greatest_word = omega (arith, small.0, n, c.requires.words_each_len_bound); elapsed_le_max_elapsed = small.1 }

pub returns : goal.returns
returns c z r =
    let a = c.args in
    let P = program_in a.tables.now z in
    let u = c.in_ok-begun.begun in
    let between = ready-told P (instructions a.code.now) a.readings.now a.times.now a.s (advanced_of a.s (Ok u)) (c.in_ok-begun.ensures z) refl in
    step-goes P (instructions a.code.now) a.schedule.now (lent_of a.readings.now a.results.now a.times.now) a.s u between
    (advanced_of u c.tick_all.result) (c.tick_all.ensures (tables_in a.tables.now z) refl refl r) c.tick_all.result refl
