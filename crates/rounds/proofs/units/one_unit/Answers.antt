-- `rounds::units::one_unit` meets its contract: its ticks and terminations are told as the unit's end is defined.
use Prim.Native.Nat.{ℕ, ◌*◌}
use mathlib.Core.Path.{ap, ◌∙◌}
use native.Mathlib.Numerals.{add-one}
use borrow.Author.Rules.{rules}
use Rattle.std.specs.Prelude.{Err}
use Rattle.std.proofs.lemmas.Result.{err_from_is_err_and}
use Rattle.rounds.specs.Course.{own_rows}
use Rattle.rounds.specs.Breaks.{outside_at}
use Rattle.rounds.proofs.Stops.{map_err-mapped, unit-outside, unit-late, unit-went}
use Rattle.rounds.proofs.units.one_unit.Goals as goal

pub returns-in_err-rest : goal.returns-in_err-rest
returns-in_err-rest c =
    let p = err_from_is_err_and c.from_residual.result c.from_residual.ensures.1 in
    let m = map_err-mapped outside_at _ c.map_err.ensures.cases (λ t q. search rules) in
    p.1 ∙ ap Err p.2 ∙ unit-outside _ c.args.k c.args.left c.released-begun.ensures c.watch-watched.ensures m c.in_err-rest.was

pub returns-then-unended : goal.returns-then-unended
returns-then-unended c =
    let a = c.args in
    let m = map_err-mapped outside_at _ c.map_err.ensures.cases (λ t q. search rules) in
    unit-late _ a.k a.left c.released-begun.ensures c.watch-watched.ensures m c.in_ok-rest.was
    (ap (own_rows a.course.tasks.now a.course.invocations.now a.course.supplier a.course.mode.0 a.course.units) c.next_of.ensures)
    c.unended.ensures c.if-unended.true (ap (λ (n : ℕ). n * a.course.ticks) (add-one a.k))

pub returns : goal.returns
returns c =
    let a = c.args in
    let m = map_err-mapped outside_at _ c.map_err.ensures.cases (λ t q. search rules) in
    unit-went _ a.k a.left c.released-begun.ensures c.watch-watched.ensures m c.in_ok-rest.was
    (ap (own_rows a.course.tasks.now a.course.invocations.now a.course.supplier a.course.mode.0 a.course.units) c.next_of.ensures)
    c.unended.ensures c.if-unended.false
