-- `rounds::round::one_round` meets its contract: what is left of the units is judged as the whole round.
use mathlib.Core.Path.{sym, ap, subst, ◌∙◌}
use native.Mathlib.Omega.{arith}
use lib.IntN.{pos}
use Rattle.std.specs.Prelude.{Err}
use Rattle.std.proofs.lemmas.Result.{err_from_is_err_and}
use Rattle.program.specs.Tables.{tables_in}
use Rattle.layout.specs.Few.{Sized}
use Rattle.layout.proofs.Limits.{counts-sized, few-rows}
use Rattle.rounds.proofs.Going.{going-none, going-near, going_more, going-breaks, going-all}
use Rattle.rounds.proofs.round.one_round.Goals as goal

pub loop-k-init : goal.loop-k-init
loop-k-init c start = going-none _ _ _ _ _ _ _ _ _ _ c.requires.come

pub before_future-requires : goal.before_future-requires
before_future-requires c =
    subst Sized (sym c.count-due.ensures) (counts-sized _ _ _ _ _ _ (few-rows (tables_in c.args.asked.tables.now (pos 0)) (c.requires.in_shape (pos 0))) c.requires.sensors_le_max_ports c.loop-k.k)

pub overflow_add-at : goal.overflow_add-at
overflow_add-at c =
    let near =
    going-near _ _ _ _ _ _ _ _ _ _ (c.loop-k.invariant (pos 0)) (c.requires.in_shape (pos 0)) c.requires.sensors_le_max_ports c.requires.u_bound c.requires.most_mode_bound c.count-due.ensures in
    record { fits = omega (arith, c.before_future.ensures, near) }

pub find-found-requires : goal.find-found-requires
find-found-requires c =
    let near =
    going-near _ _ _ _ _ _ _ _ _ _ (c.loop-k.invariant (pos 0)) (c.requires.in_shape (pos 0)) c.requires.sensors_le_max_ports c.requires.u_bound c.requires.most_mode_bound c.count-due.ensures in
    record { from_bound = (c.loop-k.invariant (pos 0)).come.within; address_le_greatest_word = omega (arith, c.before_future.ensures, near) }

pub returns-in_err-left : goal.returns-in_err-left
returns-in_err-left c start =
    let p = err_from_is_err_and c.from_residual.result c.from_residual.ensures.1 in
    p.1
    ∙ ap Err p.2
    ∙ going-breaks _ _ _ _ _ _ _ _ _ _ (c.loop-k.invariant start) c.requires.sorted c.loop-k-test.true
    c.count-due.ensures c.before_future.ensures (c.find-found.ensures.value c.requires.sorted) c.rows_at.ensures c.one_unit.ensures c.in_err-left.was

pub block_size-at-requires : goal.block_size-at-requires
block_size-at-requires c =
    subst Sized (sym c.count-due.ensures) (counts-sized _ _ _ _ _ _ (few-rows (tables_in c.args.asked.tables.now (pos 0)) (c.requires.in_shape (pos 0))) c.requires.sensors_le_max_ports c.loop-k.k)

pub overflow_add-at-in-loop-k : goal.overflow_add-at-in-loop-k
overflow_add-at-in-loop-k c =
    let near =
    going-near _ _ _ _ _ _ _ _ _ _ (c.loop-k.invariant (pos 0)) (c.requires.in_shape (pos 0)) c.requires.sensors_le_max_ports c.requires.u_bound c.requires.most_mode_bound c.count-due.ensures in
    record { fits = omega (arith, c.block_size-at.ensures, near) }

pub loop-k-preserved : goal.loop-k-preserved
loop-k-preserved c start =
    going_more _ _ _ _ _ _ _ _ _ _ (c.loop-k.invariant start) c.requires.sorted c.loop-k-test.true
    c.count-due.ensures c.before_future.ensures (c.find-found.ensures.value c.requires.sorted) c.rows_at.ensures c.one_unit.ensures
    c.block_size-at.ensures c.in_ok-left.was

pub returns : goal.returns
returns c start = going-all _ _ _ _ _ _ _ _ _ _ (c.loop-k.invariant start) c.loop-k-test.false
