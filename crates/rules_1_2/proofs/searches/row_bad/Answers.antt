-- `rules_1_2::searches::row_bad` meets its contract: each place has the test of its table, and a row in shape is the one that it names.
use mathlib.Core.Path.{refl, sym}
use Rattle.cells.specs.Limits.{table_count}
use Rattle.program.specs.Tables.{tables_in}
use Rattle.rules.proofs.Shape.{ports-nameable, tasks-nameable, drivers-nameable, modes-nameable}
use Rattle.rules_1_2.proofs.Rows.{row_at, kind_at, row-past, none_below}
use Rattle.rules_1_2.proofs.searches.row_bad.Goals as goal

pub returns-in-0 : goal.returns-in-0
returns-in-0 c start =
    let a = c.args in
    let T = tables_in a.tables.now start in
    kind_at T a.place a.row c.in-0.is (ports-nameable T (c.requires.in_shape start)) (c.requires.row_bound start) c.of.ensures (c.port_bad.ensures T refl)

pub returns-in-1 : goal.returns-in-1
returns-in-1 c start =
    let a = c.args in
    let T = tables_in a.tables.now start in
    kind_at T a.place a.row c.in-1.is (tasks-nameable T (c.requires.in_shape start)) (c.requires.row_bound start) c.of-in-1.ensures (c.task_bad.ensures T refl)

pub returns-in-2 : goal.returns-in-2
returns-in-2 c start =
    let a = c.args in
    row_at (tables_in a.tables.now start) a.place a.row c.in-2.is (c.task_port_bad.ensures start)

pub returns-in-3 : goal.returns-in-3
returns-in-3 c start =
    let a = c.args in
    let T = tables_in a.tables.now start in
    kind_at T a.place a.row c.in-3.is (drivers-nameable T (c.requires.in_shape start)) (c.requires.row_bound start) c.of-in-3.ensures (c.driver_bad.ensures start)

pub returns-in-4 : goal.returns-in-4
returns-in-4 c start =
    let a = c.args in
    row_at (tables_in a.tables.now start) a.place a.row c.in-4.is (c.copy_bad.ensures start)

pub returns-in-5 : goal.returns-in-5
returns-in-5 c start =
    let a = c.args in
    let T = tables_in a.tables.now start in
    kind_at T a.place a.row c.in-5.is (modes-nameable T (c.requires.in_shape start)) (c.requires.row_bound start) c.of-in-5.ensures (c.mode_bad.ensures T refl)

pub returns-in-6 : goal.returns-in-6
returns-in-6 c start =
    let a = c.args in
    row_at (tables_in a.tables.now start) a.place a.row c.in-6.is (c.mode_port_bad.ensures start)

pub returns-in-7 : goal.returns-in-7
returns-in-7 c start =
    let a = c.args in
    row_at (tables_in a.tables.now start) a.place a.row c.in-7.is (c.invocation_bad.ensures start)

pub returns-in-8 : goal.returns-in-8
returns-in-8 c start =
    let a = c.args in
    row_at (tables_in a.tables.now start) a.place a.row c.in-8.is (c.update_bad.ensures start)

pub returns-in-9 : goal.returns-in-9
returns-in-9 c start =
    let a = c.args in
    row_at (tables_in a.tables.now start) a.place a.row c.in-9.is (c.switch_bad.ensures start)

pub returns-in_default : goal.returns-in_default
returns-in_default c start =
    let a = c.args in
    sym (row-past (tables_in a.tables.now start) a.place a.row (none_below table_count a.place c.in_default.in_default-own.rest))
