-- `layout::addresses::one_more` meets its contract: few rows make small sums, and the two lists get one address each.
use Prim.Native.Nat.{ℕ, ◌+◌}
use mathlib.Core.Path.{refl, ap, ◌∙◌}
use native.Mathlib.Omega.{arith}
use lib.IntN.{pos}
use Rattle.program.specs.Tables.{tables_in}
use Rattle.layout.specs.Counts.{before_entry}
use Rattle.layout.proofs.Limits.{told-most, few-rows, entry-most, counts-sized, told-sized, mode-most, units-told}
use Rattle.layout.proofs.Laid.{size-lent}
use Rattle.layout.proofs.addresses.one_more.Goals as goal

pub before_entry-requires : goal.before_entry-requires
before_entry-requires c =
    let few = few-rows (tables_in c.args.tables.now (pos 0)) (c.requires.in_shape (pos 0)) in
    told-sized _ _ _ _ _ _ few c.requires.sensors_le_max_ports 0 c.count-first.ensures

pub overflow_add-entry : goal.overflow_add-entry
overflow_add-entry c =
    let few = few-rows (tables_in c.args.tables.now (pos 0)) (c.requires.in_shape (pos 0)) in
    let most = entry-most _ (counts-sized _ _ _ _ c.args.m.0 c.units-u.result few c.requires.sensors_le_max_ports 0) in
    record { fits = omega (arith, c.requires.at_le_most_code, told-most (c.before_entry.ensures ∙ ap before_entry c.count-first.ensures) most) }

pub mode_size-requires-clause-few : goal.mode_size-requires-clause-few
mode_size-requires-clause-few c = few-rows (tables_in c.args.tables.now (pos 0)) (c.requires.in_shape (pos 0))

pub mode_size-requires-clause-u_bound : goal.mode_size-requires-clause-u_bound
mode_size-requires-clause-u_bound c = (units-told c.args.tables.now c.args.m.0 c.units-u.ensures).1

pub overflow_add-end : goal.overflow_add-end
overflow_add-end c =
    let few = few-rows (tables_in c.args.tables.now (pos 0)) (c.requires.in_shape (pos 0)) in
    let most = mode-most _ _ _ _ c.args.m.0 c.units-u.result few c.requires.sensors_le_max_ports c.units-u.result (units-told c.args.tables.now c.args.m.0 c.units-u.ensures).1 in
    record { fits = omega (arith, c.requires.at_le_most_code, told-most (c.mode_size.ensures (pos 0)) most) }

pub returns-clause-end : goal.returns-clause-end
returns-clause-end c start =
    let T = tables_in c.args.tables.now start in
    let m = c.args.m.0 in
    ap (λ (n : ℕ). c.args.at + n) (c.mode_size.ensures start ∙ size-lent T m c.args.sensors refl refl refl (c.units-u.ensures start))
