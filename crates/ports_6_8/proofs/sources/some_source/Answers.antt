-- `ports_6_8::sources::some_source` meets its contract: the guard's port is asked where no copy is wrong.
use Rattle.std.proofs.Common.{rules}
use mathlib.Core.Path.{refl}
use Rattle.program.specs.Tables.{tables_in}
use Rattle.rules.specs.Modes.{some_source, source_with}
use Rattle.ports_6_8.proofs.sources.some_source.Goals as goal
use Rattle.ports_6_8.proofs.sources.some_source.Goals.{then-some_copy, else-some_copy+then-is_interval, else-some_copy+else-is_interval}

pub returns : goal.returns
unfolding some_source source_with
returns g c start bad a =
    let T = tables_in c.args.tables.now start in
    let copied = c.some_copy.ensures T refl bad (λ p l b r. search (rules, a p l b)) in
    elim c.if-some_copy.branch [
      | then-some_copy w ↦ search (rules, copied, w.if-some_copy, w.result-is)
      | else-some_copy+then-is_interval w ↦ search (rules, copied, w.if-some_copy, w.is_interval.ensures T refl, w.if-is_interval, w.port.ensures, w.wrong.ensures, w.result-is, a)
      | else-some_copy+else-is_interval w ↦ search (rules, copied, w.if-some_copy, w.is_interval.ensures T refl, w.if-is_interval, w.result-is)
    ]
