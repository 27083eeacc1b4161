-- `writing::sensors::sensors` meets its contract: the number of each port is its name.
use Rattle.std.proofs.Common.{rules, arith}
use Rattle.cells.proofs.Names.{name-small}
use Rattle.program.specs.Sets.{is_sensor}
use Rattle.writing.specs.Rows.{reading}
use Rattle.writing.proofs.sensors.sensors.Goals as goal

pub returns : goal.returns
returns c =
    c.passing.ensures (is_sensor c.args.ports.now) reading
    (λ k l b r. let e = name-small k (omega (arith, c.requires.ports_bound_2)) in search rules)
    (λ k l o r. let e = name-small k (omega (arith, c.requires.ports_bound_2)) in search rules)
