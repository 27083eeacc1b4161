-- `layout::counts::sensors` meets its contract: the number of each port is its name.
use Rattle.std.proofs.Common.{rules, arith}
use Rattle.cells.proofs.Names.{name-small}
use Rattle.program.specs.Sets.{is_sensor}
use Rattle.layout.proofs.counts.sensors.Goals as goal

pub returns : goal.returns
returns c = c.count.ensures (is_sensor c.args.ports.now) (λ k l b r. let e = name-small k (omega (arith, c.requires)) in search rules)
