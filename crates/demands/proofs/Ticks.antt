-- A tick of a block does what 003 says.
use Rattle.runs.proofs.Over.{tick-says}
use Rattle.demands.specs.Ticks.{TickExact}

pub tick-exact : TickExact
tick-exact block e s = tick-says block e s
