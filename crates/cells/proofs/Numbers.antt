-- The number of a refusal is none of acceptance.
use Rattle.std.proofs.Common.{◌<◌, arith}
use Rattle.cells.specs.declared.refusals.Refusal.{Refusal}
use Rattle.cells.specs.declared.refusals.Refusal.TheVariants.{Shape, Fields, TaskPorts, Copies, ModePorts, Invocations, Updates, Switches, Units}
use Rattle.cells.specs.declared.refusals.Refusal.TheVariants.{Whole, Code, Windows, Schedule, Outside, Late, Time, Overrun, Collision, Faulty}
use Rattle.cells.specs.declared.refusals.Refusal.TheVariants.{Count, State, Gap}
use Rattle.cells.specs.Refusals.{number_of}

pub number-some : (r : Refusal) → 0 < number_of r
number-some Shape = omega arith
number-some Fields = omega arith
number-some TaskPorts = omega arith
number-some Copies = omega arith
number-some ModePorts = omega arith
number-some Invocations = omega arith
number-some Updates = omega arith
number-some Switches = omega arith
number-some Units = omega arith
number-some Whole = omega arith
number-some Code = omega arith
number-some Windows = omega arith
number-some Schedule = omega arith
number-some Outside = omega arith
number-some Late = omega arith
number-some Time = omega arith
number-some Overrun = omega arith
number-some Collision = omega arith
number-some Faulty = omega arith
number-some Count = omega arith
number-some State = omega arith
number-some Gap = omega arith
