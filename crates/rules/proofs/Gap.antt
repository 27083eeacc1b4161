-- Number 24 in 001's words, both ways: it has a file of its own, so that it stands on what proofs/Missing says of each.
use mathlib.Core.Logic.{◌↔◌}
use Rattle.program.specs.Tables.{Tables}
use Rattle.rules.specs.Fields.{Fields}
use Rattle.rules.specs.Modes.{Switches}
use Rattle.rules.specs.Missing.{NoGap, MissingMet}
use Rattle.rules.proofs.Missing.{gap-met, met-gap}

-- under rules 2 and 8, rule 24 is that a missing reading satisfies the guard of exactly one switch
pub gap-iff : (T : Tables) → Fields T → Switches T → NoGap T ↔ MissingMet T
gap-iff T f s = (gap-met T f s, met-gap T f s)
