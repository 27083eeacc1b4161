-- The execution of an accepted program is one by 001, and a configuration has one successor.
use mathlib.Core.Path.{refl}
use lib.IntN.{pos}
use Rattle.theory.proofs.Lists.{each_at}
use Rattle.cells.specs.Limits.{max_ports}
use Rattle.program.specs.Tables.{port_first}
use Rattle.rules.proofs.Verdict.{program-accepted}
use Rattle.giotto.proofs.Execution.{execution-succeeds, execution-waits, time-ahead}
use Rattle.giotto.proofs.One as one
use Rattle.demands.specs.Giotto.{SuccessorOne, ExecutionSucceeds}

pub successor-one : SuccessorOne
successor-one T a result readings C C' C'' S S' = one.successor-one T ((program-accepted T).0 a) result readings C C' C'' S S'

pub execution-is-by-001 : ExecutionSucceeds
execution-is-by-001 T a F readings =
    let k = (program-accepted T).0 a in
    record {
      time = refl;
      mode = refl;
      unit = refl;
      ports = λ p l. each_at (port_first T) max_ports p (pos 0) l;
      active = λ t. refl;
      succeeds = λ n e. execution-succeeds T k F readings n e;
      waits = λ n d. execution-waits T k F readings n d;
      ahead = λ n. time-ahead T k F readings n;
    }
