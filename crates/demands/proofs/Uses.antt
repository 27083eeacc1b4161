-- What an advance uses of what it is lent, of the definitions.
use mathlib.Core.Path.{refl}
use native.Mathlib.Omega.{arith}
use Rattle.machine.specs.Advance.{advance_answer}
use Rattle.machine.proofs.Uses as uses
use Rattle.machine.proofs.Uses.{refused-same, reads-sensor, releases-declared, meets-none}
use Rattle.machine.proofs.Exact.{not-arising, advance-judged}
use Rattle.demands.specs.Uses.{UsedOnly, SameWithin, SensorsOnly, TasksOnly, RefusedUsesNone}

pub used-only : UsedOnly
used-only L X a = uses.used-only L X a

pub same-within : SameWithin
same-within L l readings times r t =
    used-only L _ (record {
      lengths = record { readings = r; results = refl; times = t };
      readings = λ p u. absurd (meets-none L l _ u.2);
      times = λ k u. absurd (meets-none L l _ u);
      results = λ k p u m. refl;
    })

pub sensors-only : SensorsOnly
sensors-only L readings r same =
    used-only L _ (record {
      lengths = record { readings = r; results = refl; times = refl };
      readings = λ p u. same p (reads-sensor L p u);
      times = λ k u. refl;
      results = λ k p u m. refl;
    })

pub tasks-only : TasksOnly
tasks-only L times t same =
    used-only L _ (record {
      lengths = record { readings = refl; results = refl; times = t };
      readings = λ p u. refl;
      times = λ k u. same k (releases-declared L k u);
      results = λ k p u m. refl;
    })

pub refused-uses-none : RefusedUsesNone
refused-uses-none L X s l =
    let n = (advance_answer L).answer.number in
    refused-same L X l (omega (arith, (not-arising n s).0, (advance-judged L n s).0 refl))
