-- Number 4 is exact: it has a file of its own, so that it stands on what proofs/Declared says of each row.
use Rattle.theory.specs.Claim.{Bars}
use Rattle.theory.proofs.Verdict.{bars-rows}
use Rattle.program.specs.Tables.{Tables}
use Rattle.rules.specs.Declared.{copies_bad, copy_tests, copy_rules, Copies}
use Rattle.rules.proofs.Declared.{copies-rowed}

-- number 4 bars guards and copies that name no private port, and copies of which no two of a driver have one destination
pub copies-bar : (T : Tables) → Bars (copies_bad T) (Copies T)
copies-bar T =
    bars-rows (copy_tests T) (copy_rules T) (copies-rowed T)
    (λ (f, (g, _)).
    record {
      no-private-guard = f;
      no-private-source = λ c h. (g c h).no-private-source;
      no-private-destination = λ c h. (g c h).no-private-destination;
      apart = λ b c l h. (g c h).apart b l;
    })
    (λ s. (
      s.no-private-guard,
      (
        λ c h.
            record {
              no-private-source = s.no-private-source c h;
              no-private-destination = s.no-private-destination c h;
              apart = λ b l. s.apart b c l h;
            },
        tt,
      ),
    ))
