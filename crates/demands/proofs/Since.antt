-- The response to a missing reading, counted from the first one: it has a file of its own, so that it stands on what proofs/Response says.
use Prim.Native.Nat.{ℕ, zero, suc, ◌+◌, ◌≤◌, ◌<◌}
use mathlib.Core.Path.{subst}
use native.Mathlib.Omega.{arith}
use Rattle.program.specs.Tables.{Tables}
use Rattle.rules.specs.Missing.{ForMissing}
use Rattle.rules.proofs.Verdict.{program-accepted}
use Rattle.giotto.specs.Instant.{Configuration}
use Rattle.giotto.proofs.Round.{LastInstant, last-instant}
use Rattle.demands.specs.Composed.{readings, configuration_at}
use Rattle.demands.specs.Missing.{TakesSwitch}
use Rattle.demands.specs.Response.{MissingAfter, MissingSince, waiting, LeavesWithin}
use Rattle.demands.specs.Response.{Slowest}
use Rattle.demands.proofs.Sound.{accepted-sound}
use Rattle.demands.proofs.Response.{missing-leads-out}

-- and so from the first missing reading on: what counts is the last instant before it
pub missing-since : MissingSince
missing-since Y a F lents (suc r) p s l f h w g =
    go (missing-leads-out Y a F lents n p s (λ k x. f k (omega (arith, x, b.up_to))) b.instant h looked lost)
  where
    T : Tables
    T = Y.tables

    b : LastInstant T F (readings Y F lents) r
    b = last-instant T ((program-accepted T).0 (accepted-sound Y a).accepted) F (readings Y F lents) r

    n : ℕ
    n = b.tick

    looked : Slowest T (configuration_at Y F lents (suc n)).mode p s
    looked = subst (λ (C : Configuration). Slowest T C.mode p s) b.same w

    lost : MissingAfter T F (readings Y F lents) p n (waiting T s)
    lost k x y z = g k (b.next k x z) (omega (arith, y, b.up_to)) z

    go : (i : ℕ) × ForMissing T i p × LeavesWithin Y F lents n (waiting T s) i
        → (i : ℕ) × ForMissing T i p × ((k : ℕ) × ((suc r ≤ k) × (k < suc r + waiting T s)) × TakesSwitch Y F lents k i)
    go (i, q, v) =
        let not-before = b.next v.tick v.later v.leaves.instant in
        (i, q, (v.tick, (not-before, omega (arith, v.in-time, b.up_to)), v.leaves.takes))
missing-since Y a F lents zero p s l f h w g = absurd (omega (arith, l))
