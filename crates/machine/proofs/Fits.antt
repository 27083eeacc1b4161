-- Numbers 1 and 21 of an advance: the tests of what is lent and of the state bar their claims.
use Rattle.theory.specs.Claim.{Bars}
use Rattle.theory.proofs.Bools.{◌or◌, bars-lt, bars-le, bars-as}
use Rattle.theory.proofs.Search.{bars-any}
use Rattle.cells.specs.Limits.{max_tasks, suppliers}
use Rattle.rules.proofs.Shape.{shape-bars, slice-bars, length-bars}
use Rattle.machine.specs.Advance.{Advance, advance_shape_bad, AdvanceShaped, state_out, state_bad, StateFits}

-- number 1 bars that everything lent has its shape
pub advance-shape-bars : (L : Advance) → Bars (advance_shape_bad L) (AdvanceShaped L)
unfolding advance_shape_bad
advance-shape-bars L =
    bars-as
    (shape-bars L.tables
    or slice-bars _ _ L.code
    or slice-bars _ _ L.schedule
    or length-bars _ L.lent.readings
    or length-bars _ L.lent.results
    or length-bars _ L.lent.times)
    (λ (((((t, c), s), r), o), e). record { tables = t; code = c; schedule = s; readings = r; results = o; times = e })
    (λ k. (((((k.tables, k.code), k.schedule), k.readings), k.results), k.times))

-- number 21 bars that the state fits the code and the schedule
pub state-bars : (L : Advance) → Bars (state_bad L) (StateFits L)
unfolding state_out
state-bars L =
    bars-as
    ((bars-le _ _ or bars-le _ _)
    or (bars-lt _ _ or bars-lt _ _)
    or bars-any _ _ (λ t. bars-lt _ _) max_tasks
    or bars-any _ _ (λ j. bars-lt _ _) suppliers)
    (λ ((((p, c), (e, r)), l), q). record { pending = p; current = c; elapsed = e; remaining = r; left = l; positions = q })
    (λ k. ((((k.pending, k.current), (k.elapsed, k.remaining)), k.left), k.positions))
