-- What runs tick by tick, in numbers: an idle row, a timeout inside the unit, a dispatch that is cut off and gone on with in the next
-- block, rows passed together; and the same at the answer of a supplier's verdict.
use mathlib.Core.Path.{◌≡◌, refl}
use mathlib.Core.List.{[], ◌∷◌}
use Rattle.theory.specs.Rows.{placeless}
use Rattle.runs.specs.Tick.{rest, work}
use Rattle.suppliers.specs.Supplier.{at_tick}
use Rattle.worked.specs.Computed.{computed}
use Rattle.worked.specs.Blocks.{dispatch_to, idle_to, from, acts, place, cut_off_answer}

-- idle to 2, then job 0 to 4, of a unit of 6 ticks: two ticks wait, two run, and the timeout cuts the job off in mid-unit
idle-then-dispatch :
    acts (idle_to 2 ∷ dispatch_to 0 4 ∷ []) 6 0 (from (5 ∷ []))
    ≡ rest ∷ rest ∷ work 0 ∷ work 0 ∷ rest ∷ rest ∷ []
idle-then-dispatch = refl

-- a job that is cut off in a block still owes three ticks, and in the next block, to 5, goes on with them
cut_off : place (idle_to 2 ∷ dispatch_to 0 4 ∷ []) 6 0 (from (5 ∷ [])) ≡ record { position = 2; left = 3 ∷ [] }
cut_off = refl

gone-on :
    acts (dispatch_to 0 5 ∷ []) 6 0 (from (place (idle_to 2 ∷ dispatch_to 0 4 ∷ []) 6 0 (from (5 ∷ []))).left)
    ≡ work 0 ∷ work 0 ∷ work 0 ∷ rest ∷ rest ∷ rest ∷ []
gone-on = refl

-- two rows passed at one tick's start: jobs 0 and 1 are not running, so job 2 runs in the first tick; at tick 2 the timeouts of a
-- dispatch and of an idle are reached together
two-rows-passed :
    acts (dispatch_to 0 5 ∷ dispatch_to 1 5 ∷ dispatch_to 2 5 ∷ []) 3 0 (from (0 ∷ 0 ∷ 2 ∷ []))
    ≡ work 2 ∷ work 2 ∷ rest ∷ []
two-rows-passed = refl

two-timeouts :
    acts (dispatch_to 0 2 ∷ idle_to 2 ∷ dispatch_to 1 5 ∷ []) 4 0 (from (9 ∷ 9 ∷ []))
    ≡ work 0 ∷ work 0 ∷ work 1 ∷ work 1 ∷ []
two-timeouts = refl

-- a timeout is counted from the block's start and not from the dispatch, the third of 01's errors: the second dispatch, begun at tick 2
-- with the timeout 4, runs for two ticks and not for four; behind an idle to 2 a dispatch to 3 runs for one and not for three
from-the-start :
    acts (dispatch_to 0 2 ∷ dispatch_to 1 4 ∷ []) 6 0 (from (9 ∷ 9 ∷ []))
    ≡ work 0 ∷ work 0 ∷ work 1 ∷ work 1 ∷ rest ∷ rest ∷ []
from-the-start = refl

behind-an-idle :
    acts (idle_to 2 ∷ dispatch_to 0 3 ∷ []) 6 0 (from (9 ∷ []))
    ≡ rest ∷ rest ∷ work 0 ∷ rest ∷ rest ∷ rest ∷ []
behind-an-idle = refl

-- a row whose job completes is passed at the next tick's start, and a timeout 0 at once
completes-then : acts (dispatch_to 0 0 ∷ dispatch_to 1 6 ∷ dispatch_to 2 6 ∷ []) 4 0 (from (9 ∷ 1 ∷ 2 ∷ [])) ≡ work 1 ∷ work 2 ∷ work 2 ∷ rest ∷ []
completes-then = refl

-- F's supplier, as it is judged: windows 1..4 and 5..10 hold just the ticks in which it runs
just-these : cut_off_answer 4 1 4 5 10 ≡ placeless 0
unfolding computed
just-these = refl

-- a tick more of t1 has no time left to end in
no-tick-more : cut_off_answer 5 1 4 5 10 ≡ at_tick 15 0 10
unfolding computed
no-tick-more = refl

-- F's supplier runs in tick 1, after the idle row, and in tick 3, cut off at 4
after-the-idle : cut_off_answer 4 2 4 5 10 ≡ at_tick 14 0 1
unfolding computed
after-the-idle = refl

until-cut-off : cut_off_answer 4 1 3 5 10 ≡ at_tick 14 0 3
unfolding computed
until-cut-off = refl

-- F's supplier runs in tick 9, where what was cut off goes on in the second block
until-the-end : cut_off_answer 4 1 4 5 9 ≡ at_tick 14 0 9
unfolding computed
until-the-end = refl
