-- "Readings are used only when E code reads, times only at `schedule`", and results only where a task completes: an advance answers the
-- same when all else that it is lent changes. Proved in proofs/Uses.antt.
use Rattle.std.specs.Prelude.{ℕ, ◌≤◌, ◌<◌, ◌≡◌, true, List, ℤ, length}
use Rattle.theory.specs.Lists.{member}
use Rattle.cells.specs.Cell.{num_at}
use Rattle.program.specs.Ports.{value_of}
use Rattle.machine.specs.Advance.{Lent, Advance, advance_answer}
use Rattle.machine.specs.Comes.{Static, program}
use Rattle.machine.specs.Uses.{lending, SameLengths, Agrees}

-- an advance's answer hangs on no more of what is lent than the lengths, the readings that E code takes, the times of the tasks that it
-- comes to release, and the results of the task that completes
abbrev pub UsedOnly : Type 0
UsedOnly = (L : Advance) (X : Lent) → Agrees L X → advance_answer L ≡ advance_answer (lending L X)

-- the same advance with other readings and times
abbrev pub otherwise : Advance → List ℤ → List ℤ → Advance
otherwise L readings times = lending L (record { readings = readings; results = L.lent.results; times = times })

-- while a tick of the unit remains, no reading and no time matters
abbrev pub SameWithin : Type 0
SameWithin =
    (L : Advance) → 1 ≤ L.state.remaining
    → (readings times : List ℤ) → length L.lent.readings ≡ length readings → length L.lent.times ≡ length times
    → advance_answer L ≡ advance_answer (otherwise L readings times)

-- in any tick, only the readings of sensors matter
abbrev pub SensorsOnly : Type 0
SensorsOnly =
    (L : Advance) (readings : List ℤ) → length L.lent.readings ≡ length readings
    → ((p : ℕ) → member p (program L).sensors ≡ true → value_of L.lent.readings p ≡ value_of readings p)
    → advance_answer L ≡ advance_answer (otherwise L readings L.lent.times)

-- in any tick, only the times of declared tasks matter
abbrev pub TasksOnly : Type 0
TasksOnly =
    (L : Advance) (times : List ℤ) → length L.lent.times ≡ length times
    → ((t : ℕ) → t < length (program L).tasks → num_at L.lent.times t ≡ num_at times t)
    → advance_answer L ≡ advance_answer (otherwise L L.lent.readings times)

-- an advance that is refused before it runs, by 1 to 11, 24, 13 or 21, uses nothing of what it is lent but the lengths
abbrev pub RefusedUsesNone : Type 0
RefusedUsesNone =
    (L : Advance) (X : Lent) → Static (advance_answer L).answer.number → SameLengths L X → advance_answer L ≡ advance_answer (lending L X)
