-- The whole listing of a program in which order shows, written from document 01 by hand: rows in table order, sensors in port order,
-- entries behind the switches, stubs behind the `return`.
use mathlib.Core.Path.{◌≡◌, refl}
use mathlib.Core.List.{[], ◌∷◌}
use Rattle.rules.specs.Verdict.{program_verdict}
use Rattle.code.specs.Op.{call, schedule, branch, jump, future, return, emit}
use Rattle.code.specs.Compile.{listing_of}
use Rattle.worked.specs.Computed.{computed}
use Rattle.worked.specs.Crowded.{crowded}

crowded-accepted : program_verdict crowded ≡ 0
unfolding computed
crowded-accepted = refl

-- units 0 to 3 of mode 0 at addresses 1, 19, 27 and 42, units 0 and 1 of mode 1 at 50 and 67; their entries at 9 and 57
crowded-listing : listing_of crowded
    ≡ jump 50
    ∷ call 1001
    ∷ call 1000
    ∷ call 2
    ∷ call 0
    ∷ call 2000
    ∷ call 2002
    ∷ branch 4 15
    ∷ branch 5 17
    ∷ call 1
    ∷ call 3
    ∷ schedule 1
    ∷ schedule 0
    ∷ future 3 19
    ∷ return
    ∷ call 4
    ∷ jump 57
    ∷ call 5
    ∷ jump 9
    ∷ call 1000
    ∷ call 2
    ∷ call 2000
    ∷ call 2002
    ∷ call 3
    ∷ schedule 0
    ∷ future 3 27
    ∷ return
    ∷ call 1001
    ∷ call 1000
    ∷ call 2
    ∷ call 0
    ∷ call 2000
    ∷ call 2002
    ∷ branch 4 40
    ∷ call 1
    ∷ call 3
    ∷ schedule 1
    ∷ schedule 0
    ∷ future 3 42
    ∷ return
    ∷ call 4
    ∷ jump 57
    ∷ call 1000
    ∷ call 2
    ∷ call 2000
    ∷ call 2002
    ∷ call 3
    ∷ schedule 0
    ∷ future 3 1
    ∷ return
    ∷ call 1000
    ∷ call 1001
    ∷ call 0
    ∷ call 2000
    ∷ call 2002
    ∷ branch 6 63
    ∷ branch 7 65
    ∷ call 3
    ∷ call 1
    ∷ schedule 0
    ∷ schedule 1
    ∷ future 3 67
    ∷ return
    ∷ call 6
    ∷ jump 9
    ∷ call 7
    ∷ jump 57
    ∷ call 1001
    ∷ call 0
    ∷ call 2000
    ∷ call 2002
    ∷ call 1
    ∷ schedule 1
    ∷ future 3 50
    ∷ return
    ∷ []
unfolding computed
crowded-listing = refl

-- `if driver address` in words
if-words : emit (branch 4 15 ∷ []) ≡ 2 ∷ 4 ∷ 15 ∷ []
if-words = refl
