-- The relation between Giotto's configuration and the machine's state (composed/specs/Related) that the proof of the composed run
-- carries, as statements: one tick keeps it, so it holds before every tick. For later requests and for whoever reads that proof; the
-- demand itself is in Composed.antt. Proved in proofs/Composed.antt.
use Rattle.std.specs.Prelude.{ℕ, suc, ◌<◌, ◌≡◌, List, ℤ}
use Rattle.theory.specs.Verdict.{accepted_number}
use Rattle.program.specs.Tables.{Tables}
use Rattle.program.specs.Program.{program_of}
use Rattle.code.specs.Op.{emit}
use Rattle.code.specs.Compile.{listing_of}
use Rattle.giotto.specs.Instant.{Configuration, Function}
use Rattle.giotto.specs.Execution.{pass}
use Rattle.machine.specs.Advance.{Lent, advance_answer}
use Rattle.machine.specs.declared.State.{State}
use Rattle.composed.specs.Sound.{Sound}
use Rattle.composed.specs.Suited.{by_compiled, Suited}
use Rattle.composed.specs.Related.{Related}
use Rattle.demands.specs.Composed.{System, Accepted, joined, state_at, configuration_at, SuitedAt}

-- one tick of a sound system keeps the relation
abbrev pub RelationKept : Type 0
RelationKept =
    (T : Tables) (W S : List ℤ) → Sound T W S
    → (F : Function) (n : ℕ) (C : Configuration) (s : State) (X : Lent)
    → Suited T (emit (listing_of T)) S F n C s X
    → Related T W S F n C s
    → let a = advance_answer (by_compiled T S X s) in
    (a.answer.number ≡ accepted_number) × Related T W S F (suc n) (pass (program_of T) F n X.readings C) a.state

-- the relation holds before every tick of a composed run
abbrev pub RelatedAlways : Type 0
RelatedAlways =
    (Y : System) → Accepted Y → (F : Function) (lents : ℕ → Lent) (n : ℕ) → ((k : ℕ) → k < n → SuitedAt Y F lents k)
    → Related Y.tables Y.windows (joined Y) F n (configuration_at Y F lents n) (state_at Y lents n)
