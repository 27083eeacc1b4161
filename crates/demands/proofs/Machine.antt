-- When a run is refused, what an accepted advance changes, and how long its instant may be, of the definitions.
use Prim.Native.Nat.{ℕ, ◌+◌, ◌%◌, ◌^◌, ◌≤◌, ◌<◌}
use mathlib.Core.Path.{◌≡◌, ap, subst, ◌∙◌}
use mathlib.Core.Logic.{◌⊎◌, inl, inr}
use Rattle.code.proofs.Fetch.{instructions-length}
use Rattle.code.proofs.Said.{code-says}
use Rattle.machine.specs.declared.State.{State}
use Rattle.machine.specs.Comes.{program, code}
use Rattle.machine.specs.Moves.{InstantKeeps}
use Rattle.machine.proofs.Exact.{advance-faulty, advance-time, advance-overruns, advance-runs-on, advance-collides}
use Rattle.machine.proofs.Moved as moved
use Rattle.demands.specs.Machine.{WordsExact, FaultyExact, TimeExact, OverrunExact, CountExact, CollisionExact, AdvanceMoves}
use Rattle.demands.specs.Machine.{TimeMoves, InstantCounted}
use Rattle.demands.proofs.Calls.{advance-kept}

-- what the words of lent code say
pub words-exact : WordsExact
words-exact code i l o d = code-says code i l o d

-- each of 19, 16, 17, 20 and 18 is given under exactly its condition
pub faulty-exact : FaultyExact
faulty-exact L = advance-kept L (advance-faulty L)

pub time-exact : TimeExact
time-exact L = advance-kept L (advance-time L)

pub overrun-exact : OverrunExact
overrun-exact L = advance-kept L (advance-overruns L)

pub count-exact : CountExact
count-exact L = advance-kept L (advance-runs-on L)

pub collision-exact : CollisionExact
collision-exact L = advance-kept L (advance-collides L)

pub advance-moves : AdvanceMoves
advance-moves L e = moved.advance-moves L e

pub time-moves : TimeMoves
time-moves L e =
    let a = moved.advance-moves L e in
    a.passes.time ∙ ap (λ (t : ℕ). (t + 1) % 2 ^ 32) (before a.between a.begun)
  where
    before : (v : State) → ((1 ≤ L.state.remaining) × (v ≡ L.state))
        ⊎ ((L.state.remaining ≡ 0) × InstantKeeps (program L) L.lent.times (code L) L.state v)
        → v.time ≡ L.state.time
    before v (inl x) = ap (λ (s : State). s.time) x.1
    before v (inr x) = x.1.time

pub instant-counted : InstantCounted
instant-counted L e z =
    let (u, w) = moved.instant-counted L e z in
    (u, w, subst (λ (n : ℕ). w.reaches.before < n) (instructions-length L.code) w.reaches.in_count)
