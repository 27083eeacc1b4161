-- Suppliers keep their windows in a composed run: the E part of a tick leaves a unit going on, and who runs then, runs in one of its
-- windows; the unit and its elapsed ticks are the tick's place in the round, and there is no other.
-- The statement's premises are that the system is accepted and that the ticks are suited.
use Prim.Native.Nat.{ℕ, suc, ◌<◌}
use mathlib.Core.Path.{◌≡◌, sym, subst, ◌∙◌}
use mathlib.Core.List.{List}
use native.Mathlib.Omega.{arith}
use Rattle.program.specs.Program.{program_of, mode}
use Rattle.program.proofs.Decoded.{next-once}
use Rattle.code.specs.Op.{instructions}
use Rattle.giotto.specs.Instant.{Configuration, Function}
use Rattle.machine.specs.Instant.{ok}
use Rattle.machine.specs.Advance.{ready}
use Rattle.machine.specs.declared.State.{State}
use Rattle.machine.proofs.Outcomes.{finished}
use Rattle.composed.specs.Sound.{Sound}
use Rattle.composed.specs.Related.{Going}
use Rattle.composed.proofs.Readied.{Readied, readied}
use Rattle.composed.proofs.OneRuns as one
use Rattle.demands.specs.Composed.{System, joined, state_at, configuration_at}
use Rattle.demands.specs.Kept.{InRound, PlaceOne, ready_at, WindowsKept}
use Rattle.demands.proofs.Sound.{accepted-sound}
use Rattle.demands.proofs.Composed.{is-compiled, related-always}

-- a tick has one place in the round
pub place-one : PlaceOne
place-one P n C k e l f a b = (next-once (mode P C.mode) k l (sym a.next ∙ b.next), omega (arith, a.stamp, b.stamp))

-- while a unit goes on with a tick remaining, unit and elapsed ticks are the place
going-place : (Y : System) (F : Function) (k n : ℕ) (C : Configuration) (u : State)
    → Going Y.tables Y.windows (joined Y) F k n C u → 0 < u.remaining → InRound (program_of Y.tables) n C k u.elapsed
going-place Y F k n C u g more = record {
  unit = g.in-round;
  tick = omega (arith, g.ticks);
  next = g.next;
  stamp = omega (arith, g.stamp, g.ticks);
}

-- suppliers keep their windows
pub windows-kept : WindowsKept
windows-kept Y a F lents n f = (
  (b.state, runs),
  λ u e s l r.
      let same : b.state ≡ u = finished (sym runs ∙ e) in
      let going = subst (Going Y.tables Y.windows (joined Y) F b.unit n C) same b.keeps in
      let more = subst (λ (u : State). 0 < u.remaining) same b.more in (
        b.unit,
        u.elapsed,
        going-place Y F b.unit n C u going more,
        one.windows-kept Y.tables Y.windows (joined Y) F sound b.unit n C u going more s l r,
      ),
)
  where
    sound : Sound Y.tables Y.windows (joined Y)
    sound = accepted-sound Y a

    -- Giotto's configuration after the instant
    C : Configuration
    C = configuration_at Y F lents (suc n)

    b : Readied Y.tables Y.windows (joined Y) F n (configuration_at Y F lents n) (state_at Y lents n) (lents n).readings (lents n).times
    b =
        readied Y.tables Y.windows (joined Y) F n (configuration_at Y F lents n) (state_at Y lents n) (lents n).readings (lents n).times
        sound (f n (omega arith)).times (related-always Y a F lents n (λ k l. f k (omega arith)))

    runs : ready_at Y lents n ≡ ok b.state
    runs =
        subst (λ (ws : List ℕ). ready (program_of Y.tables) (instructions ws) (lents n).readings (lents n).times (state_at Y lents n) ≡ ok b.state)
        (sym (is-compiled Y a F lents)) b.runs
