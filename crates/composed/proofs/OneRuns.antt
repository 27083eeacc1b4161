-- Who runs, runs in one of its windows, since its worst-case run alone runs too. So no two suppliers run in one tick.
-- Assumes that the system is sound, that a unit goes on, and that a tick of it remains.
use Prim.Native.Nat.{ℕ, ◌+◌, ◌*◌, ◌≤◌, ◌<◌}
use mathlib.Core.Path.{◌≡◌, subst}
use mathlib.Core.Bool.{true}
use mathlib.Core.List.{List}
use native.Mathlib.Omega.{arith}
use lib.IntN.{ℤ}
use Rattle.cells.specs.Limits.{suppliers}
use Rattle.program.specs.Tables.{Tables}
use Rattle.program.specs.Program.{Program, program_of, mode, ticks_of}
use Rattle.runs.specs.Tick.{runs_in}
use Rattle.runs.specs.Windows.{in_window, InWindow}
use Rattle.runs.specs.Schedule.{block_of}
use Rattle.runs.proofs.Tick.{tick-runs}
use Rattle.runs.proofs.Windows.{in-window-says}
use Rattle.suppliers.proofs.Windows.{windows-one}
use Rattle.suppliers.proofs.Dispatched.{own-rows}
use Rattle.giotto.specs.Instant.{Configuration, Function}
use Rattle.machine.specs.declared.State.{State}
use Rattle.machine.specs.Schedules.{several, place_of, running, runs_now}
use Rattle.machine.proofs.Collide.{collides}
use Rattle.composed.specs.Sound.{Sound}
use Rattle.composed.specs.Related.{OwnedBy, worst_run, Going}

module _ (T : Tables) (W S : List ℤ) (F : Function) (sound : Sound T W S) (k n : ℕ) (C : Configuration) (u : State)
    (h : Going T W S F k n C u) (more : 1 ≤ u.remaining) where
  abbrev P : Program
  P = program_of T

  -- the tick of the round in which the unit is
  abbrev now : ℕ
  now = k * ticks_of (mode P C.mode) + u.elapsed

  -- a supplier that runs, runs in one of its windows
  inside : (j : ℕ) → j < suppliers → runs_now S u j ≡ true → in_window W j C.mode now ≡ true
  inside j l r =
      let d = worst_run T W S F j C.mode k u.elapsed in
      let e = tick-runs (OwnedBy P j) (block_of S j u.current) u.elapsed (place_of S u j) d
      (own-rows T S sound.joined.rows j u.current) (h.ahead j l) r in
      (sound.good j C.mode l h.declared).inside k u.elapsed h.in-round (omega (arith, h.ticks))
      (subst (λ (a : ℕ). runs_in (block_of S j a) u.elapsed d ≡ true) h.current e)

  pub windows-kept : (j : ℕ) → j < suppliers → runs_now S u j ≡ true
      → InWindow W j C.mode (k * ticks_of (mode P C.mode) + u.elapsed)
  windows-kept j l r = (in-window-says W j C.mode now).yes (inside j l r)

  -- two suppliers that run in one tick are one
  pub one-runs : (i j : ℕ) → i < suppliers → j < suppliers → runs_now S u i ≡ true → runs_now S u j ≡ true → i ≡ j
  one-runs i j p q x y =
      windows-one (record { tables = T; windows = W }) sound.windows i j C.mode now (inside i p x) (inside j q y)

  -- no several suppliers run in one tick
  pub not-several : running S u ≡ several → ⊥
  not-several e =
      let c = (collides S u).0 e in
      omega (
        arith,
        c.apart,
        one-runs c.one-supplier c.other-supplier (omega (arith, c.apart, c.in-range)) c.in-range c.one-runs c.other-runs,
      )
