-- The step of an advance is refused exactly as specs/Comes.antt says: in its instant with 19, 16, 17 or 20, or in its tick with 18;
-- else the tick passes.
use Prim.Native.Nat.{ℕ, ◌≤◌, ◌<◌}
use mathlib.Core.Path.{◌≡◌, refl, sym, ap, ◌∙◌}
use mathlib.Core.List.{List}
use mathlib.Core.Logic.{◌⊎◌, inl, inr, ◌↔◌}
use native.Mathlib.Omega.{arith}
use lib.IntN.{ℤ}
use lib.ListN.{length}
use Rattle.theory.specs.Verdict.{accepted_number}
use Rattle.cells.specs.Refusals.{time_refused, overrun_refused, collision_refused, faulty_refused, count_refused}
use Rattle.program.specs.Program.{Program}
use Rattle.machine.specs.declared.State.{State}
use Rattle.machine.specs.declared.At.{At}
use Rattle.machine.specs.Instant.{Outcome, ok, stop, Ends, RefusedAt, Spent}
use Rattle.machine.specs.Schedules.{Who, nobody, one, several, running, Collision, ticked, tick_all}
use Rattle.machine.specs.Advance.{Advance, ready}
use Rattle.machine.specs.Comes.{program, code, instant_start, FaultyAt, TimeBadAt, RunningAt, Reaches, RanAll, Faults, TimeWrong}
use Rattle.machine.specs.Comes.{Overruns, RunsOn, BeforeTick, Collides, TickPasses}
use Rattle.machine.proofs.Outcomes.{ok-not-stop}
use Rattle.machine.proofs.Collide.{collides, tick-refused}
use Rattle.machine.proofs.Ready.{ready-leaves, ready-stops, goes, step-leaves, step-refused}
use Rattle.machine.proofs.Answered.{outcome}
use Rattle.machine.proofs.Comes.{Order, instruction-refused, comes-goes, goes-comes, returns}

-- a tick in which no two suppliers run passes
tick_goes : (P : Program) (S results : List ℤ) (s : State) → (Collision S s → ⊥) → (u : State) × (tick_all P S results s ≡ ok u)
tick_goes P S results s d = go (running S s) refl
  where
    go : (w : Who) → running S s ≡ w → (u : State) × (ticked P S results s w ≡ ok u)
    go nobody e = (_, refl)
    go (one t) e = (_, refl)
    go several e = absurd (d ((collides S s).0 e))

module _ (L : Advance) where
  -- the E part of the step, and what it comes to by the tests
  abbrev begins : Outcome
  begins = ready (program L) (code L) L.lent.readings L.lent.times L.state

  abbrev Refused : ℕ → Type 0
  Refused n = RefusedAt (program L) L.lent.readings L.lent.times (code L) (length (code L)) (instant_start L) n

  abbrev AllRun : ℕ → Type 0
  AllRun n = Spent (program L) L.lent.readings L.lent.times (code L) (length (code L)) (instant_start L) n

  -- an instant is refused with n, in the words of document 01
  abbrev pub InstantStops : ℕ → Type 0
  InstantStops n =
      ((n ≡ faulty_refused) × Faults L)
      ⊎ (((n ≡ time_refused) × TimeWrong L) ⊎ (((n ≡ overrun_refused) × Overruns L) ⊎ ((n ≡ count_refused) × RunsOn L)))

  -- an instant that is refused at an instruction is refused in the words of document 01
  reached : (n : ℕ) → L.state.remaining ≡ 0 → Refused n → InstantStops n
  reached n z r = go ((instruction-refused L r.last n).0 r.refused)
    where
      reaches : Reaches L r.last
      reaches = record { no-tick-left = z; before = r.before; in_count = r.in_count; comes = goes-comes L r.before r.last r.goes }

      go : Order (FaultyAt L r.last) (TimeBadAt L r.last) (RunningAt L r.last) n → InstantStops n
      go (inl x) = inl (x.0, inl (r.last, reaches, x.1))
      go (inr (inl x)) = inr (inl (x.0, (r.last, reaches, x.1, x.2)))
      go (inr (inr (inl x))) = inr (inr (inl (x.0, (r.last, reaches, x.1, x.2, x.3))))
      go (inr (inr (inr x))) = absurd (omega (arith, x.0, r.some_number))

  refused : (n : ℕ) (a : At) → Reaches L a → accepted_number < n → Order (FaultyAt L a) (TimeBadAt L a) (RunningAt L a) n → (L.state.remaining ≡ 0) × (Refused n ⊎ AllRun n)
  refused n a r l o = (
    r.no-tick-left,
    inl (record {
      before = r.before;
      last = a;
      in_count = r.in_count;
      goes = comes-goes L r.before a r.comes;
      some_number = l;
      refused = (instruction-refused L a n).1 o;
    }),
  )

  -- an instant that ran all its instructions is refused in the words of document 01
  ran : (n : ℕ) → L.state.remaining ≡ 0 → AllRun n → InstantStops n
  ran n z w = go w.spent
    where
      all : RanAll L w.last
      all = record { no-tick-left = z; comes = goes-comes L (length (code L)) w.last w.goes }

      go : ((w.last.address < length (code L)) × (n ≡ count_refused)) ⊎ ((length (code L) ≤ w.last.address) × (n ≡ faulty_refused))
          → InstantStops n
      go (inl x) = inr (inr (inr (x.1, (w.last, all, x.0))))
      go (inr x) = inl (x.1, inr (w.last, all, x.0))

  spent : (n : ℕ) (a : At) → RanAll L a
      → ((a.address < length (code L)) × (n ≡ count_refused)) ⊎ ((length (code L) ≤ a.address) × (n ≡ faulty_refused))
      → (L.state.remaining ≡ 0) × (Refused n ⊎ AllRun n)
  spent n a r o = (r.no-tick-left, inr (record { last = a; goes = comes-goes L (length (code L)) a r.comes; spent = o }))

  -- the E part is refused exactly as document 01 says of the instant
  instant-stops : (n : ℕ) → (begins ≡ stop n) ↔ InstantStops n
  instant-stops n = (λ e. there (stops.0 e), λ w. stops.1 (back w))
    where
      stops : (begins ≡ stop n) ↔ ((L.state.remaining ≡ 0) × (Refused n ⊎ AllRun n))
      stops = ready-stops (program L) (code L) L.lent.readings L.lent.times L.state n

      there : (L.state.remaining ≡ 0) × (Refused n ⊎ AllRun n) → InstantStops n
      there (z, inl r) = reached n z r
      there (z, inr w) = ran n z w

      back : InstantStops n → (L.state.remaining ≡ 0) × (Refused n ⊎ AllRun n)
      back (inl (e, inl (a, r, f))) = refused n a r (omega (arith, e)) (inl (e, f))
      back (inl (e, inr (a, r, p))) = spent n a r (inr (p, e))
      back (inr (inl (e, (a, r, f, t)))) = refused n a r (omega (arith, e)) (inr (inl (e, f, t)))
      back (inr (inr (inl (e, (a, r, f, t, s))))) = refused n a r (omega (arith, e)) (inr (inr (inl (e, f, t, s))))
      back (inr (inr (inr (e, (a, r, i))))) = spent n a r (inl (i, e))

  -- the E part leaves u exactly where u is the state before the tick
  pub before-tick : (u : State) → (begins ≡ ok u) ↔ BeforeTick L u
  before-tick u = (λ e. there (leaves.0 e), λ w. leaves.1 (back w))
    where
      leaves : (begins ≡ ok u)
          ↔ (((1 ≤ L.state.remaining) × (u ≡ L.state))
          ⊎ ((L.state.remaining ≡ 0) × Ends (program L) L.lent.readings L.lent.times (code L) (length (code L)) (instant_start L) u))
      leaves = ready-leaves (program L) (code L) L.lent.readings L.lent.times L.state u

      there : ((1 ≤ L.state.remaining) × (u ≡ L.state))
          ⊎ ((L.state.remaining ≡ 0) × Ends (program L) L.lent.readings L.lent.times (code L) (length (code L)) (instant_start L) u)
          → BeforeTick L u
      there (inl w) = inl w
      there (inr w) = inr ((returns L u).1 w)

      back : BeforeTick L u
          → ((1 ≤ L.state.remaining) × (u ≡ L.state))
          ⊎ ((L.state.remaining ≡ 0) × Ends (program L) L.lent.readings L.lent.times (code L) (length (code L)) (instant_start L) u)
      back (inl w) = inl w
      back (inr w) = inr ((returns L u).0 w)

  -- the step is refused exactly in its instant, or with 18 in its tick
  pub outcome-stops : (n : ℕ) → (outcome L ≡ stop n) ↔ (InstantStops n ⊎ ((n ≡ collision_refused) × Collides L))
  outcome-stops n = (λ e. there (steps.0 e), λ w. steps.1 (back w))
    where
      steps : (outcome L ≡ stop n)
          ↔ ((begins ≡ stop n) ⊎ ((v : State) × (begins ≡ ok v) × (tick_all (program L) L.schedule L.lent.results v ≡ stop n)))
      steps = step-refused (program L) (code L) L.schedule L.lent L.state n

      there : (begins ≡ stop n) ⊎ ((v : State) × (begins ≡ ok v) × (tick_all (program L) L.schedule L.lent.results v ≡ stop n))
          → InstantStops n ⊎ ((n ≡ collision_refused) × Collides L)
      there (inl e) = inl ((instant-stops n).0 e)
      there (inr (v, b, t)) =
          let c = (tick-refused (program L) L.schedule L.lent.results v n).0 t in inr (c.0, (v, (before-tick v).0 b, c.1))

      back : InstantStops n ⊎ ((n ≡ collision_refused) × Collides L)
          → (begins ≡ stop n) ⊎ ((v : State) × (begins ≡ ok v) × (tick_all (program L) L.schedule L.lent.results v ≡ stop n))
      back (inl w) = inl ((instant-stops n).1 w)
      back (inr (e, (v, b, c))) =
          inr (v, (before-tick v).1 b, (tick-refused (program L) L.schedule L.lent.results v n).1 (e, c))

  -- where the step is not refused, the tick passes
  pub outcome-passes : (u : State) → outcome L ≡ ok u → TickPasses L
  outcome-passes u e =
      let (v, b, t) = step-leaves (program L) (code L) L.schedule L.lent L.state u e in (
        v,
        (before-tick v).0 b,
        λ c. ok-not-stop (sym t ∙ (tick-refused (program L) L.schedule L.lent.results v collision_refused).1 (refl, c)),
      )

  pub passes-outcome : TickPasses L → (u : State) × (outcome L ≡ ok u)
  passes-outcome (v, b, d) =
      let (u, t) = tick_goes (program L) L.schedule L.lent.results v d in
      (u, ap (goes (program L) (code L) L.schedule L.lent L.state) ((before-tick v).1 b) ∙ t)
