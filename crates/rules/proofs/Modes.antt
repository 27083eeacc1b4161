-- Numbers 6, 7 and 8: each row with the ports of its driver and against the rows before it, as 001's claims.
-- 8 assumes number 2, and that the numbers of the drivers' table are of 32 bits.
use Prim.Native.Nat.{ℕ, ◌<◌}
use mathlib.Core.Path.{◌≡◌, refl, sym}
use mathlib.Core.Bool.{Bool, true, false}
use mathlib.Core.Logic.{◌⊎◌, ⊎_elim}
use native.Mathlib.Omega.{arith}
use lib.Dec.{eqb}
use lib.IntN.{ℤ}
use borrow.Author.Tests.{eqb-false}
use Rattle.theory.specs.Claim.{Bars}
use Rattle.theory.proofs.Bools.{says-or, says_eq, bars-not, bars-says, bars-and, bars-as, ◌or◌}
use Rattle.theory.proofs.Search.{bars-any, bars-below}
use Rattle.theory.proofs.Rows.{one_table}
use Rattle.theory.proofs.Verdict.{Rowed, bars-rows}
use Rattle.program.specs.Tables.{Tables, sensor, actuator, driver_count, guard_kind, guard_port, guard_low, guard_high, kind_always}
use Rattle.program.specs.Tables.{invocation_mode, invocation_task, invocation_driver, update_mode, update_driver, switch_count, switch_mode}
use Rattle.program.specs.Tables.{switch_target, switch_driver, invocations_at, updates_at, switches_at}
use Rattle.program.specs.Guard.{always, interval, guard_of, holds}
use Rattle.program.specs.Sets.{Sensor, ModePort}
use Rattle.program.proofs.Sets.{kind-says, input-says, output-says, mode-port-says, destination-says}
use Rattle.program.proofs.Guards.{Sound, meet-says, guards-meet}
use Rattle.rules.specs.Fields.{Fields}
use Rattle.rules.specs.Modes.{unreadable, invocation_clash, invocation_wrong, invocation_tests, invocations_bad, Invocations}
use Rattle.rules.specs.Modes.{InvocationRow, invocation_rules, update_clash, update_wrong, update_tests, updates_bad, Updates, UpdateRow}
use Rattle.rules.specs.Modes.{update_rules, switch_clash, switch_wrong, switch_tests, switches_bad, Switches, SwitchRow, switch_rules}
use Rattle.rules.proofs.Some.{some-output-bars, some-input-bars, some-port-bars, some-source-bars, some-destination-bars}

module _ (T : Tables) where
  unreadable-bars : (m p : ℕ) → Bars (unreadable T m p) (ModePort T m p ⊎ Sensor T p)
  unfolding unreadable
  unreadable-bars m p = bars-not (says-or (mode-port-says T m p) (kind-says T sensor p))

  -- the test of an invocation row bars what rule 6 asks of it
  invocation-bars : (i : ℕ) → Bars (invocation_wrong T i) (InvocationRow T i)
  unfolding invocation_wrong invocation_clash
  invocation-bars i =
      let m = invocation_mode T i in
      let t = invocation_task T i in
      let d = invocation_driver T i in
      bars-as
      (some-output-bars T (λ p. bars-not (mode-port-says T m p)) t
      or some-source-bars T (unreadable-bars m) d
      or some-destination-bars T (λ p. bars-not (input-says T t p)) d
      or some-input-bars T (λ p. bars-not (destination-says T d p)) t
      or bars-not (says_eq (guard_kind T d) kind_always)
      or bars-any _ _
      (λ j. bars-and (says_eq _ _) (bars-says (says_eq _ _) or some-output-bars T (λ p. bars-says (output-says T (invocation_task T j) p)) t)) i)
      (λ (((((o, s), e), n), a), c).
      record {
        itself = record { outputs = o; sources = s; destinations = λ p. (e p, n p); guard = a };
        task-apart = λ j l q. (c j l q).0;
        outputs-apart = λ j p l q. (c j l q).1 p;
      })
      (λ f.
      let e = f.itself in
      (((((e.outputs, e.sources), λ p. (e.destinations p).0), λ p. (e.destinations p).1), e.guard), λ j l q. (f.task-apart j l q, λ p. f.outputs-apart j p l q)))

  -- number 6 and rule 6 speak of the same rows
  pub invocations-rowed : Rowed (invocations_bad T) (invocation_tests T) (invocation_rules T)
  unfolding invocations_bad
  invocations-rowed = (one_table invocations_at (λ i h w. invocation-bars i), refl)

  -- number 6 bars 001's condition on task invocations
  pub invocations-bar : Bars (invocations_bad T) (Invocations T)
  invocations-bar =
      bars-rows (invocation_tests T) (invocation_rules T) invocations-rowed
      (λ (g, _).
      record {
        each = λ i h. (g i h).itself;
        tasks-apart = λ i j l h. (g i h).task-apart j l;
        outputs-apart = λ i j p l h. (g i h).outputs-apart j p l;
      })
      (λ s. (
        λ i h.
            record { itself = s.each i h; task-apart = λ j l. s.tasks-apart i j l h; outputs-apart = λ j p l. s.outputs-apart i j p l h },
        tt,
      ))

  -- the test of an update row bars what rule 7 asks of it
  update-bars : (i : ℕ) → Bars (update_wrong T i) (UpdateRow T i)
  unfolding update_wrong update_clash
  update-bars i =
      let d = update_driver T i in
      bars-as
      (some-source-bars T (λ p. bars-not (mode-port-says T (update_mode T i) p)) d
      or some-destination-bars T (λ p. bars-not (kind-says T actuator p)) d
      or bars-any _ _
      (λ j. bars-and (says_eq _ _) (some-destination-bars T (λ p. bars-says (destination-says T (update_driver T j) p)) d)) i)
      (λ ((s, e), c). record { sources = s; destinations = e; apart = λ j p l q. c j l q p })
      (λ f. ((f.sources, f.destinations), λ j l q p. f.apart j p l q))

  -- number 7 and rule 7 speak of the same rows
  pub updates-rowed : Rowed (updates_bad T) (update_tests T) (update_rules T)
  unfolding updates_bad
  updates-rowed = (one_table updates_at (λ i h w. update-bars i), refl)

  -- number 7 bars 001's condition on actuator updates
  pub updates-bar : Bars (updates_bad T) (Updates T)
  updates-bar =
      bars-rows (update_tests T) (update_rules T) updates-rowed
      (λ (g, _).
      record {
        sources = λ i p h. (g i h).sources p;
        destinations = λ i p h. (g i h).destinations p;
        apart = λ i j p l h. (g i h).apart j p l;
      })
      (λ s. (
        λ i h.
            record { sources = λ p. s.sources i p h; destinations = λ p. s.destinations i p h; apart = λ j p l. s.apart i j p l h },
        tt,
      ))

module _ (T : Tables) (f : Fields T) where
  -- the guard of a declared driver is no empty interval
  pub guard-sound : (d : ℕ) → d < driver_count T → Sound (guard_of T d)
  guard-sound d l = go (eqb (guard_kind T d) kind_always) refl
    where
      go : (b : Bool) → eqb (guard_kind T d) kind_always ≡ b → Sound (elim b [ true ↦ always | false ↦ interval (guard_port T d) (guard_low T d) (guard_high T d) ])
      go true e = tt
      go false e = ⊎_elim (λ a. absurd (eqb-false _ _ e a.kind)) (λ i. (i.low, i.high, i.ordered)) (f.drivers d l)

  -- the guard of a switch row is no empty interval
  pub switch-sound : (i : ℕ) → i < switch_count T → Sound (guard_of T (switch_driver T i))
  switch-sound i h = guard-sound (switch_driver T i) (f.switches i h).driver

  -- the test of a switch row bars what rule 8 asks of it
  switch-bars : (i : ℕ) → i < switch_count T → Bars (switch_wrong T i) (SwitchRow T i)
  unfolding switch_wrong switch_clash
  switch-bars i h =
      let d = switch_driver T i in
      bars-as
      (some-source-bars T (unreadable-bars T (switch_mode T i)) d
      or some-destination-bars T (λ p. bars-not (mode-port-says T (switch_target T i) p)) d
      or some-port-bars T (λ p. bars-not (destination-says T d p)) (switch_target T i)
      or bars-below i
      (λ j l.
      bars-and (says_eq (switch_mode T j) (switch_mode T i))
      (bars-says (meet-says (guard_of T (switch_driver T j)) (guard_of T d) (switch-sound j (omega arith)) (switch-sound i h)))))
      (λ (((s, e), n), c). record { sources = s; destinations = λ p. (e p, n p); apart = c })
      (λ r. (((r.sources, λ p. (r.destinations p).0), λ p. (r.destinations p).1), r.apart))

  -- number 8 and rule 8 speak of the same rows
  pub switches-rowed : Rowed (switches_bad T) (switch_tests T) (switch_rules T)
  unfolding switches_bad
  switches-rowed = (one_table switches_at (λ i h w. switch-bars i h), refl)

  -- number 8 bars 001's condition on mode switches
  pub switches-bar : Bars (switches_bad T) (Switches T)
  switches-bar =
      bars-rows (switch_tests T) (switch_rules T) switches-rowed
      (λ (g, _).
      record {
        sources = λ i p h. (g i h).sources p;
        destinations = λ i p h. (g i h).destinations p;
        apart = λ i j l h. (g i h).apart j l;
      })
      (λ s. (
        λ i h.
            record { sources = λ p. s.sources i p h; destinations = λ p. s.destinations i p h; apart = λ j l. s.apart i j l h },
        tt,
      ))

  -- where rule 8 holds, two switches of one mode whose guards hold for one valuation are one row
  pub switch-once : Switches T → (v : ℕ → ℤ) (i j : ℕ) → i < switch_count T → j < switch_count T → switch_mode T i ≡ switch_mode T j
      → holds (guard_of T (switch_driver T i)) v ≡ true → holds (guard_of T (switch_driver T j)) v ≡ true → i ≡ j
  switch-once s v i j h l e a b =
      let before : i < j → ⊥ = λ o. s.apart j i o l e (guards-meet T _ _ v (switch-sound i h) (switch-sound j l) a b) in
      let behind : j < i → ⊥ = λ o. s.apart i j o h (sym e) (guards-meet T _ _ v (switch-sound j l) (switch-sound i h) b a) in
      omega (arith, before, behind)
