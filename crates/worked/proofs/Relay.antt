-- How long until the insulation monitor of examples/ releases its relay, where the resistance is missing: twenty ticks at most for the
-- switch (Response), ten for the signal's termination, none for the update; and it can take thirty. Instances of the reaction's theorems.
use Prim.Native.Nat.{ℕ, zero, suc, ◌+◌, ◌≤◌, ◌<◌}
use mathlib.Core.Path.{◌≡◌, refl, sym, ap, subst, ◌∙◌}
use mathlib.Core.List.{List, [], ◌∷◌, ◌++◌}
use native.Mathlib.Nat.{dvd-mul_right}
use native.Mathlib.Omega.{arith}
use lib.IntN.{ℤ, pos}
use lib.ListN.{replicate}
use Rattle.theory.specs.Lists.{each}
use Rattle.theory.specs.Verdict.{Keep}
use Rattle.readings.specs.Reading.{no_reading}
use Rattle.program.specs.Tables.{guard_port, invocation_mode, invocation_task, switch_target, switch_driver}
use Rattle.program.specs.Sets.{Sensor}
use Rattle.program.specs.Program.{program_of}
use Rattle.program.specs.Ports.{value_of}
use Rattle.rules.specs.Missing.{SwitchOf, ForMissing}
use Rattle.rules.specs.Verdict.{program_rules}
use Rattle.rules.proofs.Missing.{missing-inside}
use Rattle.rules.proofs.Verdict.{program-accepted}
use Rattle.suppliers.proofs.Accepted.{windows-accepted}
use Rattle.giotto.specs.Instant.{Function}
use Rattle.giotto.specs.Execution.{ports_in_tick}
use Rattle.giotto.proofs.Execution.{execution-keeps}
use Rattle.giotto.proofs.Round.{LastInstant, last-instant}
use Rattle.machine.specs.Advance.{Lent}
use Rattle.demands.specs.Composed.{readings, SuitedAt, Right}
use Rattle.demands.specs.Response.{waiting, InstantAt, current_after, Watches}
use Rattle.demands.specs.Actuated.{terminating, Brings, Acts}
use Rattle.demands.proofs.Composed.{composed-run}
use Rattle.demands.proofs.Supplied.{worst-case-suited}
use Rattle.demands.proofs.Actuated.{acts-in-time, reaction-time}
use Rattle.worked.specs.Computed.{computed}
use Rattle.worked.specs.Systems.{mix}
use Rattle.worked.specs.Insulation.{insulation, insulation-system, insulation_lent, lost_from, Releases, RelayReleased}
use Rattle.worked.specs.Filters.{insulation_tasks}
use Rattle.worked.proofs.Insulation.{insulation-accepted, resistance, of-normal, of-alarm, lost-whole}
use Rattle.worked.proofs.Response.{normal-wait, alarm-wait, lost-there, lent-1, suited-1, starts, for-missing, for-missing-there}
use Rattle.worked.proofs.Response.{at-start}

-- the program keeps its rules
keep : Keep program_rules insulation
keep = (program-accepted insulation).0 (windows-accepted _ insulation-accepted.windows)

-- how long the signal takes in the alarm mode, and which task it is
signal-wait : terminating insulation 5 ≡ 10
unfolding computed
signal-wait = refl

signal-task : invocation_task insulation 5 ≡ 3
unfolding computed
signal-task = refl

-- in the alarm mode update row 1 brings the coil, which the signal's invocation in row 5 gives, to the relay
brings : Brings insulation 5 1 8 1
unfolding computed
brings =
    record {
      invocation = omega arith;
      update = omega arith;
      one-mode = refl;
      as-often = dvd-mul_right 1 1;
      always = refl;
      output = ((omega arith, refl), (8, omega arith, (refl, refl)));
      copies = (4, omega arith, refl, refl, refl);
    }

-- Whatever the tasks compute, if only the signal releases the coil, whatever the readings are, and whatever the execution times
module _ (F : Function) (releases : Releases F) (lents : ℕ → Lent) (suited : (k : ℕ) → SuitedAt insulation-system F lents k) where
  -- what comes in, tick by tick
  abbrev given : ℕ → List ℤ
  given = readings insulation-system F lents

  -- tick k, if it is an instant, finds no reading
  abbrev Missing : ℕ → Type 0
  Missing k = InstantAt insulation F given k → value_of (given k) 0 ≡ no_reading

  -- a wait for the switch of this row, a termination, and an update
  reacts : (n i : ℕ) → InstantAt insulation F given n
      → SwitchOf insulation (current_after insulation F given n) i → ForMissing insulation i 0
      → switch_target insulation i ≡ invocation_mode insulation 5 → waiting insulation i ≤ 20
      → ((k : ℕ) → n < k → k ≤ n + 20 → Missing k)
      → RelayReleased F lents (suc n) (n + 30)
  reacts n i e s w t l missing =
      let at-sensor : Sensor insulation (guard_port insulation (switch_driver insulation i)) =
      subst (Sensor insulation) (sym w.looks.port) resistance in
      let watches : Watches insulation F given n i = record { instant = e; of-mode = s; interval = w.looks.guard; sensor = at-sensor } in
      let act =
      reaction-time insulation-system insulation-accepted F lents n i 5 1 8 1 (λ k h. suited k) watches
      (λ k x y z. missing-inside insulation i 0 w (value_of (given k)) (missing k x (omega (arith, y, l)) z)) t brings in
      record {
        tick = act.wait.tick + terminating insulation 5;
        not-before = omega (arith, act.wait.later);
        in-time = omega (arith, act.wait.in-time, l, signal-wait);
        instant = act.acts.ends.instant;
        released = act.acts.value ∙ signals _;
      }
    where
      signals : (values : List ℤ) → F (invocation_task insulation 5) values 8 ≡ pos 0
      signals values = ap (λ (t : ℕ). F t values 8) signal-task ∙ releases values

  -- from any instant on, where the later ones find no reading, the relay is released within thirty ticks
  pub relay-released : (n : ℕ) → InstantAt insulation F given n → ((k : ℕ) → n < k → k ≤ n + 20 → Missing k)
      → RelayReleased F lents (suc n) (n + 30)
  unfolding computed
  relay-released n e missing = go (current_after insulation F given n) refl declared
    where
      declared : current_after insulation F given n < 2
      declared = (execution-keeps insulation keep F given (suc n)).mode

      go : (m : ℕ) → current_after insulation F given n ≡ m → m < 2 → RelayReleased F lents (suc n) (n + 30)
      go zero o l =
          let here = subst (λ (m : ℕ). SwitchOf insulation m 0) (sym o) of-normal in
          reacts n 0 e here for-missing refl (omega (arith, normal-wait)) missing
      go (suc zero) o l =
          let here = subst (λ (m : ℕ). SwitchOf insulation m 3) (sym o) of-alarm in
          reacts n 3 e here for-missing-there refl (omega (arith, alarm-wait)) missing
      go (suc (suc m)) o l = absurd (omega (arith, l))

  -- and from the first missing reading on, in tick r, which is not the first tick, in less than thirty ticks
  pub relay-since : (r : ℕ) → 1 ≤ r → ((k : ℕ) → r ≤ k → k < r + 20 → Missing k) → RelayReleased F lents r (r + 29)
  relay-since (suc r) l missing =
      record {
        tick = found.tick;
        not-before = b.next found.tick found.not-before found.instant;
        in-time = omega (arith, found.in-time, b.up_to);
        instant = found.instant;
        released = found.released;
      }
    where
      b : LastInstant insulation F given r
      b = last-instant insulation keep F given r

      found : RelayReleased F lents (suc b.tick) (b.tick + 30)
      found = relay-released b.tick b.instant (λ k x y z. missing k (b.next k x z) (omega (arith, y, b.up_to)) z)
  relay-since zero l missing = absurd (omega (arith, l))

-- With what the tasks of the monitor compute, and the resistance lost after the instant at tick 80: every tick is right, the relay is held
-- through tick 109, and released at tick 110. So the number is met
abbrev lent-81 : ℕ → Lent
lent-81 = insulation_lent insulation_tasks (lost_from 81)

suited-81 : (n : ℕ) → SuitedAt insulation-system insulation_tasks lent-81 n
suited-81 n = worst-case-suited insulation-system insulation-accepted.windows insulation_tasks (lost_from 81) (lost-whole 81) n

pub right-81 : (n : ℕ) → Right insulation-system insulation_tasks lent-81 n
right-81 n = (composed-run insulation-system insulation-accepted).1 insulation_tasks lent-81 n (λ k l. suited-81 k)

pub released-81 : RelayReleased insulation_tasks lent-81 81 (81 + 29)
released-81 =
    relay-since insulation_tasks (λ values. refl) lent-81 suited-81 81 (omega arith) (λ k l h e. lost-there 81 k l)

held-81 : each (λ k. value_of (ports_in_tick (program_of insulation) insulation_tasks (lost_from 81) k) 1) 31 80
    ≡ replicate 30 (pos 1) ++ (pos 0 ∷ [])
unfolding computed
held-81 = refl

-- in the normal mode the relay follows its own task: from the start of the round at tick 0 it has the task's value at tick 20
brings-there : Brings insulation 2 0 8 1
unfolding computed
brings-there =
    record {
      invocation = omega arith;
      update = omega arith;
      one-mode = refl;
      as-often = dvd-mul_right 1 1;
      always = refl;
      output = ((omega arith, refl), (6, omega arith, (refl, refl)));
      copies = (4, omega arith, refl, refl, refl);
    }

of_row : invocation_mode insulation 2 ≡ 0
unfolding computed
of_row = refl

pub relay-follows : Acts insulation-system mix lent-1 (0 + terminating insulation 2) (invocation_task insulation 2) 8 1
relay-follows =
    acts-in-time insulation-system insulation-accepted mix lent-1 0 2 0 8 1 (λ k l. suited-1 k) (at-start ∙ sym of_row) starts brings-there
