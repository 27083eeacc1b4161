-- What F's first advances use of what they are lent: in the first the sensor's reading and the times of the two tasks, in the second no
-- reading and no time, but the results of the task that completes in it; and one that is refused, nothing.
use Prim.Native.Nat.{ℕ, zero, suc, ◌≤◌, ◌<◌}
use mathlib.Core.Path.{◌≡◌, refl, sym, ap, subst, ◌∙◌}
use mathlib.Core.Bool.{true}
use mathlib.Core.List.{List, [], ◌∷◌}
use mathlib.Core.Logic.{inl, ⊎_elim}
use native.Mathlib.Omega.{arith}
use lib.IntN.{ℤ, pos}
use lib.ListN.{length, replicate}
use Rattle.theory.specs.Lists.{member}
use Rattle.theory.specs.Verdict.{OneOf}
use Rattle.theory.proofs.Bools.{clash}
use Rattle.theory.proofs.Members.{member-says}
use Rattle.theory.proofs.Verdict.{listed-one}
use Rattle.cells.specs.Cell.{num_at}
use Rattle.cells.specs.Limits.{max_ports, max_tasks}
use Rattle.program.specs.Ports.{value_of}
use Rattle.machine.specs.declared.State.{State}
use Rattle.machine.specs.Advance.{Advance, Lent, fresh_answer, advance_rules, advance_answer}
use Rattle.machine.specs.Change.{with_left}
use Rattle.machine.specs.Comes.{program}
use Rattle.machine.specs.Uses.{Reads, Releases, Completes, lending}
use Rattle.machine.proofs.Comes.{goes-comes}
use Rattle.machine.proofs.Uses.{reads-sensor, releases-declared}
use Rattle.demands.specs.Composed.{joined, code}
use Rattle.demands.specs.Supplied.{lent_to}
use Rattle.demands.specs.Uses.{otherwise}
use Rattle.demands.proofs.Uses.{used-only, same-within, sensors-only, tasks-only, refused-uses-none}
use Rattle.worked.specs.Computed.{computed}
use Rattle.worked.specs.Programs.{program_f}
use Rattle.worked.specs.Systems.{F-system, mix, readings, times}

-- F from a state at a tick, with the shortest execution times
abbrev advance : ℕ → State → Advance
advance n s = record {
  tables = program_f 6 2;
  code = code F-system;
  schedule = joined F-system;
  state = s;
  lent = lent_to F-system mix readings (times (1 ∷ 1 ∷ [])) n s;
}

abbrev first : Advance
first = advance 0 (fresh_answer (program_f 6 2)).state

abbrev second : Advance
second = advance 1 (advance_answer first).state

-- in the first advance the fifth instruction reads the sensor, and the eighth releases task 0
first_reads : Reads first 0
unfolding computed
first_reads = (
  2000,
  refl,
  record {
    at = _;
    reaches = record {
      no-tick-left = refl;
      before = 4;
      in_count = omega arith;
      comes = goes-comes first 4 _ (refl, refl, (refl, refl, (refl, refl, (refl, refl, refl))));
    };
    stands = refl;
    not-faulty = λ e. clash {b = true} refl e;
  },
)

first-releases : Releases first 0
unfolding computed
first-releases = record {
  at = _;
  reaches = record {
    no-tick-left = refl;
    before = 7;
    in_count = omega arith;
    comes = goes-comes first 7 _ (refl, refl, (refl, refl, (refl, refl, (refl, refl, (refl, refl, (refl, refl, (refl, refl, refl)))))));
  };
  stands = refl;
  not-faulty = λ l. omega (arith, l);
}

-- in the second advance task 0 completes
within : 1 ≤ second.state.remaining
unfolding computed
within = omega arith

second-completes : Completes second 0
unfolding computed
second-completes = record { before-tick = second.state; begins = inl (within, refl); runs = refl; last-tick = refl }

-- F's one sensor and two tasks
one-sensor : (program first).sensors ≡ 0 ∷ []
unfolding computed
one-sensor = refl

two-tasks : length (program first).tasks ≡ 2
unfolding computed
two-tasks = refl

-- whatever the other readings and times, the first advance answers the same
module _ (rs ts : List ℤ) (r : length rs ≡ 63) (t : length ts ≡ 30) where
  abbrev other_readings : List ℤ
  other_readings = pos 0 ∷ rs

  abbrev other_times : List ℤ
  other_times = pos 1 ∷ pos 1 ∷ ts

  same-sensor : (p : ℕ) → member p (program first).sensors ≡ true → value_of first.lent.readings p ≡ value_of other_readings p
  same-sensor zero m = refl
  same-sensor (suc p) m =
      let h = (member-says (suc p) (0 ∷ [])).yes (subst (λ (ps : List ℕ). member (suc p) ps ≡ true) one-sensor m) in
      absurd (⊎_elim (λ e. omega (arith, e)) absurd h)

  same-times : (k : ℕ) → k < length (program first).tasks → num_at first.lent.times k ≡ num_at other_times k
  unfolding num_at
  same-times zero l = refl
  same-times (suc zero) l = refl
  same-times (suc (suc k)) l = absurd (omega (arith, l, two-tasks))

  readings-long : length first.lent.readings ≡ length other_readings
  readings-long = ap suc (sym r)

  times_long : length first.lent.times ≡ length other_times
  times_long = ap (λ (n : ℕ). suc (suc n)) (sym t)

  pub F-first-readings : advance_answer first ≡ advance_answer (otherwise first other_readings first.lent.times)
  F-first-readings = sensors-only first other_readings readings-long same-sensor

  pub F-first-times : advance_answer first ≡ advance_answer (otherwise first first.lent.readings other_times)
  F-first-times = tasks-only first other_times times_long same-times

  -- the first advance answers the same whatever the other readings and the other times together
  pub F-first-uses : advance_answer first ≡ advance_answer (otherwise first other_readings other_times)
  F-first-uses =
      used-only first _ (record {
        lengths = record { readings = readings-long; results = refl; times = times_long };
        readings = λ p u. same-sensor p (reads-sensor first p u);
        times = λ k u. same-times k (releases-declared first k u);
        results = λ k p u m. refl;
      })

-- the second advance answers the same whatever all readings and times
pub F-second-uses : (rs ts : List ℤ) → length rs ≡ max_ports → length ts ≡ max_tasks
    → advance_answer second ≡ advance_answer (otherwise second rs ts)
F-second-uses rs ts r t = same-within second within rs ts (sym r) (sym t)

-- an advance that is refused with 21, since a task has too long left, uses nothing
abbrev far : Advance
far = advance 0 (with_left (fresh_answer (program_f 6 2)).state (5000 ∷ replicate 31 0))

far-refused : (advance_answer far).answer.number ≡ 21
unfolding computed
far-refused = refl

far-results : length far.lent.results ≡ max_ports
unfolding computed
far-results = refl

pub F-far-uses : (X : Lent) → length X.readings ≡ max_ports → length X.results ≡ max_ports → length X.times ≡ max_tasks
    → advance_answer far ≡ advance_answer (lending far X)
F-far-uses X r s t =
    refused-uses-none far X (subst (OneOf advance_rules) (sym far-refused) (listed-one advance_rules 21 refl))
    (record { readings = sym r; results = far-results ∙ sym s; times = sym t })
