-- A missing reading satisfies exactly one switch of every mode of an accepted program that looks at its sensor, and in a composed run it
-- takes that switch at every instant at which it is due. The statements' premises are that the program, or the system, is accepted, and
-- that the ticks are suited.
use Prim.Native.Nat.{ℕ, suc, ◌+◌, ◌/◌, ◌%◌, ◌≤◌, ◌<◌}
use mathlib.Core.Path.{◌≡◌, sym, ap, ap₂, ◌∙◌}
use mathlib.Core.Bool.{true}
use mathlib.Core.Logic.{inl, inr}
use native.Mathlib.Omega.{arith}
use lib.IntN.{ℤ}
use Rattle.theory.specs.Verdict.{Keep}
use Rattle.program.specs.Tables.{Tables, switch_target, switch_driver, mode_period}
use Rattle.program.specs.Guard.{guard_of, holds}
use Rattle.program.specs.Sets.{Sensor}
use Rattle.program.specs.Units.{units}
use Rattle.program.specs.Program.{Mode, mode_row, program_of, mode, ticks_of, next_unit}
use Rattle.program.specs.Ports.{value_of}
use Rattle.program.proofs.Decoded.{next-around, next-once, mode-row}
use Rattle.rules.specs.Verdict.{program_rules}
use Rattle.rules.proofs.Verdict.{program-accepted}
use Rattle.rules.proofs.Verdict as verdict
use Rattle.code.specs.Listing.{future_address}
use Rattle.giotto.specs.Instant.{Configuration, Function, results}
use Rattle.giotto.specs.Successor.{Changes, Successor}
use Rattle.giotto.proofs.Execution.{execution-succeeds}
use Rattle.giotto.proofs.Taken.{sensor-read, is-taken}
use Rattle.machine.specs.Advance.{Lent}
use Rattle.composed.specs.Related.{Related}
use Rattle.demands.specs.Composed.{System, Accepted, joined, readings, state_at, configuration_at, SuitedAt}
use Rattle.demands.specs.Missing.{MissingSatisfies, GapExact, DueAt, Enters, TakesSwitch}
use Rattle.demands.proofs.Sound.{accepted-sound}
use Rattle.demands.proofs.Composed.{related-always}

-- a missing reading satisfies the guard of exactly one switch
pub missing-satisfies : MissingSatisfies
missing-satisfies T a = verdict.missing-met T a

-- 24 is given exactly where that does not hold
pub gap-exact : GapExact
gap-exact T = verdict.gap-exact T

module _ (Y : System) (F : Function) (lents : ℕ → Lent) (n m : ℕ) where
  -- Giotto's configuration after tick n, and the mode that it is in
  abbrev after : Configuration
  after = configuration_at Y F lents (suc n)

  abbrev entered : Mode
  entered = mode (program_of Y.tables) after.mode

  -- where a round of mode m has begun in Giotto's execution, the machine is in unit 0 of it
  begun : after.mode ≡ m → after.unit ≡ 1 % units Y.tables after.mode
      → after.time ≡ n + mode_period Y.tables after.mode / units Y.tables after.mode
      → Related Y.tables Y.windows (joined Y) F (suc n) after (state_at Y lents (suc n)) → Enters Y F lents n m
  begun e u t (inl o) = absurd (omega (arith, o.no-tick))
  begun e u t (inr (k, g)) =
      record {
        mode = e;
        round = record {
          unit = some;
          tick = omega (arith, stamp, g.stamp);
          next = g.next ∙ ap (next_unit entered) first;
          stamp = omega (arith, stamp);
        };
        machine = g.current ∙ ap₂ (future_address (program_of Y.tables)) e first;
      }
    where
      row : entered ≡ mode_row Y.tables after.mode
      row = mode-row Y.tables after.mode g.declared

      some : 0 < entered.units
      some = omega (arith, g.in-round)

      first : k ≡ 0
      first =
          next-once entered k 0
          (sym g.next ∙ u ∙ sym (ap (λ (M : Mode). 1 % M.units) row) ∙ sym (next-around entered 0 some))

      stamp : after.time ≡ n + ticks_of entered
      stamp = t ∙ sym (ap (λ (M : Mode). n + ticks_of M) row)

-- a switch that is due at an instant, and whose guard holds for the reading of a sensor whatever the other ports hold, is taken
pub due-taken : (Y : System) → Accepted Y → (F : Function) (lents : ℕ → Lent) (n : ℕ) → ((k : ℕ) → k ≤ n → SuitedAt Y F lents k)
    → (i p : ℕ) → Sensor Y.tables p
    → ((v : ℕ → ℤ) → v p ≡ value_of (lents n).readings p → holds (guard_of Y.tables (switch_driver Y.tables i)) v ≡ true)
    → DueAt Y.tables n (configuration_at Y F lents n) i → TakesSwitch Y F lents n i
due-taken Y a F lents n f i p s g d =
    record {
      successor = S;
      changes = taken.0;
      by_row = taken.1;
      enters =
          begun Y F lents n (switch_target T i) (taken.0.to-target ∙ ap (switch_target T) taken.1)
          (S.next-unit ∙ ap (λ (u : ℕ). suc u % units T C'.mode) taken.0.to-unit-0)
          (S.time-stamp ∙ ap (λ (x : ℕ). x + mode_period T C'.mode / units T C'.mode) d.instant)
          (related-always Y a F lents (suc n) (λ k l. f k (omega arith)));
    }
  where
    T : Tables
    T = Y.tables

    K : Keep program_rules T
    K = (program-accepted T).0 (accepted-sound Y a).accepted

    C : Configuration
    C = configuration_at Y F lents n

    C' : Configuration
    C' = configuration_at Y F lents (suc n)

    result : ℕ → ℕ → ℤ
    result = results (program_of T) F C.ports

    S : Successor T result (value_of (lents n).readings) C C'
    S = execution-succeeds T K F (readings Y F lents) n d.instant

    taken : (c : Changes T C S.after-sensors S.after-switch C'.mode S.unit) × (c.row ≡ i)
    taken =
        is-taken T K result (value_of (lents n).readings) C C' S i
        (record {
          in_table = d.of-mode.in_table;
          of-mode = d.of-mode.of-mode;
          is-due = d.is-due;
          guard = g S.after-sensors (sensor-read T K result (value_of (lents n).readings) C C' S p s);
        })
