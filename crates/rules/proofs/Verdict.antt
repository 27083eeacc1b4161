-- The verdict on a program is the number of the first rule that is broken, and 0 exactly where every rule holds.
-- That the bounds of a guard are of 32 bits, which `Meet` in number 8 asks for, is part of number 2.
use Prim.Native.Nat.{ℕ, ◌<◌}
use mathlib.Core.Path.{◌≡◌, refl}
use mathlib.Core.List.{◌∷◌}
use mathlib.Core.Logic.{◌↔◌}
use native.Mathlib.Omega.{arith}
use Rattle.theory.specs.Verdict.{accepted_number, unplaced_rule, First, Keep, FirstAt}
use Rattle.theory.specs.declared.Answer.{Answer}
use Rattle.theory.proofs.Verdict.{Barred, verdict-first, first-none, first-last, answer-first, answer-number}
use Rattle.readings.specs.Reading.{Inside, no_reading}
use Rattle.program.specs.Tables.{Tables, driver_count, guard_kind, guard_low, guard_high, kind_interval}
use Rattle.cells.specs.Refusals.{gap_refused}
use Rattle.rules.specs.Fields.{Fields}
use Rattle.rules.specs.Missing.{NoGap, MissingMet}
use Rattle.rules.specs.Verdict.{shape_refusal, table_refusals, program_verdict, program_answer, published_rules, program_rules}
use Rattle.rules.proofs.Shape.{shape-bars}
use Rattle.rules.proofs.Fields.{fields-bar, fields-rowed}
use Rattle.rules.proofs.Declared.{task-ports-bar, task-ports-rowed, copies-rowed, mode-ports-bar, mode-ports-rowed}
use Rattle.rules.proofs.Copies.{copies-bar}
use Rattle.rules.proofs.Modes.{invocations-bar, invocations-rowed, updates-bar, updates-rowed, switches-bar, switches-rowed}
use Rattle.rules.proofs.Timing.{units-bar, units-rowed, whole-bars, whole-rowed}
use Rattle.rules.proofs.Missing.{gap-bars, missing-alone}
use Rattle.rules.proofs.Gap.{gap-iff}

module _ (T : Tables) where
  -- each test of the verdict bars the rule of its number where the earlier rules hold
  pub program-barred : Barred (shape_refusal ∷ table_refusals) program_rules T
  program-barred = (
    record { number = refl; bars = shape-bars T; rows = tt },
    λ shaped. (
      record { number = refl; bars = fields-bar T; rows = fields-rowed T },
      λ f. (
        record { number = refl; bars = task-ports-bar T; rows = task-ports-rowed T },
        λ task-ports. (
          record { number = refl; bars = copies-bar T; rows = copies-rowed T },
          λ copies. (
            record { number = refl; bars = mode-ports-bar T; rows = mode-ports-rowed T },
            λ mode-ports. (
              record { number = refl; bars = invocations-bar T; rows = invocations-rowed T },
              λ invocations. (
                record { number = refl; bars = updates-bar T; rows = updates-rowed T },
                λ updates. (
                  record { number = refl; bars = switches-bar T f; rows = switches-rowed T f },
                  λ switches. (
                    record { number = refl; bars = units-bar T; rows = units-rowed T },
                    λ units. (
                      record { number = refl; bars = whole-bars T; rows = whole-rowed T },
                      λ whole. (record { number = refl; bars = gap-bars T; rows = tt }, λ gap. tt),
                    ),
                  ),
                ),
              ),
            ),
          ),
        ),
      ),
    ),
  )

  -- the verdict on a program is the number of the first rule that is broken
  pub program-first : (n : ℕ) → (program_verdict T ≡ n) ↔ First program_rules T n
  unfolding program_verdict
  program-first n = verdict-first (shape_refusal ∷ table_refusals) program_rules T program-barred n

  -- the answer on a program is that of the first rule that is broken, with the lowest row that breaks it
  pub program-first-at : (x : Answer) → (program_answer T ≡ x) ↔ FirstAt program_rules T x
  unfolding program_answer
  program-first-at x = answer-first (shape_refusal ∷ table_refusals) program_rules T program-barred x

  -- the number of the answer is the verdict
  pub program-number : (program_answer T).number ≡ program_verdict T
  unfolding program_answer program_verdict
  program-number = answer-number (shape_refusal ∷ table_refusals) T

  -- a program is accepted exactly where every rule holds
  pub program-accepted : (program_verdict T ≡ accepted_number) ↔ Keep program_rules T
  program-accepted =
      let (there, back) = first-none program_rules T (omega arith) in
      (λ e. there ((program-first accepted_number).0 e), λ k. (program-first accepted_number).1 (back k))

  -- in an accepted program no guard takes a missing reading for a number: an interval with it has it alone
  pub missing-guard : program_verdict T ≡ accepted_number → (d : ℕ) → d < driver_count T → guard_kind T d ≡ kind_interval
      → Inside (guard_low T d) no_reading (guard_high T d) → (guard_low T d ≡ no_reading) × (guard_high T d ≡ no_reading)
  missing-guard a d l k w =
      let f : Fields T = (program-accepted.0 a).1.0 in missing-alone T f d l k w

  -- in an accepted program a missing reading satisfies the guard of exactly one switch of every mode that looks at its sensor
  pub missing-met : program_verdict T ≡ accepted_number → MissingMet T
  missing-met a =
      let k = program-accepted.0 a in (gap-iff T k.1.0 k.1.1.1.1.1.1.1.0).0 k.1.1.1.1.1.1.1.1.1.1.0

  -- 24 is given exactly where numbers 1 to 10 do not apply and that does not hold
  pub gap-exact : (program_verdict T ≡ gap_refused) ↔ (Keep published_rules T × (MissingMet T → ⊥))
  gap-exact =
      let (there, back) = first-last published_rules (unplaced_rule gap_refused NoGap) T (omega arith) (omega arith) in (
        λ e. let (k, b) = there ((program-first gap_refused).0 e) in (k, λ g. b ((joined k).1 g)),
        λ (k, b). (program-first gap_refused).1 (back (k, λ g. b ((joined k).0 g))),
      )
    where
      joined : Keep published_rules T → NoGap T ↔ MissingMet T
      joined k = gap-iff T k.1.0 k.1.1.1.1.1.1.1.0
