-- The executable instant is 001's successor configuration, for every accepted program.
-- Assumes the program's rules, all ports present, a declared mode and one of its units.
use Prim.Native.Nat.{ℕ, ◌<◌}
use mathlib.Core.Path.{◌≡◌, refl}
use mathlib.Core.List.{List}
use mathlib.Core.Logic.{◌⊎◌, inl, inr}
use mathlib.Core.Option.{Option, none, some}
use lib.IntN.{ℤ}
use lib.ListN.{length}
use Rattle.theory.specs.Verdict.{Keep}
use Rattle.theory.proofs.Puts.{puts-length}
use Rattle.cells.specs.Limits.{max_ports}
use Rattle.program.specs.Tables.{Tables, mode_count}
use Rattle.program.specs.Units.{units}
use Rattle.program.specs.Program.{Switch, program_of, mode}
use Rattle.program.specs.Ports.{value_of}
use Rattle.program.proofs.Units.{units-some}
use Rattle.rules.specs.Shape.{Shaped}
use Rattle.rules.specs.Fields.{Fields}
use Rattle.rules.specs.Declared.{TaskPorts, Copies}
use Rattle.rules.specs.Modes.{Invocations, Updates}
use Rattle.rules.specs.Verdict.{program_rules}
use Rattle.giotto.specs.Instant.{Configuration, after_tasks, after_updates, sensed, switch_of, mode_after, unit_after, after_switch}
use Rattle.giotto.specs.Instant.{enter, instant}
use Rattle.giotto.specs.Successor.{Stays, Changes, Successor}
use Rattle.giotto.proofs.Outputs.{outputs-next}
use Rattle.giotto.proofs.Updates.{updates-next, sensors-next}
use Rattle.giotto.proofs.Switching.{stays, taken-row, target-declared, switches}
use Rattle.giotto.proofs.Inputs.{inputs-next}
use Rattle.giotto.proofs.Active.{active-next, time-next, unit-next}

module _ (T : Tables) (K : Keep program_rules T) (result : ℕ → ℕ → ℤ) (readings : List ℤ) (C : Configuration)
    (all : length C.ports ≡ max_ports) (m : C.mode < mode_count T) (u : C.unit < units T C.mode) where
  shaped : Shaped T
  shaped = K.0

  fields : Fields T
  fields = K.1.0

  task-ports : TaskPorts T
  task-ports = K.1.1.0

  copies : Copies T
  copies = K.1.1.1.0

  invocations : Invocations T
  invocations = K.1.1.1.1.1.0

  updates : Updates T
  updates = K.1.1.1.1.1.1.0

  -- the values after step 1
  abbrev v₁ : List ℤ
  v₁ = after_tasks (program_of T) result C

  -- the values after step 2
  abbrev v₂ : List ℤ
  v₂ = after_updates (program_of T) (mode (program_of T) C.mode) C.unit v₁

  -- the values after step 3
  abbrev v₃ : List ℤ
  v₃ = sensed (program_of T) result readings C

  all₁ : length v₁ ≡ max_ports
  all₁ = simp puts-length all

  all₂ : length v₂ ≡ max_ports
  all₂ = simp puts-length all

  all₃ : length v₃ ≡ max_ports
  all₃ = simp puts-length all

  -- the instant succeeds where steps 4 to 6 do, with the switch that is taken, or none
  with-switch : (s : Option Switch) → length (after_switch (program_of T) s v₃) ≡ max_ports
      → mode_after C.mode s < mode_count T
      → unit_after C.unit s < units T (mode_after C.mode s)
      → Stays T C (value_of v₃) (value_of (after_switch (program_of T) s v₃)) (mode_after C.mode s) (unit_after C.unit s)
      ⊎ Changes T C (value_of v₃) (value_of (after_switch (program_of T) s v₃)) (mode_after C.mode s) (unit_after C.unit s)
      → Successor T result (value_of readings) C (enter (program_of T) C s v₃)
  with-switch s l d k w =
      let m' = mode_after C.mode s in
      let u' = unit_after C.unit s in
      record {
        after-tasks = value_of v₁;
        after-updates = value_of v₂;
        after-sensors = value_of v₃;
        after-switch = value_of (after_switch (program_of T) s v₃);
        unit = u';
        step-1 = outputs-next T result C shaped fields task-ports invocations m all;
        step-2 = updates-next T C shaped fields copies updates m v₁ all₁;
        step-3 = sensors-next T shaped readings v₂ all₂;
        step-4-to-6 = w;
        step-7 = inputs-next T m' u' shaped fields task-ports copies invocations d (after_switch (program_of T) s v₃) l;
        step-8 = λ t. active-next T C m' u' t m d;
        time-stamp = time-next T C m' d;
        next-unit = unit-next T m' u' d k;
      }

  -- the instant succeeds with the switch that is taken, or none
  by-switch : (s : Option Switch) → switch_of (program_of T) C v₃ ≡ s → Successor T result (value_of readings) C (enter (program_of T) C s v₃)
  by-switch none e = with-switch none all₃ m u (inl (stays T C v₃ fields m e))
  by-switch (some w) e =
      let t = taken-row T C v₃ fields m w e in
      with-switch (some w) (simp puts-length all) (target-declared T C v₃ fields m w t) (units-some T w.target)
      (inr (switches T C v₃ fields m shaped copies all₃ w t))

-- the executable instant is the successor configuration
pub instant-succeeds : (T : Tables) → Keep program_rules T → (result : ℕ → ℕ → ℤ) (readings : List ℤ) (C : Configuration)
    → length C.ports ≡ max_ports → C.mode < mode_count T → C.unit < units T C.mode
    → Successor T result (value_of readings) C (instant (program_of T) result readings C)
instant-succeeds T K result readings C all m u =
    by-switch T K result readings C all m u (switch_of (program_of T) C (sensed (program_of T) result readings C)) refl
