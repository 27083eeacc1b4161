-- Steps 4 to 6: the switch taken is an enabled one, and none is taken only where none is enabled; its driver's copies are made.
-- Assumes rules 1, 2 and 4, and that the mode is declared.
use Prim.Native.Nat.{ℕ, ◌<◌}
use mathlib.Core.Path.{◌≡◌, refl, ap, sym, subst, ◌∙◌}
use mathlib.Core.Bool.{Bool, true, false}
use mathlib.Core.List.{List, [], ◌∷◌}
use mathlib.Core.Logic.{◌⊎◌, inl, inr}
use mathlib.Core.Option.{Option, none, some}
use native.Mathlib.Omega.{arith}
use lib.IntN.{ℤ}
use lib.ListN.{length}
use Rattle.theory.proofs.Bools.{clash}
use Rattle.theory.proofs.Members.{Has}
use Rattle.cells.specs.Limits.{max_ports}
use Rattle.program.specs.Tables.{Tables, driver_count, mode_count, switch_driver}
use Rattle.program.specs.Guard.{guard_of, holds}
use Rattle.program.specs.Program.{Driver, Switch, Program, switch_row, program_of, driver, mode, due_switches}
use Rattle.program.specs.Ports.{value_of, drive}
use Rattle.program.proofs.Decoded.{driver-row, has-switches}
use Rattle.rules.specs.Shape.{Shaped}
use Rattle.rules.specs.Fields.{Fields}
use Rattle.rules.specs.Declared.{Copies}
use Rattle.giotto.specs.Instant.{Configuration, mode_after, taken, switch_of}
use Rattle.giotto.specs.Successor.{SwitchEnabled, Stays, Changes}
use Rattle.giotto.proofs.Steps.{next-puts}
use Rattle.giotto.proofs.Drives.{moves-assign}

module _ (P : Program) (v : List ℤ) where
  -- the guard of a switch holds at the values v
  abbrev pub Open : Switch → Type 0
  Open w = holds (driver P w.driver).guard (value_of v) ≡ true

  -- where no switch of a list is taken, no guard of it holds
  pub taken_none : (ws : List Switch) → taken P v ws ≡ none → Has Open ws → ⊥
  taken_none [] e h = h
  taken_none (w ∷ ws) e h = go (holds (driver P w.driver).guard (value_of v)) refl e (taken_none ws) h
    where
      go : (b : Bool) → holds (driver P w.driver).guard (value_of v) ≡ b → ◌≡◌ {A = Option Switch} (elim b [ true ↦ some w | false ↦ taken P v ws ]) none
          → (taken P v ws ≡ none → Has Open ws → ⊥) → Open w ⊎ Has Open ws → ⊥
      go true q e ih h = let z : ◌≡◌ {A = ℕ} 0 1 = cc in omega arith
      go false q e ih (inl o) = clash o q
      go false q e ih (inr h) = ih e h

  -- the switch that is taken of a list is one of it, and its guard holds
  pub taken-some : (ws : List Switch) (u : Switch) → taken P v ws ≡ some u → Has (λ w. (w ≡ u) × Open w) ws
  taken-some [] u e = let z : ◌≡◌ {A = ℕ} 0 1 = cc in absurd (omega arith)
  taken-some (w ∷ ws) u e = go (holds (driver P w.driver).guard (value_of v)) refl e (taken-some ws u)
    where
      go : (b : Bool) → holds (driver P w.driver).guard (value_of v) ≡ b → ◌≡◌ {A = Option Switch} (elim b [ true ↦ some w | false ↦ taken P v ws ]) (some u)
          → (taken P v ws ≡ some u → Has (λ w. (w ≡ u) × Open w) ws) → ((w ≡ u) × Open w) ⊎ Has (λ w. (w ≡ u) × Open w) ws
      go true q e ih = inl (cc, q)
      go false q e ih = inr (ih e)

module _ (T : Tables) (C : Configuration) (v : List ℤ) where
  -- the guard of the program's driver of a declared number is that of the tables
  guard-row : (d : ℕ) → d < driver_count T → holds (driver (program_of T) d).guard (value_of v) ≡ holds (guard_of T d) (value_of v)
  guard-row d l = ap (λ (D : Driver). holds D.guard (value_of v)) (driver-row T d l)

  -- a switch of the program is an enabled row of the tables
  pub record Taken (w : Switch) : Type 0 where
    pub row : ℕ
    pub enabled : SwitchEnabled T C.mode C.unit (value_of v) row
    pub is_row : switch_row T row ≡ w

  module _ (f : Fields T) (m : C.mode < mode_count T) where
    -- where no switch is taken, no row is enabled and all stays
    pub stays : switch_of (program_of T) C v ≡ none → Stays T C (value_of v) (value_of v) C.mode C.unit
    stays e =
        record {
          none-enabled = λ i s.
              taken_none (program_of T) v (due_switches (mode (program_of T) C.mode) C.unit) e
              ((has-switches T C.mode C.unit m (Open (program_of T) v)).1
              (i, s.in_table, s.of-mode, s.is-due, guard-row (switch_driver T i) (f.switches i s.in_table).driver ∙ s.guard));
          same-mode = refl;
          same-unit = refl;
          same-ports = λ p. refl;
        }

    -- the switch that is taken is an enabled row of the tables
    pub taken-row : (w : Switch) → switch_of (program_of T) C v ≡ some w → Taken w
    taken-row w e =
        let h = taken-some (program_of T) v (due_switches (mode (program_of T) C.mode) C.unit) w e in
        let r = (has-switches T C.mode C.unit m (λ u. (u ≡ w) × Open (program_of T) v u)).0 h in
        record {
          row = r.0;
          enabled =
              record {
                in_table = r.1;
                of-mode = r.2;
                is-due = r.3;
                guard = sym (guard-row (switch_driver T r.0) (f.switches r.0 r.1).driver) ∙ r.4.1;
              };
          is_row = r.4.0;
        }

    -- the target of a switch that is taken is declared
    pub target-declared : (w : Switch) → Taken w → w.target < mode_count T
    target-declared w t = rw (← t.is_row) (f.switches t.row t.enabled.in_table).target

    -- the mode that is entered is declared
    pub entered : (s : Option Switch) → switch_of (program_of T) C v ≡ s → mode_after C.mode s < mode_count T
    entered none e = m
    entered (some w) e = target-declared w (taken-row w e)

    -- where a switch is taken, the mode is its target, the unit 0, and its driver's copies are made
    pub switches : Shaped T → Copies T → length v ≡ max_ports → (w : Switch) → Taken w
        → Changes T C (value_of v) (value_of (drive (driver (program_of T) w.driver) v)) w.target 0
    switches s k l w t =
        subst (λ (u : Switch). Changes T C (value_of v) (value_of (drive (driver (program_of T) u.driver) v)) u.target 0) t.is_row
        (record {
          row = t.row;
          enabled = t.enabled;
          to-target = refl;
          to-unit-0 = refl;
          mode-ports = next-puts v l (moves-assign T s f k v (switch_driver T t.row) (f.switches t.row t.enabled.in_table).driver t.enabled.guard);
        })
