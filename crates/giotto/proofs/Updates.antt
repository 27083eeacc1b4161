-- Step 2: due updates whose guard holds write actuator ports; step 3: sensor ports are read. No port gets two values.
-- Assumes rules 1, 2, 4 and 7, and that the mode is declared.
use Prim.Native.Nat.{ℕ, ◌<◌}
use mathlib.Core.Path.{◌≡◌, refl, ap, sym, subst, ◌∙◌}
use mathlib.Core.List.{List, map}
use mathlib.Core.Logic.{◌↔◌}
use native.Mathlib.Omega.{arith}
use lib.IntN.{ℤ}
use lib.ListN.{length}
use Rattle.theory.specs.Lists.{gather, Put}
use Rattle.theory.proofs.Bools.{is_true}
use Rattle.theory.proofs.Members.{has-those}
use Rattle.theory.proofs.Puts.{Wrote, Assigns}
use Rattle.cells.specs.Limits.{max_ports}
use Rattle.program.specs.Tables.{Tables, port_count, sensor, mode_count, update_driver}
use Rattle.program.specs.Sets.{is_kind, Sensor, Destination}
use Rattle.program.specs.Program.{Update, program_of, driver, mode, due_updates}
use Rattle.program.specs.Ports.{value_of, moves, assigned}
use Rattle.program.proofs.Sets.{kind-says}
use Rattle.program.proofs.Decoded.{has-updates}
use Rattle.program.proofs.Ports.{wrote-assigned, wrote-all}
use Rattle.rules.specs.Shape.{Shaped}
use Rattle.rules.specs.Fields.{Fields}
use Rattle.rules.specs.Declared.{Copies}
use Rattle.rules.specs.Modes.{Updates}
use Rattle.rules.proofs.Shape.{ports-few}
use Rattle.giotto.specs.Instant.{Configuration, after_updates, after_sensors}
use Rattle.giotto.specs.Successor.{Valuation, Next, UpdateEnabled, UpdateWrites, SensorWrites}
use Rattle.giotto.proofs.Steps.{next-puts, same_row}
use Rattle.giotto.proofs.Drives.{wrote-driver, rows-assign}

module _ (T : Tables) (C : Configuration) where
  -- the assignments of step 2
  abbrev update_puts : List ℤ → List Put
  update_puts v = gather (moves v) (map (λ (r : Update). driver (program_of T) r.driver) (due_updates (mode (program_of T) C.mode) C.unit))

  -- two enabled updates that drive one port are one row
  update-row : Updates T → {v : Valuation} → (i j p : ℕ) → UpdateEnabled T C.mode C.unit v i → UpdateEnabled T C.mode C.unit v j
      → Destination T (update_driver T i) p → Destination T (update_driver T j) p → i ≡ j
  update-row u i j p a b c d =
      same_row i j
      (λ l. u.apart j i p l b.in_table (a.of-mode ∙ sym b.of-mode) d c)
      (λ l. u.apart i j p l a.in_table (b.of-mode ∙ sym a.of-mode) c d)

  -- the assignments of step 2 are its writes
  updates-wrote : Fields T → C.mode < mode_count T → (v : List ℤ) (p : ℕ) (x : ℤ) → Wrote (update_puts v) p x ↔ UpdateWrites T C (value_of v) p x
  updates-wrote f m v p x =
      let s = wrote-all v (λ (r : Update). driver (program_of T) r.driver) (due_updates (mode (program_of T) C.mode) C.unit) p x in
      let r = has-updates T C.mode C.unit m (λ r. Wrote (moves v (driver (program_of T) r.driver)) p x) in (
        λ h.
            let w = r.0 (s.0 h) in
            let o = (wrote-driver T v (update_driver T w.0) p x (f.updates w.0 w.1).driver).0 w.4 in
            (w.0, record { in_table = w.1; of-mode = w.2; is-due = w.3; guard = o.0 }, o.1),
        λ w. s.1 (r.1 (
          w.0,
          w.1.in_table,
          w.1.of-mode,
          w.1.is-due,
          (wrote-driver T v (update_driver T w.0) p x (f.updates w.0 w.1.in_table).driver).1 (w.1.guard, w.2),
        )),
      )

  -- the assignments of step 2 leave the next values that 001 asks for
  pub updates-next : Shaped T → Fields T → Copies T → Updates T → C.mode < mode_count T → (v : List ℤ) → length v ≡ max_ports
      → Next (UpdateWrites T C (value_of v)) (value_of v) (value_of (after_updates (program_of T) (mode (program_of T) C.mode) C.unit v))
  updates-next s f k u m v e =
      next-puts v e (rows-assign T (update_driver T) (update_puts v) (value_of v) s f k (updates-wrote f m v) (update-row u))

module _ (T : Tables) where
  -- the assignments of step 3 are its writes
  sensors-wrote : (value : Valuation) (p : ℕ) (x : ℤ)
      → Wrote (assigned value (program_of T).sensors) p x ↔ SensorWrites T value p x
  sensors-wrote value p x =
      let s = wrote-assigned value (program_of T).sensors p x in
      let r = has-those (λ q. (q ≡ p) × (x ≡ value q)) (is_kind T sensor) (λ q. q) (port_count T) in (
        λ h.
            let w = r.0 (s.0 h) in
            (subst (Sensor T) w.3.0 ((kind-says T sensor w.0).yes w.2), w.3.1 ∙ ap value w.3.0),
        λ w. s.1 (r.1 (p, w.0.0, is_true (kind-says T sensor p) w.0, (refl, w.1))),
      )

  sensors-assign : Shaped T → (value : Valuation) → Assigns (SensorWrites T value) (assigned value (program_of T).sensors) max_ports
  sensors-assign s value =
      record {
        wrote = sensors-wrote value;
        one = λ p x y a b. a.1 ∙ sym b.1;
        inside = λ p x w. omega (arith, ports-few T s, w.0.0);
      }

  -- the assignments of step 3 leave the next values that 001 asks for
  pub sensors-next : Shaped T → (readings v : List ℤ) → length v ≡ max_ports
      → Next (SensorWrites T (value_of readings)) (value_of v) (value_of (after_sensors (program_of T) readings v))
  sensors-next s readings v e = next-puts v e (sensors-assign s (value_of readings))
