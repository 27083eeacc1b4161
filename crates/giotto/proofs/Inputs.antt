-- Step 7: the drivers of due invocations write task input ports, and no port gets two values.
-- Assumes rules 1, 2, 3, 4 and 6, and that the mode is declared.
use Prim.Native.Nat.{ℕ, ◌<◌}
use mathlib.Core.Path.{◌≡◌, sym, ◌∙◌}
use mathlib.Core.List.{List, map}
use mathlib.Core.Logic.{◌↔◌}
use lib.IntN.{ℤ}
use lib.ListN.{length}
use Rattle.theory.specs.Lists.{gather, Put}
use Rattle.theory.proofs.Puts.{Wrote}
use Rattle.cells.specs.Limits.{max_ports}
use Rattle.program.specs.Tables.{Tables, mode_count, invocation_task, invocation_driver}
use Rattle.program.specs.Sets.{Input, Destination}
use Rattle.program.specs.Program.{Invocation, program_of, driver, mode, due_invocations}
use Rattle.program.specs.Ports.{value_of, moves}
use Rattle.program.proofs.Guards.{always-holds}
use Rattle.program.proofs.Ports.{wrote-all}
use Rattle.rules.specs.Shape.{Shaped}
use Rattle.rules.specs.Fields.{Fields}
use Rattle.rules.specs.Declared.{TaskPorts, Copies}
use Rattle.rules.specs.Modes.{Invocations}
use Rattle.giotto.specs.Instant.{after_drivers}
use Rattle.giotto.specs.Successor.{Next, InvocationDue, InputWrites}
use Rattle.giotto.proofs.Steps.{next-puts, due-invocations, same_row}
use Rattle.giotto.proofs.Drives.{wrote-driver, rows-assign}

module _ (T : Tables) (m k : ℕ) where
  -- the assignments of step 7
  abbrev input_puts : List ℤ → List Put
  input_puts v = gather (moves v) (map (λ (r : Invocation). driver (program_of T) r.driver) (due_invocations (mode (program_of T) m) k))

  -- two due invocations that drive one port are one row
  input-row : TaskPorts T → Invocations T → (i j p : ℕ) → InvocationDue T m k i → InvocationDue T m k j
      → Destination T (invocation_driver T i) p → Destination T (invocation_driver T j) p → i ≡ j
  input-row t n i j p a b c d =
      let x : Input T (invocation_task T i) p = ((n.each i a.in_table).destinations p).0 c in
      let y : Input T (invocation_task T j) p = ((n.each j b.in_table).destinations p).0 d in
      let e = t.inputs_apart (invocation_task T i) (invocation_task T j) p x y in
      same_row i j
      (λ l. n.tasks-apart j i l b.in_table (a.of-mode ∙ sym b.of-mode) e)
      (λ l. n.tasks-apart i j l a.in_table (b.of-mode ∙ sym a.of-mode) (sym e))

  -- the assignments of step 7 are its writes
  inputs-wrote : Fields T → Invocations T → m < mode_count T → (v : List ℤ) (p : ℕ) (x : ℤ) → Wrote (input_puts v) p x ↔ InputWrites T m k (value_of v) p x
  inputs-wrote f n l v p x =
      let s = wrote-all v (λ (r : Invocation). driver (program_of T) r.driver) (due_invocations (mode (program_of T) m) k) p x in
      let r = due-invocations T m k l (λ r. Wrote (moves v (driver (program_of T) r.driver)) p x) in (
        λ h.
            let w = r.0 (s.0 h) in
            (w.0, w.1, ((wrote-driver T v (invocation_driver T w.0) p x (f.invocations w.0 w.1.in_table).driver).0 w.2).1),
        λ w. s.1 (r.1 (
          w.0,
          w.1,
          (wrote-driver T v (invocation_driver T w.0) p x (f.invocations w.0 w.1.in_table).driver).1
              (always-holds T (invocation_driver T w.0) (value_of v) (n.each w.0 w.1.in_table).guard, w.2),
        )),
      )

  -- the assignments of step 7 leave the next values that 001 asks for
  pub inputs-next : Shaped T → Fields T → TaskPorts T → Copies T → Invocations T → m < mode_count T → (v : List ℤ) → length v ≡ max_ports
      → Next (InputWrites T m k (value_of v)) (value_of v) (value_of (after_drivers (program_of T) (mode (program_of T) m) k v))
  inputs-next s f t c n l v e =
      next-puts v e (rows-assign T (invocation_driver T) (input_puts v) (value_of v) s f c (inputs-wrote f n l v) (input-row t n))
