-- Nothing that the blocks of an accepted program call, release or aim at is missing.
-- Assumes that the verdict on the tables is 0, and that the mode is declared.
use Prim.Native.Nat.{ℕ, ◌+◌, ◌<◌}
use mathlib.Core.Path.{◌≡◌, refl, sym, subst, ap, ◌∙◌}
use mathlib.Core.Bool.{true, not}
use mathlib.Core.List.{List, map}
use mathlib.Core.Option.{Option, none, some}
use native.Mathlib.Omega.{arith}
use lib.IntN.{ℤ}
use lib.ListN.{length}
use borrow.Author.Tests.{lt-leb}
use Rattle.theory.specs.Lists.{Every, member}
use Rattle.theory.specs.Verdict.{accepted_number}
use Rattle.theory.proofs.Bools.{is_true}
use Rattle.theory.proofs.Lists.{every-keep, every-those, every_map, every_append, every-image}
use Rattle.theory.proofs.Members.{has-those, member-says, every-member}
use Rattle.cells.specs.Limits.{max_drivers, first_output_call, first_sensor_call}
use Rattle.program.specs.Tables.{Tables, port_count, sensor, task_count, driver_width, driver_count, mode_count, invocation_count, update_count}
use Rattle.program.specs.Tables.{switch_count}
use Rattle.program.specs.Sets.{is_kind}
use Rattle.program.specs.Program.{Program, Mode, Invocation, Update, Switch, invocation_row, update_row, switch_row, program_of, mode}
use Rattle.program.specs.Program.{due_invocations, due_updates, due_switches, due_tasks}
use Rattle.program.proofs.Decoded.{task-count, driver-count, mode-count, mode-row}
use Rattle.rules.specs.Verdict.{program_verdict}
use Rattle.rules.proofs.Shape.{whole-few, tasks-few}
use Rattle.rules.proofs.Accepted.{accepted-shaped, accepted-fields, due-declared}
use Rattle.code.specs.Listing.{listing}
use Rattle.code.proofs.Inside.{entry-inside}
use Rattle.code.proofs.Accepted.{accepted-aims}
use Rattle.giotto.specs.Instant.{mode_after, unit_after, taken}
use Rattle.giotto.proofs.Switching.{entered}
use Rattle.machine.specs.Instruction.{names_nothing}
use Rattle.machine.proofs.Instructions.{driver-range, output-range, sensor-range}
use Rattle.compiled.specs.Block.{calls, releases, head_steps, body_steps}
use Rattle.compiled.proofs.Through.{Names}
use Rattle.compiled.proofs.Tests.{Aimed}

module _ (T : Tables) (a : program_verdict T ≡ accepted_number) where
  abbrev P : Program
  P = program_of T

  -- a declared driver's number is that of a driver
  pub driver-number : (d : ℕ) → d < driver_count T → d < first_output_call
  driver-number d l = omega (arith, whole-few driver_width max_drivers T.drivers (accepted-shaped T a).drivers)

  -- a call of a declared driver names it
  driver-named : (d : ℕ) → d < driver_count T → Names P (calls d)
  driver-named d l n planned = ap (names_nothing P) (driver-range d (driver-number d l)) ∙ lt-leb (length P.drivers) d (omega (arith, driver-count T))

  -- the call of a declared task's output copy names it
  output-named : (t : ℕ) → t < task_count T → Names P (calls (first_output_call + t))
  output-named t l n planned =
      ap (names_nothing P) (output-range t (omega (arith, tasks-few T (accepted-shaped T a)))) ∙ lt-leb (length P.tasks) t (omega (arith, task-count T))

  -- the call that reads a sensor names it
  sensor-named : (p : ℕ) → member p P.sensors ≡ true → Names P (calls (first_sensor_call + p))
  sensor-named p e n planned = ap (names_nothing P) (sensor-range p) ∙ ap not e

  -- the release of a declared task names it
  release-named : (t : ℕ) → t < task_count T → Names P (releases t)
  release-named t l n planned = lt-leb (length P.tasks) t (omega (arith, task-count T))

  -- the sensors that are read are the sensors of the program
  sensors-read : Every (λ p. member p P.sensors ≡ true) P.sensors
  sensors-read =
      every-those (λ p. member p P.sensors ≡ true) (is_kind T sensor) (λ p. p) (port_count T) 0
      (λ p l h q. is_true (member-says p P.sensors) ((has-those (λ x. p ≡ x) (is_kind T sensor) (λ p. p) (port_count T)).1 (p, omega arith, q, refl)))

  module _ (m k : ℕ) (l : m < mode_count T) where
    -- the tasks that are due in a declared mode are declared
    pub tasks-declared : Every (λ t. t < task_count T) (due_tasks (mode P m) k)
    tasks-declared = every-member (λ t. t < task_count T) (due_tasks (mode P m) k) (λ t e. due-declared T a m k t l e)

    -- the calls of a block before its switch tests name something
    pub head-named : Every (Names P) (head_steps P (mode P m) k)
    head-named =
        every_append (Names P) (map (λ t. calls (first_output_call + t)) (due_tasks (mode P m) k)) _
        (every-image (Names P) (λ t. calls (first_output_call + t)) (due_tasks (mode P m) k) (every_map _ _ (due_tasks (mode P m) k) output-named tasks-declared))
        (every_append (Names P) (map (λ (r : Update). calls r.driver) (due_updates (mode P m) k)) _
        (every-image (Names P) (λ (r : Update). calls r.driver) (due_updates (mode P m) k) updates)
        (every-image (Names P) (λ p. calls (first_sensor_call + p)) P.sensors (every_map _ _ P.sensors sensor-named sensors-read)))
      where
        updates : Every (λ (r : Update). Names P (calls r.driver)) (due_updates (mode P m) k)
        updates =
            every-keep _ _ (mode P m).updates
            (subst (λ (M : Mode). Every (λ (r : Update). Names P (calls r.driver)) M.updates) (sym (mode-row T m l))
            (every-those _ _ (update_row T) (update_count T) 0
            (λ i h g q. driver-named (update_row T i).driver ((accepted-fields T a).updates i (omega arith)).driver)))

    -- the calls and releases of a block behind its entry name something
    pub body-named : Every (Names P) (body_steps (mode P m) k)
    body-named =
        every_append (Names P) (map (λ (r : Invocation). calls r.driver) (due_invocations (mode P m) k)) _
        (every-image (Names P) (λ (r : Invocation). calls r.driver) (due_invocations (mode P m) k) invocations)
        (every-image (Names P) releases (due_tasks (mode P m) k) (every_map _ _ (due_tasks (mode P m) k) release-named tasks-declared))
      where
        invocations : Every (λ (r : Invocation). Names P (calls r.driver)) (due_invocations (mode P m) k)
        invocations =
            every-keep _ _ (mode P m).invocations
            (subst (λ (M : Mode). Every (λ (r : Invocation). Names P (calls r.driver)) M.invocations) (sym (mode-row T m l))
            (every-those _ _ (invocation_row T) (invocation_count T) 0
            (λ i h g q. driver-named (invocation_row T i).driver ((accepted-fields T a).invocations i (omega arith)).driver)))

    -- the due switches aim at drivers and entries that are there
    pub switches-aimed : Every (Aimed P (length (listing P)) k) (due_switches (mode P m) k)
    switches-aimed =
        every-keep _ _ (mode P m).switches
        (subst (λ (M : Mode). Every (Aimed P (length (listing P)) k) M.switches) (sym (mode-row T m l))
        (every-those _ _ (switch_row T) (switch_count T) 0 (λ i h g q. aimed i (omega arith))))
      where
        aimed : (i : ℕ) → i < switch_count T → Aimed P (length (listing P)) k (switch_row T i)
        aimed i h =
            let f = (accepted-fields T a).switches i h in
            let t : (switch_row T i).target < length P.modes = omega (arith, mode-count T, f.target) in
            record {
              declared = omega (arith, driver-count T, f.driver);
              number = driver-number (switch_row T i).driver f.driver;
              entry = entry-inside P (switch_row T i).target 0 t ((accepted-aims T a).units (switch_row T i).target t);
            }

    -- the mode and the unit that are entered, with a switch or without, are there
    pub entered-declared : k < (mode P m).units → (v : List ℤ) (w : Option Switch) → taken P v (due_switches (mode P m) k) ≡ w
        → (mode_after m w < mode_count T) × (unit_after k w < (mode P (mode_after m w)).units)
    entered-declared h v none e = (l, h)
    entered-declared h v (some w) e =
        let there : w.target < mode_count T =
        entered T (record { time = 0; mode = m; unit = k; ports = v; active = λ t. true }) v (accepted-fields T a) l (some w) e in
        (there, (accepted-aims T a).units w.target (omega (arith, mode-count T)))
