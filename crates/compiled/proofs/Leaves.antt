-- From the block of a mode and unit of an accepted program an instant is not refused, and leaves the state that Giotto's instant says.
-- Assumes that the verdict on the tables is 0, that the mode is declared, that the due tasks and those to be released have ended, and
-- that the times of the latter are in range.
use Prim.Native.Nat.{ℕ, ◌+◌, ◌≤◌, ◌<◌}
use mathlib.Core.Path.{◌≡◌, refl, sym, ap, ◌∙◌}
use mathlib.Core.Bool.{true}
use mathlib.Core.List.{List, ◌++◌, map}
use native.Mathlib.Omega.{arith}
use lib.IntN.{ℤ}
use Rattle.theory.specs.Lists.{keep, member, puts}
use Rattle.theory.specs.Verdict.{accepted_number}
use Rattle.theory.proofs.Lists.{keep_all, every-all}
use Rattle.theory.proofs.Members.{Has}
use Rattle.cells.specs.Cell.{num_at}
use Rattle.cells.specs.Limits.{max_tasks, first_output_call, first_sensor_call}
use Rattle.program.specs.Tables.{Tables, mode_count}
use Rattle.program.specs.Program.{Program, Mode, Invocation, Update, program_of, task, mode, due_invocations, due_updates, due_switches}
use Rattle.program.specs.Program.{due_tasks}
use Rattle.program.proofs.Decoded.{has-invocations, has-updates}
use Rattle.rules.specs.Fields.{InRange}
use Rattle.rules.specs.Verdict.{program_verdict}
use Rattle.rules.proofs.Shape.{tasks-few}
use Rattle.rules.proofs.Accepted.{accepted-shaped, accepted-fields, due-declared}
use Rattle.runs.specs.Tick.{left_of}
use Rattle.runs.specs.Round.{release}
use Rattle.giotto.specs.Instant.{after_tasks, after_updates, after_sensors, after_drivers, sensed, taken}
use Rattle.giotto.proofs.Released.{instant-mode}
use Rattle.giotto.proofs.Once.{due-once}
use Rattle.machine.specs.declared.State.{State}
use Rattle.machine.specs.Change.{with_ports, with_left}
use Rattle.machine.specs.Instant.{Outcome, ok}
use Rattle.compiled.specs.Block.{Straight, calls, releases, and_then, head_steps, through, switched, begun, entered, turned}
use Rattle.compiled.specs.Block.{block_instant}
use Rattle.compiled.specs.Done.{seen, local, mode_entered, unit_entered, switch_taken, tasks_released, after_instant}
use Rattle.compiled.proofs.Named.{driver-number}
use Rattle.compiled.proofs.Unmixed.{updates-unmixed, invocations-unmixed}
use Rattle.compiled.proofs.Effects.{through-both, output_puts, outputs-lead, drivers-lead, sensors-lead, releases-lead}

module _ (T : Tables) (a : program_verdict T ≡ accepted_number) where
  -- the program that the tables say
  abbrev P : Program
  P = program_of T

  module _ (m k : ℕ) (l : m < mode_count T) where
    -- mode m of the program
    abbrev M : Mode
    M = mode P m

    -- the drivers of due updates have call numbers of drivers
    update-calls : Has (λ r. first_output_call ≤ r.driver) (due_updates M k) → ⊥
    update-calls h =
        let (i, b, o, d, q) = (has-updates T m k l (λ r. first_output_call ≤ r.driver)).0 h in
        omega (arith, q, driver-number T a _ ((accepted-fields T a).updates i b).driver)

    -- the drivers of due invocations have call numbers of drivers
    invocation-calls : Has (λ r. first_output_call ≤ r.driver) (due_invocations M k) → ⊥
    invocation-calls h =
        let (i, b, o, d, q) = (has-invocations T m k l (λ r. first_output_call ≤ r.driver)).0 h in
        omega (arith, q, driver-number T a _ ((accepted-fields T a).invocations i b).driver)

    -- the number of a due task is within the limit
    due-few : (t : ℕ) → member t (due_tasks M k) ≡ true → t < max_tasks
    due-few t e = omega (arith, due-declared T a m k t l e, tasks-few T (accepted-shaped T a))

    module _ (readings times : List ℤ) where
      -- calls of the drivers of due updates are Giotto's step 2
      updates-lead : (s : State)
          → through P readings times (map (λ r. calls r.driver) (due_updates M k)) s ≡ ok (with_ports s (after_updates P M k s.ports))
      updates-lead s =
          drivers-lead P readings times (λ (r : Update). r.driver) (due_updates M k) s update-calls (updates-unmixed T a m k l)

      -- calls of the drivers of due invocations are Giotto's step 5
      invocations-lead : (s : State)
          → through P readings times (map (λ r. calls r.driver) (due_invocations M k)) s ≡ ok (with_ports s (after_drivers P M k s.ports))
      invocations-lead s =
          drivers-lead P readings times (λ (r : Invocation). r.driver) (due_invocations M k) s invocation-calls (invocations-unmixed T a m k l)

      -- the calls of (1) to (3) leave the ports that Giotto's steps 1 to 3 leave
      head-leads : (s : State) → ((t : ℕ) → member t (due_tasks M k) ≡ true → left_of s.left t ≡ 0)
          → through P readings times (head_steps P M k) s
          ≡ ok (with_ports s (sensed P (local s) readings (seen m k s)))
      head-leads s z =
          let os : List Straight = map (λ t. calls (first_output_call + t)) (due_tasks M k) in
          let us : List Straight = map (λ r. calls r.driver) (due_updates M k) in
          let ps : List Straight = map (λ p. calls (first_sensor_call + p)) P.sensors in
          let v : List ℤ = puts (output_puts P readings times s (due_tasks M k)) s.ports in
          let all : due_tasks M k ≡ keep (λ t. true) (due_tasks M k) = sym (keep_all (λ t. true) (due_tasks M k) (every-all _ (due_tasks M k) (λ t. refl))) in
          let e : v ≡ after_tasks P (local s) (seen m k s) =
          ap (λ (ts : List ℕ). puts (output_puts P readings times s ts) s.ports) all in
          through-both P readings times os (us ++ ps) s
          ∙ ap (λ (o : Outcome). and_then o (through P readings times (us ++ ps))) (outputs-lead P readings times (due_tasks M k) s due-few z)
          ∙ through-both P readings times us ps (with_ports s v)
          ∙ ap (λ (o : Outcome). and_then o (through P readings times ps)) (updates-lead (with_ports s v))
          ∙ sensors-lead P readings times P.sensors (with_ports s (after_updates P M k v))
          ∙ ap (λ (w : List ℤ). ok (with_ports s (after_sensors P readings (after_updates P M k w)))) e

      -- (5) to (7) leave the ports that Giotto's step 5 leaves, release the due tasks, and begin the next unit
      enters : (s : State) → ((t : ℕ) → member t (due_tasks M k) ≡ true → left_of s.left t ≡ 0)
          → ((t : ℕ) → member t (due_tasks M k) ≡ true → InRange (num_at times t) (task P t).worst)
          → entered P readings times m k s
          ≡ ok (begun P readings times m k
          (with_left (with_ports s (after_drivers P M k s.ports)) (release (due_tasks M k) (num_at times) s.left)))
      unfolding entered
      enters s z r =
          let os : List Straight = map (λ r. calls r.driver) (due_invocations M k) in
          let rs : List Straight = map releases (due_tasks M k) in
          ap (λ (o : Outcome). and_then o (λ u. ok (begun P readings times m k u)))
          (through-both P readings times os rs s
          ∙ ap (λ (o : Outcome). and_then o (through P readings times rs)) (invocations-lead s)
          ∙ releases-lead P readings times (due_tasks M k) (with_ports s (after_drivers P M k s.ports)) (due-once T a m k l) z r)

-- from the block of a mode and unit, where the tasks that are due and those that are released have ended and their times are in
-- range, the instant leaves what Giotto's instant says
pub instant-done : (T : Tables) → program_verdict T ≡ accepted_number → (readings times : List ℤ) (m k : ℕ) (s : State)
    → m < mode_count T
    → ((t : ℕ) → member t (due_tasks (mode (program_of T) m) k) ≡ true → left_of s.left t ≡ 0)
    → ((t : ℕ) → member t (tasks_released (program_of T) readings m k s) ≡ true → left_of s.left t ≡ 0)
    → ((t : ℕ) → member t (tasks_released (program_of T) readings m k s) ≡ true → InRange (num_at times t) (task (program_of T) t).worst)
    → block_instant (program_of T) readings times m k s ≡ ok (after_instant (program_of T) readings m k s times)
unfolding block_instant after_instant
instant-done T a readings times m k s l ended free fair =
    let P : Program = program_of T in
    let v : List ℤ = sensed P (local s) readings (seen m k s) in
    ap (λ (o : Outcome). and_then o (λ u. turned P readings times m k (taken P u.ports (due_switches (mode P m) k)) u))
    (head-leads T a m k l readings times s ended)
    ∙ enters T a (mode_entered P readings m k s) (unit_entered P readings m k s)
    (instant-mode T (accepted-fields T a) (local s) readings (seen m k s) l) readings times
    (switched P readings times (switch_taken P readings m k s) (with_ports s v)) free fair
