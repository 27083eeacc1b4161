-- The pieces of a block that are written from the rows of the tables are the pieces of the block in the program that the tables say.
-- Assumes of the stubs that the layout says where each target is entered.
use Prim.Native.Nat.{ℕ, ◌<◌}
use mathlib.Core.Path.{◌≡◌, refl, sym, ap, ap₂, ◌∙◌}
use mathlib.Core.List.{List, [], ◌∷◌, ◌++◌, map, map-append, map-map}
use lib.ListN.{get_or}
use Rattle.theory.specs.Lists.{Every}
use Rattle.theory.proofs.Lists.{map-those}
use Rattle.cells.specs.Cell.{rows_in}
use Rattle.program.specs.Tables.{Tables, port_width, invocation_width, update_width, invocation_task, update_driver}
use Rattle.program.specs.Sets.{is_sensor, sensor_rows}
use Rattle.program.specs.Program.{Program, Invocation, Update, Switch, invocation_row, update_row, mode_row, program_of, due_invocations}
use Rattle.program.specs.Program.{due_updates, due_switches, due_tasks}
use Rattle.program.proofs.Decoded.{sensors-rows, due-invocations, due-updates, due-switches}
use Rattle.code.specs.Op.{Op, schedule, jump}
use Rattle.code.specs.Listing.{call_driver, call_output, call_sensor, entry_address, head_of, body_of, stubs_of}
use Rattle.words.specs.Written.{Words, three}
use Rattle.writing.specs.Rows.{is_due, due_at, updates_in, reading}
use Rattle.writing.specs.Switches.{switches_in, stubs_in}
use Rattle.writing.specs.Block.{head_in, body_in}
use Rattle.compiler.specs.Rounds.{unit_of}
use Rattle.compiler.specs.Modes.{round_of}
use Rattle.layout.specs.declared.counts.Instant.{Instant}

module _ (T : Tables) (m k : ℕ) where
  -- unit k of mode m
  abbrev pub when : Instant
  when = unit_of (round_of T m 0) k

  -- the due invocations are written, each as the function says, from the rows of their table
  invocations-written : (f : Invocation → Op)
      → map three (map f (due_invocations (mode_row T m) k)) ≡ due_at invocation_width T.invocations when (λ i. three (f (invocation_row T i)))
  invocations-written f =
      let p = is_due invocation_width T.invocations when in
      let n = rows_in invocation_width T.invocations in
      ap (λ (l : List Invocation). map three (map f l)) (due-invocations T m k)
      ∙ ap (map three) (map-those f p (invocation_row T) n 0)
      ∙ map-those three p (λ i. f (invocation_row T i)) n 0

  -- the due updates are written from the rows of their table
  updates-written : map three (map (λ (r : Update). call_driver r.driver) (due_updates (mode_row T m) k)) ≡ updates_in T.updates when
  updates-written =
      let p = is_due update_width T.updates when in
      let n = rows_in update_width T.updates in
      ap (λ (l : List Update). map three (map (λ (r : Update). call_driver r.driver) l)) (due-updates T m k)
      ∙ ap (map three) (map-those (λ (r : Update). call_driver r.driver) p (update_row T) n 0)
      ∙ map-those three p (λ i. call_driver (update_driver T i)) n 0

  -- the readings of the sensors are written from the rows of the ports
  sensors-written : map three (map call_sensor (program_of T).sensors) ≡ sensor_rows T.ports reading
  sensors-written =
      let p = is_sensor T.ports in
      let n = rows_in port_width T.ports in
      ap (λ (l : List ℕ). map three (map call_sensor l)) (sensors-rows T)
      ∙ ap (map three) (map-those call_sensor p (λ i. i) n 0)
      ∙ map-those three p call_sensor n 0

  -- the due tasks are written, each as the function says, from the rows of the invocations
  tasks-written : (f : ℕ → Op)
      → map three (map f (due_tasks (mode_row T m) k)) ≡ due_at invocation_width T.invocations when (λ i. three (f (invocation_task T i)))
  tasks-written f =
      ap (map three) (map-map f (λ (r : Invocation). r.task) (due_invocations (mode_row T m) k)) ∙ invocations-written (λ r. f r.task)

  -- what is written before the tests is what stands there in the block
  pub head-same : head_in T.ports T.invocations T.updates when ≡ map three (head_of (program_of T) (mode_row T m) k)
  head-same =
      let outputs = map call_output (due_tasks (mode_row T m) k) in
      let changes = map (λ (r : Update). call_driver r.driver) (due_updates (mode_row T m) k) in
      let readings = map call_sensor (program_of T).sensors in
      sym
      (map-append three outputs (changes ++ readings)
      ∙ ap₂ (λ (a b : List Words). a ++ b) (tasks-written call_output)
      (map-append three changes readings ∙ ap₂ (λ (a b : List Words). a ++ b) updates-written sensors-written))

  -- what is written from the entry to the `future` is what stands there in the block
  pub body_same : body_in T.invocations when ≡ map three (body_of (mode_row T m) k)
  body_same =
      let drivers = map (λ (r : Invocation). call_driver r.driver) (due_invocations (mode_row T m) k) in
      let schedules = map schedule (due_tasks (mode_row T m) k) in
      ap₂ (λ (a b : List Words). a ++ b)
      (sym (invocations-written (λ r. call_driver r.driver)))
      (sym (tasks-written schedule))
      ∙ sym (map-append three drivers schedules)

  -- the due switches of the tables are those of the program
  pub switches-same : switches_in T.switches when ≡ due_switches (mode_row T m) k
  switches-same = sym (due-switches T m k)

-- where the layout has the entries of the modes, the stubs that are written are those of the block
pub stubs-same : (P : Program) (entries : List ℕ) (n k : ℕ) → ((i : ℕ) → i < n → get_or entries i 0 ≡ entry_address P i 0) → (ws : List Switch)
    → Every (λ w. w.target < n) ws → stubs_in entries ws ≡ stubs_of P k ws
stubs-same P entries n k e [] h = refl
stubs-same P entries n k e (w ∷ ws) h =
    ap₂ (λ (a : ℕ) (os : List Op). call_driver w.driver ∷ jump a ∷ os) (e w.target h.0) (stubs-same P entries n k e ws h.1)
