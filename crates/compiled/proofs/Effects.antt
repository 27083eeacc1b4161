-- The steps of a block, kind by kind: each leads to one state, with the ports and remaining times written out.
-- Assumes of output copies that the tasks are within the limit and have ended; of driver calls, that the numbers are drivers' and that
-- no driver writes what one of them reads; of releases, that no task comes twice, that the tasks have ended and that their times are in
-- range.
use Prim.Native.Nat.{ℕ, ◌+◌, ◌≤◌, ◌<◌}
use mathlib.Core.Path.{◌≡◌, refl, sym, ap, ap₂, subst, ◌∙◌}
use mathlib.Core.Bool.{Bool, true, false, not}
use mathlib.Core.List.{List, [], ◌∷◌, ◌++◌, map}
use mathlib.Core.Logic.{inl, inr}
use native.Mathlib.Omega.{arith}
use lib.IntN.{ℤ}
use lib.ListN.{set}
use lib.Seq.{get_or-set_other}
use borrow.Author.Tests.{lt-leb}
use Rattle.theory.specs.Lists.{gather, member, Put, puts}
use Rattle.theory.proofs.Bools.{clash, is_true}
use Rattle.theory.proofs.Members.{Has, member-head, member-tail}
use Rattle.theory.proofs.Puts.{puts-append}
use Rattle.cells.specs.Cell.{num_at}
use Rattle.cells.specs.Limits.{max_tasks, first_output_call, first_sensor_call}
use Rattle.program.specs.Program.{Program, task, driver}
use Rattle.program.specs.Ports.{value_of, assigned, drive, drive_all}
use Rattle.rules.specs.Fields.{InRange}
use Rattle.rules.proofs.Fields.{range-says}
use Rattle.runs.specs.Tick.{left_of}
use Rattle.runs.specs.Round.{release}
use Rattle.giotto.proofs.Once.{Distinct}
use Rattle.machine.specs.declared.State.{State}
use Rattle.machine.specs.Change.{with_ports, with_left}
use Rattle.machine.specs.Instruction.{Call, driver_call, output_call, sensor_call, call_of, time_bad, still_called, still_running, called}
use Rattle.machine.specs.Instant.{ok}
use Rattle.machine.proofs.Instructions.{driver-range, output-range, sensor-range}
use Rattle.compiled.specs.Block.{Straight, calls, releases, op_of, unless, and_then, effect, through}
use Rattle.compiled.proofs.Then.{then-unless}
use Rattle.compiled.proofs.Sequence.{drive_each, Unmixed, drive-once}

module _ (P : Program) (readings times : List ℤ) where
  -- steps with more behind them come to the steps, and then the others
  pub through-both : (fs gs : List Straight) (s : State)
      → through P readings times (fs ++ gs) s ≡ and_then (through P readings times fs s) (through P readings times gs)
  through-both [] gs s = refl
  through-both (o ∷ fs) gs s =
      ap (unless (time_bad P times (op_of o)) (still_running s (op_of o))) (through-both fs gs (effect P readings times o s))
      ∙ sym (then-unless (time_bad P times (op_of o)) (still_running s (op_of o)) (through P readings times fs (effect P readings times o s)) (through P readings times gs))

  -- a call of a known kind that ends no running task leads to what it does, and then to the steps after it
  call_step : (n : ℕ) (c : Call) (os : List Straight) (s : State) → call_of n ≡ c → still_called s c ≡ false
      → through P readings times (calls n ∷ os) s ≡ through P readings times os (called P readings times s c)
  call_step n c os s e q =
      ap (λ (c : Call). unless false (still_called s c) (through P readings times os (called P readings times s c))) e
      ∙ ap (λ (b : Bool). unless false b (through P readings times os (called P readings times s c))) q

  -- a release of a task that has ended, with a time in range, sets its remaining time and leads to the steps after it
  release-step : (t : ℕ) (os : List Straight) (s : State) → InRange (num_at times t) (task P t).worst → left_of s.left t ≡ 0
      → through P readings times (releases t ∷ os) s ≡ through P readings times os (with_left s (set s.left t (num_at times t)))
  release-step t os s r z =
      ap₂ (λ (a b : Bool). unless a b (through P readings times os (with_left s (set s.left t (num_at times t)))))
      (ap not (is_true (range-says (num_at times t) (task P t).worst) r))
      (lt-leb 1 (left_of s.left t) (omega arith))

  -- what the output copies of tasks put into the ports
  abbrev pub output_puts : State → List ℕ → List Put
  output_puts s ts = gather (λ t. assigned (value_of s.outputs) (task P t).gives) ts

  -- output copies of tasks that have ended put the tasks' local outputs into the ports
  pub outputs-lead : (ts : List ℕ) (s : State) → ((t : ℕ) → member t ts ≡ true → t < max_tasks) → ((t : ℕ) → member t ts ≡ true → left_of s.left t ≡ 0)
      → through P readings times (map (λ t. calls (first_output_call + t)) ts) s ≡ ok (with_ports s (puts (output_puts s ts) s.ports))
  outputs-lead [] s d z = refl
  outputs-lead (t ∷ ts) s d z =
      let v = puts (assigned (value_of s.outputs) (task P t).gives) s.ports in
      call_step (first_output_call + t) (output_call t) (map (λ t. calls (first_output_call + t)) ts) s
      (output-range t (omega (arith, d t (member-head t ts)))) (lt-leb 1 (left_of s.left t) (omega (arith, z t (member-head t ts))))
      ∙ outputs-lead ts (with_ports s v) (λ u m. d u (member-tail u t ts m)) (λ u m. z u (member-tail u t ts m))
      ∙ ap (λ (w : List ℤ). ok (with_ports s w)) (sym (puts-append (assigned (value_of s.outputs) (task P t).gives) (output_puts s ts) s.ports))

  -- calls of the drivers of rows let them copy one after the other
  drivers-each : {R : Type 0} (f : R → ℕ) (rows : List R) (s : State) → (Has (λ r. first_output_call ≤ f r) rows → ⊥)
      → through P readings times (map (λ r. calls (f r)) rows) s ≡ ok (with_ports s (drive_each (map (λ r. driver P (f r)) rows) s.ports))
  drivers-each f [] s h = refl
  drivers-each f (r ∷ rows) s h =
      let n : first_output_call ≤ f r → ⊥ = λ g. h (inl g) in
      call_step (f r) (driver_call (f r)) (map (λ r. calls (f r)) rows) s (driver-range (f r) (omega arith)) refl
      ∙ drivers-each f rows (with_ports s (drive (driver P (f r)) s.ports)) (λ g. h (inr g))

  -- calls of the drivers of rows let them copy at once, where none of them writes what one of them reads
  pub drivers-lead : {R : Type 0} (f : R → ℕ) (rows : List R) (s : State)
      → (Has (λ r. first_output_call ≤ f r) rows → ⊥) → Unmixed (map (λ r. driver P (f r)) rows)
      → through P readings times (map (λ r. calls (f r)) rows) s ≡ ok (with_ports s (drive_all (map (λ r. driver P (f r)) rows) s.ports))
  drivers-lead f rows s h u =
      drivers-each f rows s h
      ∙ ap (λ (v : List ℤ). ok (with_ports s v)) (drive-once (map (λ r. driver P (f r)) rows) s.ports u)

  -- calls that read sensors let each port take its reading
  pub sensors-lead : (ps : List ℕ) (s : State)
      → through P readings times (map (λ p. calls (first_sensor_call + p)) ps) s ≡ ok (with_ports s (puts (assigned (value_of readings) ps) s.ports))
  sensors-lead [] s = refl
  sensors-lead (p ∷ ps) s =
      call_step (first_sensor_call + p) (sensor_call p) (map (λ p. calls (first_sensor_call + p)) ps) s (sensor-range p) refl
      ∙ sensors-lead ps (with_ports s (set s.ports p (value_of readings p)))

  -- releases of tasks that have ended make their times their remaining times
  pub releases-lead : (ts : List ℕ) (s : State) → Distinct ts → ((t : ℕ) → member t ts ≡ true → left_of s.left t ≡ 0)
      → ((t : ℕ) → member t ts ≡ true → InRange (num_at times t) (task P t).worst)
      → through P readings times (map releases ts) s ≡ ok (with_left s (release ts (num_at times) s.left))
  releases-lead [] s d z r = refl
  releases-lead (t ∷ ts) s d z r =
      release-step t (map releases ts) s (r t (member-head t ts)) (z t (member-head t ts))
      ∙ releases-lead ts (with_left s (set s.left t (num_at times t))) d.1 still (λ u m. r u (member-tail u t ts m))
    where
      still : (u : ℕ) → member u ts ≡ true → left_of (set s.left t (num_at times t)) u ≡ 0
      still u m =
          get_or-set_other s.left t u (num_at times t) 0 (λ e. clash (subst (λ (n : ℕ). member n ts ≡ true) e m) d.0)
          ∙ z u (member-tail u t ts m)
