-- The state that an instant leaves is related to the configuration that Giotto's instant leaves: a unit goes on, from its start.
-- Assumes that the system is sound, what holds where an instant begins (`Edge`), and that the times of the tasks released are in range.
use Prim.Native.Nat.{ℕ, ◌+◌, ◌≤◌, ◌<◌}
use mathlib.Core.Path.{◌≡◌, refl, sym, ap, subst, ◌∙◌}
use mathlib.Core.Bool.{Bool, true, false}
use mathlib.Core.List.{List}
use mathlib.Core.Option.{Option}
use native.Mathlib.Omega.{arith}
use lib.IntN.{ℤ}
use lib.ListN.{length, length-replicate}
use Rattle.theory.specs.Lists.{member}
use Rattle.theory.proofs.Bools.{clash}
use Rattle.theory.proofs.Filled.{zeros-at}
use Rattle.cells.specs.Cell.{num_at}
use Rattle.cells.specs.Limits.{suppliers, max_tasks}
use Rattle.program.specs.Tables.{Tables}
use Rattle.program.specs.Program.{Program, Switch, program_of, task, mode, ticks_of, due_switches, due_tasks}
use Rattle.program.specs.Ports.{value_of}
use Rattle.rules.specs.Fields.{InRange}
use Rattle.rules.proofs.Shape.{tasks-few}
use Rattle.rules.proofs.Accepted.{accepted-shaped, due-declared}
use Rattle.runs.specs.Tick.{left_of}
use Rattle.runs.specs.Round.{release, before, worst_case, nothing}
use Rattle.runs.specs.Dominated.{AtMost}
use Rattle.runs.proofs.Dominated.{before-length}
use Rattle.runs.proofs.Released.{release_length, release-in, release-out, release-among}
use Rattle.suppliers.specs.Supplier.{own_tasks, course}
use Rattle.suppliers.proofs.Accepted.{own-member}
use Rattle.giotto.specs.Instant.{Configuration, Function, results, sensed, switch_of, after_updates, after_sensors, taken, mode_after}
use Rattle.giotto.specs.Instant.{unit_after, after_switch, after_drivers, enter, instant}
use Rattle.giotto.proofs.Due.{due-of-mode}
use Rattle.giotto.proofs.Execution.{instant-ports}
use Rattle.machine.specs.declared.State.{State}
use Rattle.compiled.specs.Done.{leaves, tasks_released, after_instant}
use Rattle.composed.specs.Sound.{Sound}
use Rattle.composed.specs.Related.{OwnedBy, tasks_of, worst_run, Going}
use Rattle.composed.proofs.Edge.{Edge}
use Rattle.composed.proofs.Arrived.{Arrived, arrive}

module _ (T : Tables) (W S : List ℤ) (F : Function) (h : Sound T W S) (n : ℕ) (C : Configuration) (s : State) (g : Edge T W S F n C s)
    (readings times : List ℤ) where
  abbrev P : Program
  P = program_of T

  -- the port values after step 3 of the instant
  abbrev read : List ℤ
  read = sensed P (results P F C.ports) readings C

  -- the switch that the instant takes, or none
  abbrev switch : Option Switch
  switch = switch_of P C read

  -- the mode that the instant enters
  abbrev to : ℕ
  to = mode_after C.mode switch

  -- the unit that the instant enters
  abbrev at : ℕ
  at = unit_after C.unit switch

  -- the tasks that the instant releases
  abbrev due : List ℕ
  due = due_tasks (mode P to) at

  -- the remaining times after the releases of the instant
  abbrev now : List ℕ
  now = release due (num_at times) s.left

  -- the port values after step 3, as the code computes them from those after step 1
  abbrev read_from : List ℤ → List ℤ
  read_from x = after_sensors P readings (after_updates P (mode P C.mode) C.unit x)

  -- the switch that is taken, or none, as the code computes it from the values after step 1
  abbrev switch_from : List ℤ → Option Switch
  switch_from x = taken P (read_from x) (due_switches (mode P C.mode) C.unit)

  -- the ports in the end, as the code computes them from the values after step 1
  abbrev ports_from : List ℤ → List ℤ
  ports_from x = (enter P C (switch_from x) (read_from x)).ports

  -- the state after the instant: the ports are those that Giotto's instant leaves
  abbrev pub after : State
  after = leaves P times C.mode C.unit s switch (instant P (results P F C.ports) readings C).ports

  -- the code's instant leaves this state, since the values after step 1 are those of Giotto's instant
  pub done-is : after_instant P readings C.mode C.unit s times ≡ after
  unfolding after_instant
  done-is = ap (λ (x : List ℤ). leaves P times C.mode C.unit s (switch_from x) (ports_from x)) g.copied

  -- the code's instant releases the tasks that Giotto's instant releases
  pub released-are : tasks_released P readings C.mode C.unit s ≡ due
  released-are = ap (λ (x : List ℤ). due_tasks (mode P (mode_after C.mode (switch_from x))) (unit_after C.unit (switch_from x))) g.copied

  -- the instant enters its mode and unit with what has ended, who is active and who holds results
  pub arrived : Arrived T W S F C s to at (after_drivers P (mode P to) at (after_switch P switch read))
  arrived = arrive T W S F h.accepted n C s g readings switch refl

  module _ (ok : (t : ℕ) → member t due ≡ true → InRange (num_at times t) (task P t).worst) where
    -- a task that is due has a place among the remaining times
    placed : (t : ℕ) → member t due ≡ true → t < max_tasks
    placed t e =
        omega (arith, due-declared T h.accepted to at t arrived.declared e, tasks-few T (accepted-shaped T h.accepted))

    -- a released task has the time that is lent for it as its remaining time
    begins : (t : ℕ) → member t due ≡ true → left_of now t ≡ num_at times t
    begins t e = release-in due (num_at times) s.left t e (subst (λ (l : ℕ). t < l) (sym g.all_left) (placed t e))

    -- a task that is not released keeps its remaining time
    keeps : (t : ℕ) → member t due ≡ false → left_of now t ≡ left_of s.left t
    keeps = release-out due (num_at times) s.left

    -- after the instant tasks of other modes have no time left
    others-ended : (t : ℕ) → member t (tasks_of P to) ≡ false → left_of now t ≡ 0
    others-ended t e = go (member t due) refl
      where
        go : (b : Bool) → member t due ≡ b → left_of now t ≡ 0
        go true q = clash (due-of-mode T h.accepted to at t arrived.declared q) e
        go false q = keeps t q ∙ arrived.others t e

    -- after the instant no task has more time left than its worst case
    at_most : (t : ℕ) → left_of now t ≤ (task P t).worst
    at_most t = go (member t due) refl
      where
        go : (b : Bool) → member t due ≡ b → left_of now t ≤ (task P t).worst
        go true q = omega (arith, begins t q, (ok t q).1)
        go false q = omega (arith, keeps t q, g.most t)

    -- a task of the mode that has no time left was not released, and holds its results
    holding : (t p : ℕ) → member t (tasks_of P to) ≡ true → left_of now t ≡ 0 → member p (task P t).gives ≡ true
        → value_of s.outputs p ≡ results P F (after_drivers P (mode P to) at (after_switch P switch read)) t p
    holding t p e z q = go (member t due) refl
      where
        go : (b : Bool) → member t due ≡ b → value_of s.outputs p ≡ results P F (after_drivers P (mode P to) at (after_switch P switch read)) t p
        go true x = absurd (omega (arith, begins t x, (ok t x).0, z))
        go false x = arrived.held t p e x (sym (keeps t x) ∙ z) q

    -- after the instant each supplier owes at most what its worst-case run alone owes at the unit's start
    owes-less : (j : ℕ) → j < suppliers → AtMost (OwnedBy P j) now (worst_run T W S F j to at 0).left
    owes-less j l =
        release-among (OwnedBy P j) due (own_tasks P j due) (num_at times) (λ t. (task P t).worst) s.left
        (before (course P W S j to) (worst_case (course P W S j to)) nothing at)
        (λ t. own-member P j t due) (λ t o m. (ok t m).1)
        (λ t o m. (
          subst (λ (l : ℕ). t < l) (sym g.all_left) (placed t m),
          subst (λ (l : ℕ). t < l) (sym (before-length (course P W S j to) (worst_case (course P W S j to)) nothing at ∙ length-replicate {A = ℕ} max_tasks 0)) (placed t m),
        ))
        (arrived.below j l)

    -- after the instant a unit goes on, from its start
    pub enters : Going T W S F at n (instant P (results P F C.ports) readings C) after
    enters =
        record {
          declared = arrived.declared;
          in-round = arrived.in-round;
          next = refl;
          current = refl;
          pending = refl;
          ticks = omega arith;
          stamp = ap (λ (i : ℕ). i + ticks_of (mode P to)) g.stamp;
          clock = g.clock;
          ports = refl;
          all-ports = instant-ports P (results P F C.ports) readings C ∙ ap length (sym g.ports) ∙ g.all-ports;
          all-outputs = g.all-outputs;
          all_left = release_length due (num_at times) s.left ∙ g.all_left;
          active = arrived.active;
          others = others-ended;
          held = holding;
          most = at_most;
          ahead = λ j l. record {
            further = omega arith;
            owes = owes-less j l;
            settled-s = omega (arith, zeros-at suppliers j);
            settled-d = omega arith;
          };
        }
