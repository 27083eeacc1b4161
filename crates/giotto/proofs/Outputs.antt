-- Step 1: completed tasks write their output and private ports, and no port gets two values.
-- Assumes rules 1, 2, 3 and 6, and that the mode is declared.
use Prim.Native.Nat.{ℕ, ◌<◌}
use mathlib.Core.Path.{◌≡◌, refl, ap, sym, subst, ◌∙◌}
use mathlib.Core.Bool.{true}
use mathlib.Core.List.{List}
use mathlib.Core.Logic.{inl, inr, ⊎_elim, ◌↔◌}
use native.Mathlib.Omega.{arith}
use lib.IntN.{ℤ}
use lib.ListN.{length}
use Rattle.theory.specs.Lists.{gather, Put}
use Rattle.theory.proofs.Bools.{is_true}
use Rattle.theory.proofs.Members.{Has, has-keep, has-gather}
use Rattle.theory.proofs.Puts.{Wrote, Assigns}
use Rattle.cells.specs.Limits.{max_ports}
use Rattle.program.specs.Tables.{Tables, task_count, mode_count, invocation_task}
use Rattle.program.specs.Sets.{Output, Gives}
use Rattle.program.specs.Program.{program_of, task, mode, due_tasks}
use Rattle.program.specs.Ports.{value_of, assigned}
use Rattle.program.proofs.Decoded.{gives-says}
use Rattle.program.proofs.Ports.{assigned-exactly}
use Rattle.rules.specs.Shape.{Shaped}
use Rattle.rules.specs.Fields.{Fields}
use Rattle.rules.specs.Declared.{TaskPorts}
use Rattle.rules.specs.Modes.{Invocations}
use Rattle.rules.proofs.Shape.{ports-few}
use Rattle.giotto.specs.Instant.{Configuration, completed, after_tasks}
use Rattle.giotto.specs.Successor.{Next, Completed, Enabled, TaskWrites}
use Rattle.giotto.proofs.Steps.{next-puts, due-tasks, same_row}

-- two tasks that are due together and share an output are one, by rule 6
outputs-one : (T : Tables) → Invocations T → (m k t u p : ℕ) → Enabled T m k t → Enabled T m k u → Output T t p → Output T u p → t ≡ u
outputs-one T v m k t u p a b o q = sym a.2 ∙ ap (invocation_task T) rows ∙ b.2
  where
    of-a : Output T (invocation_task T a.0) p
    of-a = rw a.2 o

    of-b : Output T (invocation_task T b.0) p
    of-b = rw b.2 q

    rows : a.0 ≡ b.0
    rows =
        same_row a.0 b.0
        (λ l. v.outputs-apart b.0 a.0 p l b.1.in_table (a.1.of-mode ∙ sym b.1.of-mode) of-b of-a)
        (λ l. v.outputs-apart a.0 b.0 p l a.1.in_table (b.1.of-mode ∙ sym a.1.of-mode) of-a of-b)

-- two tasks that are due together and give one port are one: by rule 6 where it is an output, by rule 3 where it is private
pub enabled-one : (T : Tables) → TaskPorts T → Invocations T → (m k t u p : ℕ) → Enabled T m k t → Enabled T m k u
    → Gives T t p → Gives T u p → t ≡ u
enabled-one T s v m k t u p a b (inl o) (inl q) = outputs-one T v m k t u p a b o q
enabled-one T s v m k t u p a b (inl o) (inr q) = absurd (omega (arith, o.0.1, q.0.1))
enabled-one T s v m k t u p a b (inr o) (inl q) = absurd (omega (arith, o.0.1, q.0.1))
enabled-one T s v m k t u p a b (inr o) (inr q) = s.privates-apart t u p o q

module _ (T : Tables) (C : Configuration) where
  -- some completed task has a property: in the list of the program, and in 001's words
  pub has-completed : C.mode < mode_count T → (Q : ℕ → Type 0)
      → Has Q (completed (program_of T) C) ↔ ((t : ℕ) × Completed T C t × Q t)
  has-completed m Q =
      let s = has-keep Q C.active (due_tasks (mode (program_of T) C.mode) C.unit) in
      let r = due-tasks T C.mode C.unit m (λ t. (C.active t ≡ true) × Q t) in (
        λ h. let w = r.0 (s.0 h) in (invocation_task T w.0, (w.2.0, (w.0, w.1, refl)), w.2.1),
        λ w. s.1 (r.1 (w.1.1.0, w.1.1.1, subst (λ t. (C.active t ≡ true) × Q t) (sym w.1.1.2) (w.1.0, w.2))),
      )

  -- a completed task is declared
  completed-declared : Fields T → (t : ℕ) → Completed T C t → t < task_count T
  completed-declared f t c = rw (← c.1.2) (f.invocations c.1.0 c.1.1.in_table).task

  -- two completed tasks that give one port are one
  completed-one : TaskPorts T → Invocations T → (t u p : ℕ) → Completed T C t → Completed T C u → Gives T t p → Gives T u p → t ≡ u
  completed-one s v t u p a b = enabled-one T s v C.mode C.unit t u p a.1 b.1

module _ (T : Tables) (result : ℕ → ℕ → ℤ) where
  -- the assignments of step 1
  abbrev task_puts : Configuration → List Put
  task_puts C = gather (λ t. assigned (result t) (task (program_of T) t).gives) (completed (program_of T) C)

  -- the program's task of a declared number writes what it gives
  writes-task : (t p : ℕ) (x : ℤ) → t < task_count T
      → Wrote (assigned (result t) (task (program_of T) t).gives) p x ↔ (Gives T t p × (x ≡ result t p))
  writes-task t p x l =
      let w = assigned-exactly (result t) (task (program_of T) t).gives p x in
      let g = gives-says T t p l in (
        λ h. let (m, e) = w.0 h in (g.yes m, e),
        λ (q, e). w.1 (is_true g q, e),
      )

  module _ (C : Configuration) (s : Shaped T) (f : Fields T) (o : TaskPorts T) (v : Invocations T) (m : C.mode < mode_count T) where
    -- the assignments of step 1 are its writes
    tasks-wrote : (p : ℕ) (x : ℤ)
        → Wrote (task_puts C) p x ↔ TaskWrites T result C p x
    tasks-wrote p x =
        let g = has-gather (λ (a : Put). (a.place ≡ p) × (x ≡ a.value)) (λ t. assigned (result t) (task (program_of T) t).gives) (completed (program_of T) C) in
        let c = has-completed T C m (λ t. Wrote (assigned (result t) (task (program_of T) t).gives) p x) in (
          λ h.
              let w = c.0 (g.0 h) in
              let g = (writes-task w.0 p x (completed-declared T C f w.0 w.1)).0 w.2 in
              (w.0, w.1, g.0, g.1),
          λ w. g.1 (c.1 (w.0, w.1, (writes-task w.0 p x (completed-declared T C f w.0 w.1)).1 (w.2, w.3))),
        )

    -- step 1 writes one value to a port
    tasks-one : (p : ℕ) (x y : ℤ) → TaskWrites T result C p x → TaskWrites T result C p y → x ≡ y
    tasks-one p x y a b = a.3 ∙ ap (λ t. result t p) (completed-one T C o v a.0 b.0 p a.1 b.1 a.2 b.2) ∙ sym b.3

    tasks-assign : Assigns (TaskWrites T result C) (task_puts C) max_ports
    tasks-assign =
        record {
          wrote = tasks-wrote;
          one = tasks-one;
          inside = λ p x w. omega (arith, ports-few T s, ⊎_elim (λ o. o.0.0) (λ o. o.0.0) w.2);
        }

    -- the assignments of step 1 leave the next values that 001 asks for
    pub outputs-next : length C.ports ≡ max_ports → Next (TaskWrites T result C) (value_of C.ports) (value_of (after_tasks (program_of T) result C))
    outputs-next e = next-puts C.ports e tasks-assign
