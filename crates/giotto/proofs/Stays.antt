-- An instant in which no switch is taken leaves what a task takes as it was, if the task is not due: only its own driver writes its
-- inputs, and only the task itself its private ports.
-- Assumes that the program is accepted, the mode declared, all ports there, and of the task that it is declared.
use Prim.Native.Nat.{ℕ, ◌<◌}
use mathlib.Core.Path.{◌≡◌, ◌∙◌}
use mathlib.Core.Bool.{false}
use mathlib.Core.List.{List}
use mathlib.Core.Logic.{inl, inr}
use native.Mathlib.Omega.{arith}
use lib.IntN.{ℤ}
use lib.ListN.{length}
use Rattle.theory.specs.Lists.{member}
use Rattle.theory.specs.Verdict.{accepted_number}
use Rattle.theory.proofs.Bools.{clash, is_true}
use Rattle.theory.proofs.Puts.{puts-length}
use Rattle.theory.proofs.Lists.{map_same}
use Rattle.theory.proofs.Members.{every-member}
use Rattle.cells.specs.Limits.{max_ports}
use Rattle.program.specs.Tables.{Tables, port_kind, sensor, actuator, input, task_count, mode_count}
use Rattle.program.specs.Sets.{Takes, Gives}
use Rattle.program.specs.Program.{program_of, task, mode, due_tasks}
use Rattle.program.specs.Ports.{value_of, values_of}
use Rattle.program.proofs.Decoded.{takes-says}
use Rattle.rules.specs.Shape.{Shaped}
use Rattle.rules.specs.Fields.{Fields}
use Rattle.rules.specs.Declared.{TaskPorts, Copies}
use Rattle.rules.specs.Modes.{Invocations, Updates}
use Rattle.rules.specs.Verdict.{program_verdict}
use Rattle.rules.proofs.Accepted.{accepted-shaped, accepted-fields, accepted-task-ports, accepted-copies, accepted-invocations}
use Rattle.rules.proofs.Accepted.{accepted-updates}
use Rattle.rules.proofs.Declared.{takes-apart}
use Rattle.giotto.specs.Instant.{Configuration, after_tasks, after_updates, sensed, after_drivers}
use Rattle.giotto.specs.Successor.{Enabled}
use Rattle.giotto.proofs.Outputs.{outputs-next}
use Rattle.giotto.proofs.Updates.{updates-next, sensors-next}
use Rattle.giotto.proofs.Inputs.{inputs-next}
use Rattle.giotto.proofs.Active.{enabled-says}

module _ (T : Tables) (a : program_verdict T ≡ accepted_number) (result : ℕ → ℕ → ℤ) (readings : List ℤ) (C : Configuration)
    (all : length C.ports ≡ max_ports) (m : C.mode < mode_count T) where
  -- the ports after an instant in which no switch is taken
  abbrev stayed : List ℤ
  stayed = after_drivers (program_of T) (mode (program_of T) C.mode) C.unit (sensed (program_of T) result readings C)

  -- a port that a task takes is as it was after an instant without a switch, if the task is not due
  taken-stays : (t p : ℕ) → member t (due_tasks (mode (program_of T) C.mode) C.unit) ≡ false → Takes T t p
      → value_of stayed p ≡ value_of C.ports p
  taken-stays t p n i =
      (inputs-next T C.mode C.unit s f o c v m v₃ (simp puts-length all)).kept p
      (λ x w.
      let d = w.2 in
      let h = ((v.each w.0 w.1.in_table).destinations p).0 (d.0, d.1, (d.2, d.3)) in
      not-due (w.0, w.1, takes-apart T o _ t p (inl h) i))
      ∙ (sensors-next T s readings v₂ (simp puts-length all)).kept p (λ x w. other-kind sensor (omega arith) w.0.1 i)
      ∙ (updates-next T C s f c u m v₁ (simp puts-length all)).kept p
      (λ x w.
      let d = w.2 in
      let k = u.destinations w.0 p w.1.in_table (d.0, d.1, (d.2, d.3)) in other-kind actuator (omega arith) k.1 i)
      ∙ (outputs-next T result C s f o v m all).kept p (λ x w. not-given w.0 w.1.1 w.2 i)
    where
      not-due : Enabled T C.mode C.unit t → ⊥
      not-due e = clash (is_true (enabled-says T C.mode C.unit t m) e) n

      -- sensors and actuators are no ports that a task takes
      other-kind : (j : ℕ) → j < input → port_kind T p ≡ j → Takes T t p → ⊥
      other-kind j l e (inl q) = omega (arith, e, q.0.1)
      other-kind j l e (inr q) = omega (arith, e, q.0.1)

      -- a task that is due gives no port that a task takes which is not due: a port of both is private, and so of one task
      not-given : (k : ℕ) → Enabled T C.mode C.unit k → Gives T k p → Takes T t p → ⊥
      not-given k e (inl q) (inl r) = omega (arith, q.0.1, r.0.1)
      not-given k e (inl q) (inr r) = omega (arith, q.0.1, r.0.1)
      not-given k e (inr q) (inl r) = omega (arith, q.0.1, r.0.1)
      not-given k e (inr q) (inr r) = not-due (e.0, e.1, e.2 ∙ (accepted-task-ports T a).privates-apart k t p q r)

      s : Shaped T
      s = accepted-shaped T a

      f : Fields T
      f = accepted-fields T a

      o : TaskPorts T
      o = accepted-task-ports T a

      c : Copies T
      c = accepted-copies T a

      v : Invocations T
      v = accepted-invocations T a

      u : Updates T
      u = accepted-updates T a

      v₁ : List ℤ
      v₁ = after_tasks (program_of T) result C

      v₂ : List ℤ
      v₂ = after_updates (program_of T) (mode (program_of T) C.mode) C.unit v₁

      v₃ : List ℤ
      v₃ = sensed (program_of T) result readings C

  -- all that a task takes is as it was after an instant without a switch, if the task is not due
  pub takes-stay : (t : ℕ) → t < task_count T → member t (due_tasks (mode (program_of T) C.mode) C.unit) ≡ false
      → values_of stayed (task (program_of T) t).takes ≡ values_of C.ports (task (program_of T) t).takes
  takes-stay t l n =
      map_same (value_of stayed) (value_of C.ports) (task (program_of T) t).takes
      (every-member _ (task (program_of T) t).takes (λ p q. taken-stays t p n ((takes-says T t p l).yes q)))
