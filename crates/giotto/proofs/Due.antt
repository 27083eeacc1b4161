-- The tasks of a mode, which are those due at its unit 0: what is due at any unit is one of them, no two of them give one port,
-- and where a switch is taken all of them are due. Assumes that the program is accepted and the mode declared.
use Prim.Native.Nat.{ℕ, ◌<◌}
use mathlib.Core.Path.{◌≡◌, refl, sym, ◌∙◌}
use mathlib.Core.Bool.{true, false}
use mathlib.Core.List.{List}
use mathlib.Core.Logic.{inl, inr}
use mathlib.Core.Option.{some}
use native.Mathlib.Nat.{div-mul_cancel}
use lib.IntN.{ℤ}
use Rattle.theory.specs.Lists.{member}
use Rattle.theory.specs.Verdict.{accepted_number}
use Rattle.theory.proofs.Bools.{is_true}
use Rattle.theory.proofs.Due.{due-first, due-whole}
use Rattle.program.specs.Tables.{Tables, mode_count, invocation_frequency, switch_frequency}
use Rattle.program.specs.Units.{units}
use Rattle.program.specs.Program.{Switch, program_of, task, mode, due_switches, due_tasks}
use Rattle.program.proofs.Decoded.{gives-says}
use Rattle.rules.specs.Verdict.{program_verdict}
use Rattle.rules.proofs.Accepted.{accepted-fields, accepted-task-ports, accepted-invocations, accepted-whole, accepted-least, due-declared}
use Rattle.giotto.specs.Instant.{Configuration, taken}
use Rattle.giotto.proofs.Active.{enabled-says}
use Rattle.giotto.proofs.Outputs.{enabled-one}
use Rattle.giotto.proofs.Switching.{taken-row}

module _ (T : Tables) (a : program_verdict T ≡ accepted_number) where
  -- a task that is due at a unit of a mode is one of the mode's tasks
  pub due-of-mode : (m k t : ℕ) → m < mode_count T → member t (due_tasks (mode (program_of T) m) k) ≡ true
      → member t (due_tasks (mode (program_of T) m) 0) ≡ true
  due-of-mode m k t l e =
      let (i, d, q) = (enabled-says T m k t l).yes e in
      is_true (enabled-says T m 0 t l) (i, record { in_table = d.in_table; of-mode = d.of-mode; is-due = due-first (units T m) (invocation_frequency T i) }, q)

  -- two tasks of a mode that give one port are one
  pub tasks-one : (m t u p : ℕ) → m < mode_count T
      → member t (due_tasks (mode (program_of T) m) 0) ≡ true → member u (due_tasks (mode (program_of T) m) 0) ≡ true
      → member p (task (program_of T) t).gives ≡ true → member p (task (program_of T) u).gives ≡ true → t ≡ u
  tasks-one m t u p l x y o q =
      enabled-one T (accepted-task-ports T a) (accepted-invocations T a) m 0 t u p
      ((enabled-says T m 0 t l).yes x) ((enabled-says T m 0 u l).yes y)
      ((gives-says T t p (due-declared T a m 0 t l x)).yes o) ((gives-says T u p (due-declared T a m 0 u l y)).yes q)

  -- rule 10: where a switch is taken, every task of the mode is due
  pub switch-all : (m k t : ℕ) (v : List ℤ) (w : Switch) → m < mode_count T
      → taken (program_of T) v (due_switches (mode (program_of T) m) k) ≡ some w
      → member t (due_tasks (mode (program_of T) m) 0) ≡ true → member t (due_tasks (mode (program_of T) m) k) ≡ true
  switch-all m k t v w l e x =
      let C : Configuration = record { time = 0; mode = m; unit = k; ports = v; active = λ t. false } in
      let s = taken-row T C v (accepted-fields T a) l w e in
      let (i, d, q) = (enabled-says T m 0 t l).yes x in
      let f = ((accepted-fields T a).switches s.row s.enabled.in_table).frequency in
      let all = (accepted-least T a m l).multiple in
      let whole = accepted-whole T a s.row i s.enabled.in_table d.in_table (d.of-mode ∙ sym s.enabled.of-mode) in
      is_true (enabled-says T m k t l) (
        i,
        record {
          in_table = d.in_table;
          of-mode = d.of-mode;
          is-due = due-whole (units T m) (invocation_frequency T i) (switch_frequency T s.row) k f.0
              (div-mul_cancel _ (all _ (inl (i, d.in_table, (d.of-mode, refl)))))
              (div-mul_cancel _ (all _ (inr (inr (s.row, s.enabled.in_table, (s.enabled.of-mode, refl))))))
              (div-mul_cancel _ whole)
              s.enabled.is-due;
        },
        q,
      )
