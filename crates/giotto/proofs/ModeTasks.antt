-- The active tasks of an execution are tasks of its mode: so they are declared, and no two of them give one port.
-- Assumes that the program is accepted; the task functions and the readings are any.
use Prim.Native.Nat.{ℕ, zero, suc, ◌<◌}
use mathlib.Core.Path.{◌≡◌, refl, ◌∙◌}
use mathlib.Core.Bool.{Bool, true, false}
use mathlib.Core.List.{List}
use mathlib.Core.Logic.{⊎_elim}
use mathlib.Core.Option.{Option, none, some}
use lib.Dec.{eqb}
use lib.IntN.{ℤ}
use Rattle.theory.specs.Lists.{member}
use Rattle.theory.specs.Verdict.{accepted_number}
use Rattle.theory.proofs.Bools.{clash, is_true, says-not, says-and, says-or, says-itself}
use Rattle.theory.proofs.Members.{member-keep}
use Rattle.program.specs.Tables.{Tables, task_count, mode_count}
use Rattle.program.specs.Program.{Program, Switch, program_of, task, mode, due_tasks}
use Rattle.rules.specs.Verdict.{program_verdict}
use Rattle.rules.proofs.Accepted.{accepted-fields, due-declared}
use Rattle.giotto.specs.Instant.{Configuration, completed, mode_after, unit_after, enter, sensed, switch_of, instant, Function, results}
use Rattle.giotto.specs.Execution.{execution}
use Rattle.giotto.proofs.Switching.{entered}
use Rattle.giotto.proofs.Released.{execution-mode}
use Rattle.giotto.proofs.Due.{due-of-mode, tasks-one, switch-all}

module _ (T : Tables) (a : program_verdict T ≡ accepted_number) where
  abbrev P : Program
  P = program_of T

  -- the active tasks of a configuration are tasks of its mode, which are those due at its unit 0
  abbrev OfMode : Configuration → Type 0
  OfMode C = (t : ℕ) → C.active t ≡ true → member t (due_tasks (mode P C.mode) 0) ≡ true

  -- after an instant the active tasks are the mode's, since every active task is completed where a switch is taken
  instant-of-mode : (result : ℕ → ℕ → ℤ) (readings : List ℤ) (C : Configuration) → C.mode < mode_count T → OfMode C
      → OfMode (instant P result readings C)
  instant-of-mode result readings C m h t = go (switch_of P C v) refl
    where
      v : List ℤ
      v = sensed P result readings C

      due : List ℕ
      due = due_tasks (mode P C.mode) C.unit

      go : (s : Option Switch) → switch_of P C v ≡ s → (enter P C s v).active t ≡ true
          → member t (due_tasks (mode P (mode_after C.mode s)) 0) ≡ true
      go s e x =
          ⊎_elim (λ q. old s e q.0 q.1)
          (due-of-mode T a (mode_after C.mode s) (unit_after C.unit s) t (entered T C v (accepted-fields T a) m s e))
          ((says-or
          (says-and (says-itself (C.active t)) (says-not (says-itself (member t (completed P C)))))
          (says-itself (member t (due_tasks (mode P (mode_after C.mode s)) (unit_after C.unit s))))).yes x)
        where
          old : (s : Option Switch) → switch_of P C v ≡ s → C.active t ≡ true → (member t (completed P C) ≡ true → ⊥)
              → member t (due_tasks (mode P (mode_after C.mode s)) 0) ≡ true
          old none e b c = h t b
          old (some w) e b c =
              absurd (c (member-keep C.active t due
              ∙ is_true (says-and (says-itself (C.active t)) (says-itself (member t due))) (b, switch-all T a C.mode C.unit t v w m e (h t b))))

  module _ (F : Function) (readings : ℕ → List ℤ) where
    -- the configuration of the execution before tick n
    abbrev at : ℕ → Configuration
    at n = execution P F readings n

    -- every configuration of an execution has only tasks of its mode active
    pub active-of-mode : (n t : ℕ) → (execution P F readings n).active t ≡ true → member t (due_tasks (mode P (execution P F readings n).mode) 0) ≡ true
    active-of-mode zero = λ t e. clash {b = false} e refl
    active-of-mode (suc n) = go (eqb (at n).time n) (active-of-mode n)
      where
        next : Configuration
        next = instant P (results P F (at n).ports) (readings n) (at n)

        go : (b : Bool) → OfMode (at n) → OfMode (elim b [ true ↦ next | false ↦ at n ])
        go true h = instant-of-mode (results P F (at n).ports) (readings n) (at n) (execution-mode T (accepted-fields T a) F readings n) h
        go false h = h

    -- an active task of an execution is declared
    pub active-declared : (n t : ℕ) → (execution P F readings n).active t ≡ true → t < task_count T
    active-declared n t e =
        due-declared T a (at n).mode 0 t (execution-mode T (accepted-fields T a) F readings n) (active-of-mode n t e)

    -- two active tasks of an execution that give one port are one
    pub active-one : (n t u p : ℕ) → (execution P F readings n).active t ≡ true → (execution P F readings n).active u ≡ true
        → member p (task P t).gives ≡ true → member p (task P u).gives ≡ true → t ≡ u
    active-one n t u p x y =
        tasks-one T a (at n).mode t u p (execution-mode T (accepted-fields T a) F readings n) (active-of-mode n t x) (active-of-mode n u y)
