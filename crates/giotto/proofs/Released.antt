-- The modes that an execution goes through and the tasks that it releases are declared, whatever its readings and task functions.
-- Assumes rule 2.
use Prim.Native.Nat.{ℕ, zero, suc, ◌<◌}
use mathlib.Core.Path.{◌≡◌, refl}
use mathlib.Core.Bool.{Bool, true, false}
use mathlib.Core.List.{List, []}
use lib.Dec.{eqb}
use lib.IntN.{ℤ}
use Rattle.theory.specs.Lists.{member}
use Rattle.theory.proofs.Bools.{clash}
use Rattle.theory.proofs.Members.{member-says}
use Rattle.program.specs.Tables.{Tables, task_count, mode_count}
use Rattle.program.specs.Program.{program_of}
use Rattle.program.proofs.Decoded.{has-tasks}
use Rattle.rules.specs.Fields.{Fields}
use Rattle.giotto.specs.Instant.{Configuration, mode_after, unit_after, sensed, switch_of, instant, released, Function, results}
use Rattle.giotto.specs.Execution.{execution, released_at}
use Rattle.giotto.proofs.Switching.{entered}

module _ (T : Tables) (f : Fields T) where
  module _ (result : ℕ → ℕ → ℤ) (readings : List ℤ) (C : Configuration) (m : C.mode < mode_count T) where
    -- an instant leads to a declared mode
    pub instant-mode : (instant (program_of T) result readings C).mode < mode_count T
    instant-mode = let v = sensed (program_of T) result readings C in entered T C v f m (switch_of (program_of T) C v) refl

    -- an instant releases declared tasks
    pub instant-releases : (t : ℕ) → member t (released (program_of T) result readings C) ≡ true → t < task_count T
    instant-releases t e =
        let s = switch_of (program_of T) C (sensed (program_of T) result readings C) in
        let h = (member-says t (released (program_of T) result readings C)).yes e in
        let (i, l, o, d, q) = (has-tasks T (mode_after C.mode s) (unit_after C.unit s) instant-mode (λ x. t ≡ x)).0 h in
        rw q (f.invocations i l).task

  module _ (F : Function) (readings : ℕ → List ℤ) where
    -- the configuration of the execution before tick n
    abbrev at : ℕ → Configuration
    at n = execution (program_of T) F readings n

    -- every configuration of an execution has a declared mode
    pub execution-mode : (n : ℕ) → (execution (program_of T) F readings n).mode < mode_count T
    execution-mode zero = f.start
    execution-mode (suc n) = go (eqb (at n).time n) (execution-mode n)
      where
        next : Configuration
        next = instant (program_of T) (results (program_of T) F (at n).ports) (readings n) (at n)

        go : (b : Bool) → (at n).mode < mode_count T → (elim b as (λ b. Configuration) [ true ↦ next | false ↦ at n ]).mode < mode_count T
        go true m = instant-mode (results (program_of T) F (at n).ports) (readings n) (at n) m
        go false m = m

    -- every task that is released in an execution is declared
    pub released-declared : (n t : ℕ) → member t (released_at (program_of T) F readings n) ≡ true → t < task_count T
    released-declared n t = go (eqb (at n).time n)
      where
        tasks : List ℕ
        tasks = released (program_of T) (results (program_of T) F (at n).ports) (readings n) (at n)

        go : (b : Bool) → member t (elim b [ true ↦ tasks | false ↦ [] ]) ≡ true → t < task_count T
        go true e = instant-releases (results (program_of T) F (at n).ports) (readings n) (at n) (execution-mode n) t e
        go false e = clash {b = false} e refl
