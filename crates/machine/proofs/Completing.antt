-- The local outputs after a tick of a task: where it completes, and where it does not.
use Prim.Native.Nat.{ℕ}
use mathlib.Core.Path.{◌≡◌, refl}
use mathlib.Core.Bool.{Bool, true, false}
use mathlib.Core.List.{List}
use lib.Dec.{eqb}
use lib.IntN.{ℤ}
use lib.ListN.{length}
use borrow.Author.Tests.{eq-eqb, ne_eqb}
use Rattle.theory.specs.Lists.{puts}
use Rattle.theory.proofs.Puts.{puts-length}
use Rattle.program.specs.Program.{Program, task}
use Rattle.program.specs.Ports.{value_of, assigned}
use Rattle.runs.specs.Tick.{left_of}
use Rattle.machine.specs.declared.State.{State}
use Rattle.machine.specs.Schedules.{outputs_at, outputs_after}

-- in its last tick a task completes, and its results are put into its local outputs
pub outputs-done : (P : Program) (results : List ℤ) (s : State) (t : ℕ) → left_of s.left t ≡ 1
    → outputs_after P results s t ≡ puts (assigned (value_of results) (task P t).gives) s.outputs
outputs-done P results s t e = rw (eq-eqb (left_of s.left t) 1 e, outputs_at)

-- in any other tick the local outputs are as before
pub outputs-same : (P : Program) (results : List ℤ) (s : State) (t : ℕ) → (left_of s.left t ≡ 1 → ⊥) → outputs_after P results s t ≡ s.outputs
outputs-same P results s t n = rw (ne_eqb (left_of s.left t) 1 n, outputs_at)

-- there are as many local outputs after a tick of a task as before
pub outputs-length : (P : Program) (results : List ℤ) (s : State) (t : ℕ) → length (outputs_after P results s t) ≡ length s.outputs
outputs-length P results s t = go (eqb (left_of s.left t) 1)
  where
    go : (b : Bool) → length {A = ℤ} (elim b [ true ↦ puts (assigned (value_of results) (task P t).gives) s.outputs | false ↦ s.outputs ])
        ≡ length s.outputs
    go true = puts-length (assigned (value_of results) (task P t).gives) s.outputs
    go false = refl
