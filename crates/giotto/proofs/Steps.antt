-- What the steps of an instant share: assignments make 001's next values, due rows are 001's due invocations, one row for two.
-- Assumes of a mode that it is declared.
use Prim.Native.Nat.{ℕ, ◌<◌}
use mathlib.Core.Path.{◌≡◌}
use mathlib.Core.List.{List}
use mathlib.Core.Logic.Iff
use mathlib.Core.Logic.{◌↔◌}
use native.Mathlib.Omega.{arith}
use lib.IntN.{ℤ, pos}
use lib.ListN.{length}
use Rattle.theory.specs.Lists.{Put, puts}
use Rattle.theory.proofs.Members.{Has}
use Rattle.theory.proofs.Puts.{Assigns, puts-written, puts-kept}
use Rattle.program.specs.Tables.{Tables, mode_count, invocation_count, invocation_mode, invocation_frequency, invocation_task}
use Rattle.program.specs.Program.{Invocation, invocation_row, program_of, mode, due_invocations, due_tasks}
use Rattle.program.specs.Ports.{value_of}
use Rattle.program.proofs.Decoded.{DueRow, has-invocations, has-tasks}
use Rattle.giotto.specs.Successor.{Next, InvocationDue}

-- two rows of which none is before the other are one row
pub same_row : (i j : ℕ) → (i < j → ⊥) → (j < i → ⊥) → i ≡ j
same_row i j a b = omega arith

-- assignments of what is to be written make the next values
pub next-puts : {Writes : ℕ → ℤ → Type 0} {l : List Put} {n : ℕ} (v : List ℤ) → length v ≡ n → Assigns Writes l n → Next Writes (value_of v) (value_of (puts l v))
next-puts v e a = record { written = puts-written (pos 0) v a e; kept = puts-kept (pos 0) v a }

module _ (T : Tables) (m k : ℕ) where
  -- a due row of the invocations, in the tables' words and in 001's
  as-due : (Q : ℕ → Type 0) → DueRow T (invocation_count T) (invocation_mode T) (invocation_frequency T) m k Q ↔ ((i : ℕ) × InvocationDue T m k i × Q i)
  as-due Q = (
    λ w. (w.0, record { in_table = w.1; of-mode = w.2; is-due = w.3 }, w.4),
    λ w. (w.0, w.1.in_table, w.1.of-mode, w.1.is-due, w.2),
  )

  -- some due invocation of a declared mode has a property: in the list of the program, and in 001's words
  pub due-invocations : m < mode_count T → (Q : Invocation → Type 0)
      → Has Q (due_invocations (mode (program_of T) m) k) ↔ ((i : ℕ) × InvocationDue T m k i × Q (invocation_row T i))
  due-invocations l Q = Iff.trans (has-invocations T m k l Q) (as-due (λ i. Q (invocation_row T i)))

  -- some due task of a declared mode has a property: in the list of the program, and in 001's words
  pub due-tasks : m < mode_count T → (Q : ℕ → Type 0)
      → Has Q (due_tasks (mode (program_of T) m) k) ↔ ((i : ℕ) × InvocationDue T m k i × Q (invocation_task T i))
  due-tasks l Q = Iff.trans (has-tasks T m k l Q) (as-due (λ i. Q (invocation_task T i)))
