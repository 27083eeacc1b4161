-- In a mode and unit of an accepted program, no task is due twice.
-- Assumes that the verdict on the tables is 0, and that the mode is declared.
use Prim.Native.Nat.{ℕ, zero, suc, ◌+◌, ◌<◌}
use mathlib.Core.Path.{◌≡◌, refl, sym, subst, ◌∙◌}
use mathlib.Core.Bool.{Bool, true, false}
use mathlib.Core.List.{List, [], ◌∷◌}
use mathlib.Core.Logic.{inl, inr}
use native.Mathlib.Omega.{arith}
use Rattle.theory.specs.Lists.{those, Every, member}
use Rattle.theory.specs.Verdict.{accepted_number}
use Rattle.theory.proofs.Bools.{is_false, says_eq, says-itself, ◌and◌}
use Rattle.theory.proofs.Lists.{every-those}
use Rattle.theory.proofs.Members.{Has, member-says}
use Rattle.program.specs.Tables.{Tables, mode_count, invocation_width, invocation_count, invocation_mode, invocation_frequency, invocation_task}
use Rattle.program.specs.Units.{units, due, row_due}
use Rattle.program.specs.Program.{program_of, mode, due_tasks}
use Rattle.program.proofs.Decoded.{due-task-rows}
use Rattle.rules.specs.Verdict.{program_verdict}
use Rattle.rules.proofs.Accepted.{accepted-invocations}

-- no number of a list comes again after it
abbrev pub Distinct : List ℕ → Type 0
Distinct [] = Unit {0}
Distinct (x ∷ xs) = (member x xs ≡ false) × Distinct xs

-- a number that every element of a list differs from is no element of it
every-other : (n : ℕ) (xs : List ℕ) → Every (λ x. n ≡ x → ⊥) xs → Has (λ x. n ≡ x) xs → ⊥
every-other n [] h m = m
every-other n (x ∷ xs) h (inl e) = h.0 e
every-other n (x ∷ xs) h (inr m) = every-other n xs h.1 m

-- rows that pass, of which no two have one number, have distinct numbers
those-once : (p : ℕ → Bool) (row : ℕ → ℕ) (n i₀ : ℕ)
    → ((i j : ℕ) → i < j → j < i₀ + n → p i ≡ true → p j ≡ true → row i ≡ row j → ⊥) → Distinct (those p row n i₀)
those-once p row zero i₀ h = tt
those-once p row (suc n) i₀ h = go (p i₀) refl (those-once p row n (i₀ + 1) (λ i j l u. h i j l (omega arith)))
  where
    go : (b : Bool) → p i₀ ≡ b → Distinct (those p row n (i₀ + 1))
        → Distinct (elim b [ true ↦ row i₀ ∷ those p row n (i₀ + 1) | false ↦ those p row n (i₀ + 1) ])
    go true e d = (
      is_false (member-says (row i₀) (those p row n (i₀ + 1)))
          (every-other (row i₀) (those p row n (i₀ + 1))
          (every-those (λ x. row i₀ ≡ x → ⊥) p row n (i₀ + 1) (λ j l u q. h i₀ j (omega arith) (omega arith) e q))),
      d,
    )
    go false e d = d

-- an invocation row that is due in a mode is one of the mode
of-mode : (T : Tables) (m k i : ℕ) → row_due invocation_width T.invocations m (units T m) k i ≡ true → invocation_mode T i ≡ m
unfolding row_due
of-mode T m k i e = ((says_eq (invocation_mode T i) m and says-itself (due (units T m) (invocation_frequency T i) k)).yes e).0

-- no task is due twice: rule 6 keeps a mode from naming one in two rows
pub due-once : (T : Tables) → program_verdict T ≡ accepted_number → (m k : ℕ) → m < mode_count T → Distinct (due_tasks (mode (program_of T) m) k)
due-once T a m k l =
    subst Distinct (sym (due-task-rows T m k l))
    (those-once (row_due invocation_width T.invocations m (units T m) k) (invocation_task T) (invocation_count T) 0
    (λ i j b u p q. (accepted-invocations T a).tasks-apart j i b (omega arith) (of-mode T m k i p ∙ sym (of-mode T m k j q))))
