-- The dispatches of a supplier's block: what holds of the task of each of the supplier's dispatch rows holds of them, so they are of
-- its own tasks, and of declared ones. Assumes that the schedule's rows fit.
use Prim.Native.Nat.{ℕ, ◌<◌}
use mathlib.Core.Path.{◌≡◌, sym, ap, ◌∙◌}
use mathlib.Core.Bool.{◌&&◌}
use mathlib.Core.List.{List}
use mathlib.Core.Logic.{⊎_elim}
use native.Mathlib.Omega.{arith}
use lib.Dec.{eqb}
use lib.IntN.{ℤ}
use Rattle.theory.proofs.Bools.{says_eq, ◌and◌}
use Rattle.theory.proofs.Lists.{every-those}
use Rattle.program.specs.Tables.{Tables, task_count}
use Rattle.program.specs.Program.{Task, program_of, task}
use Rattle.program.proofs.Decoded.{task-row}
use Rattle.runs.specs.Tick.{dispatch, idle}
use Rattle.runs.specs.Schedule.{schedule_count, row_supplier, row_address, row_kind, row_task, kind_of, row_of, block_of}
use Rattle.runs.specs.Dominated.{OwnRows}
use Rattle.suppliers.specs.Schedule.{Dispatches, Idles, Rows}

module _ (T : Tables) (S : List ℤ) (f : Rows T S) (s a : ℕ) where
  -- what holds of every dispatch row of the supplier holds of the dispatches of the block
  block-rows : (Own : ℕ → Type 0) → ((i : ℕ) → Dispatches T S i → row_supplier S i ≡ s → Own (row_task S i)) → OwnRows Own (block_of S s a)
  block-rows Own h =
      every-those (λ x. x.kind ≡ dispatch → Own x.job) (λ i. eqb (row_supplier S i) s && eqb (row_address S i) a) (row_of S) (schedule_count S) 0
      (λ i _ l p k.
      ⊎_elim (λ d. h i d ((says_eq (row_supplier S i) s and says_eq (row_address S i) a).yes p).0) (λ d. absurd (idled i d k))
      (f.each i (omega arith)).action)
    where
      idled : (i : ℕ) → Idles S i → kind_of (row_kind S i) ≡ dispatch → ⊥
      idled i d k = let q : idle ≡ dispatch = sym (ap kind_of d.kind) ∙ k in let z : ◌≡◌ {A = ℕ} 0 1 = cc q in omega arith

  -- every dispatch of a supplier's block is of one of its tasks
  pub own-rows : OwnRows (λ t. (task (program_of T) t).supplier ≡ s) (block_of S s a)
  own-rows =
      block-rows (λ t. (task (program_of T) t).supplier ≡ s)
      (λ i d e. ap (λ (t : Task). t.supplier) (task-row T (row_task S i) d.task) ∙ d.own ∙ e)

  -- every dispatch of a supplier's block is of a declared task
  pub declared-rows : OwnRows (λ t. t < task_count T) (block_of S s a)
  declared-rows = block-rows (λ t. t < task_count T) (λ i d e. d.task)
