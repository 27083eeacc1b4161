-- What is counted in the tables is what is due in their program, so the sizes are those of its listing.
-- Assumes of a mode by number that it is declared.
use Prim.Native.Nat.{ℕ, ◌+◌}
use mathlib.Core.Path.{◌≡◌, refl, sym, ap, ◌∙◌}
use native.Mathlib.Omega.{arith}
use lib.ListN.{length}
use Rattle.theory.proofs.Lists.{those-count}
use Rattle.cells.specs.Cell.{rows_in}
use Rattle.program.specs.Tables.{Tables, invocation_width, update_width, switch_width}
use Rattle.program.specs.Units.{units, row_due}
use Rattle.program.specs.Program.{Program, Mode, invocation_row, update_row, switch_row, mode_row, program_of, mode}
use Rattle.program.proofs.Decoded.{due-invocations, due-updates, due-switches}
use Rattle.code.specs.Listing.{head_size, block_size, block_address, entry_address, future_address}
use Rattle.layout.specs.declared.counts.Counts.{Counts}
use Rattle.layout.specs.Counts.{counts_in, counts_of, before_tests, before_entry, before_future, size_of}

module _ (P : Program) (M : Mode) (k : ℕ) where
  -- from the beginning of a block to its switch tests it is the size of what stands before them
  pub head-counted : before_tests (counts_of P M k) ≡ head_size P M k
  head-counted = refl

  -- from the beginning of a block to its end it is the size of the block
  pub block-counted : size_of (counts_of P M k) ≡ block_size P M k
  block-counted = refl

module _ (P : Program) (m k : ℕ) where
  -- the entry of a block stands as far from its beginning as was counted
  pub entry-counted : entry_address P m k ≡ block_address P m k + before_entry (counts_of P (mode P m) k)
  entry-counted = refl

  -- the `future` of a block stands as far from its beginning as was counted
  pub future-counted : future_address P m k ≡ block_address P m k + before_future (counts_of P (mode P m) k)
  future-counted = omega arith

-- equal counts of each kind are equal counts
same : {i i' u u' w w' : ℕ} (s : ℕ) → i ≡ i' → u ≡ u' → w ≡ w'
    → ◌≡◌ {A = Counts} (record { invocations = i; updates = u; switches = w; sensors = s }) (record { invocations = i'; updates = u'; switches = w'; sensors = s })
same s p q r = cc

-- the due rows of the tables are as many as those of the mode
pub counts-due : (T : Tables) (m k : ℕ)
    → counts_in T.invocations T.updates T.switches (length (program_of T).sensors) m (units T m) k ≡ counts_of (program_of T) (mode_row T m) k
counts-due T m k =
    same (length (program_of T).sensors)
    (sym (ap length (due-invocations T m k) ∙ those-count (row_due invocation_width T.invocations m (units T m) k) (invocation_row T) (rows_in invocation_width T.invocations) 0))
    (sym (ap length (due-updates T m k) ∙ those-count (row_due update_width T.updates m (units T m) k) (update_row T) (rows_in update_width T.updates) 0))
    (sym (ap length (due-switches T m k) ∙ those-count (row_due switch_width T.switches m (units T m) k) (switch_row T) (rows_in switch_width T.switches) 0))
