-- `program::multiples::units` meets its contract: the search tries 1, 2, .. up to the limit.
use Prim.Native.Nat.{ℕ, suc}
use lib.IntN.{ℤ}
use Rattle.theory.proofs.Search.{Passed}
use Rattle.cells.specs.Limits.{max_units}
use Rattle.program.specs.Tables.{tables_in}
use Rattle.program.specs.Units.{is_multiple}
use Rattle.program.proofs.multiples.units.Given as goal

abbrev pub invariant-loop-u : goal.invariant-loop-u
invariant-loop-u l = (start : ℤ) → Passed (λ (k : ℕ). is_multiple (tables_in l.tables start) l.m.0 (suc k)) max_units l.u
