-- `instants::instant` meets its contract: what is left to run from each instruction on is what was to run from the start.
use Prim.Native.Nat.{◌-◌}
use lib.IntN.{ℤ}
use Rattle.instants.proofs.Declared.{program_in}
use Rattle.instants.proofs.Running.{Left}
use Rattle.instants.proofs.instant.Given as goal

abbrev pub invariant-loop-done : goal.invariant-loop-done
invariant-loop-done l = (start : ℤ) → Left (program_in l.tables start) l.readings l.times l.code l.s (l.count - l._done) l.at
