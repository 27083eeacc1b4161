-- `rounds::every_mode::answer` meets its contract: what is left of the modes answers for all, and the walk has come to the next.
use Prim.Native.Nat.{ℕ}
use mathlib.Core.Path.{◌≡◌}
use mathlib.Core.List.{List}
use lib.IntN.{ℤ}
use Rattle.program.specs.Tables.{Tables, tables_in, mode_count}
use Rattle.layout.specs.Layout.{start_in}
use Rattle.runs.specs.Round.{Break, worst_break, nothing}
use Rattle.rounds.specs.Course.{course_on, Come}
use Rattle.rounds.proofs.Answers.{Answering}
use Rattle.rounds.proofs.every_mode.answer.Given as goal

-- the first break of the run in mode m, whose first block stands at an address
abbrev pub break_at : Tables → List ℤ → List ℤ → ℕ → ℕ → ℕ → ℕ → Break
break_at T windows part supplier sensors m at = worst_break (course_on T windows part supplier sensors m at) nothing

abbrev pub invariant-loop-k : goal.invariant-loop-k
invariant-loop-k l =
    Come l.fn.part l.fn.supplier l.reached.at l.reached.row
    × ((start : ℤ) → let T = tables_in l.fn.tables start in
    (l.reached.at ≡ start_in T l.fn.sensors l.k)
    × Answering (λ m. break_at T l.fn.windows l.fn.part l.fn.supplier l.fn.sensors m (start_in T l.fn.sensors m)) (mode_count T) l.k)
