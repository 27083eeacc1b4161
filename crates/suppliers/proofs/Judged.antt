-- The verdict on a supplier's code past 1 to 13 and 24 is that of its runs in the modes; where every worst-case run is good, it is 0 without
-- a place. Assumes that the verdict on the part is 0.
use Prim.Native.Nat.{ℕ, ◌<◌}
use mathlib.Core.Path.{◌≡◌, sym, ap, ◌∙◌}
use native.Mathlib.Omega.{arith}
use Rattle.theory.specs.Rows.{placeless}
use Rattle.theory.specs.Verdict.{accepted_number}
use Rattle.program.specs.Tables.{mode_count}
use Rattle.program.proofs.Decoded.{mode-count}
use Rattle.runs.specs.Round.{Good, worst_case, none, worst_break, nothing}
use Rattle.runs.proofs.First.{judge-exactly}
use Rattle.suppliers.specs.Supplier.{Asked, course_of, answer_from, judged, part_verdict, supplier_verdict}
use Rattle.suppliers.proofs.Modes.{answer-none}
use Rattle.suppliers.proofs.Answers.{supplier-judged}

-- the run of an asked supplier is judged mode by mode
pub judged-modes : (L : Asked) → judged L ≡ answer_from (λ m. worst_break (course_of L m) nothing) (mode_count L.tables) 0
judged-modes L = ap (λ n. answer_from (λ m. worst_break (course_of L m) nothing) n 0) (mode-count L.tables)

module _ (L : Asked) (a : part_verdict L ≡ accepted_number) where
  -- a supplier is accepted where its worst-case run in every mode is good
  pub good-accepted : ((m : ℕ) → m < mode_count L.tables → Good (course_of L m) (worst_case (course_of L m)) nothing)
      → supplier_verdict L ≡ placeless accepted_number
  good-accepted g =
      sym (supplier-judged L a)
      ∙ judged-modes L
      ∙ answer-none (λ m. worst_break (course_of L m) nothing) (mode_count L.tables) 0
      (λ m _ l. (judge-exactly (course_of L m) (worst_case (course_of L m)) nothing none).1 (g m (omega arith)))
