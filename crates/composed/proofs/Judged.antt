-- The static verdict on an advance of a related state by compiled code is 0.
-- Assumes that the system is sound, and that what is lent to the tick has its lengths.
use Prim.Native.Nat.{ℕ}
use mathlib.Core.Path.{◌≡◌, sym, ap, ap₂, ◌∙◌}
use mathlib.Core.List.{List, [], ◌∷◌, ◌++◌, map}
use native.Mathlib.Nat.{mul_comm}
use native.Mathlib.Omega.{arith}
use lib.IntN.{ℤ}
use lib.ListN.{length}
use borrow.Author.Tests.{le-ltb}
use Rattle.theory.specs.Verdict.{accepted_number, Refusal, within, verdict, after}
use Rattle.theory.specs.declared.Answer.{Answer}
use Rattle.theory.proofs.Bools.{bars-iff}
use Rattle.theory.proofs.Conditions.{or-else-no}
use Rattle.theory.proofs.Verdict.{clear-verdict, verdict-append, verdict-skip, answer-number, answer-within}
use Rattle.cells.specs.Limits.{max_ports, max_tasks, max_code, words_each}
use Rattle.cells.specs.Refusals.{shape_refused}
use Rattle.program.specs.Tables.{Tables}
use Rattle.rules.specs.Shape.{WholeRows}
use Rattle.rules.specs.Verdict.{table_refusals, program_verdict}
use Rattle.rules.proofs.Accepted.{accepted-clear, accepted-shaped}
use Rattle.code.specs.Op.{emit}
use Rattle.code.specs.Compile.{listing_of, code_long, long_refusal, CodeFits}
use Rattle.code.proofs.Words.{emit-length}
use Rattle.suppliers.proofs.Schedule.{joined-bars}
use Rattle.giotto.specs.Instant.{Configuration, Function}
use Rattle.machine.specs.declared.State.{State}
use Rattle.machine.specs.Advance.{Lent, Advance, AdvanceShaped, run_refusals, advance_verdict}
use Rattle.machine.proofs.Fits.{advance-shape-bars, state-bars}
use Rattle.composed.specs.Sound.{Sound}
use Rattle.composed.specs.Suited.{by_compiled}
use Rattle.composed.specs.Related.{Related}
use Rattle.composed.proofs.Within.{related-fits}

-- compiled code that is within the limit is whole instructions
code-whole : (T : Tables) → CodeFits T → WholeRows words_each max_code (emit (listing_of T))
code-whole T f = (length (listing_of T), emit-length (listing_of T) ∙ mul_comm words_each (length (listing_of T)), f)

-- what an advance asks of the tables: numbers 2 to 11 and 24
abbrev asked : List (Refusal Advance)
asked = map (within (λ (L : Advance). L.tables)) (table_refusals ++ (long_refusal ∷ []))

-- numbers 2 to 11 and 24 do not apply to an advance of an accepted program whose code fits
asked-none : (L : Advance) → program_verdict L.tables ≡ accepted_number → CodeFits L.tables → verdict asked L ≡ accepted_number
unfolding code_long
asked-none L a f =
    sym (answer-number asked L)
    ∙ ap (λ (x : Answer). x.number) (answer-within (λ (L : Advance). L.tables) (table_refusals ++ (long_refusal ∷ [])) L)
    ∙ answer-number (table_refusals ++ (long_refusal ∷ [])) L.tables
    ∙ (verdict-skip table_refusals (long_refusal ∷ []) L.tables (accepted-clear L.tables a).1
    ∙ clear-verdict (long_refusal ∷ []) L.tables (le-ltb _ _ f, tt))

-- the static verdict on an advance of a related state is 0
pub related-verdict : (T : Tables) (W S : List ℤ) (F : Function) → Sound T W S → (n : ℕ) (C : Configuration) (s : State) (X : Lent) → Related T W S F n C s
    → length X.readings ≡ max_ports → length X.results ≡ max_ports → length X.times ≡ max_tasks
    → advance_verdict (by_compiled T S X s) ≡ accepted_number
unfolding advance_verdict
related-verdict T W S F sound n C s X related r o t =
    or-else-no shape_refused (verdict (asked ++ run_refusals) L) ((bars-iff (advance-shape-bars L)).1 shaped)
    ∙ (verdict-append asked run_refusals L (omega arith)
    ∙ ap₂ after (asked-none L sound.accepted sound.fits) own)
  where
    L : Advance
    L = by_compiled T S X s

    shaped : AdvanceShaped L
    shaped = record {
      tables = accepted-shaped T sound.accepted;
      code = code-whole T sound.fits;
      schedule = sound.whole;
      readings = r;
      results = o;
      times = t;
    }

    own : verdict run_refusals L ≡ accepted_number
    own =
        clear-verdict run_refusals L
        ((bars-iff (joined-bars T S)).1 sound.joined, ((bars-iff (state-bars L)).1 (related-fits T W S F sound n C X s related), tt))
