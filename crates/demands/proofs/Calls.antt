-- Demand 1 holds of the definitions: each call's answer is that of the first of its rules that is broken, with its place, an advance is
-- accepted exactly where its rules hold and its tick passes, a refused one keeps the state, and a fresh state has its first values or is
-- all 0.
use Prim.Native.Nat.{◌*◌, ◌≤◌}
use mathlib.Core.Path.{◌≡◌, refl, sym, ap, ◌∙◌}
use mathlib.Core.Bool.{Bool, ◌||◌}
use mathlib.Core.List.{List, [], ◌∷◌, ◌++◌, map}
use mathlib.Core.Logic.Iff
use mathlib.Core.Logic.{◌↔◌}
use native.Mathlib.Omega.{arith}
use lib.ListN.{length}
use Rattle.theory.specs.Claim.{Bars}
use Rattle.theory.specs.Rows.{placeless}
use Rattle.theory.specs.Verdict.{accepted_number, Refusal, unplaced, within, Rule, unplaced_rule, holding, Keep, FirstAt}
use Rattle.theory.specs.declared.Answer.{Answer}
use Rattle.theory.proofs.Bools.{◌or◌, bars-lt, bars-as}
use Rattle.theory.proofs.Verdict.{TestMeets, Barred, verdict-first, answer-first, answer-number, by_rows, first-none, barred-within, barred-append}
use Rattle.cells.specs.Limits.{words_each}
use Rattle.cells.specs.Refusals.{code_refused}
use Rattle.program.specs.Tables.{Tables}
use Rattle.rules.specs.Shape.{Shaped}
use Rattle.rules.specs.Verdict.{shape_refusal, table_refusals, table_rules, program_rules}
use Rattle.rules.proofs.Shape.{shape-bars, slice-bars}
use Rattle.rules.proofs.Verdict.{program-barred, program-first-at}
use Rattle.code.specs.Compile.{Compiling, listing_of, code_long, long_refusal, long_rule, CodeFits, call_refusals, call_rules, slice_short}
use Rattle.code.specs.Compile.{slice_refusals, slice_rules, compile_refusals, compile_rules}
use Rattle.code.proofs.Answers.{compile-answer}
use Rattle.suppliers.specs.Windows.{Windowed, windows_shape_bad, window_rows_refusals, windows_verdict_refusals, windows_verdict, windows_answer}
use Rattle.suppliers.specs.Windows.{WindowsShaped, window_rows_rules, windows_verdict_rules}
use Rattle.suppliers.specs.Supplier.{Asked, supplier_of, part_shape_bad, windowed_of, own_refusals, part_refusals, part_verdict, part_answer}
use Rattle.suppliers.specs.Supplier.{part_refusal, PartShaped, part_rule, own_rules, part_rules}
use Rattle.suppliers.proofs.Windows.{windows-rowed, windows-bar}
use Rattle.suppliers.proofs.Schedule.{part-rowed, part-bars, joined-rowed, joined-bars}
use Rattle.machine.specs.Advance.{Advance, advance_shape_bad, AdvanceShaped, run_refusals, advance_refusals, run_rules, advance_rules, advance_verdict}
use Rattle.machine.specs.Advance.{joined_refusal, joined_rule, advance_answer}
use Rattle.machine.proofs.Fits.{advance-shape-bars, state-bars}
use Rattle.machine.proofs.Refusals.{refused-keeps}
use Rattle.machine.proofs.Fresh.{fresh-answer, fresh-zero, fresh-first}
use Rattle.machine.proofs.Exact.{advance-judged-at, advance-accepted, advance-only, arising-placeless, accepted-placeless}
use Rattle.demands.specs.Calls.{CompileExact, WindowsExact, WindowsNumber, AdvanceExact, FreshExact, RulesByRows}

-- number 11 bars code within the limit
pub long-bars : (T : Tables) → Bars (code_long T) (CodeFits T)
unfolding code_long
long-bars T = bars-lt _ _

-- number 11 meets its rule
long-meets : (T : Tables) → TestMeets long_refusal long_rule T
long-meets T = record { number = refl; bars = long-bars T; rows = tt }

-- the tests of a call that is lent tables and more bar its rules where its own do
lent_barred : {A : Type 0} (tables : A → Tables) (shape : A → Bool) (own : List (Refusal A)) (Shape : A → Type 0) (rules : List (Rule A)) (a : A)
    → Bars (shape a) (Shape a) → (Shape a → Shaped (tables a)) → Barred own rules a
    → Barred (call_refusals tables shape own) (call_rules tables Shape rules) a
lent_barred tables shape own Shape rules a s t w = (
  record { number = refl; bars = s; rows = tt },
  λ h.
      barred-append (map (within tables) (table_refusals ++ (long_refusal ∷ []))) own (map (holding tables) (table_rules ++ (long_rule ∷ []))) rules a
      (barred-within tables (table_refusals ++ (long_refusal ∷ [])) (table_rules ++ (long_rule ∷ [])) a
      (barred-append table_refusals (long_refusal ∷ []) table_rules (long_rule ∷ []) (tables a) ((program-barred (tables a)).1 (t h)) (long-meets (tables a), λ l. tt)))
      w,
)

-- the tests of compiling bar its rules
compile-barred : (L : Compiling) → Barred compile_refusals compile_rules L
unfolding code_long slice_short
compile-barred L =
    barred-append (map (within (λ (L : Compiling). L.tables)) (shape_refusal ∷ table_refusals)) slice_refusals
    (map (holding (λ (L : Compiling). L.tables)) program_rules) slice_rules L
    (barred-within (λ (L : Compiling). L.tables) (shape_refusal ∷ table_refusals) program_rules L (program-barred L.tables))
    (slice-meets, λ h. tt)
  where
    slice-meets : TestMeets (unplaced code_refused (λ (L : Compiling). code_long L.tables || slice_short L))
        (unplaced_rule code_refused (λ L. CodeFits L.tables × (words_each * length (listing_of L.tables) ≤ length L.slice))) L
    slice-meets = record { number = refl; bars = bars-lt _ _ or bars-lt _ _; rows = tt }

-- compiling gives the first rule that is broken, with its place
pub compile-exact : CompileExact
compile-exact L x =
    let w = answer-first compile_refusals compile_rules L (compile-barred L) x in
    (λ e. w.0 (sym (compile-answer L) ∙ e), λ f. compile-answer L ∙ w.1 f)

-- the tests of the windows verdict bar its rules
windows-barred : (L : Windowed) → Barred windows_verdict_refusals windows_verdict_rules L
unfolding windows_shape_bad
windows-barred L =
    lent_barred (λ (L : Windowed). L.tables) windows_shape_bad window_rows_refusals WindowsShaped window_rows_rules L
    (shape-bars L.tables or slice-bars _ _ L.windows) (λ h. h.0)
    (record { number = refl; bars = windows-bar L; rows = windows-rowed L }, λ w. tt)

-- the windows verdict is the first rule that is broken, with its place
pub windows-exact : WindowsExact
unfolding windows_answer
windows-exact L x = answer-first windows_verdict_refusals windows_verdict_rules L (windows-barred L) x

-- the number of the windows verdict
pub windows-number : WindowsNumber
unfolding windows_answer windows_verdict
windows-number L = answer-number windows_verdict_refusals L

-- the tests of a supplier's verdict up to 13 bar its rules
part-barred : (L : Asked) → Barred part_refusals part_rules L
unfolding part_shape_bad
part-barred L =
    lent_barred (λ (L : Asked). L.tables) part_shape_bad own_refusals PartShaped own_rules L
    (bars-as (shape-bars L.tables or slice-bars _ _ L.windows or slice-bars _ _ L.part) (λ ((s, w), p). (s, w, p)) (λ (s, w, p). ((s, w), p)))
    (λ h. h.0)
    (record { number = refl; bars = windows-bar (windowed_of L); rows = windows-rowed (windowed_of L) }, λ w. (part_meets, λ p. tt))
  where
    part_meets : TestMeets part_refusal part_rule L
    part_meets =
        record {
          number = refl;
          bars = part-bars L.tables L.part (supplier_of L);
          rows = part-rowed L.tables L.part (supplier_of L);
        }

-- a supplier's verdict up to 13 is the first rule that is broken, with its place
pub part-first-at : (L : Asked) (x : Answer) → (part_answer L ≡ x) ↔ FirstAt part_rules L x
unfolding part_answer
part-first-at L x = answer-first part_refusals part_rules L (part-barred L) x

pub part-kept : (L : Asked) → (part_verdict L ≡ accepted_number) ↔ Keep part_rules L
unfolding part_verdict
part-kept L =
    Iff.trans (verdict-first part_refusals part_rules L (part-barred L) accepted_number) (first-none part_rules L (omega arith))

-- the tests of an advance before it runs bar its rules
advance-barred : (L : Advance) → Barred advance_refusals advance_rules L
advance-barred L =
    lent_barred (λ (L : Advance). L.tables) advance_shape_bad run_refusals AdvanceShaped run_rules L (advance-shape-bars L) (λ h. h.tables)
    (joined_meets, λ w. (record { number = refl; bars = state-bars L; rows = tt }, λ p. tt))
  where
    joined_meets : TestMeets joined_refusal joined_rule L
    joined_meets =
        record {
          number = refl;
          bars = joined-bars L.tables L.schedule;
          rows = joined-rowed L.tables L.schedule;
        }

-- where an advance gives no number before it runs, its rules hold, and what else was said with it
pub advance-kept : (L : Advance) {X Y : Type 0} → X ↔ ((advance_verdict L ≡ accepted_number) × Y) → X ↔ (Keep advance_rules L × Y)
unfolding advance_verdict
advance-kept L w =
    let k : (advance_verdict L ≡ accepted_number) ↔ Keep advance_rules L =
    Iff.trans (verdict-first advance_refusals advance_rules L (advance-barred L) accepted_number) (first-none advance_rules L (omega arith)) in (
      λ x. (k.0 (w.0 x).0, (w.0 x).1),
      λ y. w.1 (k.1 y.0, y.1),
    )

-- an advance's number, and 0 has no place
accepted-whole : (L : Advance) → ((advance_answer L).answer ≡ placeless accepted_number) ↔ ((advance_answer L).answer.number ≡ accepted_number)
accepted-whole L = (λ e. ap (λ (x : Answer). x.number) e, accepted-placeless L)

pub advance-exact : (L : Advance) → AdvanceExact L
advance-exact L = record {
  judged = λ x s. Iff.trans (advance-judged-at L x s) (answer-first advance_refusals advance_rules L (advance-barred L) x);
  accepted = Iff.trans (accepted-whole L) (advance-kept L (advance-accepted L));
  only-these = advance-only L;
  arising = arising-placeless L;
  kept = refused-keeps L;
}

-- a fresh state is as document 01 says
pub fresh-exact : (T : Tables) → FreshExact T
fresh-exact T = record {
  answer = λ x. (λ e. (program-first-at T x).0 (sym (fresh-answer T) ∙ e), λ f. fresh-answer T ∙ (program-first-at T x).1 f);
  refused = fresh-zero T;
  accepted = fresh-first T;
}

-- in every call each rule that has a place holds exactly where no row breaks it
pub rules-by-rows : RulesByRows
rules-by-rows = record {
  compiling = λ L. by_rows compile_refusals compile_rules L (compile-barred L);
  windows = λ L. by_rows windows_verdict_refusals windows_verdict_rules L (windows-barred L);
  supplier = λ L. by_rows part_refusals part_rules L (part-barred L);
  advance = λ L. by_rows advance_refusals advance_rules L (advance-barred L);
}
