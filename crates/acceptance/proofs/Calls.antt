-- The answers of the two calls: each its own 1, then what both ask, then a supplier's 13.
use mathlib.Core.Path.{◌≡◌, refl, sym, ap, ap₂, ◌∙◌}
use mathlib.Core.Bool.{Bool, true, false, ◌||◌, cond}
use mathlib.Core.List.{List, [], ◌∷◌}
use native.Mathlib.Omega.{arith}
use lib.IntN.{ℤ}
use Rattle.std.specs.Prelude.{Err}
use Rattle.theory.specs.Rows.{placeless}
use Rattle.theory.specs.Verdict.{accepted_number, within, first_refusal, rows_answer, or_next}
use Rattle.theory.specs.declared.Answer.{Answer}
use Rattle.theory.proofs.Verdict.{one_answer, answer-append, next-none, next-assoc, next-first}
use Rattle.cells.specs.declared.refusals.Refusal.TheVariants.{Shape}
use Rattle.cells.specs.Refusals.{shape_refused, windows_refused, schedule_refused}
use Rattle.answers.specs.declared.Refused.{Refused}
use Rattle.answers.specs.Answers.{answer_of, told_where}
use Rattle.answers.proofs.Told.{refusal-some}
use Rattle.program.specs.Tables.{Tables}
use Rattle.cells.specs.Limits.{max_part}
use Rattle.runs.specs.Schedule.{schedule_width}
use Rattle.rules.specs.Shape.{bad_slice, shape_bad}
use Rattle.rules.specs.Verdict.{program_verdict}
use Rattle.code.specs.Compile.{CodeFits}
use Rattle.verdict_2_11.specs.Tables.{tables_and_code_answer}
use Rattle.verdict_2_11.proofs.Asked.{call-answer, call-accepted}
use Rattle.suppliers.specs.Windows.{Windowed, window_tests, windows_bad, windows_shape_bad, windows_refusal, window_rows_refusals, windows_answer}
use Rattle.suppliers.specs.Schedule.{part_tests, part_bad}
use Rattle.suppliers.specs.Supplier.{Asked, supplier_of, windowed_of, part_shape_bad, part_refusal, own_refusals, part_verdict, part_answer}
use Rattle.suppliers.specs.Supplier.{supplier_verdict}
use Rattle.suppliers.proofs.Answers.{part-number, supplier-refused}
use Rattle.acceptance.specs.Judged.{windowed, asked, shaped_answer}

-- number 1 comes before what is asked of what has its shape
shape-first : (b : Bool) (x : Answer) → cond b (placeless shape_refused) x ≡ or_next (told_where b Shape) x
shape-first true x = refl
shape-first false x = refl

-- the windows verdict: 1, then what both calls ask
pub windows-answer : (L : Windowed) → windows_answer L ≡ or_next (told_where (windows_shape_bad L) Shape) (shaped_answer L)
unfolding windows_answer shaped_answer windows_bad
windows-answer L =
    ap (cond (windows_shape_bad L) (placeless shape_refused))
    (call-answer (λ (L : Windowed). L.tables) window_rows_refusals L)
    ∙ shape-first (windows_shape_bad L) (shaped_answer L)

-- what the rows of an asked supplier's part give for number 13
abbrev pub own_answer : Asked → Answer
own_answer L = rows_answer schedule_refused (part_tests L.tables L.part (supplier_of L))

-- the answer on a part: 1, then what both ask, then 13
pub part-in-order : (L : Asked)
    → part_answer L ≡ or_next (told_where (part_shape_bad L) Shape) (or_next (shaped_answer (windowed_of L)) (own_answer L))
unfolding part_answer shaped_answer windows_bad part_bad
part-in-order L =
    ap (cond (part_shape_bad L) (placeless shape_refused))
    (call-answer (λ (L : Asked). L.tables) own_refusals L
    ∙ ap (or_next (tables_and_code_answer L.tables)) own
    ∙ next-assoc (tables_and_code_answer L.tables) (rows_answer windows_refused (window_tests (windowed_of L))) (own_answer L))
    ∙ shape-first (part_shape_bad L) (or_next (shaped_answer (windowed_of L)) (own_answer L))
  where
    own : first_refusal own_refusals L ≡ or_next (rows_answer windows_refused (window_tests (windowed_of L))) (own_answer L)
    own =
        answer-append (within windowed_of windows_refusal ∷ []) (part_refusal ∷ []) L (omega arith)
        ∙ ap₂ or_next (one_answer (within windowed_of windows_refusal) L refl) (one_answer part_refusal L refl)

-- tables and windows with their shape that no number up to 12 refuses: the program is accepted, and its code is within the limit
pub shaped-accepted : (L : Windowed) → shape_bad L.tables ≡ false → (shaped_answer L).number ≡ accepted_number
    → (program_verdict L.tables ≡ accepted_number) × CodeFits L.tables
unfolding shaped_answer
shaped-accepted L s e = call-accepted L.tables s (next-first _ _ e)

-- the shape of what is lent, as the call asks it: that of tables and windows, then that of the part
pub shape-lent : (T : Tables) (W S : List ℤ) (s : ℤ) {a b : Bool} → a ≡ windows_shape_bad (windowed T W) → b ≡ bad_slice schedule_width max_part S
    → (a || b) ≡ part_shape_bad (asked T W S s)
unfolding windows_shape_bad part_shape_bad
shape-lent T W S s e f = ap₂ (λ (a b : Bool). a || b) e f

module _ (L : Asked) where
  -- a refusal that the answer on the part comes to is that of the supplier's verdict
  pub refused-is : (e : Refused) → answer_of {A = Unit {0}} (Err e) ≡ part_answer L → answer_of {A = Unit {0}} (Err e) ≡ supplier_verdict L
  refused-is e h =
      let x = answer_of {A = Unit {0}} (Err e) in
      h ∙ supplier-refused L x.number (sym (part-number L) ∙ ap (λ (y : Answer). y.number) (sym h)) (refusal-some e.refusal)

  -- where nothing is refused up to 13, the verdict on the part is 0
  pub part-passes : part_shape_bad L ≡ false → (shaped_answer (windowed_of L)).number ≡ accepted_number → (own_answer L).number ≡ accepted_number
      → part_verdict L ≡ accepted_number
  part-passes s e f =
      let rest = or_next (shaped_answer (windowed_of L)) (own_answer L) in
      sym (part-number L)
      ∙ ap (λ (y : Answer). y.number)
      (part-in-order L ∙ ap (λ (b : Bool). or_next (told_where b Shape) rest) s ∙ next-none (shaped_answer (windowed_of L)) (own_answer L) e)
      ∙ f
