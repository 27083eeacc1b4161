-- What is known of an accepted system: the program and the windows pass, the parts joined have their shape and pass number 13, and each
-- supplier's worst-case run alone, with the joined schedule, keeps to its windows and its terminations.
-- Assumes that the windows verdict and each supplier's verdict are 0.
use Prim.Native.Nat.{ℕ, ◌<◌}
use mathlib.Core.Path.{◌≡◌, refl, sym, ap, subst, ◌∙◌}
use mathlib.Core.List.{List, [], ◌∷◌, map}
use native.Mathlib.Omega.{arith}
use lib.IntN.{pos}
use Rattle.theory.specs.Verdict.{accepted_number, Refusal, unplaced, within}
use Rattle.theory.proofs.Verdict.{verdict-clear, verdict-both}
use Rattle.cells.specs.Limits.{suppliers, max_part}
use Rattle.cells.specs.Refusals.{shape_refused, schedule_refused}
use Rattle.program.specs.Tables.{mode_count}
use Rattle.rules.specs.Shape.{bad_slice, WholeRows}
use Rattle.rules.specs.Verdict.{table_refusals}
use Rattle.rules.proofs.Shape.{slice-bars}
use Rattle.code.specs.Compile.{long_refusal, CodeFits}
use Rattle.runs.specs.Schedule.{schedule_width}
use Rattle.runs.specs.Round.{Course, Good, worst_case, nothing}
use Rattle.runs.proofs.Exactly.{worst-suited}
use Rattle.suppliers.specs.Windows.{Windowed, windows_shape_bad, window_rows_refusals, windows_verdict, Windows}
use Rattle.suppliers.specs.Schedule.{part_bad, Part}
use Rattle.suppliers.specs.Supplier.{Asked, supplier_of, course_of, judged, part_verdict, supplier_verdict, windowed_of}
use Rattle.theory.specs.declared.Answer.{Answer}
use Rattle.suppliers.proofs.Windows.{windows-bar}
use Rattle.suppliers.proofs.Schedule.{part-bars}
use Rattle.suppliers.proofs.Accepted.{windows-accepted, part-after, part-some-time}
use Rattle.suppliers.proofs.Answers.{not-of-run, judged-exactly}
use Rattle.suppliers.proofs.Joining.{joined-course, joined-fits, joined-whole}
use Rattle.composed.specs.Sound.{Sound}
use Rattle.demands.specs.Composed.{System, Accepted, joined}
use Rattle.demands.proofs.Calls.{long-bars}
use Rattle.demands.proofs.Supplier.{good-exactly}

-- where the windows verdict is 0, the code is within its limit, and the windows fit and share no tick
windows-pass : (L : Windowed) → windows_verdict L ≡ accepted_number → CodeFits L.tables × Windows L
unfolding windows_verdict
windows-pass L e =
    let own : List (Refusal Windowed) = within (λ (L : Windowed). L.tables) long_refusal ∷ window_rows_refusals in
    let first : List (Refusal Windowed) = unplaced shape_refused windows_shape_bad ∷ map (within (λ (L : Windowed). L.tables)) table_refusals in
    let c = verdict-clear own L (omega arith) (verdict-both first own L (omega arith) e).1 in
    ((long-bars L.tables).ok c.0, (windows-bar L).ok c.1.0)

-- a supplier is accepted only with its part, and where its run is good
passes : (L : Asked) → (supplier_verdict L).number ≡ accepted_number → (part_verdict L ≡ accepted_number) × (judged L ≡ supplier_verdict L)
passes L e = (judged-exactly L (supplier_verdict L) (λ o. omega (arith, e, (not-of-run (supplier_verdict L).number o).0))).0 refl

-- the part that passes has its shape and passes number 13
part-fits : (L : Asked) → windows_verdict (windowed_of L) ≡ accepted_number → part_verdict L ≡ accepted_number
    → WholeRows schedule_width max_part L.part × Part L.tables L.part (supplier_of L)
part-fits L w e =
    let own : List (Refusal Asked) =
    unplaced shape_refused (λ L. bad_slice schedule_width max_part L.part)
    ∷ unplaced schedule_refused (λ L. part_bad L.tables L.part (supplier_of L))
    ∷ [] in
    let c = verdict-clear own L (omega arith) (sym (part-after L w) ∙ e) in
    ((slice-bars schedule_width max_part L.part).ok c.0, (part-bars L.tables L.part (supplier_of L)).ok c.1.0)

-- an accepted supplier's worst-case run is good
worst-good : (L : Asked) → (supplier_verdict L).number ≡ accepted_number → (m : ℕ) → m < mode_count L.tables
    → Good (course_of L m) (worst_case (course_of L m)) nothing
worst-good L e m l =
    let (a, j) = passes L e in
    (good-exactly L a).0 (ap (λ (b : Answer). b.number) j ∙ e) m l (worst_case (course_of L m)) (worst-suited (course_of L m) (part-some-time L a m l))

-- an accepted system is sound
pub accepted-sound : (Y : System) → Accepted Y → Sound Y.tables Y.windows (joined Y)
accepted-sound Y a =
    let w = windows-pass lent a.windows in
    record {
      accepted = windows-accepted lent a.windows;
      fits = w.0;
      windows = w.1;
      whole = joined-whole Y.tables Y.parts fits whole;
      joined = joined-fits Y.tables Y.parts fits whole;
      good = λ s m l k. subst (λ (C : Course). Good C (worst_case C) nothing)
          (sym (joined-course Y.tables Y.parts fits whole Y.windows s m l)) (worst-good (asked s) (a.suppliers s l) m k);
    }
  where
    lent : Windowed
    lent = record { tables = Y.tables; windows = Y.windows }

    asked : ℕ → Asked
    asked s = record { tables = Y.tables; windows = Y.windows; part = Y.parts s; supplier = pos s }

    both : (s : ℕ) → s < suppliers → WholeRows schedule_width max_part (Y.parts s) × Part Y.tables (Y.parts s) s
    both s l = part-fits (asked s) a.windows (passes (asked s) (a.suppliers s l)).0

    fits : (s : ℕ) → s < suppliers → Part Y.tables (Y.parts s) s
    fits s l = (both s l).1

    whole : (s : ℕ) → s < suppliers → WholeRows schedule_width max_part (Y.parts s)
    whole s l = (both s l).0
