-- One tick of a composed run: it is accepted, and keeps the relation between Giotto's configuration and the machine's state.
-- Assumes that the system is sound, that what is lent to the tick suits it, and that the relation holds before it.
use Prim.Native.Nat.{ℕ, suc}
use mathlib.Core.Path.{◌≡◌, sym, ap, subst, ◌∙◌}
use mathlib.Core.List.{List}
use mathlib.Core.Logic.{inr}
use lib.IntN.{ℤ}
use Rattle.theory.specs.Rows.{placeless}
use Rattle.theory.specs.Verdict.{accepted_number}
use Rattle.program.specs.Tables.{Tables}
use Rattle.program.specs.Program.{Program, program_of}
use Rattle.code.specs.Op.{emit, instructions}
use Rattle.code.specs.Compile.{listing_of}
use Rattle.giotto.specs.Instant.{Configuration, Function}
use Rattle.giotto.specs.Execution.{pass}
use Rattle.machine.specs.declared.State.{State}
use Rattle.machine.specs.declared.Handed.{Handed}
use Rattle.machine.specs.Instant.{Outcome, ok}
use Rattle.machine.specs.Schedules.{tick_all}
use Rattle.machine.specs.Advance.{Lent, answer, handed, advance_answer}
use Rattle.machine.proofs.Ready.{goes}
use Rattle.machine.proofs.Answered.{advance-steps}
use Rattle.composed.specs.Sound.{Sound}
use Rattle.composed.specs.Suited.{by_compiled, Suited}
use Rattle.composed.specs.Related.{Going, Related}
use Rattle.composed.proofs.Readied.{Readied, readied}
use Rattle.composed.proofs.Ticked.{tick-related}
use Rattle.composed.proofs.Judged.{related-verdict}

module _ (T : Tables) (W S : List ℤ) (F : Function) (n : ℕ) (C : Configuration) (s : State) (X : Lent) where
  abbrev P : Program
  P = program_of T

  module _ (h : Sound T W S) (x : Suited T (emit (listing_of T)) S F n C s X) where
    -- the tick is accepted, and the relation holds after it
    pub related-tick : Related T W S F n C s
        → ((advance_answer (by_compiled T S X s)).answer.number ≡ accepted_number)
        × Related T W S F (suc n) (pass P F n X.readings C) (advance_answer (by_compiled T S X s)).state
    related-tick r = (
      ap (λ (a : Handed). a.answer.number) answered,
      subst (λ (a : Handed). Related T W S F (suc n) (pass P F n X.readings C) a.state) (sym answered) (inr (b.unit, next.2)),
    )
      where
        b : Readied T W S F n C s X.readings X.times
        b = readied T W S F n C s X.readings X.times h x.times r

        next : (v : State) × (tick_all P S X.results b.state ≡ ok v) × Going T W S F b.unit (suc n) (pass P F n X.readings C) v
        next = tick-related T W S F h b.unit n (pass P F n X.readings C) b.state X.results b.keeps b.more (λ t p. x.results b.state t p b.runs)

        answered : advance_answer (by_compiled T S X s) ≡ record { answer = placeless accepted_number; state = next.0 }
        answered =
            sym (advance-steps (by_compiled T S X s) (related-verdict T W S F h n C s X r x.readings-length x.results-length x.times-length))
            ∙ ap (λ (o : Outcome). handed (answer s o)) (ap (goes P (instructions (emit (listing_of T))) S X s) b.runs ∙ next.1)
