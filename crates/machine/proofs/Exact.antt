-- What an advance answers, each number under exactly its condition, in the words of specs/Comes.antt: a number of its static verdict, and
-- where that is 0, one of 16 to 20 or 0.
use Prim.Native.Nat.{ℕ, ◌<◌}
use mathlib.Core.Path.{◌≡◌, refl, sym, ap, subst, ◌∙◌}
use mathlib.Core.Logic.{◌⊎◌, inl, inr, ⊎_elim, ◌↔◌}
use native.Mathlib.Decide.{dec_lt}
use native.Mathlib.Omega.{arith}
use Rattle.theory.specs.Rows.{placeless}
use Rattle.theory.specs.Verdict.{accepted_number, first_refusal}
use Rattle.theory.specs.declared.Answer.{Answer}
use Rattle.theory.proofs.Verdict.{one_each, verdict-one}
use Rattle.cells.specs.Refusals.{time_refused, overrun_refused, collision_refused, faulty_refused, count_refused}
use Rattle.machine.specs.declared.State.{State}
use Rattle.machine.specs.declared.Handed.{Handed}
use Rattle.machine.specs.Instant.{Outcome, ok, stop}
use Rattle.machine.specs.Advance.{Advance, advance_refusals, advance_verdict, advance_rules, answer, advance_answer}
use Rattle.machine.specs.Comes.{Static, Arising, Faults, TimeWrong, Overruns, RunsOn, Collides, TickPasses}
use Rattle.machine.proofs.Outcomes.{ok-not-stop, stopped}
use Rattle.machine.proofs.Answered.{outcome, judged-number, advance-refused, advance-steps, refused-number, step-answered}
use Rattle.machine.proofs.Stopped.{InstantStops, outcome-stops, outcome-passes, passes-outcome}
use Rattle.machine.proofs.Moved.{accepted}

-- a number above 0 is that of a refused step
answered : (s : State) (o : Outcome) (n : ℕ) → accepted_number < n → ((answer s o).number ≡ n) ↔ (o ≡ stop n)
answered s (ok u) n l = (λ e. absurd (omega (arith, e)), λ e. absurd (ok-not-stop e))
answered s (stop m) n l = (λ e. ap stop e, λ e. stopped e)

-- no number that is given before anything runs arises in execution
pub not-arising : (n : ℕ) → Static n → (accepted_number < n) × (Arising n → ⊥)
not-arising n s = (
  one_each (λ n. accepted_number < n) advance_rules n (omega arith) s,
  one_each (λ n. Arising n → ⊥) advance_rules n (omega arith) s,
)

module _ (L : Advance) where
  -- the step of an advance is refused with n
  abbrev Stops : ℕ → Type 0
  Stops n = InstantStops L n ⊎ ((n ≡ collision_refused) × Collides L)

  -- the numbers of the static verdict, and those of a refused step
  few : accepted_number < advance_verdict L → Static (advance_verdict L)
  unfolding advance_verdict
  few l = ⊎_elim (λ e. absurd (omega (arith, e, l))) (λ o. o) (verdict-one advance_refusals advance_rules L (omega arith))

  arises : (n : ℕ) → Stops n → Arising n
  arises n (inl (inl w)) = omega (arith, w.0)
  arises n (inl (inr (inl w))) = omega (arith, w.0)
  arises n (inl (inr (inr (inl w)))) = omega (arith, w.0)
  arises n (inl (inr (inr (inr w)))) = omega (arith, w.0)
  arises n (inr w) = omega (arith, w.0)

  -- an advance answers a number of the static verdict exactly where that gives it
  pub advance-judged : (n : ℕ) → Static n → ((advance_answer L).answer.number ≡ n) ↔ (advance_verdict L ≡ n)
  advance-judged n s =
      (λ e. there (dec_lt accepted_number (advance_verdict L)) e, λ e. refused-number L (omega (arith, e, (not-arising n s).0)) ∙ e)
    where
      there : Dec (accepted_number < advance_verdict L) → (advance_answer L).answer.number ≡ n → advance_verdict L ≡ n
      there (yes l) e = sym (refused-number L l) ∙ e
      there (no l) e =
          let q : outcome L ≡ stop n =
          (answered L.state (outcome L) n (not-arising n s).0).0 (sym (step-answered L (omega (arith, l))) ∙ e) in
          absurd ((not-arising n s).1 (arises n ((outcome-stops L n).0 q)))

  -- an advance answers 16 to 20 exactly where the static verdict gives none, and the step is refused so
  pub advance-arises : (n : ℕ) → Arising n → ((advance_answer L).answer.number ≡ n) ↔ ((advance_verdict L ≡ accepted_number) × Stops n)
  advance-arises n a = (λ e. there (dec_lt accepted_number (advance_verdict L)) e, back)
    where
      there : Dec (accepted_number < advance_verdict L) → (advance_answer L).answer.number ≡ n → (advance_verdict L ≡ accepted_number) × Stops n
      there (yes l) e = absurd ((not-arising (advance_verdict L) (few l)).1 (subst Arising (sym e ∙ refused-number L l) a))
      there (no l) e =
          let z : advance_verdict L ≡ accepted_number = omega (arith, l) in
          (z, (outcome-stops L n).0 ((answered L.state (outcome L) n (omega (arith, a.0))).0 (sym (step-answered L z) ∙ e)))

      back : (advance_verdict L ≡ accepted_number) × Stops n → (advance_answer L).answer.number ≡ n
      back (z, w) = step-answered L z ∙ (answered L.state (outcome L) n (omega (arith, a.0))).1 ((outcome-stops L n).1 w)

  -- an advance answers 0 exactly where the static verdict gives no number and the tick passes
  pub advance-accepted : ((advance_answer L).answer.number ≡ accepted_number) ↔ ((advance_verdict L ≡ accepted_number) × TickPasses L)
  advance-accepted =
      (λ e. (none (dec_lt accepted_number (advance_verdict L)) e, outcome-passes L (advance_answer L).state (accepted L e)), back)
    where
      none : Dec (accepted_number < advance_verdict L) → (advance_answer L).answer.number ≡ accepted_number → advance_verdict L ≡ accepted_number
      none (yes l) e = sym (refused-number L l) ∙ e
      none (no l) e = omega (arith, l)

      back : (advance_verdict L ≡ accepted_number) × TickPasses L → (advance_answer L).answer.number ≡ accepted_number
      back (z, w) = step-answered L z ∙ ap (λ (o : Outcome). (answer L.state o).number) (passes-outcome L w).1

  -- an advance answers no other number
  pub advance-only : ((advance_answer L).answer.number ≡ accepted_number) ⊎ (Static (advance_answer L).answer.number ⊎ Arising (advance_answer L).answer.number)
  advance-only = go (dec_lt accepted_number (advance_verdict L))
    where
      step : (o : Outcome) → outcome L ≡ o → ((answer L.state o).number ≡ accepted_number) ⊎ (Static (answer L.state o).number ⊎ Arising (answer L.state o).number)
      step (ok u) e = inl refl
      step (stop n) e = inr (inr (arises n ((outcome-stops L n).0 e)))

      go : Dec (accepted_number < advance_verdict L) → ((advance_answer L).answer.number ≡ accepted_number) ⊎ (Static (advance_answer L).answer.number ⊎ Arising (advance_answer L).answer.number)
      go (yes l) = inr (inl (subst Static (sym (refused-number L l)) (few l)))
      go (no l) =
          subst (λ (n : ℕ). (n ≡ accepted_number) ⊎ (Static n ⊎ Arising n)) (sym (step-answered L (omega (arith, l)))) (step (outcome L) refl)

  -- an advance answers a number of the static verdict with the place of the first refusal that applies before anything runs
  pub advance-judged-at : (x : Answer) → Static x.number → ((advance_answer L).answer ≡ x) ↔ (first_refusal advance_refusals L ≡ x)
  advance-judged-at x s = (there, back)
    where
      some : accepted_number < x.number
      some = (not-arising x.number s).0

      there : (advance_answer L).answer ≡ x → first_refusal advance_refusals L ≡ x
      there e =
          let v = (advance-judged x.number s).0 (ap (λ (y : Answer). y.number) e) in
          ap (λ (h : Handed). h.answer) (advance-refused L (omega (arith, v, some))) ∙ e

      back : first_refusal advance_refusals L ≡ x → (advance_answer L).answer ≡ x
      back e =
          let v : advance_verdict L ≡ x.number = sym (judged-number L) ∙ ap (λ (y : Answer). y.number) e in
          sym (ap (λ (h : Handed). h.answer) (advance-refused L (omega (arith, v, some)))) ∙ e

  -- what a step comes to has no place
  stepped-placeless : advance_verdict L ≡ accepted_number → (advance_answer L).answer ≡ placeless (advance_answer L).answer.number
  stepped-placeless z =
      let e = advance-steps L z in
      sym (ap (λ (h : Handed). h.answer) e) ∙ ap (λ (h : Handed). placeless h.answer.number) e

  -- an advance answers 16 to 20 without a place
  pub arising-placeless : Arising (advance_answer L).answer.number → (advance_answer L).answer ≡ placeless (advance_answer L).answer.number
  arising-placeless a = stepped-placeless ((advance-arises (advance_answer L).answer.number a).0 refl).0

  -- an advance answers 0 without a place
  pub accepted-placeless : (advance_answer L).answer.number ≡ accepted_number → (advance_answer L).answer ≡ placeless accepted_number
  accepted-placeless e = stepped-placeless (advance-accepted.0 e).0 ∙ ap placeless e

  -- an advance answers 19 exactly where the static verdict gives no number and the E code faults
  pub advance-faulty : ((advance_answer L).answer.number ≡ faulty_refused) ↔ ((advance_verdict L ≡ accepted_number) × Faults L)
  advance-faulty =
      let a = advance-arises faulty_refused (omega arith) in (λ e. ((a.0 e).0, only (a.0 e).1), λ w. a.1 (w.0, inl (inl (refl, w.1))))
    where
      only : Stops faulty_refused → Faults L
      only (inl (inl w)) = w.1
      only (inl (inr (inl w))) = absurd (omega (arith, w.0))
      only (inl (inr (inr (inl w)))) = absurd (omega (arith, w.0))
      only (inl (inr (inr (inr w)))) = absurd (omega (arith, w.0))
      only (inr w) = absurd (omega (arith, w.0))

  -- an advance answers 16 exactly where the static verdict gives no number and a task is lent a bad time
  pub advance-time : ((advance_answer L).answer.number ≡ time_refused) ↔ ((advance_verdict L ≡ accepted_number) × TimeWrong L)
  advance-time = let a = advance-arises time_refused (omega arith) in (λ e. ((a.0 e).0, only (a.0 e).1), λ w. a.1 (w.0, inl (inr (inl (refl, w.1)))))
    where
      only : Stops time_refused → TimeWrong L
      only (inl (inl w)) = absurd (omega (arith, w.0))
      only (inl (inr (inl w))) = w.1
      only (inl (inr (inr (inl w)))) = absurd (omega (arith, w.0))
      only (inl (inr (inr (inr w)))) = absurd (omega (arith, w.0))
      only (inr w) = absurd (omega (arith, w.0))

  -- an advance answers 17 exactly where the static verdict gives no number and a task is still running
  pub advance-overruns : ((advance_answer L).answer.number ≡ overrun_refused) ↔ ((advance_verdict L ≡ accepted_number) × Overruns L)
  advance-overruns =
      let a = advance-arises overrun_refused (omega arith) in
      (λ e. ((a.0 e).0, only (a.0 e).1), λ w. a.1 (w.0, inl (inr (inr (inl (refl, w.1))))))
    where
      only : Stops overrun_refused → Overruns L
      only (inl (inl w)) = absurd (omega (arith, w.0))
      only (inl (inr (inl w))) = absurd (omega (arith, w.0))
      only (inl (inr (inr (inl w)))) = w.1
      only (inl (inr (inr (inr w)))) = absurd (omega (arith, w.0))
      only (inr w) = absurd (omega (arith, w.0))

  -- an advance answers 20 exactly where the static verdict gives no number and the E code runs on
  pub advance-runs-on : ((advance_answer L).answer.number ≡ count_refused) ↔ ((advance_verdict L ≡ accepted_number) × RunsOn L)
  advance-runs-on =
      let a = advance-arises count_refused (omega arith) in
      (λ e. ((a.0 e).0, only (a.0 e).1), λ w. a.1 (w.0, inl (inr (inr (inr (refl, w.1))))))
    where
      only : Stops count_refused → RunsOn L
      only (inl (inl w)) = absurd (omega (arith, w.0))
      only (inl (inr (inl w))) = absurd (omega (arith, w.0))
      only (inl (inr (inr (inl w)))) = absurd (omega (arith, w.0))
      only (inl (inr (inr (inr w)))) = w.1
      only (inr w) = absurd (omega (arith, w.0))

  -- an advance answers 18 exactly where the static verdict gives no number and two suppliers run in the tick
  pub advance-collides : ((advance_answer L).answer.number ≡ collision_refused) ↔ ((advance_verdict L ≡ accepted_number) × Collides L)
  advance-collides =
      let a = advance-arises collision_refused (omega arith) in (λ e. ((a.0 e).0, only (a.0 e).1), λ w. a.1 (w.0, inr (refl, w.1)))
    where
      only : Stops collision_refused → Collides L
      only (inl (inl w)) = absurd (omega (arith, w.0))
      only (inl (inr (inl w))) = absurd (omega (arith, w.0))
      only (inl (inr (inr (inl w)))) = absurd (omega (arith, w.0))
      only (inl (inr (inr (inr w)))) = absurd (omega (arith, w.0))
      only (inr w) = w.1
