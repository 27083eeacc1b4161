-- What the two calls answer. A fresh state: the answer on the program, and all 0, or the first values. An advance: the first refusal that
-- applies before anything runs, with its place and the state as it was, or what its step comes to, which has no place.
use Prim.Native.Nat.{ℕ, zero, suc, ◌<◌}
use mathlib.Core.Path.{◌≡◌, refl, sym, ap, ◌∙◌}
use native.Mathlib.Omega.{arith}
use lib.IntN.{pos}
use lib.ListN.{replicate}
use Rattle.theory.specs.Rows.{placeless}
use Rattle.theory.specs.Verdict.{accepted_number, first_refusal}
use Rattle.theory.proofs.Verdict.{answer-number}
use Rattle.cells.specs.Limits.{max_ports}
use Rattle.program.specs.Tables.{Tables}
use Rattle.program.specs.Program.{program_of}
use Rattle.rules.specs.Verdict.{program_verdict, program_answer}
use Rattle.code.specs.Op.{instructions}
use Rattle.machine.specs.declared.Handed.{Handed}
use Rattle.machine.specs.Instant.{Outcome}
use Rattle.machine.specs.Advance.{state_of, fresh_answer, Advance, step, answer, handed, advance_refusals, advance_verdict, advance_answer}

module _ (T : Tables) where
  -- the fresh state of a program that is refused is all 0
  pub fresh-refused : accepted_number < program_verdict T
      → record { answer = program_answer T; state = state_of (replicate max_ports (pos 0)) } ≡ fresh_answer T
  unfolding fresh_answer
  fresh-refused l = go (program_verdict T) refl
    where
      go : (n : ℕ) → program_verdict T ≡ n → record { answer = program_answer T; state = state_of (replicate max_ports (pos 0)) } ≡ fresh_answer T
      go zero e = absurd (omega (arith, l, e))
      go (suc n) e = rw (e, fresh_answer)

  -- the fresh state of a program that is accepted has the first values
  pub fresh-accepted : program_verdict T ≡ accepted_number
      → record { answer = placeless accepted_number; state = state_of (program_of T).first } ≡ fresh_answer T
  unfolding fresh_answer
  fresh-accepted e = rw (e, fresh_answer)

module _ (L : Advance) where
  -- the step that an advance runs
  abbrev pub outcome : Outcome
  outcome = step (program_of L.tables) (instructions L.code) L.schedule L.lent L.state

  -- the number of the first refusal before anything runs is the verdict
  pub judged-number : (first_refusal advance_refusals L).number ≡ advance_verdict L
  unfolding advance_verdict
  judged-number = answer-number advance_refusals L

  -- an advance that is refused before anything runs answers its first refusal, and hands the state back as it was
  pub advance-refused : accepted_number < advance_verdict L
      → record { answer = first_refusal advance_refusals L; state = L.state } ≡ advance_answer L
  unfolding advance_answer
  advance-refused l = go (advance_verdict L) refl
    where
      go : (n : ℕ) → advance_verdict L ≡ n → record { answer = first_refusal advance_refusals L; state = L.state } ≡ advance_answer L
      go zero e = absurd (omega (arith, l, e))
      go (suc n) e = rw (e, advance_answer)

  -- an advance with no number before anything runs answers what its step comes to
  pub advance-steps : advance_verdict L ≡ accepted_number → handed (answer L.state outcome) ≡ advance_answer L
  unfolding advance_answer
  advance-steps e = rw (e, advance_answer)

  -- the number of a refusal before anything runs is the verdict's
  pub refused-number : accepted_number < advance_verdict L → (advance_answer L).answer.number ≡ advance_verdict L
  refused-number l = sym (ap (λ (h : Handed). h.answer.number) (advance-refused l)) ∙ judged-number

  -- the number of an advance that runs is that of its step
  pub step-answered : advance_verdict L ≡ accepted_number → (advance_answer L).answer.number ≡ (answer L.state outcome).number
  step-answered e = sym (ap (λ (h : Handed). h.answer.number) (advance-steps e))
