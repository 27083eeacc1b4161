-- What a supplier's verdict answers: a number of 1 to 13 or 24 with its place, or what the run of each mode comes to; and which of these
-- each answer is.
use Prim.Native.Nat.{ℕ, zero, suc, ◌<◌}
use mathlib.Core.Path.{◌≡◌, refl, sym, ap, subst, ◌∙◌}
use mathlib.Core.Logic.{◌⊎◌, inl, inr, ⊎_elim, ◌↔◌}
use native.Mathlib.Decide.{dec_lt}
use native.Mathlib.Omega.{arith}
use lib.ListN.{length}
use Rattle.theory.specs.Rows.{placeless}
use Rattle.theory.specs.Verdict.{accepted_number, OneOf}
use Rattle.theory.specs.declared.Answer.{Answer}
use Rattle.theory.proofs.Verdict.{one_each, verdict-one, answer-number}
use Rattle.cells.specs.Refusals.{outside_refused, late_refused}
use Rattle.program.specs.Program.{program_of}
use Rattle.runs.specs.Round.{Break, none, outside, late, worst_break, nothing}
use Rattle.suppliers.specs.Supplier.{Asked, course_of, answer_of, judged, part_refusals, part_verdict, part_rules, part_answer, supplier_verdict}
use Rattle.suppliers.proofs.Modes.{Answered, answered}

-- an answer of the run accepts without a place, or its number is 14 or 15
abbrev OfRun : Answer → Type 0
OfRun a = (a ≡ placeless accepted_number) ⊎ ((a.number ≡ outside_refused) ⊎ (a.number ≡ late_refused))

break-of-run : (i : ℕ) (b : Break) → (b ≡ none → ⊥) → OfRun (answer_of i b)
break-of-run i none d = absurd (d refl)
break-of-run i (outside t) d = inr (inl refl)
break-of-run i (late t) d = inr (inr refl)

-- no number of the rules before the run is that of an answer of the run
pub not-of-run : (n : ℕ) → OneOf part_rules n → (accepted_number < n) × (n ≡ outside_refused → ⊥) × (n ≡ late_refused → ⊥)
not-of-run n o = (
  one_each (λ n. accepted_number < n) part_rules n (omega arith) o,
  one_each (λ n. n ≡ outside_refused → ⊥) part_rules n (omega arith) o,
  one_each (λ n. n ≡ late_refused → ⊥) part_rules n (omega arith) o,
)

module _ (L : Asked) where
  -- the number of the answer before the run is the verdict before the run
  pub part-number : (part_answer L).number ≡ part_verdict L
  unfolding part_answer part_verdict
  part-number = answer-number part_refusals L

  -- where a number is given before the run, the answer is that number with its place
  pub supplier-refused : (n : ℕ) → part_verdict L ≡ n → (n ≡ accepted_number → ⊥) → part_answer L ≡ supplier_verdict L
  unfolding supplier_verdict
  supplier-refused zero e d = absurd (d refl)
  supplier-refused (suc n) e d = rw (e, supplier_verdict)

  -- where no number is given before the run, the run decides
  pub supplier-judged : part_verdict L ≡ accepted_number → judged L ≡ supplier_verdict L
  unfolding supplier_verdict
  supplier-judged e = rw (e, supplier_verdict)

  -- before the run only the numbers of its rules are given
  part-few : accepted_number < part_verdict L → OneOf part_rules (part_verdict L)
  unfolding part_verdict
  part-few l = ⊎_elim (λ e. absurd (omega (arith, e, l))) (λ o. o) (verdict-one part_refusals part_rules L (omega arith))

  -- an answer of the run accepts without a place, or its number is 14 or 15
  judged-of-run : OfRun (judged L)
  judged-of-run = go (judged L) (answered breaks (length (program_of L.tables).modes) 0)
    where
      breaks : ℕ → Break
      breaks m = worst_break (course_of L m) nothing

      go : (a : Answer) → Answered breaks (length (program_of L.tables).modes) 0 a → OfRun a
      go a (inl (g, q)) = inl q
      go a (inr (i, b, w, q)) = subst OfRun (sym q) (break-of-run i b w.is-break)

  -- an answer of the run without a number has no place
  pub judged-accepted : (judged L).number ≡ accepted_number → judged L ≡ placeless accepted_number
  judged-accepted e = go judged-of-run
    where
      go : OfRun (judged L) → judged L ≡ placeless accepted_number
      go (inl q) = q
      go (inr (inl q)) = absurd (omega (arith, e, q))
      go (inr (inr q)) = absurd (omega (arith, e, q))

  -- an answer with a number of the rules is given exactly where it is given before the run
  pub refused-exactly : (x : Answer) → OneOf part_rules x.number → (supplier_verdict L ≡ x) ↔ (part_answer L ≡ x)
  refused-exactly x o = (λ e. there (dec_lt accepted_number (part_verdict L)) judged-of-run e, back)
    where
      other : (accepted_number < x.number) × (x.number ≡ outside_refused → ⊥) × (x.number ≡ late_refused → ⊥)
      other = not-of-run x.number o

      there : Dec (accepted_number < part_verdict L) → OfRun (judged L) → supplier_verdict L ≡ x → part_answer L ≡ x
      there (yes h) p e = supplier-refused (part_verdict L) refl (λ z. omega (arith, h)) ∙ e
      there (no h) p e =
          let z : (judged L).number ≡ x.number = ap (λ (a : Answer). a.number) (supplier-judged (omega (arith, h)) ∙ e) in
          absurd
          (⊎_elim (λ q. omega (arith, z, other.0, ap (λ (a : Answer). a.number) q))
          (λ r. ⊎_elim (λ q. other.1 (sym z ∙ q)) (λ q. other.2 (sym z ∙ q)) r) p)

      back : part_answer L ≡ x → supplier_verdict L ≡ x
      back e =
          let n : part_verdict L ≡ x.number = sym part-number ∙ ap (λ (a : Answer). a.number) e in
          sym (supplier-refused x.number n (λ z. omega (arith, z, other.0))) ∙ e

  -- the answer is any other exactly where no number of the rules is given, and the run comes to it
  pub judged-exactly : (a : Answer) → (OneOf part_rules a.number → ⊥) → (supplier_verdict L ≡ a) ↔ ((part_verdict L ≡ accepted_number) × (judged L ≡ a))
  judged-exactly a o = (λ e. there (dec_lt accepted_number (part_verdict L)) e, λ w. sym (supplier-judged w.0) ∙ w.1)
    where
      there : Dec (accepted_number < part_verdict L) → supplier_verdict L ≡ a → (part_verdict L ≡ accepted_number) × (judged L ≡ a)
      there (yes h) e =
          let z : part_verdict L ≡ a.number =
          sym part-number ∙ ap (λ (a : Answer). a.number) (supplier-refused (part_verdict L) refl (λ z. omega (arith, h)) ∙ e) in
          absurd (o (subst (OneOf part_rules) z (part-few h)))
      there (no h) e = let z : part_verdict L ≡ accepted_number = omega (arith, h) in (z, supplier-judged z ∙ e)

  -- the answer is that before the run, with a number of the rules, or accepts without a place, or its number is 14 or 15
  pub only-these : ((supplier_verdict L ≡ part_answer L) × OneOf part_rules (supplier_verdict L).number)
      ⊎ ((supplier_verdict L ≡ placeless accepted_number)
      ⊎ (((supplier_verdict L).number ≡ outside_refused) ⊎ ((supplier_verdict L).number ≡ late_refused)))
  only-these = go (dec_lt accepted_number (part_verdict L))
    where
      go : Dec (accepted_number < part_verdict L)
          → ((supplier_verdict L ≡ part_answer L) × OneOf part_rules (supplier_verdict L).number) ⊎ OfRun (supplier_verdict L)
      go (yes h) =
          let e : part_answer L ≡ supplier_verdict L = supplier-refused (part_verdict L) refl (λ z. omega (arith, h)) in
          let n : (supplier_verdict L).number ≡ part_verdict L = ap (λ (a : Answer). a.number) (sym e) ∙ part-number in
          inl (sym e, subst (OneOf part_rules) (sym n) (part-few h))
      go (no h) = inr (subst OfRun (supplier-judged (omega (arith, h))) judged-of-run)
