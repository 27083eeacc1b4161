-- A fresh state's answer is the answer on the program, its number the program verdict's; refused, the state is all 0; accepted, it has the
-- ports' first values and 0 elsewhere. Assumes of each state that its number is given.
use Prim.Native.Nat.{ℕ, ◌+◌, ◌*◌, ◌≤◌, ◌<◌}
use mathlib.Core.Path.{◌≡◌, refl, sym, ap, subst, ◌∙◌}
use mathlib.Core.List.{◌∷◌}
use native.Mathlib.Decide.{dec_lt}
use native.Mathlib.Omega.{arith}
use lib.IntN.{pos}
use lib.ListN.{length, get_or-eq_default}
use Rattle.theory.specs.Verdict.{accepted_number}
use Rattle.theory.specs.declared.Answer.{Answer}
use Rattle.theory.proofs.Lists.{each-length, each_at}
use Rattle.theory.proofs.Verdict.{accepted-answer}
use Rattle.cells.specs.Limits.{max_ports}
use Rattle.program.specs.Tables.{Tables, port_width, port_count, port_first}
use Rattle.program.specs.Program.{program_of}
use Rattle.program.specs.Ports.{value_of}
use Rattle.rules.specs.Shape.{Shaped}
use Rattle.rules.specs.Verdict.{shape_refusal, table_refusals, program_verdict, program_answer}
use Rattle.rules.proofs.Verdict.{program-number}
use Rattle.rules.proofs.Accepted.{accepted-shaped}
use Rattle.machine.specs.declared.Handed.{Handed}
use Rattle.machine.specs.Advance.{fresh_answer}
use Rattle.machine.specs.Fresh.{FirstValues, Fresh, AllZero}
use Rattle.machine.proofs.Answered.{fresh-refused, fresh-accepted}

module _ (T : Tables) where
  -- the answer of a fresh state is that on the program
  pub fresh-answer : (fresh_answer T).answer ≡ program_answer T
  unfolding program_verdict program_answer
  fresh-answer = go (dec_lt accepted_number (program_verdict T))
    where
      go : Dec (accepted_number < program_verdict T) → (fresh_answer T).answer ≡ program_answer T
      go (yes l) = sym (ap (λ (h : Handed). h.answer) (fresh-refused T l))
      go (no l) =
          let z : program_verdict T ≡ accepted_number = omega (arith, l) in
          sym (ap (λ (h : Handed). h.answer) (fresh-accepted T z))
          ∙ sym (accepted-answer (shape_refusal ∷ table_refusals) T (omega arith) z)

  -- the number of a fresh state is the program verdict's
  pub fresh-number : (fresh_answer T).answer.number ≡ program_verdict T
  fresh-number = ap (λ (x : Answer). x.number) fresh-answer ∙ program-number T

  -- a fresh state that is refused is all 0
  pub fresh-zero : ((fresh_answer T).answer.number ≡ accepted_number → ⊥) → AllZero (fresh_answer T).state
  fresh-zero h = go (dec_lt accepted_number (program_verdict T))
    where
      go : Dec (accepted_number < program_verdict T) → AllZero (fresh_answer T).state
      go (yes l) = subst (λ (h : Handed). AllZero h.state) (fresh-refused T l)
          (record {
            ports = refl;
            outputs = refl;
            rest = record { time = refl; pending = refl; current = refl; elapsed = refl; remaining = refl; left = refl; positions = refl };
          })
      go (no l) = absurd (h (fresh-number ∙ omega (arith, l)))

  -- tables that have their shape give the first value of each declared port, and 0 elsewhere
  first-values : Shaped T → FirstValues T (program_of T).first
  first-values s = record {
    all = each-length (port_first T) max_ports 0;
    declared = λ p l. each_at (port_first T) max_ports p (pos 0) (omega (arith, s.ports.1, s.ports.2));
    undeclared = λ p l. go p l (dec_lt p max_ports);
  }
    where
      go : (p : ℕ) → port_count T ≤ p → Dec (p < max_ports) → value_of (program_of T).first p ≡ pos 0
      go p l (yes h) =
          let past : length T.ports ≤ p * port_width + 1 = omega (arith, s.ports.1) in
          each_at (port_first T) max_ports p (pos 0) h ∙ get_or-eq_default T.ports (pos 0) past
      go p l (no h) =
          let past : length (program_of T).first ≤ p = omega (arith, h, each-length (port_first T) max_ports 0) in
          get_or-eq_default (program_of T).first (pos 0) past

  -- a fresh state that is accepted has the first values in the first two and 0 elsewhere
  pub fresh-first : (fresh_answer T).answer.number ≡ accepted_number → Fresh T (fresh_answer T).state
  fresh-first e =
      let z : program_verdict T ≡ accepted_number = sym fresh-number ∙ e in
      let f = first-values (accepted-shaped T z) in
      subst (λ (h : Handed). Fresh T h.state) (fresh-accepted T z)
      (record {
        ports = f;
        outputs = f;
        rest = record { time = refl; pending = refl; current = refl; elapsed = refl; remaining = refl; left = refl; positions = refl };
      })
