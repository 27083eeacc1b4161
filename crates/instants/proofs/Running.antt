-- An instant instruction by instruction, as the loop runs it: each comes to a refusal, to the end or to the next one, and the count
-- ends it.
use Prim.Native.Nat.{ℕ, zero, suc, ◌-◌, ◌/◌, ◌≤◌, ◌<◌}
use mathlib.Core.Path.{◌≡◌, refl, sym, ap, ◌∙◌}
use mathlib.Core.Bool.{true, false}
use mathlib.Core.List.{List}
use native.Mathlib.Omega.{arith}
use lib.IntN.{ℤ}
use lib.ListN.{length}
use borrow.Author.Tests.{lt-ltb, le-ltb}
use Rattle.theory.specs.Verdict.{accepted_number}
use Rattle.theory.proofs.Bools.{clash}
use Rattle.cells.specs.Limits.{words_each}
use Rattle.cells.specs.Refusals.{faulty_refused, count_refused}
use Rattle.program.specs.Program.{Program}
use Rattle.code.specs.Op.{Op, call, schedule, branch, jump, future, return, faulty, instructions}
use Rattle.code.proofs.Fetch.{instructions-length}
use Rattle.machine.specs.declared.State.{State}
use Rattle.machine.specs.Advance.{Advanced}
use Rattle.machine.specs.declared.At.{At}
use Rattle.machine.specs.Instruction.{executes}
use Rattle.machine.specs.Instant.{ok, stop, is_return, ran_out, fetch, refusal_at, run_from, start_at, run_instant}
use Rattle.machine.specs.Advance.{answer}
use Rattle.machine.proofs.Instants.{passes, at_return, at-refusal}
use Rattle.instants.specs.Step.{Stepped}
use Rattle.instants.specs.Step.{stepped, step_at}

-- after as many instructions as the code has, an address inside the code is refused with 20
pub spent-inside : (n address : ℕ) (s : State) → address < n → record { number = count_refused; state = s } ≡ answer s (ran_out n address)
spent-inside n address s l = rw (lt-ltb address n l, ran_out)

-- after as many instructions as the code has, an address past the end is refused with 19
pub spent-outside : (n address : ℕ) (s : State) → n ≤ address → record { number = faulty_refused; state = s } ≡ answer s (ran_out n address)
spent-outside n address s l = rw (le-ltb address n l, ran_out)

module _ (P : Program) (readings times : List ℤ) where
  -- a `return` leaves the machine as it is
  return-stays : (o : Op) (a : At) → is_return o ≡ true → executes P readings times o a ≡ a
  return-stays (call c) a e = clash {b = false} e refl
  return-stays (schedule t) a e = clash {b = false} e refl
  return-stays (branch d to) a e = clash {b = false} e refl
  return-stays (jump to) a e = clash {b = false} e refl
  return-stays (future d to) a e = clash {b = false} e refl
  return-stays return a e = refl
  return-stays faulty a e = clash {b = false} e refl

  module _ (code : List Op) (a : At) (r : Stepped) (e : r ≡ step_at P readings times code a) where
    -- what the instruction comes to, by its refusal
    abbrev step_by : ℕ → Stepped
    step_by v = elim v [
      | zero ↦ record { number = accepted_number; over = is_return (fetch P readings times code a); at = executes P readings times (fetch P readings times code a) a }
      | suc m ↦ record { number = suc m; over = false; at = a }
    ]

    -- the number that an instruction comes to is its refusal's
    refusal : refusal_at P readings times code a ≡ r.number
    unfolding stepped
    refusal = go (refusal_at P readings times code a) ∙ sym (ap (λ (q : Stepped). q.number) e)
      where
        go : (v : ℕ) → v ≡ (step_by v).number
        go zero = refl
        go (suc v) = refl

    -- an instruction without a refusal is executed
    executed : r.number ≤ accepted_number → r ≡ step_by accepted_number
    unfolding stepped
    executed h = let z : refusal_at P readings times code a ≡ accepted_number = omega (arith, refusal) in e ∙ ap step_by z

    module _ (more : ℕ) (l : 0 < more) where
      -- the count of instructions left is one and those after it
      own : more ≡ suc (more - 1)
      own = omega arith

      -- an instruction that is refused refuses the instant
      pub run-refused : accepted_number < r.number → run_from P readings times code more a ≡ stop r.number
      run-refused h =
          ap (λ (k : ℕ). run_from P readings times code k a) own ∙ at-refusal P readings times code (more - 1) a r.number (omega arith) refusal

      -- a `return` that is not refused ends the instant
      pub run-over : r.number ≤ accepted_number → r.over ≡ true → run_from P readings times code more a ≡ ok r.at.state
      run-over h y =
          let x = executed h in
          let z : refusal_at P readings times code a ≡ accepted_number = omega (arith, refusal) in
          let returns : is_return (fetch P readings times code a) ≡ true = sym (ap (λ (q : Stepped). q.over) x) ∙ y in
          ap (λ (k : ℕ). run_from P readings times code k a) own
          ∙ at_return P readings times code (more - 1) a z returns
          ∙ ap (λ (m : At). ok m.state) (sym (ap (λ (q : Stepped). q.at) x ∙ return-stays (fetch P readings times code a) a returns))

      -- any other instruction that is not refused goes on, with one less of the count
      pub run-goes : r.number ≤ accepted_number → r.over ≡ false
          → run_from P readings times code more a ≡ run_from P readings times code (more - 1) r.at
      run-goes h y =
          let x = executed h in
          let z : refusal_at P readings times code a ≡ accepted_number = omega (arith, refusal) in
          ap (λ (k : ℕ). run_from P readings times code k a) own
          ∙ passes P readings times code (more - 1) a z (sym (ap (λ (q : Stepped). q.over) x) ∙ y)
          ∙ ap (λ (m : At). run_from P readings times code (more - 1) m) (sym (ap (λ (q : Stepped). q.at) x))

  module _ (words : List ℕ) (s : State) where
    -- what is left to run from here is what was to run from the start
    abbrev pub Left : ℕ → At → Type 0
    Left more a = run_from P readings times (instructions words) more a ≡ run_instant P readings times (instructions words) s

    -- at the start all instructions are left
    pub left-all : Left (length words / words_each) (start_at P readings times (instructions words) s)
    left-all = ap (λ (k : ℕ). run_from P readings times (instructions words) k (start_at P readings times (instructions words) s)) (sym (instructions-length words))

    module _ (more : ℕ) (a : At) (left : Left more a) where
      -- where no instruction is left, the count ends the instant
      pub left-none : (r : Advanced) → more ≤ 0 → r ≡ answer s (ran_out (length words / words_each) a.address)
          → r ≡ answer s (run_instant P readings times (instructions words) s)
      left-none r l e =
          let z : 0 ≡ more = omega arith in
          e
          ∙ ap (λ (n : ℕ). answer s (ran_out n a.address)) (sym (instructions-length words))
          ∙ ap (answer s) (ap (λ (k : ℕ). run_from P readings times (instructions words) k a) z ∙ left)

      module _ (l : 0 < more) (r : Stepped) (e : r ≡ step_at P readings times (instructions words) a) where
        -- where the next instruction is refused, so is the instant
        pub left-refused : accepted_number < r.number → record { number = r.number; state = s } ≡ answer s (run_instant P readings times (instructions words) s)
        left-refused h = ap (answer s) (sym (run-refused (instructions words) a r e more l h) ∙ left)

        -- where the next instruction is a `return`, it ends the instant
        pub left_over : r.number ≤ accepted_number → r.over ≡ true
            → record { number = accepted_number; state = r.at.state } ≡ answer s (run_instant P readings times (instructions words) s)
        left_over h y = ap (answer s) (sym (run-over (instructions words) a r e more l h y) ∙ left)

        -- after any other instruction, one less is left
        pub left_less : r.number ≤ accepted_number → r.over ≡ false → Left (more - 1) r.at
        left_less h y = sym (run-goes (instructions words) a r e more l h y) ∙ left
