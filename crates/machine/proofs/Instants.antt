-- An instant ends, is refused, or has run all its instructions, exactly as the claims of specs/Instant.antt say.
use Prim.Native.Nat.{ℕ, zero, suc, ◌-◌, ◌≤◌, ◌<◌}
use mathlib.Core.Path.{◌≡◌, refl, sym, ap, subst, ◌∙◌}
use mathlib.Core.Bool.{Bool, true, false}
use mathlib.Core.List.{List}
use mathlib.Core.Logic.{◌⊎◌, inl, inr, ◌↔◌}
use native.Mathlib.Omega.{arith}
use lib.Dec.{ltb}
use lib.IntN.{ℤ}
use lib.ListN.{length}
use borrow.Author.Tests.{ltb-true, ltb-false, lt-ltb, le-ltb}
use Rattle.theory.specs.Verdict.{accepted_number}
use Rattle.cells.specs.Refusals.{faulty_refused, count_refused}
use Rattle.program.specs.Program.{Program}
use Rattle.code.specs.Op.{Op}
use Rattle.machine.specs.declared.State.{State}
use Rattle.machine.specs.declared.At.{At}
use Rattle.machine.specs.Instruction.{executes}
use Rattle.machine.specs.Instant.{Outcome, ok, stop, ran_out, is_return, fetch, refusal_at, run_from, start_at, run_instant, Goes, Ends}
use Rattle.machine.specs.Instant.{RefusedAt, Spent}

module _ (P : Program) (readings times : List ℤ) (code : List Op) where
  -- the claim of what a run comes to
  abbrev Claim : ℕ → At → Outcome → Type 0
  Claim count a (ok s) = Ends P readings times code count a s
  Claim count a (stop n) = RefusedAt P readings times code count a n ⊎ Spent P readings times code count a n

  -- the claim of a run holds with one instruction more at its front
  further : (count : ℕ) (a : At) → refusal_at P readings times code a ≡ accepted_number → is_return (fetch P readings times code a) ≡ false
      → (o : Outcome) → Claim count (executes P readings times (fetch P readings times code a) a) o → Claim (suc count) a o
  further count a r n (ok s) c = record {
    before = suc c.before;
    last = c.last;
    in_count = omega (arith, c.in_count);
    goes = (r, n, c.goes);
    not-refused = c.not-refused;
    returns = c.returns;
    leaves = c.leaves;
  }
  further count a r n (stop v) (inl c) = inl (record {
    before = suc c.before;
    last = c.last;
    in_count = omega (arith, c.in_count);
    goes = (r, n, c.goes);
    some_number = c.some_number;
    refused = c.refused;
  })
  further count a r n (stop v) (inr c) = inr (record { last = c.last; goes = (r, n, c.goes); spent = c.spent })

  -- every run comes to what it claims
  comes : (count : ℕ) (a : At) → Claim count a (run_from P readings times code count a)
  comes zero a = go (ltb a.address (length code)) refl
    where
      go : (b : Bool) → ltb a.address (length code) ≡ b → Claim 0 a (elim b [ true ↦ stop count_refused | false ↦ stop faulty_refused ])
      go true e = inr (record { last = a; goes = refl; spent = inl (ltb-true a.address (length code) e, refl) })
      go false e = inr (record { last = a; goes = refl; spent = inr (ltb-false a.address (length code) e, refl) })
  comes (suc count) a =
      go (refusal_at P readings times code a) refl (is_return (fetch P readings times code a)) refl (comes count (executes P readings times (fetch P readings times code a) a))
    where
      next : At
      next = executes P readings times (fetch P readings times code a) a

      go : (r : ℕ) → refusal_at P readings times code a ≡ r → (b : Bool) → is_return (fetch P readings times code a) ≡ b
          → Claim count next (run_from P readings times code count next)
          → Claim (suc count) a (elim r [ zero ↦ elim b [ true ↦ ok a.state | false ↦ run_from P readings times code count next ] | suc n ↦ stop (suc n) ])
      go zero e true f c = record { before = 0; last = a; in_count = omega arith; goes = refl; not-refused = e; returns = f; leaves = refl }
      go zero e false f c = further count a e f (run_from P readings times code count next) c
      go (suc n) e true f c = inl (record { before = 0; last = a; in_count = omega arith; goes = refl; some_number = omega arith; refused = e })
      go (suc n) e false f c = inl (record { before = 0; last = a; in_count = omega arith; goes = refl; some_number = omega arith; refused = e })

  -- an instruction that is not refused and no `return` uses up one of the count
  pub passes : (count : ℕ) (a : At) → refusal_at P readings times code a ≡ accepted_number → is_return (fetch P readings times code a) ≡ false
      → run_from P readings times code (suc count) a ≡ run_from P readings times code count (executes P readings times (fetch P readings times code a) a)
  passes count a r e = rw (r, run_from) (rw e)

  -- a stretch of n instructions is followed, and uses up n of the count
  pub follow : (n count : ℕ) (a b : At) → n ≤ count → Goes P readings times code n a b
      → run_from P readings times code count a ≡ run_from P readings times code (count - n) b
  follow zero count a b l e =
      let z : count ≡ count - 0 = omega arith in
      ap (run_from P readings times code count) e ∙ ap (λ (c : ℕ). run_from P readings times code c b) z
  follow (suc n) zero a b l g = absurd (omega arith)
  follow (suc n) (suc count) a b l g =
      let z : count - n ≡ suc count - suc n = omega arith in
      passes count a g.0 g.1
      ∙ follow n count (executes P readings times (fetch P readings times code a) a) b (omega arith) g.2
      ∙ ap (λ (c : ℕ). run_from P readings times code c b) z

  -- a `return` that is not refused ends the run
  pub at_return : (count : ℕ) (a : At) → refusal_at P readings times code a ≡ accepted_number → is_return (fetch P readings times code a) ≡ true → run_from P readings times code (suc count) a ≡ ok a.state
  at_return count a r e = rw (r, run_from) (rw e)

  -- an instruction that is refused ends the run, with its number
  pub at-refusal : (count : ℕ) (a : At) (n : ℕ) → accepted_number < n → refusal_at P readings times code a ≡ n → run_from P readings times code (suc count) a ≡ stop n
  at-refusal count a zero l r = absurd (omega arith)
  at-refusal count a (suc n) l r = rw (r, run_from)

  -- an instant ends and leaves s exactly as its claim says
  pub instant-ends : (u s : State) → (run_instant P readings times code u ≡ ok s) ↔ Ends P readings times code (length code) (start_at P readings times code u) s
  instant-ends u s = (
    λ e. subst (Claim (length code) (start_at P readings times code u)) e (comes (length code) (start_at P readings times code u)),
    λ c.
        let z : length code - c.before ≡ suc (length code - suc c.before) = omega (arith, c.in_count) in
        follow c.before (length code) (start_at P readings times code u) c.last (omega (arith, c.in_count)) c.goes
        ∙ ap (λ (k : ℕ). run_from P readings times code k c.last) z
        ∙ at_return (length code - suc c.before) c.last c.not-refused c.returns
        ∙ ap ok c.leaves,
  )

  -- an instant is refused with n exactly as its claims say
  pub instant-stops : (u : State) (n : ℕ)
      → (run_instant P readings times code u ≡ stop n)
      ↔ (RefusedAt P readings times code (length code) (start_at P readings times code u) n ⊎ Spent P readings times code (length code) (start_at P readings times code u) n)
  instant-stops u n =
      (λ e. subst (Claim (length code) (start_at P readings times code u)) e (comes (length code) (start_at P readings times code u)), back)
    where
      a : At
      a = start_at P readings times code u

      ending : (b : At) → ((b.address < length code) × (n ≡ count_refused)) ⊎ ((length code ≤ b.address) × (n ≡ faulty_refused)) → run_from P readings times code 0 b ≡ stop n
      ending b (inl x) = rw (lt-ltb b.address (length code) x.0, ran_out) (ap stop (sym x.1))
      ending b (inr x) = rw (le-ltb b.address (length code) x.0, ran_out) (ap stop (sym x.1))

      back : RefusedAt P readings times code (length code) a n ⊎ Spent P readings times code (length code) a n → run_from P readings times code (length code) a ≡ stop n
      back (inl c) =
          let z : length code - c.before ≡ suc (length code - suc c.before) = omega (arith, c.in_count) in
          follow c.before (length code) a c.last (omega (arith, c.in_count)) c.goes
          ∙ ap (λ (k : ℕ). run_from P readings times code k c.last) z
          ∙ at-refusal (length code - suc c.before) c.last n c.some_number c.refused
      back (inr c) =
          let z : length code - length code ≡ 0 = omega arith in
          follow (length code) (length code) a c.last (omega arith) c.goes
          ∙ ap (λ (k : ℕ). run_from P readings times code k c.last) z
          ∙ ending c.last c.spent
