-- The tests at an instruction decide the claims of specs/Comes.antt: which number it is refused with, that it is passed, that it is a
-- `return`; so a stretch of instructions is one in the claims' words, and so is the end of an instant.
use Prim.Native.Nat.{ℕ, zero, suc}
use mathlib.Core.Path.{◌≡◌, refl, sym, ap, subst}
use mathlib.Core.Bool.{Bool, true, false}
use mathlib.Core.Logic.{◌⊎◌, inl, inr, ◌↔◌}
use native.Mathlib.Omega.{arith}
use lib.ListN.{length}
use Rattle.theory.specs.Claim.{Says}
use Rattle.theory.specs.Verdict.{accepted_number, or_else}
use Rattle.theory.proofs.Bools.{clash, is_false}
use Rattle.cells.specs.Refusals.{time_refused, overrun_refused, faulty_refused}
use Rattle.code.specs.Op.{Op, call, schedule, branch, jump, future, return, faulty}
use Rattle.machine.specs.declared.State.{State}
use Rattle.machine.specs.declared.At.{At}
use Rattle.machine.specs.Instruction.{is_faulty, time_bad, TimeBad, still_running, StillRunning, executes}
use Rattle.machine.specs.Instant.{is_return, refusal_at, Goes, Ends}
use Rattle.machine.specs.Advance.{Advance}
use Rattle.machine.specs.Comes.{program, code, instant_start, standing, FaultyAt, TimeBadAt, RunningAt, Passed, Comes, Returns}
use Rattle.machine.proofs.Instructions.{faulty-says, time-says, running-says}

-- the test of a `return` says that the instruction is `return`
return-says : (o : Op) → Says (is_return o) (o ≡ return)
return-says o = record { yes = is o; no = λ e q. clash (ap is_return q) e }
  where
    is : (o : Op) → is_return o ≡ true → o ≡ return
    is (call c) e = clash {b = false} e refl
    is (schedule t) e = clash {b = false} e refl
    is (branch d a) e = clash {b = false} e refl
    is (jump a) e = clash {b = false} e refl
    is (future d a) e = clash {b = false} e refl
    is return e = refl
    is faulty e = clash {b = false} e refl

module _ (F T R : Type 0) where
  -- of 19, 16 and 17 in this order, n is the first that applies, or 0
  abbrev pub Order : ℕ → Type 0
  Order n =
      ((n ≡ faulty_refused) × F)
      ⊎ (((n ≡ time_refused) × (F → ⊥) × T)
      ⊎ (((n ≡ overrun_refused) × (F → ⊥) × (T → ⊥) × R) ⊎ ((n ≡ accepted_number) × (F → ⊥) × (T → ⊥) × (R → ⊥))))

  in_order : (f t r : Bool) → Says f F → Says t T → Says r R → (n : ℕ)
      → (or_else f faulty_refused (or_else t time_refused (or_else r overrun_refused accepted_number)) ≡ n) ↔ Order n
  in_order true t r s m w n = (λ e. inl (sym e, s.yes refl), back)
    where
      back : Order n → faulty_refused ≡ n
      back (inl x) = sym x.0
      back (inr (inl x)) = absurd (x.1 (s.yes refl))
      back (inr (inr (inl x))) = absurd (x.1 (s.yes refl))
      back (inr (inr (inr x))) = absurd (x.1 (s.yes refl))
  in_order false true r s m w n = (λ e. inr (inl (sym e, s.no refl, m.yes refl)), back)
    where
      back : Order n → time_refused ≡ n
      back (inl x) = absurd (s.no refl x.1)
      back (inr (inl x)) = sym x.0
      back (inr (inr (inl x))) = absurd (x.2 (m.yes refl))
      back (inr (inr (inr x))) = absurd (x.2 (m.yes refl))
  in_order false false true s m w n = (λ e. inr (inr (inl (sym e, s.no refl, m.no refl, w.yes refl))), back)
    where
      back : Order n → overrun_refused ≡ n
      back (inl x) = absurd (s.no refl x.1)
      back (inr (inl x)) = absurd (m.no refl x.2)
      back (inr (inr (inl x))) = sym x.0
      back (inr (inr (inr x))) = absurd (x.3 (w.yes refl))
  in_order false false false s m w n = (λ e. inr (inr (inr (sym e, s.no refl, m.no refl, w.no refl))), back)
    where
      back : Order n → 0 ≡ n
      back (inl x) = absurd (s.no refl x.1)
      back (inr (inl x)) = absurd (m.no refl x.2)
      back (inr (inr (inl x))) = absurd (w.no refl x.3)
      back (inr (inr (inr x))) = sym x.0

module _ (L : Advance) where
  -- the number that the tests at an instruction give, what follows it, a stretch of instructions
  abbrev number : At → ℕ
  number a = refusal_at (program L) L.lent.readings L.lent.times (code L) a

  abbrev next : At → At
  next a = executes (program L) L.lent.readings L.lent.times (standing L a) a

  abbrev Stretch : ℕ → At → At → Type 0
  Stretch n a b = Goes (program L) L.lent.readings L.lent.times (code L) n a b

  -- the number that the tests give is that of the claims: "at one instruction the order is 20, 19, 16, 17"
  pub instruction-refused : (a : At) (n : ℕ) → (number a ≡ n) ↔ Order (FaultyAt L a) (TimeBadAt L a) (RunningAt L a) n
  instruction-refused a n =
      in_order (FaultyAt L a) (TimeBadAt L a) (RunningAt L a)
      (is_faulty (program L) (length (code L)) a.planned (standing L a)) (time_bad (program L) L.lent.times (standing L a))
      (still_running a.state (standing L a))
      (faulty-says (program L) (length (code L)) a.planned (standing L a)) (time-says (program L) L.lent.times (standing L a))
      (running-says a.state (standing L a)) n

  -- of an instruction that no test refuses, no claim of a refusal holds
  cleared : (a : At) → number a ≡ accepted_number → (FaultyAt L a → ⊥) × (TimeBadAt L a → ⊥) × (RunningAt L a → ⊥)
  cleared a r = go ((instruction-refused a accepted_number).0 r)
    where
      go : Order (FaultyAt L a) (TimeBadAt L a) (RunningAt L a) 0 → (FaultyAt L a → ⊥) × (TimeBadAt L a → ⊥) × (RunningAt L a → ⊥)
      go (inl x) = absurd (omega (arith, x.0))
      go (inr (inl x)) = absurd (omega (arith, x.0))
      go (inr (inr (inl x))) = absurd (omega (arith, x.0))
      go (inr (inr (inr x))) = (x.1, x.2, x.3)

  -- a `return` releases and ends no task
  only-faulty : (a : At) → standing L a ≡ return → (TimeBadAt L a → ⊥) × (RunningAt L a → ⊥)
  only-faulty a e = (
    λ t. subst (TimeBad (program L) L.lent.times) e t,
    λ r. subst (StillRunning a.state) e r,
  )

  -- an instruction is passed exactly where no test refuses it and it is no `return`
  passed-says : (a : At) → Passed L a ↔ ((number a ≡ accepted_number) × (is_return (standing L a) ≡ false))
  passed-says a = (there, back)
    where
      there : Passed L a → (number a ≡ accepted_number) × (is_return (standing L a) ≡ false)
      there p = (
        (instruction-refused a accepted_number).1 (inr (inr (inr (refl, p.not-faulty, p.in-time, p.not-running)))),
        is_false (return-says (standing L a)) p.no_return,
      )

      back : (number a ≡ accepted_number) × (is_return (standing L a) ≡ false) → Passed L a
      back (r, i) =
          let c = cleared a r in
          record { not-faulty = c.0; in-time = c.1; not-running = c.2; no_return = (return-says (standing L a)).no i }

  -- a stretch goes on with one instruction more at its end
  more : (n : ℕ) (a b c : At) → Stretch n a b → number b ≡ accepted_number → is_return (standing L b) ≡ false → next b ≡ c
      → Stretch (suc n) a c
  more zero a b c e r i q = subst (λ (x : At). Stretch 1 x c) (sym e) (r, i, q)
  more (suc n) a b c g r i q = (g.0, g.1, more n (next a) b c g.2 r i q)

  -- a stretch of some instructions has a last one
  last_of : (n : ℕ) (a c : At) → Stretch (suc n) a c → (b : At) × Stretch n a b × (number b ≡ accepted_number) × (is_return (standing L b) ≡ false) × (next b ≡ c)
  last_of zero a c g = (a, refl, g.0, g.1, g.2)
  last_of (suc n) a c g = let (b, s, r, i, q) = last_of n (next a) c g.2 in (b, (g.0, g.1, s), r, i, q)

  -- the claims' stretch from the instant's begin is that of the tests
  pub comes-goes : (n : ℕ) (a : At) → Comes L n a → Stretch n (instant_start L) a
  comes-goes zero a e = e
  comes-goes (suc n) a (b, c, p, q) = let w = (passed-says b).0 p in more n (instant_start L) b a (comes-goes n b c) w.0 w.1 q

  pub goes-comes : (n : ℕ) (a : At) → Stretch n (instant_start L) a → Comes L n a
  goes-comes zero a e = e
  goes-comes (suc n) a g = let (b, s, r, i, q) = last_of n (instant_start L) a g in (b, goes-comes n b s, (passed-says b).1 (r, i), q)

  -- an instant that ends by the tests does so in the words of the claims
  pub returns : (u : State) → Returns L u
      ↔ ((L.state.remaining ≡ 0) × Ends (program L) L.lent.readings L.lent.times (code L) (length (code L)) (instant_start L) u)
  returns u = (there, back)
    where
      there : Returns L u → (L.state.remaining ≡ 0) × Ends (program L) L.lent.readings L.lent.times (code L) (length (code L)) (instant_start L) u
      there w = (
        w.reaches.no-tick-left,
        record {
          before = w.reaches.before;
          last = w.at;
          in_count = w.reaches.in_count;
          goes = comes-goes w.reaches.before w.at w.reaches.comes;
          not-refused = (instruction-refused w.at accepted_number).1 (inr (inr (inr (refl, w.not-faulty, (only-faulty w.at w.is-return).0, (only-faulty w.at w.is-return).1))));
          returns = ap is_return w.is-return;
          leaves = w.leaves;
        },
      )

      back : (L.state.remaining ≡ 0) × Ends (program L) L.lent.readings L.lent.times (code L) (length (code L)) (instant_start L) u → Returns L u
      back (z, w) = record {
        at = w.last;
        reaches = record { no-tick-left = z; before = w.before; in_count = w.in_count; comes = goes-comes w.before w.last w.goes };
        is-return = (return-says (standing L w.last)).yes w.returns;
        not-faulty = (cleared w.last w.not-refused).0;
        leaves = w.leaves;
      }
