-- 18 is given exactly when two suppliers run in one tick.
use Prim.Native.Nat.{ℕ, zero, suc, ◌<◌}
use mathlib.Core.Path.{◌≡◌, refl, sym, ap, subst, ◌∙◌}
use mathlib.Core.Bool.{true, false}
use mathlib.Core.List.{List}
use mathlib.Core.Logic.{◌↔◌}
use native.Mathlib.Omega.{arith}
use native.Mathlib.Decide.{dec_lt}
use lib.IntN.{ℤ}
use Rattle.theory.proofs.Bools.{clash}
use Rattle.cells.specs.Limits.{suppliers}
use Rattle.cells.specs.Refusals.{collision_refused}
use Rattle.program.specs.Program.{Program}
use Rattle.runs.specs.Tick.{Act, rest, work, runs}
use Rattle.machine.specs.declared.State.{State}
use Rattle.machine.specs.Instant.{stop}
use Rattle.machine.specs.Schedules.{Who, nobody, one, several, join, who_runs, act_of, running, Collision, ticked, tick_all}
use Rattle.machine.proofs.Outcomes.{ok-not-stop, stopped, not-nobody, not-one}

-- what is known of the suppliers below n when so many of them run
abbrev pub Known : (ℕ → Act) → ℕ → Who → Type 0
Known acts n nobody = (i : ℕ) → i < n → runs (acts i) ≡ false
Known acts n (one t) = (i : ℕ) × (i < n) × (acts i ≡ work t) × ((j : ℕ) → j < n → runs (acts j) ≡ true → j ≡ i)
Known acts n several = (i : ℕ) × (j : ℕ) × (i < j) × (j < n) × (runs (acts i) ≡ true) × (runs (acts j) ≡ true)

more : (acts : ℕ → Act) (n : ℕ) (w : Who) (a : Act) → acts n ≡ a → Known acts n w → Known acts (suc n) (join w a)
more acts n nobody rest e k = λ i l. go i l (dec_lt i n)
  where
    go : (i : ℕ) → i < suc n → Dec (i < n) → runs (acts i) ≡ false
    go i l (yes b) = k i b
    go i l (no b) = let z : i ≡ n = omega arith in rw (z, e)
more acts n nobody (work t) e k = (n, omega arith, e, λ j l r. go j l r (dec_lt j n))
  where
    go : (j : ℕ) → j < suc n → runs (acts j) ≡ true → Dec (j < n) → j ≡ n
    go j l r (yes b) = clash r (k j b)
    go j l r (no b) = omega arith
more acts n (one t) rest e k = (k.0, omega (arith, k.1), k.2, λ j l r. go j l r (dec_lt j n))
  where
    go : (j : ℕ) → j < suc n → runs (acts j) ≡ true → Dec (j < n) → j ≡ k.0
    go j l r (yes b) = k.3 j b r
    go j l r (no b) = let z : j ≡ n = omega arith in clash (subst (λ (x : ℕ). runs (acts x) ≡ true) z r) (ap runs e)
more acts n (one t) (work u) e k = (k.0, n, k.1, omega arith, ap runs k.2, ap runs e)
more acts n several rest e k = (k.0, k.1, k.2, omega (arith, k.3), k.4, k.5)
more acts n several (work t) e k = (k.0, k.1, k.2, omega (arith, k.3), k.4, k.5)

-- what is known when so many run holds of whoever runs
pub known : (acts : ℕ → Act) (n : ℕ) → Known acts n (who_runs acts n)
known acts zero = λ i l. absurd (omega arith)
known acts (suc n) = more acts n (who_runs acts n) (acts n) refl (known acts n)

-- where two suppliers run, several do
two-are-several : (acts : ℕ → Act) (n i j : ℕ) → i < j → j < n → runs (acts i) ≡ true → runs (acts j) ≡ true → who_runs acts n ≡ several
two-are-several acts n i j l b p q = go (who_runs acts n) refl (known acts n)
  where
    go : (w : Who) → who_runs acts n ≡ w → Known acts n w → who_runs acts n ≡ several
    go nobody e k = clash q (k j b)
    go (one t) e k = absurd (omega (arith, k.3 i (omega arith) p, k.3 j b q))
    go several e k = e

-- several run exactly where two suppliers run in one tick (18)
pub collides : (S : List ℤ) (s : State) → (running S s ≡ several) ↔ Collision S s
collides S s = (there, λ c. two-are-several (act_of S s) suppliers c.one-supplier c.other-supplier c.apart c.in-range c.one-runs c.other-runs)
  where
    there : running S s ≡ several → Collision S s
    there e =
        let k : Known (act_of S s) suppliers several = subst (Known (act_of S s) suppliers) e (known (act_of S s) suppliers) in
        record { one-supplier = k.0; other-supplier = k.1; apart = k.2; in-range = k.3; one-runs = k.4; other-runs = k.5 }

-- a tick is refused, with 18, exactly where two suppliers run in it
pub tick-refused : (P : Program) (S results : List ℤ) (s : State) (n : ℕ)
    → (tick_all P S results s ≡ stop n) ↔ ((n ≡ collision_refused) × Collision S s)
tick-refused P S results s n = go (running S s) refl
  where
    go : (w : Who) → running S s ≡ w → (ticked P S results s w ≡ stop n) ↔ ((n ≡ collision_refused) × Collision S s)
    go nobody e = (λ q. absurd (ok-not-stop q), λ c. absurd (not-nobody (sym e ∙ (collides S s).1 c.1)))
    go (one t) e = (λ q. absurd (ok-not-stop q), λ c. absurd (not-one (sym e ∙ (collides S s).1 c.1)))
    go several e = (λ q. (sym (stopped q), (collides S s).0 e), λ c. ap stop (sym c.0))
