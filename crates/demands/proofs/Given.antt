-- The composed run by Giotto's execution alone: what is lent as `Given` asks is suited at every tick, and the results computed from the
-- execution are what it asks for. The premises are the statements'.
use Prim.Native.Nat.{ℕ, zero, suc, ◌<◌}
use mathlib.Core.Path.{◌≡◌, refl, sym, ap, subst, ◌∙◌}
use mathlib.Core.Bool.{Bool, true}
use mathlib.Core.List.{List}
use mathlib.Core.Logic.{◌↔◌}
use native.Mathlib.Decide.{dec_lt}
use native.Mathlib.Omega.{arith}
use lib.IntN.{ℤ, pos}
use lib.ListN.{replicate}
use Rattle.theory.specs.Lists.{those, gather, member, Put}
use Rattle.theory.specs.Verdict.{accepted_number}
use Rattle.theory.proofs.Members.{has-those, has-gather}
use Rattle.theory.proofs.Puts.{Wrote, puts-length, puts-at}
use Rattle.cells.specs.Limits.{max_ports, max_tasks}
use Rattle.program.specs.Tables.{Tables}
use Rattle.program.specs.Program.{Program, program_of, task}
use Rattle.program.specs.Ports.{value_of, assigned}
use Rattle.program.proofs.Decoded.{given-declared}
use Rattle.program.proofs.Ports.{assigned-exactly}
use Rattle.rules.specs.Verdict.{program_verdict}
use Rattle.rules.proofs.Shape.{ports-few, tasks-few}
use Rattle.rules.proofs.Accepted.{accepted-shaped}
use Rattle.giotto.specs.Instant.{Configuration, Function, results}
use Rattle.giotto.specs.Execution.{execution}
use Rattle.giotto.proofs.ModeTasks.{active-declared, active-one}
use Rattle.machine.specs.Advance.{Lent}
use Rattle.composed.specs.Suited.{Suited}
use Rattle.composed.proofs.Given.{given-suits}
use Rattle.demands.specs.Composed.{System, Accepted, joined, state_at, configuration_at, SuitedAt}
use Rattle.demands.specs.Given.{Given, GivenFair, GivenRight, result_puts, results_of, lent_by, GivenMet, ExecutionRight}
use Rattle.demands.proofs.Sound.{accepted-sound}
use Rattle.demands.proofs.Composed.{is-compiled, related-always, composed-run}

module _ (Y : System) (a : Accepted Y) (F : Function) (lents : ℕ → Lent) where
  -- a tick that is lent what is asked for is suited, where those before it are
  suited-next : (n : ℕ) → ((k : ℕ) → k < n → SuitedAt Y F lents k) → Given (program_of Y.tables) F lents n → SuitedAt Y F lents n
  suited-next n f g =
      subst (λ (ws : List ℕ). Suited Y.tables ws (joined Y) F n (configuration_at Y F lents n) (state_at Y lents n) (lents n))
      (sym (is-compiled Y a F lents))
      (given-suits Y.tables Y.windows (joined Y) F n (configuration_at Y F lents n) (state_at Y lents n) (lents n)
      (accepted-sound Y a) (related-always Y a F lents n f) g.readings-length g.results-length g.times-length g.times g.results)

  -- all ticks below n that are lent what is asked for are suited
  suited-below : (n : ℕ) → ((k : ℕ) → k < n → Given (program_of Y.tables) F lents k) → (k : ℕ) → k < n → SuitedAt Y F lents k
  suited-below zero g = λ k l. absurd (omega arith)
  suited-below (suc n) g = λ k l. go k l (dec_lt k n) (suited-below n (λ j b. g j (omega arith)))
    where
      go : (k : ℕ) → k < suc n → Dec (k < n) → ((j : ℕ) → j < n → SuitedAt Y F lents j) → SuitedAt Y F lents k
      go k l (yes b) f = f k b
      go k l (no b) f =
          let e : n ≡ k = omega arith in subst (SuitedAt Y F lents) e (suited-next n f (g n (omega arith)))

-- what is lent as asked for meets the premises of the composed run, so every tick is right
pub given-suited : GivenFair
given-suited Y a F lents n g = suited-below Y a F lents (suc n) (λ k l. g k (omega arith)) n (omega arith)

pub given-right : GivenRight
given-right Y a F lents n g = (composed-run Y a).1 F lents n (λ k l. given-suited Y a F lents k (λ j b. g j (omega arith)))

-- where the tasks that pass give values for these ports, p gets x exactly where p is a port of one of them, which gives x for it
gives-exactly : (pass : ℕ → Bool) (value : ℕ → ℕ → ℤ) (outputs : ℕ → List ℕ) (n p : ℕ) (x : ℤ)
    → Wrote (gather (λ t. assigned (value t) (outputs t)) (those pass (λ t. t) n 0)) p x
    ↔ ((t : ℕ) × (t < n) × (pass t ≡ true) × (member p (outputs t) ≡ true) × (x ≡ value t p))
gives-exactly pass value outputs n p x =
    let parts = has-gather (λ (b : Put). (b.place ≡ p) × (x ≡ b.value)) (λ t. assigned (value t) (outputs t)) (those pass (λ t. t) n 0) in
    let rows = has-those (λ t. Wrote (assigned (value t) (outputs t)) p x) pass (λ t. t) n in (
      λ w.
          let (t, l, e, h) = rows.0 (parts.0 w) in
          let (m, q) = (assigned-exactly (value t) (outputs t) p x).0 h in (t, l, e, m, q),
      λ (t, l, e, m, q). parts.1 (rows.1 (t, l, e, (assigned-exactly (value t) (outputs t) p x).1 (m, q))),
    )

-- for a port that an active task gives the results have what it gives: no two active tasks give one port
given-at : (T : Tables) → program_verdict T ≡ accepted_number → (F : Function) (readings : ℕ → List ℤ) (n t p : ℕ)
    → let C = execution (program_of T) F readings (suc n) in
    C.active t ≡ true → member p (task (program_of T) t).gives ≡ true
    → value_of (results_of (program_of T) F C) p ≡ results (program_of T) F C.ports t p
given-at T a F readings n t p e m =
    puts-at (pos 0) (result_puts P F C) (replicate max_ports (pos 0)) p (value t p)
    (omega (arith, ports-few T (accepted-shaped T a), given-declared T t p m))
    ((exactly (value t p)).1 (t, few, e, m, refl))
    (λ y w. one y ((exactly y).0 w))
  where
    P : Program
    P = program_of T

    C : Configuration
    C = execution P F readings (suc n)

    value : ℕ → ℕ → ℤ
    value = results P F C.ports

    few : t < max_tasks
    few = omega (arith, active-declared T a F readings (suc n) t e, tasks-few T (accepted-shaped T a))

    exactly : (x : ℤ) → Wrote (result_puts P F C) p x
        ↔ ((t : ℕ) × (t < max_tasks) × (C.active t ≡ true) × (member p (task P t).gives ≡ true) × (x ≡ value t p))
    exactly x = gives-exactly C.active value (λ t. (task P t).gives) max_tasks p x

    one : (y : ℤ) → (u : ℕ) × (u < max_tasks) × (C.active u ≡ true) × (member p (task P u).gives ≡ true) × (y ≡ value u p) → y ≡ value t p
    one y (u, l, d, o, q) = q ∙ ap (λ (u : ℕ). value u p) (active-one T a F readings (suc n) u t p d e o m)

-- the results computed from the execution are those asked for
pub given-met : GivenMet
given-met T a F readings times f n = record {
  readings-length = f.readings-length n;
  results-length = simp puts-length;
  times-length = f.times-length n;
  times = f.in-range n;
  results = λ t p e m. given-at T a F readings n t p e m;
}

-- every accepted system runs as Giotto's execution
pub execution-right : ExecutionRight
execution-right Y a F readings times f n =
    given-right Y a F (lent_by (program_of Y.tables) F readings times) n
    (λ k l. given-met Y.tables (accepted-sound Y a).accepted F readings times f k)
