-- The premises of the composed run can be met: for any readings, any times in range and any task function there are results
-- that meet them at every tick; and with worst-case times nothing but the readings' length is asked for.
-- Assumes that program and windows are accepted.
use Prim.Native.Nat.{ℕ, zero, suc, ◌<◌}
use mathlib.Core.Path.{◌≡◌, refl, ap, subst, ◌∙◌}
use mathlib.Core.Bool.{true}
use mathlib.Core.List.{List}
use native.Mathlib.Omega.{arith}
use lib.IntN.{ℤ, pos}
use lib.ListN.{length, replicate}
use Rattle.theory.specs.Lists.{member}
use Rattle.theory.specs.Verdict.{accepted_number}
use Rattle.theory.proofs.Lists.{each-length, each_at}
use Rattle.theory.proofs.Puts.{puts-length}
use Rattle.cells.specs.Cell.{index_of, num_at}
use Rattle.cells.specs.Limits.{max_ports, max_tasks}
use Rattle.program.specs.Tables.{Tables, task_count}
use Rattle.program.specs.Program.{Program, program_of, task}
use Rattle.program.specs.Ports.{value_of, assigned}
use Rattle.program.proofs.Decoded.{task-row, given-declared}
use Rattle.program.proofs.Ports.{assigned-at}
use Rattle.rules.specs.Fields.{InRange}
use Rattle.rules.specs.Verdict.{program_verdict}
use Rattle.rules.proofs.Shape.{ports-few, tasks-few}
use Rattle.rules.proofs.Accepted.{accepted-shaped, accepted-fields}
use Rattle.code.specs.Op.{instructions}
use Rattle.suppliers.specs.Windows.{windows_verdict}
use Rattle.suppliers.proofs.Accepted.{windows-accepted}
use Rattle.giotto.specs.Instant.{Function, results}
use Rattle.giotto.specs.Execution.{released_at}
use Rattle.giotto.proofs.Released.{released-declared}
use Rattle.machine.specs.Instant.{Outcome, ok, stop}
use Rattle.machine.specs.Schedules.{Who, nobody, one, several, running}
use Rattle.machine.specs.Advance.{ready}
use Rattle.machine.specs.declared.State.{State}
use Rattle.demands.specs.Composed.{System, joined, code, advanced, state_at, SuitedAt}
use Rattle.demands.specs.Supplied.{given_by, given_in, lent_to, history, supplied, worst_times, SuppliedRight}
use Rattle.demands.specs.Given.{LentFits}
use Rattle.demands.proofs.Composed.{composed-run}

module _ (Y : System) (F : Function) (readings times : ℕ → List ℤ) where
  abbrev P : Program
  P = program_of Y.tables

  -- the run with these results goes through these states
  pub state-is-history : (n : ℕ) → state_at Y (supplied Y F readings times) n ≡ history Y F readings times n
  state-is-history zero = refl
  state-is-history (suc n) =
      ap (λ (s : State). (advanced Y (lent_to Y F readings times n (history Y F readings times n)) s).state) (state-is-history n)

  -- there is a result for every port
  given-length : (o : Outcome) → length (given_in Y F readings times o) ≡ max_ports
  given-length (ok u) = go (running (joined Y) u)
    where
      go : (w : Who) → length (given_by P F u w) ≡ max_ports
      go nobody = refl
      go (one t) = puts-length (assigned (results P F u.ports t) (task P t).gives) (replicate max_ports (pos 0))
      go several = refl
  given-length (stop n) = refl

  -- for a port that the task gives which runs, the result is that of the task function
  given-right : (u : State) (t p : ℕ) → p < max_ports → running (joined Y) u ≡ one t → member p (task P t).gives ≡ true
      → value_of (given_by P F u (running (joined Y) u)) p ≡ results P F u.ports t p
  given-right u t p l e m =
      ap (λ (w : Who). value_of (given_by P F u w) p) e
      ∙ assigned-at (results P F u.ports t) (task P t).gives (replicate max_ports (pos 0)) p l m

  -- the premises of the composed run hold at every tick
  pub premises-met : windows_verdict (record { tables = Y.tables; windows = Y.windows }) ≡ accepted_number
      → ((n : ℕ) → length (readings n) ≡ max_ports)
      → ((n : ℕ) → length (times n) ≡ max_tasks)
      → ((n t : ℕ) → member t (released_at P F readings n) ≡ true → InRange (num_at (times n) t) (task P t).worst)
      → (n : ℕ) → SuitedAt Y F (supplied Y F readings times) n
  premises-met w rl tl tr n =
      record {
        readings-length = rl n;
        results-length = given-length (outcome (history Y F readings times n));
        times-length = tl n;
        times = tr n;
        results = λ u t p e r k m.
            let h : outcome (history Y F readings times n) ≡ ok u = subst (λ (s : State). outcome s ≡ ok u) (state-is-history n) e in
            ap (λ (o : Outcome). value_of (given_in Y F readings times o) p) h ∙ given-right u t p (inside t p m) r m;
      }
    where
      outcome : State → Outcome
      outcome s = ready P (instructions (code Y)) (readings n) (times n) s

      inside : (t p : ℕ) → member p (task P t).gives ≡ true → p < max_ports
      inside t p m =
          omega (arith, ports-few Y.tables (accepted-shaped Y.tables (windows-accepted _ w)), given-declared Y.tables t p m)

-- the worst-case time of a declared task is in range
worst-in-range : (T : Tables) → program_verdict T ≡ accepted_number → (t : ℕ) → t < task_count T
    → InRange (num_at (worst_times (program_of T)) t) (task (program_of T) t).worst
unfolding num_at
worst-in-range T a t l =
    let few : t < max_tasks = omega (arith, tasks-few T (accepted-shaped T a)) in
    let e = ap index_of (each_at (λ t. pos (task (program_of T) t).worst) max_tasks t (pos 0) few) in
    let f = ((accepted-fields T a).tasks t l).worst.0 in
    rw (e, task-row T t l) (f, omega arith)

-- worst-case times are in range, with any task function and any readings
pub worst-fed : (T : Tables) → program_verdict T ≡ accepted_number → (F : Function) (readings : ℕ → List ℤ)
    → ((n : ℕ) → length (readings n) ≡ max_ports)
    → LentFits (program_of T) F readings (λ n. worst_times (program_of T))
worst-fed T a F readings l = record {
  readings-length = l;
  times-length = λ n. each-length (λ t. pos (task (program_of T) t).worst) max_tasks 0;
  in-range = λ n t m. worst-in-range T a t (released-declared T (accepted-fields T a) F readings n t m);
}

-- with worst-case times every tick is suited
pub worst-case-suited : (Y : System) → windows_verdict (record { tables = Y.tables; windows = Y.windows }) ≡ accepted_number
    → (F : Function) (readings : ℕ → List ℤ) → ((n : ℕ) → length (readings n) ≡ max_ports)
    → (n : ℕ) → SuitedAt Y F (supplied Y F readings (λ k. worst_times (program_of Y.tables))) n
worst-case-suited Y w F readings rl =
    let f = worst-fed Y.tables (windows-accepted _ w) F readings rl in
    premises-met Y F readings (λ k. worst_times (program_of Y.tables)) w f.readings-length f.times-length f.in-range

-- every accepted system runs as Giotto's execution
pub supplied-right : SuppliedRight
supplied-right Y a F readings times rl tl tr n =
    (composed-run Y a).1 F (supplied Y F readings times) n (λ k l. premises-met Y F readings times a.windows rl tl tr k)
