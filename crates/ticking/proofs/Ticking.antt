-- One tick of all suppliers as the code comes to it: the state after it, and the answer by how many run.
-- Assumes, of the task that runs, that the schedule's rows fit.
use Rattle.std.proofs.Common.{◌≡◌, ℕ, ◌+◌, ◌-◌, ◌%◌, ◌^◌, ◌<◌, List, ℤ, Some, sym, ap, ◌∙◌, ap₂}
use Rattle.theory.specs.Verdict.{accepted_number}
use Rattle.cells.specs.Refusals.{collision_refused}
use Rattle.cells.specs.declared.kinds.Task.{Task}
use Rattle.program.specs.Tables.{Tables, task_count}
use Rattle.program.specs.Program.{Program}
use Rattle.runs.specs.Tick.{work, left_after, after_turn}
use Rattle.runs.proofs.Turns.{turn-after}
use Rattle.suppliers.specs.Schedule.{Rows}
use Rattle.machine.specs.declared.State.{State}
use Rattle.machine.specs.declared.Running.{Running}
use Rattle.machine.specs.declared.Running.TheVariants.{Nobody, One, Several}
use Rattle.machine.specs.declared.Shares.{Shares}
use Rattle.machine.specs.Instant.{ok}
use Rattle.machine.specs.Schedules.{running, shares_of, outputs_after, tick_passed, after_tick, ticked}
use Rattle.machine.specs.Schedules.{tick_all}
use Rattle.machine.specs.Advance.{answer}
use Rattle.machine.proofs.Declared.{running-declared}
use Rattle.ticking.proofs.Joining.{who, who-told}

-- the state s with other outputs, the next time stamp, one elapsed tick more and other remaining ticks
abbrev counted : State → List ℤ → ℕ → ℕ → State
counted s outputs time remaining = record {
  ports = s.ports;
  outputs = outputs;
  time = time;
  pending = s.pending;
  current = s.current;
  elapsed = s.elapsed + 1;
  remaining = remaining;
  left = s.left;
  positions = s.positions;
}

-- the state s with other remaining times and positions
abbrev placed : State → List ℕ → List ℕ → State
placed s left positions = record {
  ports = s.ports;
  outputs = s.outputs;
  time = s.time;
  pending = s.pending;
  current = s.current;
  elapsed = s.elapsed;
  remaining = s.remaining;
  left = left;
  positions = positions;
}

-- with other outputs, ticks, remaining times and positions the state is that after the tick
pub passes : (s next : State) (left : List ℕ) (outputs : List ℤ) (positions : List ℕ) (time remaining : ℕ)
    → next ≡ counted s outputs time remaining
    → time ≡ (s.time + 1) % 2 ^ 32
    → remaining ≡ s.remaining - 1
    → placed next left positions ≡ tick_passed s left outputs positions
passes s next left outputs positions time remaining e t r =
    ap (λ (u : State). placed u left positions) e
    ∙ ap₂ (λ (time remaining : ℕ). placed (counted s outputs time remaining) left positions) t r

module _ (S : List ℤ) (s : State) (all : Shares) (is_all : all ≡ shares_of S s) where
  -- what the code hands on tells who runs, and where each supplier stands
  runs-told : running S s ≡ who all.running
  runs-told = sym (who-told (running S s)) ∙ ap who (sym (ap (λ (a : Shares). a.running) is_all))

  -- the task that runs is declared
  pub job-declared : (T : Tables) (t : Task) → Rows T S → all.running ≡ One t → t.0 < task_count T
  job-declared T t r e = running-declared T S s t.0 r (runs-told ∙ ap who e)

  module _ (P : Program) (results : List ℤ) where
    -- what the tick comes to, by who runs as the code hands it on
    tick-told : (r : Running) → all.running ≡ r → ticked P S results s (who r) ≡ tick_all P S results s
    tick-told r e = ap (ticked P S results s) (sym (runs-told ∙ ap who e))

    -- where two run, the tick is refused with the state as before
    pub tick-collides : all.running ≡ Several → record { number = collision_refused; state = s } ≡ answer s (tick_all P S results s)
    tick-collides e = ap (answer s) (tick-told Several e)

    -- the code's remaining times, outputs and next state
    module _ (left : List ℕ) (outputs : List ℤ) (next : State) (is-next : next ≡ tick_passed s left outputs all.positions) where
      -- where remaining times and outputs are those of the definition, so is the answer
      comes : (left' : List ℕ) (outputs' : List ℤ) → left ≡ left' → outputs ≡ outputs'
          → record { number = accepted_number; state = next } ≡ answer s (ok (after_tick S s left' outputs'))
      comes left' outputs' l o =
          let p : all.positions ≡ (shares_of S s).positions = ap (λ (a : Shares). a.positions) is_all in
          ap (λ (u : State). record { number = accepted_number; state = u }) is-next ∙ (λ i. record { number = accepted_number; state = tick_passed s (l i) (o i) (p i) })

      -- where nobody runs, outputs and remaining times are as before
      pub tick-rests : all.running ≡ Nobody → left ≡ s.left → outputs ≡ s.outputs
          → record { number = accepted_number; state = next } ≡ answer s (tick_all P S results s)
      tick-rests e l o = comes s.left s.outputs l o ∙ ap (answer s) (tick-told Nobody e)

      -- where one task runs, it has a tick less to run
      pub tick-runs : (t : Task) → all.running ≡ One t → left ≡ after_turn (Some t) s.left → outputs ≡ outputs_after P results s t.0
          → record { number = accepted_number; state = next } ≡ answer s (tick_all P S results s)
      tick-runs t e l o =
          comes (left_after (work t.0) s.left) (outputs_after P results s t.0) (l ∙ turn-after (work t.0) s.left) o
          ∙ ap (answer s) (tick-told (One t) e)
