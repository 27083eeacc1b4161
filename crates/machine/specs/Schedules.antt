-- One tick of all suppliers' schedules: who runs, 18 where two do, and the state after the tick.
-- "A completing task puts its entries of the lent results into its local outputs", those of its private ports beside them.
use Rattle.std.specs.Prelude.{ℕ, zero, suc, ◌+◌, ◌-◌, ◌%◌, ◌^◌, ◌<◌, ◌≡◌, Bool, true, false, List, eqb, ℤ, get_or}
use Rattle.theory.specs.Lists.{each, puts}
use Rattle.cells.specs.Limits.{suppliers}
use Rattle.cells.specs.Refusals.{collision_refused}
use Rattle.program.specs.Program.{Program, task}
use Rattle.program.specs.Ports.{value_of, assigned}
use Rattle.runs.specs.Tick.{left_of, Act, rest, work, left_after, Place, moved, doing, runs_in}
use Rattle.runs.specs.Schedule.{block_of}
use Rattle.machine.specs.declared.State.{State}
use Rattle.machine.specs.declared.Running.{Running}
use Rattle.machine.specs.declared.Running.TheVariants.{Nobody, One, Several}
use Rattle.machine.specs.declared.Shares.{Shares}
use Rattle.machine.specs.Instant.{Outcome, ok, stop}

-- who runs in a tick
pub data Who : Type 0 where
  nobody : Who
  one : ℕ → Who
  several : Who

abbrev pub join : Who → Act → Who
join nobody rest = nobody
join nobody (work t) = one t
join (one t) rest = one t
join (one t) (work u) = several
join several rest = several
join several (work t) = several

-- who runs, of the suppliers below n
abbrev pub who_runs : (ℕ → Act) → ℕ → Who
who_runs acts zero = nobody
who_runs acts (suc n) = join (who_runs acts n) (acts n)

module _ (S : List ℤ) (s : State) where
  -- supplier j in its block: the rows at the current `future` address
  abbrev pub place_of : ℕ → Place
  place_of j = record { position = get_or s.positions j 0; left = s.left }

  abbrev pub act_of : ℕ → Act
  act_of j = doing (block_of S j s.current) s.elapsed (place_of j)

  -- supplier j runs in the tick
  abbrev pub runs_now : ℕ → Bool
  runs_now j = runs_in (block_of S j s.current) s.elapsed (place_of j)

  abbrev pub moved_of : ℕ → ℕ
  moved_of j = moved (block_of S j s.current) s.elapsed (place_of j)

  abbrev pub running : Who
  running = who_runs act_of suppliers

  -- 18: two suppliers run in one tick
  pub record Collision : Type 0 where
    pub one-supplier : ℕ
    pub other-supplier : ℕ
    pub apart : one-supplier < other-supplier
    pub in-range : other-supplier < suppliers
    pub one-runs : runs_now one-supplier ≡ true
    pub other-runs : runs_now other-supplier ≡ true

-- who runs, as the code hands it on
abbrev pub told : Who → Running
told nobody = Nobody
told (one t) = One (record { 0 = t })
told several = Several

abbrev pub shares_of : List ℤ → State → Shares
shares_of S s = record { running = told (running S s); positions = each (moved_of S s) suppliers 0 }

-- the local outputs after a tick of task t, which gives these ports and puts its results there where it completes
abbrev pub outputs_at : List ℕ → List ℤ → State → ℕ → List ℤ
outputs_at ports results s t = elim (eqb (left_of s.left t) 1) [
  | true ↦ puts (assigned (value_of results) ports) s.outputs
  | false ↦ s.outputs
]

abbrev pub outputs_after : Program → List ℤ → State → ℕ → List ℤ
outputs_after P results s t = outputs_at (task P t).gives results s t

-- the state after a tick that leaves these remaining times, outputs and positions: "after 4294967295 comes 0"
abbrev pub tick_passed : State → List ℕ → List ℤ → List ℕ → State
tick_passed s left outputs positions = record {
  ports = s.ports;
  outputs = outputs;
  time = (s.time + 1) % 2 ^ 32;
  pending = s.pending;
  current = s.current;
  elapsed = s.elapsed + 1;
  remaining = s.remaining - 1;
  left = left;
  positions = positions;
}

abbrev pub after_tick : List ℤ → State → List ℕ → List ℤ → State
after_tick S s left outputs = tick_passed s left outputs (each (moved_of S s) suppliers 0)

abbrev pub ticked : Program → List ℤ → List ℤ → State → Who → Outcome
ticked P S results s nobody = ok (after_tick S s s.left s.outputs)
ticked P S results s (one t) = ok (after_tick S s (left_after (work t) s.left) (outputs_after P results s t))
ticked P S results s several = stop collision_refused

abbrev pub tick_all : Program → List ℤ → List ℤ → State → Outcome
tick_all P S results s = ticked P S results s (running S s)
