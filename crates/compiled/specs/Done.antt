-- The state that an instant leaves from the block of a mode and unit: the ports are those of Giotto's instant, where what the tasks give
-- is what their local outputs hold. Where the machine stands for it.
use Rattle.std.specs.Prelude.{ℕ, ◌<◌, ◌≡◌, true, List, ◌⊎◌, ℤ, replicate}
use Rattle.std.proofs.Math.Option.{Option}
use Rattle.cells.specs.Cell.{num_at}
use Rattle.cells.specs.Limits.{suppliers}
use Rattle.program.specs.Tables.{Tables, mode_count}
use Rattle.program.specs.Program.{Program, Switch, program_of, mode, ticks_of, next_unit, due_tasks}
use Rattle.program.specs.Ports.{value_of}
use Rattle.code.specs.Listing.{block_address, future_address}
use Rattle.runs.specs.Round.{release}
use Rattle.giotto.specs.Instant.{Configuration, mode_after, unit_after, sensed, switch_of, instant}
use Rattle.machine.specs.declared.State.{State}

-- the state after an instant of mode m and unit k from s, with the switch w taken, or none, and these port values: the next unit begins
abbrev pub leaves : Program → List ℤ → ℕ → ℕ → State → Option Switch → List ℤ → State
leaves P times m k s w v = record {
  ports = v;
  outputs = s.outputs;
  time = s.time;
  pending = block_address P (mode_after m w) (next_unit (mode P (mode_after m w)) (unit_after k w));
  current = future_address P (mode_after m w) (unit_after k w);
  elapsed = 0;
  remaining = ticks_of (mode P (mode_after m w));
  left = release (due_tasks (mode P (mode_after m w)) (unit_after k w)) (num_at times) s.left;
  positions = replicate suppliers 0;
}

-- the configuration that the code takes for given: every due task has given its results
abbrev pub seen : ℕ → ℕ → State → Configuration
seen m k s = record { time = 0; mode = m; unit = k; ports = s.ports; active = λ t. true }

-- what task t gives for port p, as it stands in its local outputs
abbrev pub local : State → ℕ → ℕ → ℤ
local s t p = value_of s.outputs p

module _ (P : Program) (readings : List ℤ) (m k : ℕ) (s : State) where
  -- the switch that the instant takes, or none
  abbrev pub switch_taken : Option Switch
  switch_taken = switch_of P (seen m k s) (sensed P (local s) readings (seen m k s))

  -- the mode that the instant enters
  abbrev pub mode_entered : ℕ
  mode_entered = mode_after m switch_taken

  -- the unit that the instant enters
  abbrev pub unit_entered : ℕ
  unit_entered = unit_after k switch_taken

  -- the tasks that the instant releases
  abbrev pub tasks_released : List ℕ
  tasks_released = due_tasks (mode P mode_entered) unit_entered

  -- the state after the instant: the ports are those that Giotto's instant leaves
  unfoldable pub after_instant : List ℤ → State
  after_instant times = leaves P times m k s switch_taken (instant P (local s) readings (seen m k s)).ports

-- the machine is about to run the block of unit k of mode m: it stands there, or at address 0 for unit 0 of the start mode
pub record AtBlock (T : Tables) (m k : ℕ) (s : State) : Type 0 where
  pub declared : m < mode_count T
  pub in-round : k < (mode (program_of T) m).units
  pub pending : (s.pending ≡ block_address (program_of T) m k) ⊎ ((s.pending ≡ 0) × (m ≡ (program_of T).start) × (k ≡ 0))
