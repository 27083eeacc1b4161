-- What an accepted advance may change, and nothing else, as claims about the states before and after.
use Rattle.std.specs.Prelude.{ℕ, ◌+◌, ◌-◌, ◌%◌, ◌^◌, ◌≤◌, ◌<◌, ◌≡◌, true, false, List, map, ◌⊎◌, ℤ, length, get_or, replicate}
use Rattle.theory.specs.Lists.{member}
use Rattle.cells.specs.Cell.{num_at}
use Rattle.cells.specs.Limits.{suppliers, max_delay}
use Rattle.program.specs.Program.{Program, program_of, task, driver}
use Rattle.program.specs.Ports.{value_of}
use Rattle.rules.specs.Fields.{InRange}
use Rattle.runs.specs.Tick.{left_of}
use Rattle.code.specs.Op.{Op, future, faulty, instructions}
use Rattle.machine.specs.declared.State.{State}
use Rattle.machine.specs.Schedules.{Who, nobody, one, several, running}
use Rattle.machine.specs.Advance.{Advance}

-- E code does not write port p: it is no sensor, no driver's destination, and no task gives it
pub record Untouched (P : Program) (p : ℕ) : Type 0 where
  pub no-sensor : member p P.sensors ≡ false
  pub no-destination : (d : ℕ) → member p (map (λ c. c.destination) (driver P d).copies) ≡ false
  pub not-given : (t : ℕ) → member p (task P t).gives ≡ false

-- the remaining time of task t is as it was; or the task had ended, and is released with the time lent for it
abbrev pub Released : Program → List ℤ → ℕ → ℕ → ℕ → Type 0
Released P times t before after =
    (after ≡ before) ⊎ ((before ≡ 0) × (after ≡ num_at times t) × InRange (num_at times t) (task P t).worst)

-- a unit begins: at the `future` that was executed, with its delay and the address that it names, all suppliers at their start
pub record Begins (code : List Op) (u : State) : Type 0 where
  pub here : u.current < length code
  pub holds-future : get_or code u.current faulty ≡ future u.remaining u.pending
  pub delay : InRange u.remaining max_delay
  pub to : u.pending < length code
  pub elapsed : u.elapsed ≡ 0
  pub positions : u.positions ≡ replicate suppliers 0

-- an instant of E code that leads from s to u changes only what this says
pub record InstantKeeps (P : Program) (times : List ℤ) (code : List Op) (s u : State) : Type 0 where
  pub time : u.time ≡ s.time
  pub outputs : u.outputs ≡ s.outputs
  pub ports : (p : ℕ) → Untouched P p → value_of u.ports p ≡ value_of s.ports p
  pub left : (t : ℕ) → Released P times t (left_of s.left t) (left_of u.left t)
  pub begins : Begins code u

-- a tick of task t that leads from s to u changes only what this says of remaining times and local outputs
pub record Worked (P : Program) (results : List ℤ) (t : ℕ) (s u : State) : Type 0 where
  -- task t is a tick nearer its end, and no other task is
  pub nearer : left_of u.left t ≡ left_of s.left t - 1
  pub others : (j : ℕ) → (j ≡ t → ⊥) → left_of u.left j ≡ left_of s.left j
  -- where task t completes, the local outputs take what it gives; nothing else in them changes, and else nothing does
  pub completes : left_of s.left t ≡ 1 → (p : ℕ) → p < length s.outputs → member p (task P t).gives ≡ true
      → value_of u.outputs p ≡ value_of results p
  pub stays : (p : ℕ) → (member p (task P t).gives ≡ false) ⊎ (left_of s.left t ≡ 1 → ⊥)
      → value_of u.outputs p ≡ value_of s.outputs p

-- a tick in which nobody, one task or several run, from s to u
abbrev pub Works : Program → List ℤ → Who → State → State → Type 0
Works P results nobody s u = (u.left ≡ s.left) × (u.outputs ≡ s.outputs)
Works P results (one t) s u = Worked P results t s u
Works P results several s u = ⊥

-- a tick of the schedules that leads from s to u changes only what this says
pub record Passes (P : Program) (S results : List ℤ) (s u : State) : Type 0 where
  pub time : u.time ≡ (s.time + 1) % 2 ^ 32
  pub ports : u.ports ≡ s.ports
  pub pending : u.pending ≡ s.pending
  pub current : u.current ≡ s.current
  pub elapsed : u.elapsed ≡ s.elapsed + 1
  pub remaining : u.remaining ≡ s.remaining - 1
  -- no supplier goes back in its block
  pub positions : (j : ℕ) → j < suppliers → get_or s.positions j 0 ≤ get_or u.positions j 0
  pub works : Works P results (running S s) s u

-- an accepted advance hands back u: a tick of the unit remained, or an instant begins the next one; then a tick of the schedules
pub record Advances (L : Advance) (u : State) : Type 0 where
  pub between : State
  pub begun : ((1 ≤ L.state.remaining) × (between ≡ L.state))
      ⊎ ((L.state.remaining ≡ 0) × InstantKeeps (program_of L.tables) L.lent.times (instructions L.code) L.state between)
  pub passes : Passes (program_of L.tables) L.schedule L.lent.results between u
