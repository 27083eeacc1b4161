-- How Giotto's configuration and the machine's state are related before every tick of a composed run: mode and unit from the addresses,
-- the active tasks, the ports, the local outputs, the remaining times.
use Rattle.std.specs.Prelude.{ℕ, ◌+◌, ◌%◌, ◌^◌, ◌≤◌, ◌<◌, ◌≡◌, true, false, List, ◌⊎◌, ℤ, length}
use Rattle.theory.specs.Lists.{member}
use Rattle.cells.specs.Limits.{suppliers, max_ports, max_tasks}
use Rattle.program.specs.Tables.{Tables, mode_count}
use Rattle.program.specs.Program.{Program, program_of, task, mode, ticks_of, next_unit, due_tasks}
use Rattle.program.specs.Ports.{value_of}
use Rattle.code.specs.Listing.{block_address, future_address}
use Rattle.runs.specs.Tick.{left_of, Place}
use Rattle.runs.specs.Schedule.{block_of}
use Rattle.runs.specs.Round.{alone, worst_case, nothing}
use Rattle.runs.specs.Dominated.{Dominated}
use Rattle.suppliers.specs.Supplier.{course}
use Rattle.giotto.specs.Instant.{Configuration, Function, results}
use Rattle.giotto.specs.Execution.{initial}
use Rattle.machine.specs.declared.State.{State}
use Rattle.machine.specs.Schedules.{place_of}
use Rattle.machine.specs.Advance.{state_of}

-- task t is one of supplier j's
abbrev pub OwnedBy : Program → ℕ → ℕ → Type 0
OwnedBy P j t = (task P t).supplier ≡ j

-- the tasks of mode m: those that are due at its unit 0
abbrev pub tasks_of : Program → ℕ → List ℕ
tasks_of P m = due_tasks (mode P m) 0

-- nothing has happened yet: tick 0, the initial configuration and the fresh state
pub record NotBegun (P : Program) (F : Function) (n : ℕ) (C : Configuration) (s : State) : Type 0 where
  pub no-tick : n ≡ 0
  pub initially : C ≡ initial P F
  pub is-fresh : s ≡ state_of P.first

module _ (T : Tables) (W S : List ℤ) (F : Function) where
  abbrev P : Program
  P = program_of T

  -- the place of supplier j's worst-case run alone in mode m, in unit k after e ticks
  abbrev pub worst_run : ℕ → ℕ → ℕ → ℕ → Place
  worst_run j m k e = alone (course P W S j m) (worst_case (course P W S j m)) nothing k e

  -- unit k of the mode goes on: so it is from the end of its instant to the start of the next
  pub record Going (k n : ℕ) (C : Configuration) (s : State) : Type 0 where
    -- mode and unit, and the addresses that say so: each block has one `future`, and each address is in one block
    pub declared : C.mode < mode_count T
    pub in-round : k < (mode P C.mode).units
    pub next : C.unit ≡ next_unit (mode P C.mode) k
    pub current : s.current ≡ future_address P C.mode k
    pub pending : s.pending ≡ block_address P C.mode C.unit
    -- the ticks of the unit, of Giotto's time stamp, and of the machine's clock
    pub ticks : s.elapsed + s.remaining ≡ ticks_of (mode P C.mode)
    pub stamp : C.time ≡ n + s.remaining
    pub clock : s.time ≡ n % 2 ^ 32
    -- the ports of the state are those of the configuration, and all are there
    pub ports : s.ports ≡ C.ports
    pub all-ports : length s.ports ≡ max_ports
    pub all-outputs : length s.outputs ≡ max_ports
    pub all_left : length s.left ≡ max_tasks
    -- the tasks of the mode are active, and no other task is active or has time left
    pub active : (t : ℕ) → C.active t ≡ member t (tasks_of P C.mode)
    pub others : (t : ℕ) → member t (tasks_of P C.mode) ≡ false → left_of s.left t ≡ 0
    -- a task of the mode that has ended has its results in its local outputs
    pub held : (t p : ℕ) → member t (tasks_of P C.mode) ≡ true → left_of s.left t ≡ 0 → member p (task P t).gives ≡ true
        → value_of s.outputs p ≡ results P F C.ports t p
    -- no task has more time left than its worst case; each supplier is ahead of its worst-case run alone
    pub most : (t : ℕ) → left_of s.left t ≤ (task P t).worst
    pub ahead : (j : ℕ) → j < suppliers
        → Dominated (OwnedBy P j) (block_of S j s.current) s.elapsed (place_of S s j) (worst_run j C.mode k s.elapsed)

  -- before tick n the configuration C and the state s go together: nothing has happened yet, or a unit goes on
  abbrev pub Related : ℕ → Configuration → State → Type 0
  Related n C s = NotBegun P F n C s ⊎ ((k : ℕ) × Going k n C s)
