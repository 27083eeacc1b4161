-- What a fresh state holds, as claims: "the ports' first values in the first two and 0 elsewhere"; "refused, it is all 0".
use Rattle.std.specs.Prelude.{ℕ, ◌≤◌, ◌<◌, ◌≡◌, List, ℤ, pos, length, replicate}
use Rattle.cells.specs.Limits.{max_ports, max_tasks, suppliers}
use Rattle.program.specs.Tables.{Tables, port_count, port_first}
use Rattle.program.specs.Ports.{value_of}
use Rattle.machine.specs.declared.State.{State}

-- all of a state is 0 but port values and local outputs
pub record RestZero (s : State) : Type 0 where
  pub time : s.time ≡ 0
  pub pending : s.pending ≡ 0
  pub current : s.current ≡ 0
  pub elapsed : s.elapsed ≡ 0
  pub remaining : s.remaining ≡ 0
  pub left : s.left ≡ replicate max_tasks 0
  pub positions : s.positions ≡ replicate suppliers 0

-- values by port are the first values that the table gives, and 0 where no port is declared
pub record FirstValues (T : Tables) (v : List ℤ) : Type 0 where
  pub all : length v ≡ max_ports
  pub declared : (p : ℕ) → p < port_count T → value_of v p ≡ port_first T p
  pub undeclared : (p : ℕ) → port_count T ≤ p → value_of v p ≡ pos 0

-- the fresh state of an accepted program has the first values, and 0 elsewhere
pub record Fresh (T : Tables) (s : State) : Type 0 where
  pub ports : FirstValues T s.ports
  pub outputs : FirstValues T s.outputs
  pub rest : RestZero s

-- the state that is handed back for a refused program is all 0
pub record AllZero (s : State) : Type 0 where
  pub ports : s.ports ≡ replicate max_ports (pos 0)
  pub outputs : s.outputs ≡ replicate max_ports (pos 0)
  pub rest : RestZero s
