-- Demand 3, what "the value that Giotto's definition gives" means, as statements: the execution goes from a configuration to its successor
-- by 001, section 3.2, at every instant, and to nothing else. (Where 001's step 6 moves the unit before step 7, document 01's steps (5) to
-- (7) decide: giotto/specs/Successor.) Proved of these definitions in proofs/Giotto.antt.
use Rattle.std.specs.Prelude.{ℕ, suc, ◌≤◌, ◌<◌, ◌≡◌, false, List, ℤ}
use Rattle.theory.specs.Verdict.{accepted_number}
use Rattle.cells.specs.Limits.{max_ports}
use Rattle.program.specs.Tables.{Tables, port_first, start_mode}
use Rattle.program.specs.Program.{program_of}
use Rattle.program.specs.Ports.{value_of}
use Rattle.rules.specs.Verdict.{program_verdict}
use Rattle.giotto.specs.Instant.{Configuration, Function, results}
use Rattle.giotto.specs.Execution.{execution}
use Rattle.giotto.specs.Successor.{Valuation, Successor, Same}

-- any two successors of a configuration agree in time, mode, unit, active tasks and every port
abbrev pub SuccessorOne : Type 0
SuccessorOne =
    (T : Tables) → program_verdict T ≡ accepted_number
    → (result : ℕ → ℕ → ℤ) (readings : Valuation) (C C' C'' : Configuration)
    → Successor T result readings C C' → Successor T result readings C C'' → Same C' C''

-- An execution of a program, for any task function and any readings
module _ (T : Tables) (F : Function) (readings : ℕ → List ℤ) where
  -- the configuration of the execution before tick n
  abbrev pub at : ℕ → Configuration
  at n = execution (program_of T) F readings n

  pub record Executes : Type 0 where
    -- the execution begins with C₀ = (0, start, 0, init, ∅)
    pub time : (at 0).time ≡ 0
    pub mode : (at 0).mode ≡ start_mode T
    pub unit : (at 0).unit ≡ 0
    pub ports : (p : ℕ) → p < max_ports → value_of (at 0).ports p ≡ port_first T p
    pub active : (t : ℕ) → (at 0).active t ≡ false
    -- at its time stamp a configuration goes on to a successor, with the readings of that tick and the tasks' results for their inputs
    pub succeeds : (n : ℕ) → (at n).time ≡ n
        → Successor T (results (program_of T) F (at n).ports) (value_of (readings n)) (at n) (at (suc n))
    -- at any other tick a configuration stays, and no time stamp is missed
    pub waits : (n : ℕ) → ((at n).time ≡ n → ⊥) → at (suc n) ≡ at n
    pub ahead : (n : ℕ) → n ≤ (at n).time

-- the execution of an accepted program is one by 001
abbrev pub ExecutionSucceeds : Type 0
ExecutionSucceeds = (T : Tables) → program_verdict T ≡ accepted_number → (F : Function) (readings : ℕ → List ℤ) → Executes T F readings
