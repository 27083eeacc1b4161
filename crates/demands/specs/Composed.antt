-- Demand 3, second half, as statements about the public calls: suppliers accepted one by one, composed, run for ever without overrun or
-- collision, and at every tick every port holds the value that Giotto's definition gives for the same readings.
-- Proved of these definitions in proofs/Composed.antt.
use Rattle.std.specs.Prelude.{ℕ, zero, suc, ◌≤◌, ◌<◌, ◌≡◌, List, ℤ, pos}
use Rattle.theory.specs.Lists.{cat}
use Rattle.theory.specs.Verdict.{accepted_number}
use Rattle.cells.specs.Limits.{suppliers}
use Rattle.program.specs.Tables.{Tables}
use Rattle.program.specs.Program.{program_of}
use Rattle.code.specs.Compile.{Compiling, compile_answer, words_of}
use Rattle.suppliers.specs.Windows.{windows_verdict}
use Rattle.suppliers.specs.Supplier.{supplier_verdict}
use Rattle.giotto.specs.Instant.{Configuration, Function}
use Rattle.giotto.specs.Execution.{execution, ports_in_tick}
use Rattle.machine.specs.Advance.{Lent, fresh_answer, advance_answer}
use Rattle.machine.specs.declared.State.{State}
use Rattle.machine.specs.declared.Handed.{Handed}
use Rattle.composed.specs.Suited.{Suited}

-- what is composed: the tables, the windows, each supplier's part of the schedule, and the slice that is lent for compiling
pub record System : Type 0 where
  pub tables : Tables
  pub windows : List ℤ
  pub parts : ℕ → List ℤ
  pub slice : List ℕ

abbrev pub compiling : System → Compiling
compiling Y = record { tables = Y.tables; slice = Y.slice }

-- a system is accepted: its program and windows are, the program is compiled, and each supplier's code is accepted alone
pub record Accepted (Y : System) : Type 0 where
  pub windows : windows_verdict (record { tables = Y.tables; windows = Y.windows }) ≡ accepted_number
  pub compiled : (compile_answer (compiling Y)).answer.number ≡ accepted_number
  pub suppliers : (s : ℕ) → s < suppliers
      → (supplier_verdict (record { tables = Y.tables; windows = Y.windows; part = Y.parts s; supplier = pos s })).number ≡ accepted_number

module _ (Y : System) where
  -- the joined schedule is the parts one after the other (`joined`), and the E code is what compiling left (`code`)
  abbrev pub joined : List ℤ
  joined = cat Y.parts suppliers

  abbrev pub code : List ℕ
  code = words_of (compiling Y)

  -- one advance of the system from a state, with what is lent to it
  abbrev pub advanced : Lent → State → Handed
  advanced X s = advance_answer (record { tables = Y.tables; code = code; schedule = joined; state = s; lent = X })

  -- the state before tick n: from a fresh state, one advance a tick; a refusal keeps the state
  abbrev pub state_at : (ℕ → Lent) → ℕ → State
  state_at lents zero = (fresh_answer Y.tables).state
  state_at lents (suc n) = (advanced (lents n) (state_at lents n)).state

  module _ (F : Function) (lents : ℕ → Lent) where
    abbrev pub readings : ℕ → List ℤ
    readings n = (lents n).readings

    -- Giotto's configuration before tick n: an execution by 001, without machine, code or schedule
    abbrev pub configuration_at : ℕ → Configuration
    configuration_at n = execution (program_of Y.tables) F readings n

    -- What is asked of tick n, and only of what is used in it: whole slices; the time of a task that is released in it from 1 to its
    -- worst case; the results of a task that completes in it, for its outputs and private ports, F of the task and of the values of its
    -- inputs and private ports
    abbrev pub SuitedAt : ℕ → Type 0
    SuitedAt n = Suited Y.tables code joined F n (configuration_at n) (state_at lents n) (lents n)

    -- What is promised of tick n: it is not refused, and after it all ports hold Giotto's values
    pub record Right (n : ℕ) : Type 0 where
      pub accepted : (advanced (lents n) (state_at lents n)).answer.number ≡ accepted_number
      pub ports : (state_at lents (suc n)).ports ≡ ports_in_tick (program_of Y.tables) F readings n

-- The composed run is Giotto's: the fresh state is given, and every tick is right as long as all ticks up to it are suited
abbrev pub ComposedRun : Type 0
ComposedRun =
    (Y : System) → Accepted Y
    → ((fresh_answer Y.tables).answer.number ≡ accepted_number)
    × ((F : Function) (lents : ℕ → Lent) (n : ℕ) → ((k : ℕ) → k ≤ n → SuitedAt Y F lents k) → Right Y F lents n)

-- So values do not hang on who computes when: two accepted systems of one program, with other windows, other schedule code, other execution
-- times, show the same ports at every tick for the same task function and readings
abbrev pub SameValues : Type 0
SameValues =
    (Y Z : System) → Accepted Y → Accepted Z → Y.tables ≡ Z.tables
    → (F : Function) (lents others : ℕ → Lent) → ((k : ℕ) → (lents k).readings ≡ (others k).readings)
    → (n : ℕ) → ((k : ℕ) → k ≤ n → SuitedAt Y F lents k) → ((k : ℕ) → k ≤ n → SuitedAt Z F others k)
    → (state_at Y lents (suc n)).ports ≡ (state_at Z others (suc n)).ports
