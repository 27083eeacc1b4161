-- Document 02's K7, as statements: a private port belongs to one task, and no driver reads or writes it; the task's function takes it and
-- gives it; what it gives enters the port at the task's termination, and nobody else ever writes it. Proved in proofs/Private.antt.
use Rattle.std.specs.Prelude.{ℕ, suc, ◌≤◌, ◌<◌, ◌≡◌, true, ◌⊎◌, ◌↔◌, ℤ}
use Rattle.theory.specs.Lists.{member}
use Rattle.theory.specs.Verdict.{accepted_number}
use Rattle.program.specs.Tables.{Tables, private, task_count, driver_count}
use Rattle.program.specs.Sets.{OfKind, TaskPort, Input, Output, Private, ModePort, Source, Destination}
use Rattle.program.specs.Program.{program_of, task}
use Rattle.program.specs.Ports.{value_of, values_of}
use Rattle.rules.specs.Verdict.{program_verdict}
use Rattle.giotto.specs.Instant.{Configuration, Function}
use Rattle.giotto.specs.Successor.{Valuation, Completed, Successor}
use Rattle.machine.specs.Advance.{Lent}
use Rattle.demands.specs.Composed.{System, Accepted, state_at, configuration_at, SuitedAt}

-- "it belongs to one task, no driver may read or write it", and it is no mode port
pub record Own (T : Tables) (p : ℕ) : Type 0 where
  pub one-task : (t u : ℕ) → TaskPort T t p → TaskPort T u p → t ≡ u
  pub unread : (d : ℕ) → d < driver_count T → Source T d p → ⊥
  pub unwritten : (d : ℕ) → Destination T d p → ⊥
  pub no-mode-port : (m : ℕ) → ModePort T m p → ⊥

abbrev pub PrivateOwn : Type 0
PrivateOwn = (T : Tables) → program_verdict T ≡ accepted_number → (p : ℕ) → OfKind T private p → Own T p

-- "the task's function takes and gives it": a task's function takes its inputs and private ports, and gives its outputs and private ports,
-- and no other ports
pub record FunctionPorts (T : Tables) (t : ℕ) : Type 0 where
  pub takes : (p : ℕ) → (member p (task (program_of T) t).takes ≡ true) ↔ (Input T t p ⊎ Private T t p)
  pub gives : (p : ℕ) → (member p (task (program_of T) t).gives ≡ true) ↔ (Output T t p ⊎ Private T t p)

abbrev pub FunctionExact : Type 0
FunctionExact = (T : Tables) (t : ℕ) → t < task_count T → FunctionPorts T t

-- By 001: where its task is completed at C, a private port has what the task gave in the successor C', and else what it had
pub record PrivateAfter (T : Tables) (result : ℕ → ℕ → ℤ) (C C' : Configuration) (p : ℕ) : Type 0 where
  pub enters : (t : ℕ) → Completed T C t → Private T t p → value_of C'.ports p ≡ result t p
  pub stays : ((t : ℕ) → Completed T C t → Private T t p → ⊥) → value_of C'.ports p ≡ value_of C.ports p

abbrev pub PrivateWritten : Type 0
PrivateWritten =
    (T : Tables) → program_verdict T ≡ accepted_number
    → (result : ℕ → ℕ → ℤ) (readings : Valuation) (C C' : Configuration) → Successor T result readings C C'
    → (p : ℕ) → OfKind T private p → PrivateAfter T result C C' p

-- task t ends in tick n: the tick is an instant of Giotto's execution, at which the task is completed
pub record Ends (Y : System) (F : Function) (lents : ℕ → Lent) (n t : ℕ) : Type 0 where
  pub instant : (configuration_at Y F lents n).time ≡ n
  pub completed : Completed Y.tables (configuration_at Y F lents n) t

-- In the machine: in a tick in which its task ends, a private port takes what the function gives for the task's inputs and private ports;
-- in every other tick it keeps its value
pub record Remembers (Y : System) (F : Function) (lents : ℕ → Lent) (n p : ℕ) : Type 0 where
  pub enters : (t : ℕ) → Ends Y F lents n t → Private Y.tables t p
      → value_of (state_at Y lents (suc n)).ports p ≡ F t (values_of (state_at Y lents n).ports (task (program_of Y.tables) t).takes) p
  pub stays : ((t : ℕ) → Ends Y F lents n t → Private Y.tables t p → ⊥)
      → value_of (state_at Y lents (suc n)).ports p ≡ value_of (state_at Y lents n).ports p

-- every private port is kept so in a composed run
abbrev pub PrivateRun : Type 0
PrivateRun =
    (Y : System) → Accepted Y → (F : Function) (lents : ℕ → Lent) (n : ℕ) → ((k : ℕ) → k ≤ n → SuitedAt Y F lents k)
    → (p : ℕ) → OfKind Y.tables private p → Remembers Y F lents n p
