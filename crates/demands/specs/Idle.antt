-- A supplier without tasks and rows is accepted: so for a system with three suppliers three verdicts are enough.
-- Proved of these definitions in proofs/Idle.antt.
use Rattle.std.specs.Prelude.{ℕ, ◌<◌, ◌≡◌, [], ◌⊎◌, pos}
use Rattle.theory.specs.Rows.{placeless}
use Rattle.theory.specs.Verdict.{accepted_number}
use Rattle.cells.specs.Limits.{suppliers}
use Rattle.program.specs.Tables.{task_count, task_supplier}
use Rattle.code.specs.Compile.{compile_answer}
use Rattle.suppliers.specs.Windows.{windows_verdict}
use Rattle.suppliers.specs.Supplier.{Asked, supplier_of, windowed_of, supplier_verdict}
use Rattle.demands.specs.Composed.{System, compiling, Accepted}

-- the supplier that is asked about has neither rows nor tasks
pub record Idle (L : Asked) : Type 0 where
  pub no_rows : L.part ≡ []
  pub no-tasks : (t : ℕ) → t < task_count L.tables → task_supplier L.tables t ≡ supplier_of L → ⊥

-- where program and windows are accepted, a supplier without rows and tasks is accepted too
abbrev pub IdleAccepted : Type 0
IdleAccepted =
    (L : Asked) → windows_verdict (windowed_of L) ≡ accepted_number → supplier_of L < suppliers → Idle L
    → supplier_verdict L ≡ placeless accepted_number

-- what is asked about supplier s of a system
abbrev pub asked_of : System → ℕ → Asked
asked_of Y s = record { tables = Y.tables; windows = Y.windows; part = Y.parts s; supplier = pos s }

-- a system is accepted by the windows verdict, by compiling, and by the verdicts of the suppliers that have something to do
abbrev pub AcceptedOf : Type 0
AcceptedOf =
    (Y : System)
    → windows_verdict (record { tables = Y.tables; windows = Y.windows }) ≡ accepted_number
    → (compile_answer (compiling Y)).answer.number ≡ accepted_number
    → ((s : ℕ) → s < suppliers → Idle (asked_of Y s) ⊎ ((supplier_verdict (asked_of Y s)).number ≡ accepted_number))
    → Accepted Y
