-- Two systems meet the premises of the demands, and their composed runs, computed, are Giotto's tick by tick.
use Prim.Native.Nat.{ℕ, zero, suc, ◌<◌}
use mathlib.Core.Path.{◌≡◌, refl}
use mathlib.Core.Bool.{true}
use mathlib.Core.List.{[], ◌∷◌}
use mathlib.Core.Logic.{◌⊎◌, inl, inr}
use native.Mathlib.Omega.{arith}
use Rattle.cells.specs.Limits.{suppliers}
use Rattle.program.specs.Tables.{Tables, task_count, task_supplier}
use Rattle.program.specs.Program.{program_of}
use Rattle.suppliers.specs.Supplier.{supplier_verdict}
use Rattle.giotto.specs.Execution.{execution}
use Rattle.demands.specs.Composed.{Accepted}
use Rattle.demands.specs.Idle.{Idle, asked_of}
use Rattle.demands.proofs.Idle.{accepted-of}
use Rattle.worked.specs.Computed.{computed}
use Rattle.worked.specs.Systems.{F-system, monitor-system, mix, readings, gaps, times, runs_as_giotto}

-- F: 24 ticks of the machine are those of Giotto's execution, with the longest execution times and with the shortest
F-runs : runs_as_giotto F-system mix readings (times (6 ∷ 2 ∷ [])) 24 ≡ true
unfolding computed
F-runs = refl

F-runs-early : runs_as_giotto F-system mix readings (times (1 ∷ 1 ∷ [])) 24 ≡ true
unfolding computed
F-runs-early = refl

-- the monitor: readings are missing at ticks 4 and 6, so it switches to mode 1 and back
monitor-runs : runs_as_giotto monitor-system mix gaps (times (1 ∷ 2 ∷ [])) 16 ≡ true
unfolding computed
monitor-runs = refl

-- the monitor is in mode 1 after tick 4, and in mode 0 again after tick 8
monitor-switches : (execution (program_of monitor-system.tables) mix gaps 5).mode ≡ 1
unfolding computed
monitor-switches = refl

monitor-returns : (execution (program_of monitor-system.tables) mix gaps 9).mode ≡ 0
unfolding computed
monitor-returns = refl

-- of two tasks of suppliers below s none is of s
pub two-below : (T : Tables) (s : ℕ) → task_count T ≡ 2 → task_supplier T 0 < s → task_supplier T 1 < s
    → (t : ℕ) → t < task_count T → task_supplier T t ≡ s → ⊥
two-below T s n a b zero l e = omega (arith, a, e)
two-below T s n a b (suc zero) l e = omega (arith, b, e)
two-below T s n a b (suc (suc t)) l e = omega (arith, l, n)

-- F's supplier 0 is accepted alone, and so are the monitor's suppliers 0 and 1; the others have nothing to do
F-suppliers : (s : ℕ) → s < suppliers → Idle (asked_of F-system s) ⊎ ((supplier_verdict (asked_of F-system s)).number ≡ 0)
unfolding computed
F-suppliers zero l = inr refl
F-suppliers (suc zero) l = inl (record { no_rows = refl; no-tasks = two-below F-system.tables 1 refl (omega arith) (omega arith) })
F-suppliers (suc (suc s)) l =
    inl (record { no_rows = refl; no-tasks = two-below F-system.tables (suc (suc s)) refl (omega arith) (omega arith) })

monitor-suppliers : (s : ℕ) → s < suppliers → Idle (asked_of monitor-system s) ⊎ ((supplier_verdict (asked_of monitor-system s)).number ≡ 0)
unfolding computed
monitor-suppliers zero l = inr refl
monitor-suppliers (suc zero) l = inr refl
monitor-suppliers (suc (suc s)) l =
    inl (record { no_rows = refl; no-tasks = two-below monitor-system.tables (suc (suc s)) refl (omega arith) (omega arith) })

-- F and the monitor are accepted
pub F-accepted : Accepted F-system
unfolding computed
F-accepted = accepted-of F-system refl refl F-suppliers

pub monitor-accepted : Accepted monitor-system
unfolding computed
monitor-accepted = accepted-of monitor-system refl refl monitor-suppliers
