-- Each theorem with premises has a program that meets them: F, and the monitor with its two suppliers.
use Prim.Native.Nat.{ℕ, zero, suc, ◌+◌, ◌*◌, ◌≤◌}
use mathlib.Core.Path.{◌≡◌, refl, sym, ◌∙◌}
use mathlib.Core.List.{[], ◌∷◌}
use native.Mathlib.Omega.{arith}
use lib.IntN.{pos}
use lib.ListN.{length}
use Rattle.theory.specs.Rows.{placeless}
use Rattle.theory.specs.Verdict.{Keep}
use Rattle.cells.specs.Cell.{num_at}
use Rattle.cells.proofs.Names.{past_end}
use Rattle.program.specs.Tables.{task_width, task_supplier, task_worst}
use Rattle.program.specs.Program.{program_of}
use Rattle.program.specs.Ports.{value_of}
use Rattle.rules.specs.Verdict.{program_rules, program_verdict}
use Rattle.giotto.specs.Instant.{results}
use Rattle.giotto.specs.Execution.{execution}
use Rattle.giotto.specs.Successor.{Successor}
use Rattle.giotto.proofs.Execution.{execution-succeeds}
use Rattle.runs.specs.Tick.{left_of}
use Rattle.runs.specs.Round.{Choice, WithinWorst, Good, nothing}
use Rattle.suppliers.specs.Windows.{windows_verdict}
use Rattle.suppliers.specs.Supplier.{Asked, course_of, windowed_of, part_verdict, supplier_verdict}
use Rattle.demands.specs.Supplier.{DominatedUnit, own_windows}
use Rattle.demands.specs.Supplied.{supplied, worst_times}
use Rattle.demands.specs.Composed as composed
use Rattle.demands.proofs.Verdict.{accepted-exactly}
use Rattle.demands.proofs.Supplier.{supplier-exact, domination, independent}
use Rattle.demands.proofs.Supplied.{worst-case-suited}
use Rattle.worked.specs.Computed.{computed}
use Rattle.worked.specs.Programs.{program_f}
use Rattle.worked.specs.Systems.{F-system, F-asked, monitor, monitor_windows, monitor-system, mix, readings}

-- demand 2: both programs meet every rule
pub F-verdict : program_verdict (program_f 6 2) ≡ 0
unfolding computed
F-verdict = refl

pub F-rules : Keep program_rules (program_f 6 2)
F-rules = (accepted-exactly (program_f 6 2)).0 F-verdict

monitor-verdict : program_verdict (monitor 2) ≡ 0
unfolding computed
monitor-verdict = refl

pub monitor-rules : Keep program_rules (monitor 2)
monitor-rules = (accepted-exactly (monitor 2)).0 monitor-verdict

-- 001's successor: F's first instant has one
pub F-succeeds :
    Successor (program_f 6 2) (results (program_of (program_f 6 2)) mix (program_of (program_f 6 2)).first) (value_of (readings 0))
    (execution (program_of (program_f 6 2)) mix readings 0) (execution (program_of (program_f 6 2)) mix readings 1)
F-succeeds = execution-succeeds (program_f 6 2) F-rules mix readings 0 refl

-- demand 3, first half: F's code keeps to its window and ends in time for every choice of execution times
pub F-part : part_verdict F-asked ≡ 0
unfolding computed
F-part = refl

F-answer : supplier_verdict F-asked ≡ placeless 0
unfolding computed
F-answer = refl

pub F-good : (c : Choice) → WithinWorst (course_of F-asked 0) c → Good (course_of F-asked 0) c nothing
F-good c f = ((supplier-exact F-asked).accepted.0 F-answer).1 0 (omega arith) c f

-- domination from other remaining times than none: t1 has one tick left in the shorter run, and two in the longer
less-left : (j : ℕ) → left_of (1 ∷ []) j ≤ left_of (2 ∷ []) j
less-left zero = omega arith
less-left (suc j) = omega arith

pub F-dominated : DominatedUnit (course_of F-asked 0) (λ k j. 1) (λ k j. 2) 1 (1 ∷ []) (2 ∷ [])
F-dominated = domination (course_of F-asked 0) (λ k j. 1) (λ k j. 2) 1 (1 ∷ []) (2 ∷ []) (λ j h. omega arith) (omega arith) less-left

-- independence: the monitor's supplier 0, where supplier 1 gets less time and a shorter window
abbrev asked : ℕ → ℕ → Asked
asked worst1 to1 = record { tables = monitor worst1; windows = monitor_windows to1; part = monitor-system.parts 0; supplier = pos 0 }

-- past the two tasks stands 0, whatever the time of the second
beyond : (worst1 t column : ℕ) → num_at (monitor worst1).tasks (suc (suc t) * task_width + column) ≡ 0
beyond worst1 t column =
    let past : length (monitor worst1).tasks ≤ suc (suc t) * task_width + column = omega arith in
    past_end (monitor worst1).tasks (suc (suc t) * task_width + column) past

not_own : task_supplier (monitor 2) 1 ≡ 0 → ⊥
unfolding computed
not_own e = omega arith

same-suppliers : (t : ℕ) → task_supplier (monitor 2) t ≡ task_supplier (monitor 1) t
unfolding computed
same-suppliers zero = refl
same-suppliers (suc zero) = refl
same-suppliers (suc (suc t)) = beyond 2 t 0 ∙ sym (beyond 1 t 0)

own-worst : (t : ℕ) → task_supplier (monitor 2) t ≡ 0 → task_worst (monitor 2) t ≡ task_worst (monitor 1) t
unfolding computed
own-worst zero e = refl
own-worst (suc zero) e = absurd (not_own e)
own-worst (suc (suc t)) e = beyond 2 t 1 ∙ sym (beyond 1 t 1)

own-windows : own_windows (monitor_windows 2) 0 ≡ own_windows (monitor_windows 1) 0
unfolding computed
own-windows = refl

one-accepted : windows_verdict (windowed_of (asked 2 2)) ≡ 0
unfolding computed
one-accepted = refl

other-accepted : windows_verdict (windowed_of (asked 1 1)) ≡ 0
unfolding computed
other-accepted = refl

pub monitor-independent : supplier_verdict (asked 2 2) ≡ supplier_verdict (asked 1 1)
monitor-independent =
    independent (asked 2 2) (asked 1 1) refl refl
    (record {
      ports = refl;
      tasks = refl;
      suppliers = same-suppliers;
      own-worst = own-worst;
      task-ports = refl;
      drivers = refl;
      copies = refl;
      modes = refl;
      mode-ports = refl;
      invocations = refl;
      updates = refl;
      switches = refl;
      start = refl;
    })
    own-windows one-accepted other-accepted

-- demand 3, second half: F meets the premises at every tick, with worst-case times
F-windows : windows_verdict (record { tables = F-system.tables; windows = F-system.windows }) ≡ 0
unfolding computed
F-windows = refl

pub F-suited : (n : ℕ) → composed.SuitedAt F-system mix (supplied F-system mix readings (λ k. worst_times (program_of F-system.tables))) n
F-suited n = worst-case-suited F-system F-windows mix readings (λ k. refl) n
