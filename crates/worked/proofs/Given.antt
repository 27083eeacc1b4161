-- F and the monitor meet the premises of the composed run by Giotto's execution alone, and every tick of it is right. Suppliers keep their
-- windows in both: in the monitor's tick 4, in which it enters mode 1, supplier 1 runs.
use Prim.Native.Nat.{ℕ}
use mathlib.Core.Path.{◌≡◌, refl, ap, subst}
use mathlib.Core.Bool.{true}
use native.Mathlib.Omega.{arith}
use lib.IntN.{pos}
use Rattle.program.specs.Program.{Program, program_of}
use Rattle.program.specs.Ports.{value_of}
use Rattle.suppliers.proofs.Accepted.{windows-accepted}
use Rattle.giotto.specs.Execution.{execution}
use Rattle.machine.specs.declared.State.{State}
use Rattle.machine.specs.Instant.{Outcome, ok, stop}
use Rattle.machine.specs.Schedules.{runs_now}
use Rattle.machine.specs.Advance.{Lent, state_of}
use Rattle.demands.specs.Composed.{joined, configuration_at, SuitedAt, Right}
use Rattle.demands.specs.Given.{Given, results_of, lent_by, LentFits}
use Rattle.demands.specs.Kept.{InRound, ready_at, TickInWindow}
use Rattle.demands.specs.Supplied.{worst_times}
use Rattle.demands.proofs.Supplied.{worst-fed}
use Rattle.demands.proofs.Given.{given-suited, given-right, given-met, execution-right}
use Rattle.demands.proofs.Kept.{place-one, windows-kept}
use Rattle.worked.specs.Computed.{computed}
use Rattle.worked.specs.Systems.{F-system, monitor-system, mix, readings, gaps}
use Rattle.worked.proofs.Runs.{F-accepted, monitor-accepted}
use Rattle.worked.proofs.Composed.{gaps-whole}

-- what is lent to the ticks of F and of the monitor, computed from Giotto's execution
abbrev F-program : Program
F-program = program_of F-system.tables

abbrev F-lent : ℕ → Lent
F-lent = lent_by F-program mix readings (λ k. worst_times F-program)

abbrev monitor-program : Program
monitor-program = program_of monitor-system.tables

abbrev monitor-lent : ℕ → Lent
monitor-lent = lent_by monitor-program mix gaps (λ k. worst_times monitor-program)

-- after F's first instant both tasks are active: t1 gives 80 for port 8, t2 gives 200 for port 10, and nobody gives for the sensor
F-results : value_of (results_of F-program mix (execution F-program mix readings 1)) 8 ≡ pos 80
unfolding computed
F-results = refl

F-results-2 : value_of (results_of F-program mix (execution F-program mix readings 1)) 10 ≡ pos 200
unfolding computed
F-results-2 = refl

F-results-0 : value_of (results_of F-program mix (execution F-program mix readings 1)) 0 ≡ pos 0
unfolding computed
F-results-0 = refl

-- F and the monitor meet the premises
F-fed : LentFits F-program mix readings (λ k. worst_times F-program)
F-fed = worst-fed F-system.tables (windows-accepted _ F-accepted.windows) mix readings (λ n. refl)

monitor-fed : LentFits monitor-program mix gaps (λ k. worst_times monitor-program)
monitor-fed = worst-fed monitor-system.tables (windows-accepted _ monitor-accepted.windows) mix gaps gaps-whole

pub F-given : (n : ℕ) → Given F-program mix F-lent n
F-given n = given-met F-system.tables (windows-accepted _ F-accepted.windows) mix readings (λ k. worst_times F-program) F-fed n

pub monitor-given : (n : ℕ) → Given monitor-program mix monitor-lent n
monitor-given n =
    given-met monitor-system.tables (windows-accepted _ monitor-accepted.windows) mix gaps (λ k. worst_times monitor-program) monitor-fed n

-- every tick of F and of the monitor is right
pub F-given-right : (n : ℕ) → Right F-system mix F-lent n
F-given-right n = given-right F-system F-accepted mix F-lent n (λ k l. F-given k)

pub monitor-given-right : (n : ℕ) → Right monitor-system mix monitor-lent n
monitor-given-right n = execution-right monitor-system monitor-accepted mix gaps (λ k. worst_times monitor-program) monitor-fed n

-- the monitor's suppliers keep their windows
suited : (n : ℕ) → SuitedAt monitor-system mix monitor-lent n
suited n = given-suited monitor-system monitor-accepted mix monitor-lent n (λ k l. monitor-given k)

-- in the state that the E part of tick 4 leaves, supplier 1 runs
abbrev left : Outcome → State
left (ok u) = u
left (stop n) = state_of monitor-program.first

one-runs : runs_now (joined monitor-system) (left (ready_at monitor-system monitor-lent 4)) 1 ≡ true
unfolding computed
one-runs = refl

pub monitor-kept : TickInWindow monitor-system mix monitor-lent 4 1
monitor-kept =
    let w = windows-kept monitor-system monitor-accepted mix monitor-lent 4 (λ k l. suited k) in
    let (u, e) = w.0 in
    w.1 u e 1 (omega arith) (subst (λ (u : State). runs_now (joined monitor-system) u 1 ≡ true) (ap left e) one-runs)

-- tick 4 of the monitor has its place at the first tick of unit 0
place : InRound monitor-program 4 (configuration_at monitor-system mix monitor-lent 5) 0 0
unfolding computed
place = record { unit = omega arith; tick = omega arith; next = refl; stamp = refl }

pub monitor-place : (monitor-kept.0 ≡ 0) × (monitor-kept.1 ≡ 0)
monitor-place =
    place-one monitor-program 4 (configuration_at monitor-system mix monitor-lent 5) monitor-kept.0 monitor-kept.1 0 0 monitor-kept.2 place
