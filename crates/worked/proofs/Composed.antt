-- F and the monitor meet the premises of the composed run's theorems: every tick of their runs is right, whatever n; an instant of the
-- monitor's compiled code in which a switch is taken is done.
use Prim.Native.Nat.{ℕ, zero, suc, ◌<◌}
use mathlib.Core.Path.{◌≡◌, refl, sym, subst}
use mathlib.Core.Bool.{Bool, true, false}
use mathlib.Core.List.{List, [], ◌∷◌}
use mathlib.Core.Logic.{inr, ⊎_elim}
use native.Mathlib.Omega.{arith}
use lib.Dec.{eqb}
use lib.IntN.{ℤ, pos}
use lib.ListN.{length, replicate}
use Rattle.theory.specs.Lists.{member}
use Rattle.theory.proofs.Filled.{zeros-at}
use Rattle.theory.proofs.Members.{member-says}
use Rattle.cells.specs.Cell.{num_at}
use Rattle.readings.specs.Reading.{no_reading}
use Rattle.cells.specs.Limits.{max_ports, max_tasks}
use Rattle.program.specs.Tables.{task_count}
use Rattle.program.specs.Program.{program_of, task}
use Rattle.rules.specs.Fields.{InRange}
use Rattle.rules.proofs.Accepted.{accepted-fields}
use Rattle.suppliers.proofs.Accepted.{windows-accepted}
use Rattle.giotto.proofs.Released.{released-declared}
use Rattle.machine.specs.declared.State.{State}
use Rattle.machine.specs.Instant.{ok}
use Rattle.machine.specs.Advance.{Lent, state_of}
use Rattle.compiled.specs.Done.{mode_entered, tasks_released, after_instant, AtBlock}
use Rattle.composed.specs.Related.{Related}
use Rattle.demands.specs.Compiled.{instant_of}
use Rattle.demands.specs.Composed.{compiling, joined, configuration_at, state_at, SuitedAt, Right}
use Rattle.demands.specs.Supplied.{supplied, worst_times}
use Rattle.demands.proofs.Compiled.{compiled-instant}
use Rattle.demands.proofs.Composed.{composed-run, same-values, related-always}
use Rattle.demands.proofs.Supplied.{premises-met, worst-case-suited}
use Rattle.worked.specs.Computed.{computed}
use Rattle.worked.specs.Programs.{program_f}
use Rattle.worked.specs.Systems.{F-system, monitor-system, mix, readings, gaps, times}
use Rattle.worked.proofs.Runs.{F-accepted, monitor-accepted}
use Rattle.worked.proofs.Instances.{F-suited}

-- what is lent to the ticks of F, with the longest execution times and with the shortest, and to those of the monitor, with readings that
-- are missing at ticks 4 and 6, so that its switches are taken
abbrev F-lent : ℕ → Lent
F-lent = supplied F-system mix readings (λ k. worst_times (program_of F-system.tables))

abbrev F-lent-early : ℕ → Lent
F-lent-early = supplied F-system mix readings (times (1 ∷ 1 ∷ []))

abbrev monitor-lent : ℕ → Lent
monitor-lent = supplied monitor-system mix gaps (λ k. worst_times (program_of monitor-system.tables))

-- F: every tick is accepted, and all ports hold Giotto's values after it
pub F-right : (n : ℕ) → Right F-system mix F-lent n
F-right n = (composed-run F-system F-accepted).1 mix F-lent n (λ k l. F-suited k)

-- F's ticks are right with the shortest execution times too, and the ports are the same at every tick
one-tick : (t : ℕ) → t < task_count (program_f 6 2) → InRange (num_at (times (1 ∷ 1 ∷ []) 0) t) (task (program_of (program_f 6 2)) t).worst
unfolding computed
one-tick zero l = (omega arith, omega arith)
one-tick (suc zero) l = (omega arith, omega arith)
one-tick (suc (suc t)) l = absurd (omega arith)

F-early : (n : ℕ) → SuitedAt F-system mix F-lent-early n
F-early n =
    let a = windows-accepted _ F-accepted.windows in
    premises-met F-system mix readings (times (1 ∷ 1 ∷ [])) F-accepted.windows (λ k. refl) (λ k. refl)
    (λ k t m. one-tick t (released-declared (program_f 6 2) (accepted-fields (program_f 6 2) a) mix readings k t m)) n

pub F-same-values : (n : ℕ)
    → (state_at F-system F-lent (suc n)).ports
    ≡ (state_at F-system F-lent-early (suc n)).ports
F-same-values n =
    same-values F-system F-system F-accepted F-accepted refl mix F-lent
    F-lent-early (λ k. refl) n (λ k l. F-suited k) (λ k l. F-early k)

-- every tick of the monitor is right
pub gaps-whole : (n : ℕ) → length (gaps n) ≡ max_ports
gaps-whole n = go (eqb n 4) (eqb n 6)
  where
    go : (a b : Bool)
        → length {A = ℤ} (elim a [
          | true ↦ no_reading ∷ replicate 63 (pos 0)
          | false ↦ elim b [ true ↦ no_reading ∷ replicate 63 (pos 0) | false ↦ readings n ]
        ])
        ≡ max_ports
    go true b = refl
    go false true = refl
    go false false = refl

pub monitor-suited : (n : ℕ) → SuitedAt monitor-system mix monitor-lent n
monitor-suited n = worst-case-suited monitor-system monitor-accepted.windows mix gaps gaps-whole n

pub monitor-right : (n : ℕ) → Right monitor-system mix monitor-lent n
monitor-right n =
    (composed-run monitor-system monitor-accepted).1 mix monitor-lent n
    (λ k l. monitor-suited k)

-- the monitor's states are related to Giotto's configurations
pub monitor-related : (n : ℕ)
    → Related monitor-system.tables monitor-system.windows (joined monitor-system) mix n
    (configuration_at monitor-system mix monitor-lent n)
    (state_at monitor-system monitor-lent n)
monitor-related n =
    related-always monitor-system monitor-accepted mix monitor-lent n
    (λ k l. monitor-suited k)

-- The monitor at the block of mode 0 and unit 0, all tasks ended, and no reading: mode 1 is entered, and task 1 released
abbrev waiting : State
waiting = state_of (program_of monitor-system.tables).first

abbrev lost : List ℤ
lost = gaps 4

abbrev lent_times : List ℤ
lent_times = times (1 ∷ 2 ∷ []) 0

begins : AtBlock monitor-system.tables 0 0 waiting
unfolding computed
begins = record { declared = omega arith; in-round = omega arith; pending = inr (refl, refl, refl) }

-- in that instant just task 1 is released
only_one : tasks_released (program_of monitor-system.tables) lost 0 0 waiting ≡ 1 ∷ []
unfolding computed
only_one = refl

its-time : InRange (num_at lent_times 1) (task (program_of monitor-system.tables) 1).worst
unfolding computed
its-time = (omega arith, omega arith)

in-range : (t : ℕ) → member t (tasks_released (program_of monitor-system.tables) lost 0 0 waiting) ≡ true
    → InRange (num_at lent_times t) (task (program_of monitor-system.tables) t).worst
in-range t m =
    let h = (member-says t (1 ∷ [])).yes (subst (λ (ts : List ℕ). member t ts ≡ true) only_one m) in
    subst (λ (u : ℕ). InRange (num_at lent_times u) (task (program_of monitor-system.tables) u).worst) (sym (⊎_elim (λ e. e) absurd h)) its-time

pub monitor-switches-mode : mode_entered (program_of monitor-system.tables) lost 0 0 waiting ≡ 1
unfolding computed
monitor-switches-mode = refl

pub monitor-done : instant_of (compiling monitor-system) lost lent_times 0 0 waiting ≡ ok (after_instant (program_of monitor-system.tables) lost 0 0 waiting lent_times)
monitor-done =
    (compiled-instant (compiling monitor-system) monitor-accepted.compiled lost lent_times 0 0 waiting begins).does
    (λ t m. zeros-at max_tasks t) (λ t m. zeros-at max_tasks t) in-range
