-- The monitor's first task as a moving average: in a composed run what it gives is no function of its inputs alone, and what it remembers
-- is kept through a mode that does not invoke it. The insulation monitor of examples/ with its filter: the values that README.md shows.
use Prim.Native.Nat.{ℕ, zero, suc, ◌*◌}
use mathlib.Core.Path.{◌≡◌, refl, sym, ap, ◌∙◌}
use mathlib.Core.Bool.{Bool, true, false}
use mathlib.Core.List.{List, [], ◌∷◌, ◌++◌, map}
use native.Mathlib.Omega.{arith}
use lib.Dec.{eqb, ltb}
use lib.IntN.{ℤ, pos, nat_abs}
use lib.ListN.{length}
use Rattle.theory.specs.Lists.{each}
use Rattle.theory.specs.Verdict.{accepted_number}
use Rattle.cells.specs.Limits.{max_ports}
use Rattle.readings.specs.Reading.{no_reading}
use Rattle.program.specs.Tables.{private, input}
use Rattle.program.specs.Sets.{is_kind, OfKind}
use Rattle.program.specs.Program.{Program, program_of, ports_of, mode, task, due_tasks}
use Rattle.program.specs.Ports.{value_of, values_of}
use Rattle.rules.specs.Verdict.{program_verdict}
use Rattle.suppliers.proofs.Accepted.{windows-accepted}
use Rattle.giotto.specs.Instant.{Configuration, results}
use Rattle.giotto.specs.Execution.{execution, ports_in_tick}
use Rattle.machine.specs.Advance.{Lent}
use Rattle.demands.specs.Composed.{state_at, SuitedAt, Right}
use Rattle.demands.specs.Supplied.{supplied, worst_times}
use Rattle.demands.specs.Private.{Own, PrivateAfter, Ends, Remembers}
use Rattle.demands.proofs.Composed.{composed-run}
use Rattle.demands.proofs.Supplied.{worst-case-suited}
use Rattle.demands.proofs.Giotto.{execution-is-by-001}
use Rattle.demands.proofs.Private.{private-own, private-written, private-run}
use Rattle.worked.specs.Computed.{computed}
use Rattle.worked.specs.Systems.{monitor-system}
use Rattle.worked.specs.Insulation.{insulation, insulation-system, insulation_lent}
use Rattle.worked.specs.Filters.{smooth, Forgets, reading, interrupted, insulation_tasks, measured}
use Rattle.worked.proofs.Runs.{monitor-accepted}
use Rattle.worked.proofs.Insulation.{insulation-accepted}

abbrev monitor-program : Program
monitor-program = program_of monitor-system.tables

-- what is lent to the monitor's ticks, with worst-case times
abbrev filter-lent : ℕ → Lent
filter-lent = supplied monitor-system (smooth 5) interrupted (λ k. worst_times monitor-program)

interrupted-whole : (n : ℕ) → length (interrupted n) ≡ max_ports
interrupted-whole n = go (ltb n 4) (eqb n 4)
  where
    go : (a b : Bool)
        → length {A = ℤ} (elim a [ true ↦ reading (pos 40) | false ↦ elim b [ true ↦ reading no_reading | false ↦ reading (pos 60) ] ]) ≡ max_ports
    go true b = refl
    go false true = refl
    go false false = refl

pub filter-suited : (n : ℕ) → SuitedAt monitor-system (smooth 5) filter-lent n
filter-suited n = worst-case-suited monitor-system monitor-accepted.windows (smooth 5) interrupted interrupted-whole n

-- every tick is accepted, with Giotto's values in all ports
pub filter-right : (n : ℕ) → Right monitor-system (smooth 5) filter-lent n
filter-right n = (composed-run monitor-system monitor-accepted).1 (smooth 5) filter-lent n (λ k l. filter-suited k)

-- task 0 takes its input and what it remembers, in table order, and gives its output and what it remembers
filter_takes : (task monitor-program 0).takes ≡ 2 ∷ 5 ∷ []
unfolding computed
filter_takes = refl

filter-gives : (task monitor-program 0).gives ≡ 4 ∷ 5 ∷ []
unfolding computed
filter-gives = refl

-- port 5 is private: task 0's own, by 001 written at its terminations alone, and so in every tick of the machine
memory : OfKind monitor-system.tables private 5
unfolding computed
memory = (omega arith, refl)

accepted : program_verdict monitor-system.tables ≡ accepted_number
accepted = windows-accepted _ monitor-accepted.windows

pub filter-own : Own monitor-system.tables 5
filter-own = private-own monitor-system.tables accepted 5 memory

-- the configuration of Giotto's execution before tick n
abbrev at : ℕ → Configuration
at n = execution monitor-program (smooth 5) interrupted n

at-2 : (at 2).time ≡ 2
unfolding computed
at-2 = refl

pub filter-written : PrivateAfter monitor-system.tables (results monitor-program (smooth 5) (at 2).ports) (at 2) (at 3) 5
filter-written =
    private-written monitor-system.tables accepted _ (value_of (interrupted 2)) (at 2) (at 3)
    ((execution-is-by-001 monitor-system.tables accepted (smooth 5) interrupted).succeeds 2 at-2) 5 memory

pub filter-memory : (n : ℕ) → Remembers monitor-system (smooth 5) filter-lent n 5
filter-memory n = private-run monitor-system monitor-accepted (smooth 5) filter-lent n (λ k l. filter-suited k) 5 memory

-- mode 1 is entered at tick 4 and left at tick 6, and does not invoke task 0
in-mode-1 : (execution monitor-program (smooth 5) interrupted 6).mode ≡ 1
unfolding computed
in-mode-1 = refl

in-mode-0 : (execution monitor-program (smooth 5) interrupted 7).mode ≡ 0
unfolding computed
in-mode-0 = refl

tasks-of-1 : due_tasks (mode monitor-program 1) 0 ≡ 1 ∷ []
unfolding computed
tasks-of-1 = refl

-- ports 4 and 5 after each of 11 ticks: 40 is remembered through mode 1, and so the first mean after it is that of 60 and 40
abbrev shown : ℕ → List ℤ
shown p = each (λ n. value_of (ports_in_tick monitor-program (smooth 5) interrupted n) p) 11 0

filtered : shown 4 ≡ map pos (0 ∷ 0 ∷ 20 ∷ 20 ∷ 40 ∷ 40 ∷ []) ++ (no_reading ∷ no_reading ∷ map pos (50 ∷ 50 ∷ 60 ∷ []))
unfolding computed
filtered = refl

remembered : shown 5 ≡ map pos (0 ∷ 0 ∷ 40 ∷ 40 ∷ 40 ∷ 40 ∷ 40 ∷ 40 ∷ 60 ∷ 60 ∷ 60 ∷ [])
unfolding computed
remembered = refl

-- task 0 completes in tick 0: its new value is kept beside the local outputs, and enters the port at its termination, tick 2
kept : value_of (state_at monitor-system filter-lent 1).outputs 5 ≡ pos 40
unfolding computed
kept = refl

not_yet : value_of (state_at monitor-system filter-lent 2).ports 5 ≡ pos 0
unfolding computed
not_yet = refl

entered : value_of (state_at monitor-system filter-lent 3).ports 5 ≡ pos 40
unfolding computed
entered = refl

-- task 0 ends at ticks 8 and 10
ends-8 : Ends monitor-system (smooth 5) filter-lent 8 0
unfolding computed
ends-8 = record { instant = refl; completed = (refl, (0, record { in_table = omega arith; of-mode = refl; is-due = refl }, refl)) }

ends-10 : Ends monitor-system (smooth 5) filter-lent 10 0
unfolding computed
ends-10 = record { instant = refl; completed = (refl, (0, record { in_table = omega arith; of-mode = refl; is-due = refl }, refl)) }

-- its inputs alone
abbrev inputs : List ℕ
inputs = ports_of monitor-system.tables (is_kind monitor-system.tables input) 0

-- before both ticks its input is 60, and it gives 50 at the one and 60 at the other
inputs-8 : values_of (ports_in_tick monitor-program (smooth 5) interrupted 7) inputs ≡ pos 60 ∷ []
unfolding computed
inputs-8 = refl

inputs-10 : values_of (ports_in_tick monitor-program (smooth 5) interrupted 9) inputs ≡ pos 60 ∷ []
unfolding computed
inputs-10 = refl

given-8 : value_of (ports_in_tick monitor-program (smooth 5) interrupted 8) 4 ≡ pos 50
unfolding computed
given-8 = refl

given-10 : value_of (ports_in_tick monitor-program (smooth 5) interrupted 10) 4 ≡ pos 60
unfolding computed
given-10 = refl

-- so what it gives is no function of its inputs alone
pub filter-remembers : Forgets monitor-system (smooth 5) filter-lent 0 4 → ⊥
filter-remembers f = omega (arith, ap nat_abs (sym (told 7 50 ends-8 given-8 inputs-8) ∙ told 9 60 ends-10 given-10 inputs-10))
  where
    -- at a tick at which it ends with input 60, what it gives is g of 60
    told : (n x : ℕ) → Ends monitor-system (smooth 5) filter-lent (suc n) 0
        → value_of (ports_in_tick monitor-program (smooth 5) interrupted (suc n)) 4 ≡ pos x
        → values_of (ports_in_tick monitor-program (smooth 5) interrupted n) inputs ≡ pos 60 ∷ []
        → f.g (pos 60 ∷ []) ≡ pos x
    told n x e q i =
        sym (ap f.g (ap (λ (v : List ℤ). values_of v inputs) (filter-right n).ports ∙ i))
        ∙ sym (f.always (suc n) e)
        ∙ ap (λ (v : List ℤ). value_of v 4) (filter-right (suc n)).ports
        ∙ q

-- The insulation monitor, with what its tasks compute and the readings of examples/insulation.ticks: every tick is right
abbrev insulation-lent : ℕ → Lent
insulation-lent = insulation_lent insulation_tasks measured

measured-whole : (n : ℕ) → length (measured n) ≡ max_ports
measured-whole n = go (ltb n 10) (ltb n 85) (ltb n 125) (ltb n 140)
  where
    go : (a b c d : Bool)
        → length {A = ℤ} (elim a [
          | true ↦ reading (pos 80)
          | false ↦ elim b [
            | true ↦ reading (pos 100)
            | false ↦ elim c [
              | true ↦ reading no_reading
              | false ↦ elim d [ true ↦ reading (pos 120) | false ↦ reading (pos 80) ]
            ]
          ]
        ])
        ≡ max_ports
    go true b c d = refl
    go false true c d = refl
    go false false true d = refl
    go false false false true = refl
    go false false false false = refl

pub insulation-right : (n : ℕ) → Right insulation-system insulation_tasks insulation-lent n
insulation-right n =
    (composed-run insulation-system insulation-accepted).1 insulation_tasks insulation-lent n
    (λ k l. worst-case-suited insulation-system insulation-accepted.windows insulation_tasks measured measured-whole k)

-- the values of a port after every tenth tick of 200, as README.md shows them: filtered, remembered, the relay
abbrev every-tenth : ℕ → List ℤ
every-tenth p = each (λ k. value_of (ports_in_tick (program_of insulation) insulation_tasks measured (10 * k)) p) 20 0

insulation-filtered : every-tenth 6
    ≡ map pos (0 ∷ 80 ∷ 90 ∷ 100 ∷ 100 ∷ 100 ∷ 100 ∷ 100 ∷ 100 ∷ 100 ∷ [])
    ++ (no_reading ∷ no_reading ∷ no_reading ∷ no_reading ∷ map pos (120 ∷ 100 ∷ 80 ∷ 80 ∷ 80 ∷ 80 ∷ []))
unfolding computed
insulation-filtered = refl

insulation-remembered : every-tenth 9
    ≡ no_reading
    ∷ (map pos (80 ∷ 100 ∷ 100 ∷ 100 ∷ 100 ∷ 100 ∷ 100 ∷ 100 ∷ 100 ∷ [])
    ++ (no_reading ∷ no_reading ∷ no_reading ∷ no_reading ∷ map pos (120 ∷ 80 ∷ 80 ∷ 80 ∷ 80 ∷ 80 ∷ [])))
unfolding computed
insulation-remembered = refl

insulation-relay : every-tenth 1
    ≡ map pos (0 ∷ 0 ∷ 0 ∷ 0 ∷ 0 ∷ 0 ∷ 1 ∷ 1 ∷ 1 ∷ 1 ∷ 1 ∷ 0 ∷ 0 ∷ 0 ∷ 0 ∷ 0 ∷ 0 ∷ 0 ∷ 0 ∷ 1 ∷ [])
unfolding computed
insulation-relay = refl
