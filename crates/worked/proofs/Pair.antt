-- The pair: two suppliers at work in one round, one of them cut off by the unit's end, with readings and times that change from tick to
-- tick. It meets the premises of the composed run's theorem at every tick.
use Prim.Native.Nat.{ℕ, zero, suc, ◌<◌}
use mathlib.Core.Path.{◌≡◌, refl}
use mathlib.Core.Bool.{true}
use mathlib.Core.List.{[], ◌∷◌}
use mathlib.Core.Logic.{◌⊎◌, inl, inr}
use native.Mathlib.Omega.{arith}
use Rattle.cells.specs.Cell.{num_at}
use Rattle.cells.specs.Limits.{suppliers}
use Rattle.program.specs.Tables.{task_count}
use Rattle.program.specs.Program.{program_of, task}
use Rattle.rules.specs.Fields.{InRange}
use Rattle.rules.proofs.Accepted.{accepted-fields}
use Rattle.suppliers.specs.Supplier.{supplier_verdict}
use Rattle.suppliers.proofs.Accepted.{windows-accepted}
use Rattle.giotto.proofs.Released.{released-declared}
use Rattle.machine.specs.Schedules.{nobody, one}
use Rattle.machine.specs.Advance.{Lent}
use Rattle.demands.specs.Composed.{Accepted, state_at, SuitedAt, Right}
use Rattle.demands.specs.Supplied.{supplied, worst_times}
use Rattle.demands.specs.Idle.{Idle, asked_of}
use Rattle.demands.proofs.Composed.{composed-run, same-values}
use Rattle.demands.proofs.Idle.{accepted-of}
use Rattle.demands.proofs.Supplied.{premises-met, worst-case-suited}
use Rattle.worked.specs.Computed.{computed}
use Rattle.worked.specs.Systems.{pair, pair-system, mix, readings, changing, runs_as_giotto, who_each}
use Rattle.worked.proofs.Runs.{two-below}

-- two rounds of the machine are those of Giotto's execution
pair_runs : runs_as_giotto pair-system mix readings changing 16 ≡ true
unfolding computed
pair_runs = refl

-- who runs in two rounds of the pair: in the first, task 0 for one tick and then for two, and task 1, of four ticks, in both units; in
-- the second task 1 has three ticks, and nobody runs in the last
pair-shares : who_each pair-system mix readings changing 16
    ≡ one 0 ∷ nobody ∷ one 1 ∷ one 1 ∷ one 0 ∷ one 0 ∷ one 1 ∷ one 1
    ∷ one 0 ∷ nobody ∷ one 1 ∷ one 1 ∷ one 0 ∷ one 0 ∷ one 1 ∷ nobody ∷ []
unfolding computed
pair-shares = refl

-- suppliers 0 and 1 are accepted alone, and the others have nothing to do
pair-suppliers : (s : ℕ) → s < suppliers → Idle (asked_of pair-system s) ⊎ ((supplier_verdict (asked_of pair-system s)).number ≡ 0)
unfolding computed
pair-suppliers zero l = inr refl
pair-suppliers (suc zero) l = inr refl
pair-suppliers (suc (suc s)) l = inl (record { no_rows = refl; no-tasks = two-below pair (suc (suc s)) refl (omega arith) (omega arith) })

pub pair-accepted : Accepted pair-system
unfolding computed
pair-accepted = accepted-of pair-system refl refl pair-suppliers

-- whatever the tick, the times are in range
in-range : (n t : ℕ) → t < task_count pair → InRange (num_at (changing n) t) (task (program_of pair) t).worst
unfolding computed
in-range n zero l = (omega arith, omega arith)
in-range n (suc zero) l = (omega arith, omega arith)
in-range n (suc (suc t)) l = absurd (omega arith)

-- every tick of the pair meets the premises
abbrev pair-lent : ℕ → Lent
pair-lent = supplied pair-system mix readings changing

pub pair-suited : (n : ℕ) → SuitedAt pair-system mix pair-lent n
pair-suited n =
    let a = windows-accepted _ pair-accepted.windows in
    premises-met pair-system mix readings changing pair-accepted.windows (λ k. refl) (λ k. refl)
    (λ k t m. in-range k t (released-declared pair (accepted-fields pair a) mix readings k t m)) n

-- every tick of the pair is accepted, with Giotto's values in all ports
pub pair-right : (n : ℕ) → Right pair-system mix pair-lent n
pair-right n = (composed-run pair-system pair-accepted).1 mix pair-lent n (λ k l. pair-suited k)

-- the pair's ports are those of its run with worst-case times
abbrev pair-lent-worst : ℕ → Lent
pair-lent-worst = supplied pair-system mix readings (λ k. worst_times (program_of pair))

pub pair-same-values : (n : ℕ) → (state_at pair-system pair-lent (suc n)).ports ≡ (state_at pair-system pair-lent-worst (suc n)).ports
pair-same-values n =
    same-values pair-system pair-system pair-accepted pair-accepted refl mix pair-lent pair-lent-worst (λ k. refl) n (λ k l. pair-suited k)
    (λ k l. worst-case-suited pair-system pair-accepted.windows mix readings (λ j. refl) k)
