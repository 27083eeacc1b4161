-- Suppliers keep their windows in a composed run: each tick in which a supplier runs is in a window of that supplier, at the tick of the
-- round of the mode in which Giotto's execution is. Proved of these definitions in proofs/Kept.antt.
use Rattle.std.specs.Prelude.{ℕ, suc, ◌+◌, ◌*◌, ◌≤◌, ◌<◌, ◌≡◌, true}
use Rattle.cells.specs.Limits.{suppliers}
use Rattle.program.specs.Program.{Program, program_of, mode, ticks_of, next_unit}
use Rattle.code.specs.Op.{instructions}
use Rattle.runs.specs.Windows.{InWindow}
use Rattle.giotto.specs.Instant.{Configuration, Function}
use Rattle.machine.specs.Instant.{Outcome, ok}
use Rattle.machine.specs.Schedules.{runs_now}
use Rattle.machine.specs.Advance.{Lent, ready}
use Rattle.machine.specs.declared.State.{State}
use Rattle.demands.specs.Composed.{System, Accepted, joined, code, state_at, configuration_at, SuitedAt}

-- Tick n lies in the round of Giotto's mode at this place: in unit k, e ticks after the unit's start. C is the configuration after the
-- tick's instant, if it has one: its unit is the next one, and its time the tick at which that begins
pub record InRound (P : Program) (n : ℕ) (C : Configuration) (k e : ℕ) : Type 0 where
  pub unit : k < (mode P C.mode).units
  pub tick : e < ticks_of (mode P C.mode)
  pub next : C.unit ≡ next_unit (mode P C.mode) k
  pub stamp : C.time + e ≡ n + ticks_of (mode P C.mode)

-- a tick has at most one place in the round of Giotto's mode
abbrev pub PlaceOne : Type 0
PlaceOne =
    (P : Program) (n : ℕ) (C : Configuration) (k e l f : ℕ) → InRound P n C k e → InRound P n C l f → (k ≡ l) × (e ≡ f)

-- the E part of tick n: the state before the tick of the schedules
abbrev pub ready_at : System → (ℕ → Lent) → ℕ → Outcome
ready_at Y lents n = ready (program_of Y.tables) (instructions (code Y)) (lents n).readings (lents n).times (state_at Y lents n)

-- tick n is in a window of supplier s
abbrev pub TickInWindow : System → Function → (ℕ → Lent) → ℕ → ℕ → Type 0
TickInWindow Y F lents n s =
    let P = program_of Y.tables in
    let C = configuration_at Y F lents (suc n) in
    (k e : ℕ) × InRound P n C k e × InWindow Y.windows s C.mode (k * ticks_of (mode P C.mode) + e)

-- In every tick of a composed run the E part is not refused, and a supplier that runs in the state that it leaves has a window there
abbrev pub WindowsKept : Type 0
WindowsKept =
    (Y : System) → Accepted Y → (F : Function) (lents : ℕ → Lent) (n : ℕ) → ((k : ℕ) → k ≤ n → SuitedAt Y F lents k)
    → ((u : State) × (ready_at Y lents n ≡ ok u))
    × ((u : State) → ready_at Y lents n ≡ ok u
    → (s : ℕ) → s < suppliers → runs_now (joined Y) u s ≡ true → TickInWindow Y F lents n s)
