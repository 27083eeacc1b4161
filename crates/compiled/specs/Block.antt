-- What an instant comes to from the block of a mode and unit, in the order of document 01, as a function of the state: no code, and no
-- address but those that a unit begins with. By definition it is refused only with 16 and 17.
use Rattle.std.specs.Prelude.{ℕ, ◌+◌, Bool, true, false, List, [], ◌∷◌, ◌++◌, map, ℤ, set}
use Rattle.std.proofs.Math.Option.{Option}
use Rattle.cells.specs.Cell.{num_at}
use Rattle.cells.specs.Limits.{first_output_call, first_sensor_call}
use Rattle.cells.specs.Refusals.{time_refused, overrun_refused}
use Rattle.program.specs.Program.{Program, Mode, Switch, mode, ticks_of, next_unit, due_invocations, due_updates, due_switches, due_tasks}
use Rattle.code.specs.Op.{Op, call, schedule}
use Rattle.code.specs.Listing.{block_address, future_address}
use Rattle.giotto.specs.Instant.{mode_after, unit_after, taken, after_switch}
use Rattle.machine.specs.declared.State.{State}
use Rattle.machine.specs.Change.{with_ports, with_left}
use Rattle.machine.specs.Instruction.{call_of, time_bad, still_running, called, plan_at}
use Rattle.machine.specs.Instant.{Outcome, ok, stop}

-- an instruction of straight-line code: a call or a release
pub data Straight : Type 0 where
  calls : ℕ → Straight
  releases : ℕ → Straight

abbrev pub op_of : Straight → Op
op_of (calls n) = call n
op_of (releases t) = schedule t

-- an instruction and its rest: 16 where a time is bad, 17 where a task is still running, and else what the rest comes to
abbrev pub unless : Bool → Bool → Outcome → Outcome
unless true running more = stop time_refused
unless false true more = stop overrun_refused
unless false false more = more

-- an outcome and what comes after it; a refusal ends it
abbrev pub and_then : Outcome → (State → Outcome) → Outcome
and_then (ok s) more = more s
and_then (stop n) more = stop n

-- calls of a block before its switch tests: (1) outputs of due tasks, (2) due updates, (3) all sensors
abbrev pub head_steps : Program → Mode → ℕ → List Straight
head_steps P M k =
    map (λ t. calls (first_output_call + t)) (due_tasks M k)
    ++ (map (λ r. calls r.driver) (due_updates M k) ++ map (λ p. calls (first_sensor_call + p)) P.sensors)

-- calls and releases of a block from its entry on: (5) due task drivers, (6) the due tasks are released
abbrev pub body_steps : Mode → ℕ → List Straight
body_steps M k = map (λ r. calls r.driver) (due_invocations M k) ++ map releases (due_tasks M k)

module _ (P : Program) (readings times : List ℤ) where
  -- what a call or a release makes of a state
  abbrev pub effect : Straight → State → State
  effect (calls n) s = called P readings times s (call_of n)
  effect (releases t) s = with_left s (set s.left t (num_at times t))

  -- calls and releases one after the other, up to the first that is refused, 16 before 17
  abbrev pub through : List Straight → State → Outcome
  through [] s = ok s
  through (o ∷ os) s = let rest = through os (effect o s) in unless (time_bad P times (op_of o)) (still_running s (op_of o)) rest

  -- (4) the state after the copies of the switch that is taken, or none
  abbrev pub switched : Option Switch → State → State
  switched w s = with_ports s (after_switch P w s.ports)

  -- (7) the state in which unit k of mode m begins
  abbrev pub begun : ℕ → ℕ → State → State
  begun m k s =
      plan_at P readings times (future_address P m k) (ticks_of (mode P m)) (block_address P m (next_unit (mode P m) k)) s

  -- (5) to (7) of an instant in mode m at unit k
  unfoldable pub entered : ℕ → ℕ → State → Outcome
  entered m k s = and_then (through (body_steps (mode P m) k) s) (λ u. ok (begun m k u))

  -- (4) to (7) of an instant, with the switch of mode m and unit k that is taken, or none
  abbrev pub turned : ℕ → ℕ → Option Switch → State → Outcome
  turned m k w s = entered (mode_after m w) (unit_after k w) (switched w s)

  -- the whole instant from the block of mode m and unit k
  unfoldable pub block_instant : ℕ → ℕ → State → Outcome
  block_instant m k s =
      and_then (through (head_steps P (mode P m) k) s) (λ u. turned m k (taken P u.ports (due_switches (mode P m) k)) u)
