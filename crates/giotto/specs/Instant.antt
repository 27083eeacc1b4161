-- One instant of Giotto, after 001, section 3.2, bounded as in document 01: no machine, no code, no schedule.
use Rattle.std.specs.Prelude.{ℕ, ◌+◌, Bool, true, false, not, ◌&&◌, ◌||◌, List, [], ◌∷◌, map, ℤ}
use Rattle.std.proofs.Math.Option.{Option, none, some}
use Rattle.theory.specs.Lists.{keep, gather, member, puts}
use Rattle.program.specs.Guard.{holds}
use Rattle.program.specs.Program.{Program, Mode, Switch, task, driver, mode, ticks_of, next_unit, entered_unit, due_invocations, due_updates}
use Rattle.program.specs.Program.{due_switches, due_tasks}
use Rattle.program.specs.Ports.{value_of, values_of, assigned, drive, drive_all}

-- C = (τ, m, u, v, σactive): the tick of the next instant, mode, unit counter, port values, active tasks
pub record Configuration : Type 0 where
  pub time : ℕ
  pub mode : ℕ
  pub unit : ℕ
  pub ports : List ℤ
  pub active : ℕ → Bool

-- (4) the mode that is entered: where a switch is taken "the mode becomes the target", else it stays
abbrev pub mode_after : ℕ → Option Switch → ℕ
mode_after m none = m
mode_after m (some w) = w.target

-- (4) the unit that is entered: where a switch is taken it becomes 0, else it stays
abbrev pub unit_after : ℕ → Option Switch → ℕ
unit_after k none = k
unit_after k (some w) = entered_unit k w

module _ (P : Program) where
  -- the tasks that are active and due in a configuration
  abbrev pub completed : Configuration → List ℕ
  completed C = keep C.active (due_tasks (mode P C.mode) C.unit)

  -- (1) active due tasks write their outputs and private ports: `result t p` is what task t gives for port p
  abbrev pub after_tasks : (ℕ → ℕ → ℤ) → Configuration → List ℤ
  after_tasks result C = puts (gather (λ t. assigned (result t) (task P t).gives) (completed C)) C.ports

  -- (2) the port values after the due updates of a mode and unit
  abbrev pub after_updates : Mode → ℕ → List ℤ → List ℤ
  after_updates M k v = drive_all (map (λ r. driver P r.driver) (due_updates M k)) v

  -- (3) the port values after all sensors are read
  abbrev pub after_sensors : List ℤ → List ℤ → List ℤ
  after_sensors readings v = puts (assigned (value_of readings) P.sensors) v

  -- (4) the due switch that is taken: the first in table order whose guard holds (where 8 does not apply, it is the only one)
  abbrev pub taken : List ℤ → List Switch → Option Switch
  taken v [] = none
  taken v (w ∷ ws) = elim (holds (driver P w.driver).guard (value_of v)) [ true ↦ some w | false ↦ taken v ws ]

  -- (4) the port values after the copies of the switch that is taken, or none
  abbrev pub after_switch : Option Switch → List ℤ → List ℤ
  after_switch none v = v
  after_switch (some w) v = drive (driver P w.driver) v

  -- (5) the port values after the due task drivers of the mode now current
  abbrev pub after_drivers : Mode → ℕ → List ℤ → List ℤ
  after_drivers M k v = drive_all (map (λ r. driver P r.driver) (due_invocations M k)) v

  -- (5) to (7) of an instant, with the switch that is taken, or none, and the port values after (3)
  abbrev pub enter : Configuration → Option Switch → List ℤ → Configuration
  enter C s v =
      let M = mode P (mode_after C.mode s) in
      let k = unit_after C.unit s in
      record {
        time = C.time + ticks_of M;
        mode = mode_after C.mode s;
        unit = next_unit M k;
        ports = after_drivers M k (after_switch s v);
        active = λ t. (C.active t && not (member t (completed C))) || member t (due_tasks M k);
      }

  -- the port values after (1) to (3) of an instant
  abbrev pub sensed : (ℕ → ℕ → ℤ) → List ℤ → Configuration → List ℤ
  sensed result readings C =
      after_sensors readings (after_updates (mode P C.mode) C.unit (after_tasks result C))

  -- the due switch of a configuration that is taken at these port values, or none
  abbrev pub switch_of : Configuration → List ℤ → Option Switch
  switch_of C v = taken v (due_switches (mode P C.mode) C.unit)

  -- the whole instant: the configuration that follows a configuration at these readings
  abbrev pub instant : (ℕ → ℕ → ℤ) → List ℤ → Configuration → Configuration
  instant result readings C = let v = sensed result readings C in enter C (switch_of C v) v

  -- (6) the tasks that become active in an instant
  abbrev pub released : (ℕ → ℕ → ℤ) → List ℤ → Configuration → List ℕ
  released result readings C =
      let s = switch_of C (sensed result readings C) in
      due_tasks (mode P (mode_after C.mode s)) (unit_after C.unit s)

-- a task function for each task: from the values of its inputs and private ports, in table order, to a value for each output and private
-- port
abbrev pub Function : Type 0
Function = ℕ → List ℤ → ℕ → ℤ

-- what each task gives for each port when the ports have these values
abbrev pub results : Program → Function → List ℤ → ℕ → ℕ → ℤ
results P F v t p = F t (values_of v (task P t).takes) p
