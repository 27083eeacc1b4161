-- 001's successor configuration (section 3.2), step by step and port by port, as a claim over the tables; bounded as in
-- document 01 (a switch enters unit 0). 001's step 6 moves the unit before step 7 asks which tasks are due; 01's
-- steps (5) to (7) drive and release the tasks of the unit entered and move it last, and decide: so here. `instant` computes it, and
-- nothing else succeeds: `instant-succeeds` and `successor-one` in proofs/.
use Rattle.std.specs.Prelude.{ℕ, suc, ◌+◌, ◌/◌, ◌%◌, ◌<◌, ◌≡◌, true, ◌⊎◌, ◌↔◌, ℤ}
use Rattle.program.specs.Tables.{Tables, copy_count, copy_driver, copy_source, copy_destination, invocation_count, invocation_mode}
use Rattle.program.specs.Tables.{invocation_frequency}
use Rattle.program.specs.Tables.{invocation_task, invocation_driver, update_count, update_mode, update_frequency, update_driver, switch_count}
use Rattle.program.specs.Tables.{switch_mode, switch_frequency}
use Rattle.program.specs.Tables.{switch_target, switch_driver, mode_period}
use Rattle.program.specs.Guard.{guard_of, holds}
use Rattle.program.specs.Sets.{Sensor, Gives}
use Rattle.program.specs.Units.{units, due}
use Rattle.program.specs.Ports.{value_of}
use Rattle.giotto.specs.Instant.{Configuration}

abbrev pub Valuation : Type 0
Valuation = ℕ → ℤ

-- "if p is written, that value; otherwise v(p)": w is v with these values written
pub record Next (Writes : ℕ → ℤ → Type 0) (v w : Valuation) : Type 0 where
  pub written : (p : ℕ) (x : ℤ) → Writes p x → w p ≡ x
  pub kept : (p : ℕ) → ((x : ℤ) → Writes p x → ⊥) → w p ≡ v p

-- h[d](v)(p) = x: a copy of driver d goes to p, and its source has x
abbrev pub Drives : Tables → ℕ → Valuation → ℕ → ℤ → Type 0
Drives T d v p x =
    (c : ℕ) × (c < copy_count T) × (copy_driver T c ≡ d) × (copy_destination T c ≡ p) × (x ≡ v (copy_source T c))

module _ (T : Tables) where
  -- invocation row i is of mode m, and due at unit u: u · ω / ωmax is whole
  pub record InvocationDue (m u i : ℕ) : Type 0 where
    pub in_table : i < invocation_count T
    pub of-mode : invocation_mode T i ≡ m
    pub is-due : due (units T m) (invocation_frequency T i) u ≡ true

  -- the actuator update of row i is enabled: of mode m, due at unit u, and its guard holds at v
  pub record UpdateEnabled (m u : ℕ) (v : Valuation) (i : ℕ) : Type 0 where
    pub in_table : i < update_count T
    pub of-mode : update_mode T i ≡ m
    pub is-due : due (units T m) (update_frequency T i) u ≡ true
    pub guard : holds (guard_of T (update_driver T i)) v ≡ true

  -- the mode switch of row i is enabled: of mode m, due at unit u, and its guard holds at v
  pub record SwitchEnabled (m u : ℕ) (v : Valuation) (i : ℕ) : Type 0 where
    pub in_table : i < switch_count T
    pub of-mode : switch_mode T i ≡ m
    pub is-due : due (units T m) (switch_frequency T i) u ≡ true
    pub guard : holds (guard_of T (switch_driver T i)) v ≡ true

  -- task t is completed at C: it is active, and an invocation of it is due
  abbrev pub Completed : Configuration → ℕ → Type 0
  Completed C t = (C.active t ≡ true) × ((i : ℕ) × InvocationDue C.mode C.unit i × (invocation_task T i ≡ t))

  -- task t is enabled in mode m at unit u (every task driver's guard is always)
  abbrev pub Enabled : ℕ → ℕ → ℕ → Type 0
  Enabled m u t = (i : ℕ) × InvocationDue m u i × (invocation_task T i ≡ t)

  -- 1. task output and private ports: a completed task writes what it gives
  abbrev pub TaskWrites : (ℕ → ℕ → ℤ) → Configuration → ℕ → ℤ → Type 0
  TaskWrites result C p x = (t : ℕ) × Completed C t × Gives T t p × (x ≡ result t p)

  -- 2. actuator ports: an enabled update writes what its driver copies
  abbrev pub UpdateWrites : Configuration → Valuation → ℕ → ℤ → Type 0
  UpdateWrites C v p x = (i : ℕ) × UpdateEnabled C.mode C.unit v i × Drives T (update_driver T i) v p x

  -- 3. sensor ports: each takes its reading
  abbrev pub SensorWrites : Valuation → ℕ → ℤ → Type 0
  SensorWrites readings p x = Sensor T p × (x ≡ readings p)

  -- 4. to 6. target mode, mode ports, unit counter: no switch is enabled, and all stays
  pub record Stays (C : Configuration) (v w : Valuation) (m u : ℕ) : Type 0 where
    pub none-enabled : (i : ℕ) → SwitchEnabled C.mode C.unit v i → ⊥
    pub same-mode : m ≡ C.mode
    pub same-unit : u ≡ C.unit
    pub same-ports : (p : ℕ) → w p ≡ v p

  -- 4. to 6. target mode, mode ports, unit counter: the switch of a row is enabled, and leads to its target at unit 0
  pub record Changes (C : Configuration) (v w : Valuation) (m u : ℕ) : Type 0 where
    pub row : ℕ
    pub enabled : SwitchEnabled C.mode C.unit v row
    pub to-target : m ≡ switch_target T row
    pub to-unit-0 : u ≡ 0
    pub mode-ports : Next (Drives T (switch_driver T row) v) v w

  -- 7. task input ports: the driver of a due invocation writes what it copies
  abbrev pub InputWrites : ℕ → ℕ → Valuation → ℕ → ℤ → Type 0
  InputWrites m u v p x = (i : ℕ) × InvocationDue m u i × Drives T (invocation_driver T i) v p x

-- C' succeeds C for these readings, where `result t p` is what a completed task t gives for port p
pub record Successor (T : Tables) (result : ℕ → ℕ → ℤ) (readings : Valuation) (C C' : Configuration) : Type 0 where
  pub after-tasks : Valuation
  pub after-updates : Valuation
  pub after-sensors : Valuation
  pub after-switch : Valuation
  pub unit : ℕ
  pub step-1 : Next (TaskWrites T result C) (value_of C.ports) after-tasks
  pub step-2 : Next (UpdateWrites T C after-tasks) after-tasks after-updates
  pub step-3 : Next (SensorWrites T readings) after-updates after-sensors
  pub step-4-to-6 : Stays T C after-sensors after-switch C'.mode unit ⊎ Changes T C after-sensors after-switch C'.mode unit
  pub step-7 : Next (InputWrites T C'.mode unit after-switch) after-switch (value_of C'.ports)
  -- 8. active tasks: (σactive \ σcompleted) ∪ σenabled
  pub step-8 : (t : ℕ) → (C'.active t ≡ true) ↔ (((C.active t ≡ true) × (Completed T C t → ⊥)) ⊎ Enabled T C'.mode unit t)
  -- 9. time stamp, and the unit after the one entered: moved here and not in step 6
  pub time-stamp : C'.time ≡ C.time + mode_period T C'.mode / units T C'.mode
  pub next-unit : C'.unit ≡ suc unit % units T C'.mode

-- two configurations agree in time, mode, unit, active tasks and every port
pub record Same (C C' : Configuration) : Type 0 where
  pub time : C.time ≡ C'.time
  pub mode : C.mode ≡ C'.mode
  pub unit : C.unit ≡ C'.unit
  pub ports : (p : ℕ) → value_of C.ports p ≡ value_of C'.ports p
  pub active : (t : ℕ) → C.active t ≡ C'.active t
