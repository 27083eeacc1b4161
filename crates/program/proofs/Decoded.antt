-- The program that the tables say: its parts are the tables' rows, by number and those that are due; the ports that a task takes and
-- gives; the next unit.
-- Assumes of a part by number that it is declared.
use Prim.Native.Nat.{ℕ, suc, ◌%◌, ◌<◌}
use mathlib.Core.Path.{◌≡◌, refl, sym, ap, subst, ◌∙◌}
use mathlib.Core.Bool.{Bool, true, false, ◌&&◌}
use mathlib.Core.List.{map}
use mathlib.Core.Logic.Iff
use mathlib.Core.Logic.{◌⊎◌, inl, inr, ⊎_elim, ◌↔◌}
use native.Mathlib.Nat.{mod_self, mod-eq_of_lt, mod-lt}
use native.Mathlib.Omega.{arith}
use lib.Dec.{eqb}
use lib.ListN.{length}
use borrow.Author.Tests.{eqb-true, eqb-false, eq-eqb, lt-ltb}
use Rattle.theory.specs.Claim.{Says}
use Rattle.theory.specs.Lists.{those, keep, member}
use Rattle.theory.proofs.Bools.{clash, says_eq, says-as, is_true, ◌and◌}
use Rattle.theory.proofs.Lists.{each-length, each_at, every-each, every-at, keep-those, those-same, map-those}
use Rattle.theory.proofs.Members.{Has, has-those, has-keep, has-map, member-says}
use Rattle.program.specs.Tables.{Tables, port_count, task_count, task_port_count, task_port_task, task_port_port, driver_count}
use Rattle.program.specs.Tables.{copy_count, copy_driver, mode_count, invocation_width, invocation_count, invocation_mode}
use Rattle.program.specs.Tables.{invocation_frequency, invocation_task, update_width, update_count, update_mode, update_frequency}
use Rattle.program.specs.Tables.{switch_width, switch_count, switch_mode, switch_frequency}
use Rattle.program.specs.Sets.{is_kind, may_take, may_give, MayTake, MayGive, TaskPort, Takes, Gives, sensor_rows}
use Rattle.program.specs.Units.{units, due, row_due, due_rows}
use Rattle.program.specs.Program.{Copy, Task, Invocation, Update, Switch, Mode, copy_row, driver_row, ports_of, task_row, invocation_row}
use Rattle.program.specs.Program.{update_row, switch_row, mode_row, program_of, task, driver, mode, next_unit, due_invocations}
use Rattle.program.specs.Program.{due_updates, due_switches, due_tasks}
use Rattle.program.proofs.Sets.{may-take-says, may-give-says}

-- the unit after one of a mode's units, around the round
pub next-around : (M : Mode) (k : ℕ) → k < M.units → next_unit M k ≡ suc k % M.units
next-around M k l = go (eqb (suc k) M.units) refl
  where
    go : (b : Bool) → eqb (suc k) M.units ≡ b → elim b as (λ b. ℕ) [ true ↦ 0 | false ↦ suc k ] ≡ suc k % M.units
    go true e = rw (eqb-true (suc k) M.units e) (sym (mod_self M.units))
    go false e = let h : suc k < M.units = omega (arith, eqb-false (suc k) M.units e) in sym (mod-eq_of_lt h)

-- the unit after one of a mode's units is one of them too
pub next-below : (M : Mode) (k : ℕ) → k < M.units → next_unit M k < M.units
next-below M k l = rw (next-around M k l) (mod-lt (suc k) {m = M.units} (omega arith))

-- two units with the same next one are one
pub next-once : (M : Mode) (k l : ℕ) → next_unit M k ≡ next_unit M l → k ≡ l
next-once M k l = go (eqb (suc k) M.units) (eqb (suc l) M.units) refl refl
  where
    go : (x y : Bool) → eqb (suc k) M.units ≡ x → eqb (suc l) M.units ≡ y
        → ◌≡◌ {A = ℕ} (elim x [ true ↦ 0 | false ↦ suc k ]) (elim y [ true ↦ 0 | false ↦ suc l ]) → k ≡ l
    go true true p q e = omega (arith, eqb-true (suc k) M.units p, eqb-true (suc l) M.units q)
    go true false p q e = absurd (omega arith)
    go false true p q e = absurd (omega arith)
    go false false p q e = omega arith

-- of one of two kinds and of a task: of the one kind and of the task, or of the other
either-port : {A B C : Type 0} → (A ⊎ B) × C → (A × C) ⊎ (B × C)
either-port (inl a, c) = inl (a, c)
either-port (inr b, c) = inr (b, c)

module _ (T : Tables) where
  -- the program has as many tasks, drivers and modes as the tables have rows
  pub task-count : length (program_of T).tasks ≡ task_count T
  task-count = each-length (task_row T) (task_count T) 0

  pub driver-count : length (program_of T).drivers ≡ driver_count T
  driver-count = each-length (driver_row T) (driver_count T) 0

  pub mode-count : length (program_of T).modes ≡ mode_count T
  mode-count = each-length (mode_row T) (mode_count T) 0

  -- the sensors of the program are the rows of the ports that are sensors
  pub sensors-rows : (program_of T).sensors ≡ sensor_rows T.ports (λ p. p)
  unfolding is_kind
  sensors-rows = those-same _ _ (λ p. p) (port_count T) 0 (λ p l h. simp (lt-ltb p (port_count T) (omega arith)) refl)

  -- the task of a declared number is its row
  pub task-row : (t : ℕ) → t < task_count T → task (program_of T) t ≡ task_row T t
  task-row t h = each_at (task_row T) (task_count T) t _ h

  -- the driver of a declared number is its row
  pub driver-row : (d : ℕ) → d < driver_count T → driver (program_of T) d ≡ driver_row T d
  driver-row d h = each_at (driver_row T) (driver_count T) d _ h

  -- the mode of a declared number is its row
  pub mode-row : (m : ℕ) → m < mode_count T → mode (program_of T) m ≡ mode_row T m
  mode-row m h = each_at (mode_row T) (mode_count T) m _ h

  -- some copy of a driver has Q exactly where some row of the copies of that driver has
  pub has-copies : (Q : Copy → Type 0) (d : ℕ)
      → Has Q (driver_row T d).copies ↔ ((c : ℕ) × (c < copy_count T) × (copy_driver T c ≡ d) × Q (copy_row T c))
  has-copies Q d =
      let r = has-those Q (λ c. eqb (copy_driver T c) d) (copy_row T) (copy_count T) in (
        λ h. let w = r.0 h in (w.0, w.1, eqb-true (copy_driver T w.0) d w.2, w.3),
        λ w. r.1 (w.0, w.1, eq-eqb (copy_driver T w.0) d w.2, w.3),
      )

  -- some port of a task that passes has Q exactly where some row of the task ports of that task, whose port passes, has
  pub has-ports : (Q G : ℕ → Type 0) (passes : ℕ → Bool) (t : ℕ) → ((p : ℕ) → Says (passes p) (G p))
      → Has Q (ports_of T passes t)
      ↔ ((k : ℕ) × (k < task_port_count T) × ((task_port_task T k ≡ t) × G (task_port_port T k)) × Q (task_port_port T k))
  has-ports Q G passes t says =
      let r = has-those Q (λ k. eqb (task_port_task T k) t && passes (task_port_port T k)) (task_port_port T) (task_port_count T) in (
        λ h. let w = r.0 h in (w.0, w.1, (test w.0).yes w.2, w.3),
        λ w. r.1 (w.0, w.1, is_true (test w.0) w.2, w.3),
      )
    where
      test : (k : ℕ) → Says (eqb (task_port_task T k) t && passes (task_port_port T k)) ((task_port_task T k ≡ t) × G (task_port_port T k))
      test k = says_eq (task_port_task T k) t and says (task_port_port T k)

  -- a port stands among the ports of a task that pass exactly where it passes and is one of the task's
  has-port : (G : ℕ → Type 0) (passes : ℕ → Bool) (t p : ℕ) → ((p : ℕ) → Says (passes p) (G p))
      → Says (member p (ports_of T passes t)) (G p × TaskPort T t p)
  has-port G passes t p says =
      let r = has-ports (λ x. p ≡ x) G passes t says in
      says-as (member-says p (ports_of T passes t))
      (λ h. let (k, l, (e, q), s) = r.0 h in (subst G (sym s) q, (k, l, (e, sym s))))
      (λ (g, (k, l, (e, s))). r.1 (k, l, (e, subst G (sym s) g), sym s))

  -- a declared task takes a port exactly where the port is an input or a private port of it
  pub takes-says : (t p : ℕ) → t < task_count T → Says (member p (task (program_of T) t).takes) (Takes T t p)
  takes-says t p l =
      subst (λ (K : Task). Says (member p K.takes) (Takes T t p)) (sym (task-row t l))
      (says-as (has-port (MayTake T) (may_take T) t p (may-take-says T)) either-port (⊎_elim (λ i. (inl i.0, i.1)) (λ i. (inr i.0, i.1))))

  -- a declared task gives a port exactly where the port is an output or a private port of it
  pub gives-says : (t p : ℕ) → t < task_count T → Says (member p (task (program_of T) t).gives) (Gives T t p)
  gives-says t p l =
      subst (λ (K : Task). Says (member p K.gives) (Gives T t p)) (sym (task-row t l))
      (says-as (has-port (MayGive T) (may_give T) t p (may-give-says T)) either-port (⊎_elim (λ i. (inl i.0, i.1)) (λ i. (inr i.0, i.1))))

  -- a port that a task gives, of whatever number the task is, is declared
  pub given-declared : (t p : ℕ) → member p (task (program_of T) t).gives ≡ true → p < port_count T
  given-declared t p =
      every-at (λ (K : Task). member p K.gives ≡ true → p < port_count T) (program_of T).tasks _ (λ m. clash {b = false} m refl)
      (every-each _ (task_row T) (task_count T) 0
      (λ i l u m. ⊎_elim (λ o. o.0) (λ o. o.0) ((has-port (MayGive T) (may_give T) i p (may-give-says T)).yes m).0)) t

  -- the due rows of a mode are the due rows of the tables
  pub due-invocations : (m k : ℕ) → due_invocations (mode_row T m) k ≡ due_rows invocation_width T.invocations m (units T m) k (invocation_row T)
  unfolding row_due
  due-invocations m k = keep-those _ _ (invocation_row T) (invocation_count T) 0

  pub due-updates : (m k : ℕ) → due_updates (mode_row T m) k ≡ due_rows update_width T.updates m (units T m) k (update_row T)
  unfolding row_due
  due-updates m k = keep-those _ _ (update_row T) (update_count T) 0

  pub due-switches : (m k : ℕ) → due_switches (mode_row T m) k ≡ due_rows switch_width T.switches m (units T m) k (switch_row T)
  unfolding row_due
  due-switches m k = keep-those _ _ (switch_row T) (switch_count T) 0

  -- some row of a table of n rows is of mode m, due at its unit k, and has Q
  abbrev pub DueRow : ℕ → (ℕ → ℕ) → (ℕ → ℕ) → ℕ → ℕ → (ℕ → Type 0) → Type 0
  DueRow n mode_of frequency m k Q = (i : ℕ) × (i < n) × (mode_of i ≡ m) × (due (units T m) (frequency i) k ≡ true) × Q i

  has-due : {R : Type 0} (Q : R → Type 0) (frequency : R → ℕ) (mode_of : ℕ → ℕ) (row : ℕ → R) (n m k : ℕ)
      → Has Q (keep (λ r. due (units T m) (frequency r) k) (those (λ i. eqb (mode_of i) m) row n 0))
      ↔ DueRow n mode_of (λ i. frequency (row i)) m k (λ i. Q (row i))
  has-due Q frequency mode_of row n m k =
      let s = has-keep Q (λ r. due (units T m) (frequency r) k) (those (λ i. eqb (mode_of i) m) row n 0) in
      let r = has-those (λ r. (due (units T m) (frequency r) k ≡ true) × Q r) (λ i. eqb (mode_of i) m) row n in (
        λ h. let w = r.0 (s.0 h) in (w.0, w.1, eqb-true (mode_of w.0) m w.2, w.3.0, w.3.1),
        λ w. s.1 (r.1 (w.0, w.1, eq-eqb (mode_of w.0) m w.2, (w.3, w.4))),
      )

  module _ (m k : ℕ) (l : m < mode_count T) where
    -- some invocation of a mode that is due has Q exactly where some row of the table has
    pub has-invocations : (Q : Invocation → Type 0)
        → Has Q (due_invocations (mode (program_of T) m) k)
        ↔ DueRow (invocation_count T) (invocation_mode T) (invocation_frequency T) m k (λ i. Q (invocation_row T i))
    has-invocations Q = rw (mode-row m l) (has-due Q (λ r. r.frequency) (invocation_mode T) (invocation_row T) (invocation_count T) m k)

    -- some task of a mode that is due has Q exactly where some row of the invocations has
    pub has-tasks : (Q : ℕ → Type 0)
        → Has Q (due_tasks (mode (program_of T) m) k) ↔ DueRow (invocation_count T) (invocation_mode T) (invocation_frequency T) m k (λ i. Q (invocation_task T i))
    has-tasks Q = Iff.trans (has-map Q (λ r. r.task) (due_invocations (mode (program_of T) m) k)) (has-invocations (λ r. Q r.task))

    -- the tasks of a mode that are due are those of the due rows of the invocations
    pub due-task-rows : due_tasks (mode (program_of T) m) k ≡ those (row_due invocation_width T.invocations m (units T m) k) (invocation_task T) (invocation_count T) 0
    due-task-rows =
        ap (λ (M : Mode). due_tasks M k) (mode-row m l)
        ∙ ap (map (λ (r : Invocation). r.task)) (due-invocations m k)
        ∙ map-those (λ (r : Invocation). r.task) (row_due invocation_width T.invocations m (units T m) k) (invocation_row T) (invocation_count T) 0

    -- some update of a mode that is due has Q exactly where some row of the table has
    pub has-updates : (Q : Update → Type 0)
        → Has Q (due_updates (mode (program_of T) m) k) ↔ DueRow (update_count T) (update_mode T) (update_frequency T) m k (λ i. Q (update_row T i))
    has-updates Q = rw (mode-row m l) (has-due Q (λ r. r.frequency) (update_mode T) (update_row T) (update_count T) m k)

    -- some switch of a mode that is due has Q exactly where some row of the table has
    pub has-switches : (Q : Switch → Type 0)
        → Has Q (due_switches (mode (program_of T) m) k) ↔ DueRow (switch_count T) (switch_mode T) (switch_frequency T) m k (λ i. Q (switch_row T i))
    has-switches Q = rw (mode-row m l) (has-due Q (λ r. r.frequency) (switch_mode T) (switch_row T) (switch_count T) m k)
