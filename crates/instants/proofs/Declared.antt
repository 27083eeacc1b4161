-- What a call, a `schedule` and an `if` name, in the tables: there are as many tasks and drivers as rows, tables in shape have no more
-- than the limits, and a number is that of a sensor exactly where its name is. Assumes of the sensors that ports are no more either.
use Prim.Native.Nat.{ℕ, ◌≤◌, ◌<◌}
use mathlib.Core.Path.{◌≡◌, refl, sym, subst, ap, ◌∙◌}
use mathlib.Core.Bool.{Bool, true, false, not}
use mathlib.Core.List.{List}
use native.Mathlib.Omega.{arith}
use lib.Dec.{ltb, leb}
use lib.IntN.{ℤ, pos}
use lib.ListN.{length}
use borrow.Author.Tests.{not-false, ltb-true, ltb-false, leb-false, lt-leb}
use Rattle.theory.specs.Lists.{member}
use Rattle.theory.proofs.Bools.{iff, is_true}
use Rattle.theory.proofs.Members.{has-those, member-says}
use Rattle.cells.specs.Cell.{unnamed, name_of, rows_in}
use Rattle.cells.specs.Limits.{max_ports, max_tasks, max_drivers}
use Rattle.cells.proofs.Names.{name-small, name_below}
use Rattle.cells.specs.declared.tables.ProgramTables.{ProgramTables}
use Rattle.program.specs.Tables.{Tables, tables_in, port_count, sensor, task_width, task_count, driver_width, driver_count}
use Rattle.program.specs.Sets.{is_kind}
use Rattle.program.specs.Program.{Program, program_of}
use Rattle.program.proofs.Sets.{kind-says}
use Rattle.program.proofs.Decoded.{task-count, driver-count}
use Rattle.rules.specs.Shape.{Shaped, InShape}
use Rattle.rules.proofs.Shape.{shape-bars, whole-few, ports-few, tasks-few}

-- the program of tables that are lent, with a start mode
abbrev pub program_in : ProgramTables → ℤ → Program
program_in lent start = program_of (tables_in lent start)

module _ (lent : ProgramTables) (s : InShape lent) where
  -- tables in shape are so with any start mode
  abbrev shaped : Shaped (tables_in lent (pos 0))
  shaped = (shape-bars (tables_in lent (pos 0))).ok (s (pos 0))

  -- tables in shape have no more ports than the limit
  pub few-ports : port_count (tables_in lent (pos 0)) ≤ max_ports
  few-ports = ports-few (tables_in lent (pos 0)) shaped

  -- tables in shape have no more tasks than the limit
  pub few-tasks : task_count (tables_in lent (pos 0)) ≤ max_tasks
  few-tasks = tasks-few (tables_in lent (pos 0)) shaped

  -- tables in shape have no more drivers than the limit
  pub few-drivers : driver_count (tables_in lent (pos 0)) ≤ max_drivers
  few-drivers = whole-few driver_width max_drivers (tables_in lent (pos 0)).drivers shaped.drivers

-- a number t and its name, of k rows that can all be named, and whether the name is that of a row
module _ (k t name : ℕ) (few : k ≤ unnamed) (n : name ≡ name_of t) (b : Bool) (is_b : b ≡ ltb name k) where
  -- the name of a row is its number
  pub row_named : not b ≡ false → (t < k) × (name ≡ t)
  row_named h =
      let l : name < k = ltb-true name k (sym is_b ∙ not-false b h) in
      let own : t < k = (name_below t k few).0 (omega arith) in
      (own, n ∙ name-small t (omega arith))

  -- a number is past the rows exactly where its name is
  pub row-past : leb k t ≡ not b
  row-past = go b refl
    where
      go : (b' : Bool) → b ≡ b' → leb k t ≡ not b'
      go true e = lt-leb k t (row_named (ap not e)).0
      go false e = go-le (leb k t) refl
        where
          go-le : (p : Bool) → leb k t ≡ p → p ≡ true
          go-le true f = refl
          go-le false f =
              let l : name_of t < k = (name_below t k few).1 (leb-false k t f) in
              absurd (omega (arith, l, n, ltb-false name k (sym is_b ∙ e)))

module _ (T : Tables) where
  -- a task is past the end of the table exactly where its name is not declared
  pub task-past : {tasks : List ℤ} (t name : ℕ) (b : Bool) → T.tasks ≡ tasks → rows_in task_width tasks ≤ max_tasks → name ≡ name_of t
      → b ≡ ltb name (rows_in task_width tasks) → leb (length (program_of T).tasks) t ≡ not b
  task-past {tasks} t name b e few n is_b =
      ap (λ (n : ℕ). leb n t) (task-count T) ∙ ap (λ (l : List ℤ). leb (rows_in task_width l) t) e
      ∙ row-past (rows_in task_width tasks) t name (omega arith) n b is_b

  -- a driver is past the end of the table exactly where its name is not declared
  pub driver-past : {drivers : List ℤ} (d name : ℕ) (b : Bool) → T.drivers ≡ drivers → rows_in driver_width drivers ≤ max_drivers → name ≡ name_of d
      → b ≡ ltb name (rows_in driver_width drivers) → leb (length (program_of T).drivers) d ≡ not b
  driver-past {drivers} d name b e few n is_b =
      ap (λ (n : ℕ). leb n d) (driver-count T) ∙ ap (λ (l : List ℤ). leb (rows_in driver_width l) d) e
      ∙ row-past (rows_in driver_width drivers) d name (omega arith) n b is_b

  module _ (few : port_count T ≤ max_ports) (p : ℕ) where
    -- the name of a sensor is its number
    pub sensor-named : is_kind T sensor (name_of p) ≡ true → name_of p ≡ p
    sensor-named e =
        let (l, k) = (kind-says T sensor (name_of p)).yes e in
        name-small p (omega (arith, (name_below p max_ports (omega arith)).0 (omega arith)))

    -- a number is that of a sensor exactly where its name is
    pub sensor-is : is_kind T sensor (name_of p) ≡ member p (program_of T).sensors
    sensor-is = iff _ _ there back
      where
        there : is_kind T sensor (name_of p) ≡ true → member p (program_of T).sensors ≡ true
        there e =
            let own : is_kind T sensor p ≡ true = subst (λ (k : ℕ). is_kind T sensor k ≡ true) (sensor-named e) e in
            is_true (member-says p (program_of T).sensors)
            ((has-those (λ (x : ℕ). p ≡ x) (is_kind T sensor) (λ k. k) (port_count T)).1 (p, ((kind-says T sensor p).yes own).0, own, refl))

        back : member p (program_of T).sensors ≡ true → is_kind T sensor (name_of p) ≡ true
        back e =
            let (k, l, own, same) = (has-those (λ (x : ℕ). p ≡ x) (is_kind T sensor) (λ k. k) (port_count T)).0 ((member-says p (program_of T).sensors).yes e) in
            let named : name_of p ≡ p = name-small p (omega arith) in
            subst (λ (x : ℕ). is_kind T sensor x ≡ true) (sym (named ∙ same)) own
