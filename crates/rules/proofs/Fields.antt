-- Number 2: each row's test bars what the row must be.
use Prim.Native.Nat.{ℕ}
use mathlib.Core.Path.{refl}
use mathlib.Core.Logic.{◌⊎◌}
use native.Mathlib.Omega.{arith}
use Rattle.theory.specs.Claim.{Says, Bars}
use Rattle.theory.proofs.Bools.{says-or, says-as, says-lt, says-le, says_eq, bars-not, bars-as, ◌and◌, says-implies, bars-lt, bars-le}
use Rattle.theory.proofs.Rows.{RowsJoined, one_table}
use Rattle.theory.proofs.Verdict.{Rowed, bars-rows}
use Rattle.theory.proofs.Order.{le_z-says}
use Rattle.cells.proofs.Ints.{eq_z-says}
use Rattle.readings.proofs.Readings.{missing-says, value-says}
use Rattle.program.specs.Tables.{Tables, port_kind, private, guard_low, guard_high, mode_count, start_mode, start_at}
use Rattle.rules.specs.Fields.{in_range, InRange, port_bad, task_bad, TaskFits, task_port_bad, TaskPortFits, always_fits, AlwaysFits}
use Rattle.rules.specs.Fields.{interval_fits, IntervalFits, driver_bad, copy_bad, CopyFits, mode_bad, mode_port_bad, ModePortFits}
use Rattle.rules.specs.Fields.{invocation_bad, InvocationFits, update_bad, UpdateFits, switch_bad, SwitchFits, start_bad, field_tests}
use Rattle.rules.specs.Fields.{fields_bad, Fields, field_rules}

-- the test of a range says that the number is in it
pub range-says : (n limit : ℕ) → Says (in_range n limit) (InRange n limit)
unfolding in_range
range-says n limit = says-le 1 n and says-le n limit

module _ (T : Tables) where
  -- the test of a task row bars a supplier and a worst-case time in range
  task-bars : (t : ℕ) → Bars (task_bad T t) (TaskFits T t)
  unfolding task_bad
  task-bars t =
      bars-as (bars-not (says-lt _ _ and range-says _ _))
      (λ (s, w). record { supplier = s; worst = w }) (λ f. (f.supplier, f.worst))

  -- the test of a task port row bars a task and a port that are declared
  task-port-bars : (k : ℕ) → Bars (task_port_bad T k) (TaskPortFits T k)
  unfolding task_port_bad
  task-port-bars k =
      bars-as (bars-not (says-lt _ _ and says-lt _ _)) (λ (t, p). record { task = t; port = p }) (λ f. (f.task, f.port))

  -- the test of a guard that always holds says that its fields are 0
  always-says : (d : ℕ) → Says (always_fits T d) (AlwaysFits T d)
  unfolding always_fits
  always-says d =
      says-as (says_eq _ _ and says_eq _ _ and eq_z-says _ _ and eq_z-says _ _)
      (λ (((k, p), l), h). record { kind = k; port = p; low = l; high = h }) (λ f. (((f.kind, f.port), f.low), f.high))

  -- the test of a guard by an interval says that it has a port and values low ≤ high
  interval-says : (d : ℕ) → Says (interval_fits T d) (IntervalFits T d)
  unfolding interval_fits
  interval-says d =
      says-as
      (value-says (guard_low T d) and value-says (guard_high T d) and says_eq _ _ and says-lt _ _ and le_z-says (guard_low T d) (guard_high T d)
      and says-implies (missing-says _) (missing-says _))
      (λ (((((l, h), k), p), o), m). record { low = l; high = h; kind = k; port = p; ordered = o; missing = m })
      (λ f. (((((f.low, f.high), f.kind), f.port), f.ordered), f.missing))

  -- the test of a driver row bars a guard of either kind
  driver-bars : (d : ℕ) → Bars (driver_bad T d) (AlwaysFits T d ⊎ IntervalFits T d)
  unfolding driver_bad
  driver-bars d = bars-not (says-or (always-says d) (interval-says d))

  -- the test of a copy row bars a driver, a source and a destination that are declared
  copy-bars : (c : ℕ) → Bars (copy_bad T c) (CopyFits T c)
  unfolding copy_bad
  copy-bars c =
      bars-as (bars-not (says-lt _ _ and says-lt _ _ and says-lt _ _))
      (λ ((d, s), t). record { driver = d; source = s; destination = t }) (λ f. ((f.driver, f.source), f.destination))

  -- the test of a mode port row bars a mode and a port that are declared
  mode-port-bars : (k : ℕ) → Bars (mode_port_bad T k) (ModePortFits T k)
  unfolding mode_port_bad
  mode-port-bars k =
      bars-as (bars-not (says-lt _ _ and says-lt _ _)) (λ (m, p). record { mode = m; port = p }) (λ f. (f.mode, f.port))

  -- the test of an invocation row bars a mode, a task and a driver that are declared, and a frequency in range
  invocation-bars : (i : ℕ) → Bars (invocation_bad T i) (InvocationFits T i)
  unfolding invocation_bad
  invocation-bars i =
      bars-as (bars-not (says-lt _ _ and range-says _ _ and says-lt _ _ and says-lt _ _))
      (λ (((m, f), t), d). record { mode = m; frequency = f; task = t; driver = d })
      (λ f. (((f.mode, f.frequency), f.task), f.driver))

  -- the test of an update row bars a mode and a driver that are declared, and a frequency in range
  update-bars : (i : ℕ) → Bars (update_bad T i) (UpdateFits T i)
  unfolding update_bad
  update-bars i =
      bars-as (bars-not (says-lt _ _ and range-says _ _ and says-lt _ _))
      (λ ((m, f), d). record { mode = m; frequency = f; driver = d }) (λ f. ((f.mode, f.frequency), f.driver))

  -- the test of a switch row bars a mode, a target mode and a driver that are declared, and a frequency in range
  switch-bars : (i : ℕ) → Bars (switch_bad T i) (SwitchFits T i)
  unfolding switch_bad
  switch-bars i =
      bars-as (bars-not (says-lt _ _ and range-says _ _ and says-lt _ _ and says-lt _ _))
      (λ (((m, f), t), d). record { mode = m; frequency = f; target = t; driver = d })
      (λ f. (((f.mode, f.frequency), f.target), f.driver))

  -- number 2 and rule 2 speak of the same rows
  pub fields-rowed : Rowed (fields_bad T) (field_tests T) (field_rules T)
  unfolding fields_bad port_bad mode_bad start_bad
  fields-rowed = (joined, refl)
    where
      joined : RowsJoined (field_tests T) (field_rules T)
      joined = (
        refl,
        refl,
        λ p h w. bars-lt private (port_kind T p),
        omega arith,
        (
          refl,
          refl,
          λ t h w. task-bars t,
          omega arith,
          (
            refl,
            refl,
            λ k h w. task-port-bars k,
            omega arith,
            (
              refl,
              refl,
              λ d h w. driver-bars d,
              omega arith,
              (
                refl,
                refl,
                λ c h w. copy-bars c,
                omega arith,
                (
                  refl,
                  refl,
                  λ m h w. bars-not (range-says _ _),
                  omega arith,
                  (
                    refl,
                    refl,
                    λ k h w. mode-port-bars k,
                    omega arith,
                    (
                      refl,
                      refl,
                      λ i h w. invocation-bars i,
                      omega arith,
                      (
                        refl,
                        refl,
                        λ i h w. update-bars i,
                        omega arith,
                        (
                          refl,
                          refl,
                          λ i h w. switch-bars i,
                          omega arith,
                          one_table start_at (λ r h w. bars-le (mode_count T) (start_mode T)),
                        ),
                      ),
                    ),
                  ),
                ),
              ),
            ),
          ),
        ),
      )

  -- number 2 bars fields and a start mode that are in range and name something
  pub fields-bar : Bars (fields_bad T) (Fields T)
  fields-bar =
      bars-rows (field_tests T) (field_rules T) fields-rowed
      (λ (p, (t, (tp, (d, (c, (m, (mp, (i, (u, (w, (s, _))))))))))).
      record {
        ports = p;
        tasks = t;
        task-ports = tp;
        drivers = d;
        copies = c;
        modes = m;
        mode-ports = mp;
        invocations = i;
        updates = u;
        switches = w;
        start = s 0 (omega arith);
      })
      (λ f. (
        f.ports,
        (
          f.tasks,
          (
            f.task-ports,
            (
              f.drivers,
              (
                f.copies,
                (
                  f.modes,
                  (
                    f.mode-ports,
                    (
                      f.invocations,
                      (
                        f.updates,
                        (
                          f.switches,
                          (λ r h. f.start, tt),
                        ),
                      ),
                    ),
                  ),
                ),
              ),
            ),
          ),
        ),
      ))
