-- Number 1: a slice's test bars whole rows within the limit.
use Prim.Native.Nat.{ℕ, ◌/◌, ◌%◌, ◌≤◌, ◌<◌}
use mathlib.Core.Path.{◌≡◌, ap, ◌∙◌}
use mathlib.Core.Bool.{false}
use mathlib.Core.List.{List}
use native.Mathlib.Nat.{div-add-mod', mul-mod_left, div-le_of_le-mul, mul_comm}
use native.Mathlib.Omega.{arith}
use lib.IntN.{ℤ}
use lib.ListN.{length}
use Rattle.cells.specs.declared.tables.ProgramTables.{ProgramTables}
use Rattle.theory.specs.Claim.{Bars}
use Rattle.theory.proofs.Bools.{says_eq, bars-not, bars-as, bars-says, ◌or◌, bars-lt}
use Rattle.cells.specs.Cell.{unnamed}
use Rattle.cells.specs.Limits.{max_ports, max_tasks, max_drivers, max_modes}
use Rattle.program.specs.Tables.{Tables, tables_in, port_width, port_count, task_width, task_count, driver_width, driver_count, mode_width, mode_count}
use Rattle.rules.specs.Shape.{bad_slice, bad_length, WholeRows, shape_bad, Shaped, InShape}

-- whole rows within a limit are no more rows than the limit
pub whole-few : {A : Type 0} (width limit : ℕ) (t : List A) → WholeRows width limit t → length t / width ≤ limit
whole-few width limit t (n, e, l) =
    let few : length t / width ≤ n = div-le_of_le-mul width (omega (arith, mul_comm n width)) in omega arith

-- the test of a bad slice bars whole rows within the limit
pub slice-bars : {A : Type 0} (width limit : ℕ) (t : List A) → Bars (bad_slice width limit t) (WholeRows width limit t)
unfolding bad_slice
slice-bars width limit t =
    bars-as (bars-not (says_eq (length t % width) 0) or bars-lt limit (length t / width))
    (λ g. (length t / width, omega (arith, div-add-mod' (length t) width), g.1))
    (λ w. (ap (λ (k : ℕ). k % width) w.1 ∙ mul-mod_left w.0 width, whole-few width limit t w))

-- the test of a bad length bars the length that is asked for
pub length-bars : {A : Type 0} (n : ℕ) (t : List A) → Bars (bad_length n t) (length t ≡ n)
unfolding bad_length
length-bars n t = bars-not (says_eq (length t) n)

-- number 1 bars whole rows within the limits, in every table, and some mode
pub shape-bars : (T : Tables) → Bars (shape_bad T) (Shaped T)
unfolding shape_bad
shape-bars T =
    bars-as
    (slice-bars _ _ T.ports
    or slice-bars _ _ T.tasks
    or slice-bars _ _ T.task_ports
    or slice-bars _ _ T.drivers
    or slice-bars _ _ T.copies
    or slice-bars _ _ T.modes
    or slice-bars _ _ T.mode_ports
    or slice-bars _ _ T.invocations
    or slice-bars _ _ T.updates
    or slice-bars _ _ T.switches
    or bars-says (says_eq (mode_count T) 0))
    (λ ((((((((((p, t), tp), d), c), m), mp), i), u), w), n).
    record {
      ports = p;
      tasks = t;
      task-ports = tp;
      drivers = d;
      copies = c;
      modes = m;
      mode-ports = mp;
      invocations = i;
      updates = u;
      switches = w;
      some-mode = omega arith;
    })
    (λ s.
    ((((((((((s.ports, s.tasks), s.task-ports), s.drivers), s.copies), s.modes), s.mode-ports), s.invocations), s.updates), s.switches), λ e. omega (arith, s.some-mode)))

-- tables in shape have no more ports than the limit
pub ports-few : (T : Tables) → Shaped T → port_count T ≤ max_ports
ports-few T s = whole-few port_width max_ports T.ports s.ports

-- tables in shape have no more tasks than the limit
pub tasks-few : (T : Tables) → Shaped T → task_count T ≤ max_tasks
tasks-few T s = whole-few task_width max_tasks T.tasks s.tasks

-- the start mode has no part in number 1: tables that have their shape with one have it with any
pub any-start : (lent : ProgramTables) (start : ℤ) → shape_bad (tables_in lent start) ≡ false → InShape lent
unfolding shape_bad
any-start lent start e z = e

-- a program in shape has fewer ports than a kind can name
pub ports-nameable : (T : Tables) → shape_bad T ≡ false → port_count T < unnamed
ports-nameable T e = omega (arith, ports-few T ((shape-bars T).ok e))

-- a program in shape has fewer tasks than a kind can name
pub tasks-nameable : (T : Tables) → shape_bad T ≡ false → task_count T < unnamed
tasks-nameable T e = omega (arith, tasks-few T ((shape-bars T).ok e))

-- a program in shape has fewer drivers than a kind can name
pub drivers-nameable : (T : Tables) → shape_bad T ≡ false → driver_count T < unnamed
drivers-nameable T e = omega (arith, whole-few driver_width max_drivers T.drivers ((shape-bars T).ok e).drivers)

-- a program in shape has fewer modes than a kind can name
pub modes-nameable : (T : Tables) → shape_bad T ≡ false → mode_count T < unnamed
modes-nameable T e = omega (arith, whole-few mode_width max_modes T.modes ((shape-bars T).ok e).modes)
