-- At one instruction: the tests of 19, 16 and 17 say their claims, and call numbers fall into three ranges.
use Prim.Native.Nat.{ℕ, ◌+◌, ◌-◌, ◌≤◌, ◌<◌}
use mathlib.Core.Path.{◌≡◌, refl, ap}
use mathlib.Core.Bool.{Bool, true, false}
use mathlib.Core.List.{List}
use mathlib.Core.Logic.{◌⊎◌, inl, inr}
use native.Mathlib.Omega.{arith}
use lib.Dec.{ltb}
use lib.IntN.{ℤ}
use borrow.Author.Tests.{lt-ltb, le-ltb}
use Rattle.theory.specs.Claim.{Says}
use Rattle.theory.specs.Lists.{member}
use Rattle.theory.proofs.Bools.{clash, says-le, says-or, says-not, says-as, says-itself, says-false, says_never}
use Rattle.cells.specs.Cell.{num_at}
use Rattle.cells.specs.Limits.{max_delay, first_output_call, first_sensor_call}
use Rattle.program.specs.Program.{Program, task}
use Rattle.rules.specs.Fields.{InRange}
use Rattle.rules.proofs.Fields.{range-says}
use Rattle.code.specs.Op.{Op, call, schedule, branch, jump, future, return, faulty}
use Rattle.machine.specs.declared.State.{State}
use Rattle.machine.specs.Instruction.{Call, driver_call, output_call, sensor_call, call_of, names_nothing, NamesNothing, is_faulty}
use Rattle.machine.specs.Instruction.{Faulty, time_bad, TimeBad, still_called, StillCalled, still_running, StillRunning}

-- call numbers by range: 0..999 name a driver, 1000 + t the output copy of task t, 2000 + p the reading of sensor p
pub driver-range : (n : ℕ) → n < first_output_call → call_of n ≡ driver_call n
driver-range n l = rw (lt-ltb n first_output_call l, call_of)

pub output-range : (t : ℕ) → first_output_call + t < first_sensor_call → call_of (first_output_call + t) ≡ output_call t
output-range t l =
    let a : ltb (first_output_call + t) first_output_call ≡ false = le-ltb (first_output_call + t) first_output_call (omega arith) in
    let b : ltb (first_output_call + t) first_sensor_call ≡ true = lt-ltb (first_output_call + t) first_sensor_call l in
    let e : first_output_call + t - first_output_call ≡ t = omega arith in
    rw (a, call_of) (rw b (ap output_call e))

pub sensor-range : (p : ℕ) → call_of (first_sensor_call + p) ≡ sensor_call p
sensor-range p =
    let a : ltb (first_sensor_call + p) first_output_call ≡ false = le-ltb (first_sensor_call + p) first_output_call (omega arith) in
    let b : ltb (first_sensor_call + p) first_sensor_call ≡ false = le-ltb (first_sensor_call + p) first_sensor_call (omega arith) in
    let e : first_sensor_call + p - first_sensor_call ≡ p = omega arith in
    rw (a, call_of) (rw b (ap sensor_call e))

-- the tests of 19 say its claims: of a call, and of an instruction
names-says : (P : Program) (c : Call) → Says (names_nothing P c) (NamesNothing P c)
names-says P (driver_call d) = says-le _ _
names-says P (output_call t) = says-le _ _
names-says P (sensor_call p) = says-false (member p P.sensors)

pub faulty-says : (P : Program) (n : ℕ) (planned : Bool) (o : Op) → Says (is_faulty P n planned o) (Faulty P n planned o)
faulty-says P n planned (call c) = names-says P (call_of c)
faulty-says P n planned (schedule t) = says-le _ _
faulty-says P n planned (branch d a) = says-or (says-le _ _) (says-le _ _)
faulty-says P n planned (jump a) = says-le _ _
faulty-says P n planned (future d a) =
    says-as (says-or (says-or (says-itself planned) (says-not (range-says d max_delay))) (says-le n a)) regroup back
  where
    regroup : ((planned ≡ true) ⊎ (InRange d max_delay → ⊥)) ⊎ (n ≤ a) → (planned ≡ true) ⊎ ((InRange d max_delay → ⊥) ⊎ (n ≤ a))
    regroup (inl (inl x)) = inl x
    regroup (inl (inr x)) = inr (inl x)
    regroup (inr x) = inr (inr x)

    back : (planned ≡ true) ⊎ ((InRange d max_delay → ⊥) ⊎ (n ≤ a)) → ((planned ≡ true) ⊎ (InRange d max_delay → ⊥)) ⊎ (n ≤ a)
    back (inl x) = inl (inl x)
    back (inr (inl x)) = inl (inr x)
    back (inr (inr x)) = inr x
faulty-says P n planned return = says-false planned
faulty-says P n planned faulty = record { yes = λ e. tt; no = λ e. clash {b = true} refl e }

-- the test of 16 says its claim
pub time-says : (P : Program) (times : List ℤ) (o : Op) → Says (time_bad P times o) (TimeBad P times o)
time-says P times (call c) = says_never
time-says P times (schedule t) = says-not (range-says (num_at times t) (task P t).worst)
time-says P times (branch d a) = says_never
time-says P times (jump a) = says_never
time-says P times (future d a) = says_never
time-says P times return = says_never
time-says P times faulty = says_never

-- the tests of 17 say its claims: of a call, and of an instruction
called-says : (s : State) (c : Call) → Says (still_called s c) (StillCalled s c)
called-says s (driver_call d) = says_never
called-says s (output_call t) = says-le _ _
called-says s (sensor_call p) = says_never

pub running-says : (s : State) (o : Op) → Says (still_running s o) (StillRunning s o)
running-says s (call c) = called-says s (call_of c)
running-says s (schedule t) = says-le _ _
running-says s (branch d a) = says_never
running-says s (jump a) = says_never
running-says s (future d a) = says_never
running-says s return = says_never
running-says s faulty = says_never
