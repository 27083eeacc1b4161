-- The listing of a program: "address 0 is a jump to unit 0 of the start mode; then, by mode and unit, a block".
-- Rows keep table order, sensors port order; addresses by counting.
use Rattle.std.specs.Prelude.{ℕ, ◌+◌, ◌*◌, List, [], ◌∷◌, ◌++◌, map, length}
use Rattle.theory.specs.Lists.{cat, sum}
use Rattle.cells.specs.Limits.{first_output_call, first_sensor_call}
use Rattle.program.specs.Program.{Program, Mode, Invocation, Update, Switch, mode, ticks_of, next_unit, entered_unit, due_invocations}
use Rattle.program.specs.Program.{due_updates, due_switches, due_tasks}
use Rattle.code.specs.Op.{Op, call, schedule, branch, jump, future, return}

-- the call of driver d
abbrev pub call_driver : ℕ → Op
call_driver d = call d

-- the call that copies the outputs of task t
abbrev pub call_output : ℕ → Op
call_output t = call (first_output_call + t)

-- the call that reads sensor p
abbrev pub call_sensor : ℕ → Op
call_sensor p = call (first_sensor_call + p)

-- how many instructions stand before the switch tests of the block of unit k
abbrev pub head_size : Program → Mode → ℕ → ℕ
head_size P M k = length (due_invocations M k) + (length (due_updates M k) + length P.sensors)

-- how many instructions the block of unit k of a mode has
abbrev pub block_size : Program → Mode → ℕ → ℕ
block_size P M k =
    head_size P M k
    + (length (due_switches M k) + (2 * length (due_invocations M k) + (2 + 2 * length (due_switches M k))))

-- how many instructions a mode has
abbrev pub mode_size : Program → Mode → ℕ
mode_size P M = sum (block_size P M) M.units

-- the address of the first block of mode m
abbrev pub mode_address : Program → ℕ → ℕ
mode_address P m = 1 + sum (λ i. mode_size P (mode P i)) m

-- the address of the block of unit k of mode m
abbrev pub block_address : Program → ℕ → ℕ → ℕ
block_address P m k = mode_address P m + sum (block_size P (mode P m)) k

-- the address of the entry of the block of unit k of mode m
abbrev pub entry_address : Program → ℕ → ℕ → ℕ
entry_address P m k = block_address P m k + (head_size P (mode P m) k + length (due_switches (mode P m) k))

-- the address of the `future` of the block of unit k of mode m
abbrev pub future_address : Program → ℕ → ℕ → ℕ
future_address P m k = entry_address P m k + 2 * length (due_invocations (mode P m) k)

-- what stands before the switch tests of a block: output copies of due tasks; due updates; all sensors
abbrev pub head_of : Program → Mode → ℕ → List Op
head_of P M k =
    map call_output (due_tasks M k)
    ++ (map (λ r. call_driver r.driver) (due_updates M k) ++ map call_sensor P.sensors)

-- for each due switch `if driver stub`; the first stub stands at address a
abbrev pub tests_of : List Switch → ℕ → List Op
tests_of [] a = []
tests_of (w ∷ ws) a = branch w.driver a ∷ tests_of ws (2 + a)

-- what stands from the entry of a block to its `future`: due task drivers; their schedules
abbrev pub body_of : Mode → ℕ → List Op
body_of M k = map (λ r. call_driver r.driver) (due_invocations M k) ++ map schedule (due_tasks M k)

-- what stands between the schedules of a block and its stubs: `future` one unit, next unit's block; `return`
abbrev pub end_of : Program → ℕ → ℕ → List Op
end_of P m k = future (ticks_of (mode P m)) (block_address P m (next_unit (mode P m) k)) ∷ return ∷ []

-- for each due switch a stub: `call driver`, `jump` to the entry of the target's unit 0
abbrev pub stubs_of : Program → ℕ → List Switch → List Op
stubs_of P k [] = []
stubs_of P k (w ∷ ws) = call_driver w.driver ∷ jump (entry_address P w.target (entered_unit k w)) ∷ stubs_of P k ws

-- the block of unit k of mode m: its parts one after the other
abbrev pub block_code : Program → ℕ → ℕ → List Op
block_code P m k =
    head_of P (mode P m) k
    ++ (tests_of (due_switches (mode P m) k) (2 + future_address P m k)
    ++ (body_of (mode P m) k
    ++ (end_of P m k
    ++ stubs_of P k (due_switches (mode P m) k))))

-- the blocks of mode m, one after the other
abbrev pub mode_code : Program → ℕ → List Op
mode_code P m = cat (block_code P m) (mode P m).units

-- the listing of a program: a jump to unit 0 of the start mode, then the modes
unfoldable pub listing : Program → List Op
listing P = jump (block_address P P.start 0) ∷ cat (mode_code P) (length P.modes)

-- The length rule of document 01: 1 plus, per mode, 3 × the sum of task and switch frequencies + the sum of update
-- frequencies + units × (sensors + 2). That it is the listing's length is `length-rule` in proofs/.
abbrev pub frequencies : {A : Type 0} → (A → ℕ) → List A → ℕ
frequencies frequency [] = 0
frequencies frequency (r ∷ rs) = frequency r + frequencies frequency rs

abbrev pub mode_length : Program → Mode → ℕ
mode_length P M =
    3 * (frequencies (λ (r : Invocation). r.frequency) M.invocations + frequencies (λ (r : Switch). r.frequency) M.switches)
    + frequencies (λ (r : Update). r.frequency) M.updates
    + M.units * (length P.sensors + 2)

abbrev pub length_rule : Program → ℕ
length_rule P = 1 + sum (λ m. mode_length P (mode P m)) (length P.modes)
