-- The three instructions that name something, `call`, `schedule` and `if`: what each comes to, by its tests and by what is named.
-- Assumes of what is named that there are no more tasks and drivers than the limits.
use Prim.Native.Nat.{ℕ, zero, suc, ◌≤◌, ◌<◌}
use mathlib.Core.Path.{◌≡◌, refl, sym, subst, ap, ap₂, ◌∙◌}
use mathlib.Core.Bool.{Bool, true, false, not, ◌&&◌, ◌||◌}
use mathlib.Core.List.{List}
use native.Mathlib.Omega.{arith}
use lib.Dec.{ltb, leb}
use lib.IntN.{ℤ}
use lib.ListN.{set}
use borrow.Author.Tests.{lt-ltb, le-ltb, le-leb, lt-leb}
use Rattle.theory.specs.Verdict.{accepted_number}
use Rattle.theory.proofs.Bools.{neither}
use Rattle.cells.specs.Cell.{name_of, rows_in, num_at, field_at}
use Rattle.cells.specs.Limits.{max_tasks, max_drivers}
use Rattle.cells.specs.Refusals.{time_refused, overrun_refused, faulty_refused}
use Rattle.program.specs.Tables.{Tables, task_width, task_worst_column, task_count, driver_width, driver_count}
use Rattle.program.specs.Guard.{Guard, guard_of, holds}
use Rattle.program.specs.Program.{Task, Driver, Program, program_of, task, driver}
use Rattle.program.specs.Ports.{value_of}
use Rattle.program.proofs.Decoded.{task-row, driver-row}
use Rattle.rules.specs.Fields.{in_range}
use Rattle.runs.specs.Tick.{left_of}
use Rattle.code.specs.Op.{call, schedule, branch, jump, decode, call_number, schedule_number, if_number, jump_number}
use Rattle.machine.specs.Advance.{Advanced}
use Rattle.machine.specs.declared.At.{At}
use Rattle.machine.specs.Change.{with_left}
use Rattle.machine.specs.Instruction.{call_of, names_nothing, is_faulty, still_called}
use Rattle.instants.specs.Step.{Stepped}
use Rattle.instants.specs.Step.{call_answer, stepped}
use Rattle.instants.proofs.Declared.{row_named, task-past, driver-past}
use Rattle.instants.proofs.Answered.{answered, answered-call}
use Rattle.instants.proofs.Steps.{refused_with, moved, step-faulty, step-late, step-running, step-executed, decided, decided-step}
use Rattle.instants.proofs.Steps.{unused-faulty, unused-none}

module _ (P : Program) (readings times : List ℤ) (n : ℕ) (a : At) (c u : ℕ) where
  -- a `call` is faulty where its unused word is not 0
  pub call-faulty : 0 < u → refused_with a faulty_refused ≡ stepped P readings times n (decode call_number c u) a
  call-faulty l = unused-faulty P readings times n a u (call c) (ap (λ (b : Bool). b || is_faulty P n a.planned (call c)) (lt-ltb 0 u l))

  -- what the machine comes to by what the call answers: refused with its number, or moved on with its state
  abbrev after : Advanced → Stepped
  after r = elim r.number [ zero ↦ moved a a.planned r.state | suc m ↦ refused_with a (suc m) ]

  -- what the machine comes to by what the call answers is what the step comes to
  answer-after : u ≤ 0 → after (call_answer P readings times a.state (call_of c)) ≡ stepped P readings times n (decode call_number c u) a
  answer-after l =
      ap after (sym (answered-call P readings times a.state (call_of c)))
      ∙ go (names_nothing P (call_of c)) (still_called a.state (call_of c))
      ∙ decided-step P readings times n a (call c)
      ∙ unused-none P readings times n a u (call c) (le-ltb 0 u l)
    where
      go : (nothing running : Bool)
          → after (answered P readings times a.state (call_of c) nothing running) ≡ decided P readings times n a (call c) nothing false running
      go true running = refl
      go false true = refl
      go false false = refl

  -- a `call` whose call is refused is refused with its number
  pub call-refused : (r : Advanced) → u ≤ 0 → r ≡ call_answer P readings times a.state (call_of c) → accepted_number < r.number
      → refused_with a r.number ≡ stepped P readings times n (decode call_number c u) a
  call-refused r l e h = some r.number h ∙ ap after e ∙ answer-after l
    where
      some : (m : ℕ) → accepted_number < m
          → refused_with a m ≡ elim m [ zero ↦ moved a a.planned r.state | suc m ↦ refused_with a (suc m) ]
      some zero h = absurd (omega arith)
      some (suc m) h = refl

  -- a `call` whose call is done goes on to the next address
  pub call-moved : (r : Advanced) → u ≤ 0 → r ≡ call_answer P readings times a.state (call_of c) → r.number ≤ accepted_number
      → moved a a.planned r.state ≡ stepped P readings times n (decode call_number c u) a
  call-moved r l e h = none r.number h ∙ ap after e ∙ answer-after l
    where
      none : (m : ℕ) → m ≤ accepted_number → moved a a.planned r.state ≡ elim m [ zero ↦ moved a a.planned r.state | suc m ↦ refused_with a (suc m) ]
      none zero h = refl
      none (suc m) h = absurd (omega arith)

-- a `schedule` of the task of number t, with the task's name and whether it is declared
module _ (T : Tables) (readings times : List ℤ) (n : ℕ) (a : At) {tasks : List ℤ} (t u name : ℕ) (b : Bool) (e : T.tasks ≡ tasks)
    (few : rows_in task_width tasks ≤ max_tasks) (m : name ≡ name_of t) (is_b : b ≡ ltb name (rows_in task_width tasks)) where
  -- a `schedule` is faulty where its unused word is not 0, or its task is not declared
  pub schedule-faulty : (ltb 0 u || not b) ≡ true → refused_with a faulty_refused ≡ stepped (program_of T) readings times n (decode schedule_number t u) a
  schedule-faulty h =
      unused-faulty (program_of T) readings times n a u (schedule t) (ap (λ (p : Bool). ltb 0 u || p) (task-past T t name b e few m is_b) ∙ h)

  module _ (h : (ltb 0 u || not b) ≡ false) (time worst : ℕ) (lent : time ≡ num_at times name)
      (most : worst ≡ field_at task_width task_worst_column tasks name) where
    -- a `schedule` that is not faulty names a declared task, by its number
    named-task : (t < rows_in task_width tasks) × (name ≡ t)
    named-task = row_named (rows_in task_width tasks) t name (omega arith) m b is_b (neither (ltb 0 u) (not b) h).1

    -- a `schedule` that names a declared task is not faulty
    sound : is_faulty (program_of T) n a.planned (schedule t) ≡ false
    sound = task-past T t name b e few m is_b ∙ (neither (ltb 0 u) (not b) h).1

    -- the step of a `schedule` whose unused word is 0 is what the words say
    said : stepped (program_of T) readings times n (schedule t) a ≡ stepped (program_of T) readings times n (decode schedule_number t u) a
    said = unused-none (program_of T) readings times n a u (schedule t) (neither (ltb 0 u) (not b) h).0

    -- the time lent for the task, by its number
    own-time : time ≡ num_at times t
    own-time = lent ∙ ap (num_at times) named-task.1

    -- the time lent for the task is in its range, or not
    in-range : (leb 1 time && leb time worst) ≡ in_range (num_at times t) (task (program_of T) t).worst
    unfolding in_range
    in-range =
        let declared : t < task_count T = subst (λ (rows : List ℤ). t < rows_in task_width rows) (sym e) named-task.0 in
        let own : worst ≡ (task (program_of T) t).worst =
        most ∙ ap₂ (field_at task_width task_worst_column) (sym e) named-task.1 ∙ ap (λ (K : Task). K.worst) (sym (task-row T t declared)) in
        λ i. leb 1 (own-time i) && leb (own-time i) (own i)

    -- a time that is not in range is refused with 16
    pub schedule-late : not (leb 1 time && leb time worst) ≡ true → refused_with a time_refused ≡ stepped (program_of T) readings times n (decode schedule_number t u) a
    schedule-late l = step-late (program_of T) readings times n a (schedule t) sound (ap not (sym in-range) ∙ l) ∙ said

    module _ (l : not (leb 1 time && leb time worst) ≡ false) (rest : ℕ) (r : rest ≡ left_of a.state.left name) where
      -- what is left of the task's last run, by its number
      own-rest : rest ≡ left_of a.state.left t
      own-rest = r ∙ ap (left_of a.state.left) named-task.1

      -- a task that is still running is refused with 17
      pub schedule-running : 0 < rest → refused_with a overrun_refused ≡ stepped (program_of T) readings times n (decode schedule_number t u) a
      schedule-running q =
          step-running (program_of T) readings times n a (schedule t) sound (ap not (sym in-range) ∙ l) (le-leb 1 _ (subst (λ (k : ℕ). 1 ≤ k) own-rest q))
          ∙ said

      -- a task that has ended is released with the time lent for it
      pub schedule-released : (left : List ℕ) → rest ≤ 0 → left ≡ set a.state.left name time
          → moved a a.planned (with_left a.state left) ≡ stepped (program_of T) readings times n (decode schedule_number t u) a
      schedule-released left q v =
          ap (λ (w : List ℕ). moved a a.planned (with_left a.state w)) (v ∙ ap₂ (set a.state.left) named-task.1 own-time)
          ∙ step-executed (program_of T) readings times n a (schedule t) sound (ap not (sym in-range) ∙ l)
          (lt-leb 1 _ (subst (λ (k : ℕ). k < 1) own-rest (omega arith)))
          ∙ said

-- an `if` of the driver of number d, with the driver's name and whether it is declared
module _ (T : Tables) (readings times : List ℤ) (n : ℕ) (a : At) {drivers : List ℤ} (d to name : ℕ) (b : Bool) (e : T.drivers ≡ drivers)
    (few : rows_in driver_width drivers ≤ max_drivers) (m : name ≡ name_of d) (is_b : b ≡ ltb name (rows_in driver_width drivers)) where
  -- an `if` is faulty or not by its driver and its address
  told-faulty : is_faulty (program_of T) n a.planned (branch d to) ≡ (not b || leb n to)
  told-faulty = ap (λ (p : Bool). p || leb n to) (driver-past T d name b e few m is_b)

  -- an `if` is faulty where its driver is not declared, or its address is past the end
  pub branch-faulty : (not b || leb n to) ≡ true → refused_with a faulty_refused ≡ stepped (program_of T) readings times n (decode if_number d to) a
  branch-faulty h = step-faulty (program_of T) readings times n a (branch d to) (told-faulty ∙ h)

  module _ (h : (not b || leb n to) ≡ false) where
    -- the guard of the driver that an `if` names, by its number
    own-guard : guard_of T name ≡ (driver (program_of T) d).guard
    own-guard =
        let (l, named) = row_named (rows_in driver_width drivers) d name (omega arith) m b is_b (neither (not b) (leb n to) h).0 in
        let declared : d < driver_count T = subst (λ (rows : List ℤ). d < rows_in driver_width rows) (sym e) l in
        ap (guard_of T) named ∙ ap (λ (D : Driver). D.guard) (sym (driver-row T d declared))

    -- the machine after an `if`: on at its address where the guard holds, at the next address where it does not
    abbrev goes_on : Bool → Stepped
    goes_on held = record {
      number = accepted_number;
      over = false;
      at = record { address = elim held [ true ↦ to | false ↦ suc a.address ]; planned = a.planned; state = a.state };
    }

    -- the machine after an `if`, by its guard, is what the step comes to
    goes-on : (held : Bool) → held ≡ holds (guard_of T name) (value_of a.state.ports) → goes_on held ≡ stepped (program_of T) readings times n (decode if_number d to) a
    goes-on held g =
        ap goes_on (g ∙ ap (λ (g : Guard). holds g (value_of a.state.ports)) own-guard)
        ∙ step-executed (program_of T) readings times n a (branch d to) (told-faulty ∙ h) refl refl

    -- an `if` whose guard holds comes to what a `jump` to its address does
    pub branch-jumps : (r : Stepped) (held : Bool) → held ≡ holds (guard_of T name) (value_of a.state.ports) → held ≡ true
        → r ≡ stepped (program_of T) readings times n (decode jump_number to 0) a → r ≡ stepped (program_of T) readings times n (decode if_number d to) a
    branch-jumps r held g y j =
        j ∙ sym (step-executed (program_of T) readings times n a (jump to) (neither (not b) (leb n to) h).1 refl refl)
        ∙ goes-on true (sym y ∙ g)

    -- an `if` whose guard does not hold goes on to the next address
    pub branch-moves : (held : Bool) → held ≡ holds (guard_of T name) (value_of a.state.ports) → held ≡ false
        → moved a a.planned a.state ≡ stepped (program_of T) readings times n (decode if_number d to) a
    branch-moves held g y = goes-on false (sym y ∙ g)
