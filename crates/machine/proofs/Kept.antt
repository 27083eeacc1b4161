-- What an instant of E code leaves as it was: instruction by instruction, none writes more than specs/Moves.antt says.
use Prim.Native.Nat.{ℕ, zero, suc, ◌<◌}
use mathlib.Core.Path.{◌≡◌, refl, sym, subst, ◌∙◌}
use mathlib.Core.Bool.{Bool, true, false, ◌||◌, not}
use mathlib.Core.List.{List}
use mathlib.Core.Logic.{inl, inr}
use native.Mathlib.Omega.{arith}
use native.Mathlib.Decide.{ℕ_discrete, dec_lt}
use lib.Dec.{leb}
use lib.IntN.{ℤ, pos}
use lib.ListN.{length, get_or, set, get_or-eq_default}
use lib.Seq.{get_or-set_same, get_or-set_other, set_out}
use borrow.Author.Tests.{leb-false}
use Rattle.theory.specs.Lists.{member}
use Rattle.theory.specs.Verdict.{accepted_number}
use Rattle.theory.proofs.Bools.{clash, neither, bars-not, says-itself}
use Rattle.theory.proofs.Puts.{puts-other}
use Rattle.theory.proofs.Verdict.{Clear, verdict-clear}
use Rattle.cells.specs.Cell.{num_at}
use Rattle.cells.specs.Limits.{max_delay}
use Rattle.program.specs.Program.{Program, task, driver}
use Rattle.program.specs.Ports.{value_of, assigned, moves}
use Rattle.program.proofs.Ports.{assigned-miss, moves-miss}
use Rattle.rules.specs.Fields.{in_range, InRange}
use Rattle.rules.proofs.Fields.{range-says}
use Rattle.runs.specs.Tick.{left_of}
use Rattle.code.specs.Op.{Op, call, schedule, branch, jump, future, return, faulty}
use Rattle.machine.specs.declared.State.{State}
use Rattle.machine.specs.declared.At.{At}
use Rattle.machine.specs.Change.{with_ports, with_left}
use Rattle.machine.specs.Instruction.{Call, driver_call, output_call, sensor_call, call_of, is_faulty, names_nothing, time_bad}
use Rattle.machine.specs.Instruction.{still_running, instruction_refusals, called, executes}
use Rattle.machine.specs.Instant.{is_return, fetch, refusal_at, start_at, Goes, Ends}
use Rattle.machine.specs.Moves.{Untouched, Released, Begins, InstantKeeps}

-- a number that is not in a list is not one that is
apart : (p q : ℕ) (xs : List ℕ) → member q xs ≡ true → member p xs ≡ false → p ≡ q → ⊥
apart p q xs m n e = clash (subst (λ (x : ℕ). member x xs ≡ true) (sym e) m) n

-- `future` is no faulty instruction
not-future : {d to : ℕ} → faulty ≡ future d to → ⊥
not-future e = let z : ◌≡◌ {A = ℕ} 0 1 = cc in omega arith

module _ (P : Program) (readings times : List ℤ) (code : List Op) (s : State) where
  -- once a `future` was executed a unit begins
  abbrev Planned : Bool → State → Type 0
  Planned true u = Begins code u
  Planned false u = Unit {0}

  -- what an instant from s has left as it was when it comes to a
  record Kept (a : At) : Type 0 where
    pub time : a.state.time ≡ s.time
    pub outputs : a.state.outputs ≡ s.outputs
    pub ports : (p : ℕ) → Untouched P p → value_of a.state.ports p ≡ value_of s.ports p
    pub left : (t : ℕ) → Released P times t (left_of s.left t) (left_of a.state.left t)
    pub plan : Planned a.planned a.state

  -- a call writes only ports, and none that is untouched
  called-ports : (u : State) (c : Call) → names_nothing P c ≡ false → (p : ℕ) → Untouched P p
      → value_of (called P readings times u c).ports p ≡ value_of u.ports p
  called-ports u (driver_call d) n p h = puts-other (pos 0) (moves u.ports (driver P d)) u.ports p (moves-miss (driver P d) u.ports p (h.no-destination d))
  called-ports u (output_call t) n p h =
      puts-other (pos 0) (assigned (value_of u.outputs) (task P t).gives) u.ports p
      (assigned-miss (value_of u.outputs) (task P t).gives p (h.not-given t))
  called-ports u (sensor_call q) n p h =
      get_or-set_other u.ports q p _ (pos 0) (apart p q P.sensors ((bars-not (says-itself (member q P.sensors))).ok n) h.no-sensor)

  -- a unit that begins does so with other ports or other remaining times too
  plan-ports : (b : Bool) (u : State) (v : List ℤ) → Planned b u → Planned b (with_ports u v)
  plan-ports true u v h =
      record { here = h.here; holds-future = h.holds-future; delay = h.delay; to = h.to; elapsed = h.elapsed; positions = h.positions }
  plan-ports false u v h = tt

  plan-left : (b : Bool) (u : State) (r : List ℕ) → Planned b u → Planned b (with_left u r)
  plan-left true u r h =
      record { here = h.here; holds-future = h.holds-future; delay = h.delay; to = h.to; elapsed = h.elapsed; positions = h.positions }
  plan-left false u r h = tt

  -- an instruction that changes only ports, and none that is untouched, keeps what was kept
  ports-kept : (a : At) (v : List ℤ) (to : ℕ) → ((p : ℕ) → Untouched P p → value_of v p ≡ value_of a.state.ports p) → Kept a
      → Kept (record { address = to; planned = a.planned; state = with_ports a.state v })
  ports-kept a v to h k = record {
    time = k.time;
    outputs = k.outputs;
    ports = λ p w. h p w ∙ k.ports p w;
    left = k.left;
    plan = plan-ports a.planned a.state v k.plan;
  }

  call_kept : (a : At) (c : Call) (to : ℕ) → names_nothing P c ≡ false → Kept a
      → Kept (record { address = to; planned = a.planned; state = called P readings times a.state c })
  call_kept a (driver_call d) to n k = ports-kept a _ to (called-ports a.state (driver_call d) n) k
  call_kept a (output_call t) to n k = ports-kept a _ to (called-ports a.state (output_call t) n) k
  call_kept a (sensor_call q) to n k = ports-kept a _ to (called-ports a.state (sensor_call q) n) k

  -- after a release each task's time is as in s or released: the task had ended, also in s, since no instruction ends one
  release-kept : (u : State) (t : ℕ) → InRange (num_at times t) (task P t).worst → left_of u.left t ≡ 0
      → ((j : ℕ) → Released P times j (left_of s.left j) (left_of u.left j))
      → (j : ℕ) → Released P times j (left_of s.left j) (left_of (set u.left t (num_at times t)) j)
  release-kept u t r z k j = go (ℕ_discrete j t) (dec_lt t (length u.left))
    where
      ended : Released P times t (left_of s.left t) (left_of u.left t) → left_of s.left t ≡ 0
      ended (inl e) = sym e ∙ z
      ended (inr e) = e.0

      go : Dec (j ≡ t) → Dec (t < length u.left) → Released P times j (left_of s.left j) (left_of (set u.left t (num_at times t)) j)
      go (no d) l = subst (Released P times j (left_of s.left j)) (sym (get_or-set_other u.left t j (num_at times t) 0 d)) (k j)
      go (yes e) (no l) =
          subst (λ (r : List ℕ). Released P times j (left_of s.left j) (left_of r j))
          (sym (set_out u.left t (num_at times t) (omega (arith, l)))) (k j)
      go (yes e) (yes l) = subst (λ (i : ℕ). Released P times i (left_of s.left i) (left_of (set u.left t (num_at times t)) i)) (sym e)
          (inr (ended (k t), get_or-set_same u.left t (num_at times t) 0 l, r))

  -- an address where an instruction stands is inside the code
  inside : (a d to : ℕ) → get_or code a faulty ≡ future d to → a < length code
  inside a d to e = go (dec_lt a (length code))
    where
      go : Dec (a < length code) → a < length code
      go (yes l) = l
      go (no l) = absurd (not-future (sym (get_or-eq_default code faulty (omega (arith, l))) ∙ e))

  -- an instruction that is not refused and no `return` keeps what was kept
  step_kept : (a : At) (o : Op) → fetch P readings times code a ≡ o → is_faulty P (length code) a.planned o ≡ false → time_bad P times o ≡ false
      → still_running a.state o ≡ false → is_return o ≡ false → Kept a → Kept (executes P readings times o a)
  step_kept a (call c) e f t r n k = call_kept a (call_of c) _ f k
  step_kept a (schedule t) e f b r n k = record {
    time = k.time;
    outputs = k.outputs;
    ports = k.ports;
    left = release-kept a.state t ((bars-not (range-says (num_at times t) (task P t).worst)).ok b) (omega (arith, leb-false 1 (left_of a.state.left t) r)) k.left;
    plan = plan-left a.planned a.state _ k.plan;
  }
  step_kept a (branch d to) e f t r n k = record { time = k.time; outputs = k.outputs; ports = k.ports; left = k.left; plan = k.plan }
  step_kept a (jump to) e f t r n k = record { time = k.time; outputs = k.outputs; ports = k.ports; left = k.left; plan = k.plan }
  step_kept a (future d to) e f t r n k =
      let (w, l) = neither (a.planned || not (in_range d max_delay)) (leb (length code) to) f in
      let (q, i) = neither a.planned (not (in_range d max_delay)) w in
      record {
        time = k.time;
        outputs = k.outputs;
        ports = k.ports;
        left = k.left;
        plan = record {
          here = inside a.address d to e;
          holds-future = e;
          delay = (bars-not (range-says d max_delay)).ok i;
          to = leb-false (length code) to l;
          elapsed = refl;
          positions = refl;
        };
      }
  step_kept a return e f t r n k = clash {b = true} refl n
  step_kept a faulty e f t r n k = clash {b = true} refl f

  -- no test applies to an instruction that is not refused
  clear : (a : At) → refusal_at P readings times code a ≡ accepted_number → Clear (instruction_refusals P readings times (length code) (fetch P readings times code a)) a
  clear a e = verdict-clear (instruction_refusals P readings times (length code) (fetch P readings times code a)) a (omega arith) e

  -- a stretch of instructions that are not refused and no `return` keeps what was kept
  goes_kept : (n : ℕ) (a b : At) → Goes P readings times code n a b → Kept a → Kept b
  goes_kept zero a b g k = subst Kept g k
  goes_kept (suc n) a b g k =
      let c = clear a g.0 in
      goes_kept n (executes P readings times (fetch P readings times code a) a) b g.2
      (step_kept a (fetch P readings times code a) refl c.0 c.1.0 c.1.1.0 g.1 k)

  -- at the begin of an instant all is as it was
  start-kept : Kept (start_at P readings times code s)
  start-kept = record { time = refl; outputs = refl; ports = λ p w. refl; left = λ t. inl refl; plan = tt }

  -- before a `return` that is not refused a `future` was executed
  returned : (a : At) (o : Op) → is_return o ≡ true → is_faulty P (length code) a.planned o ≡ false → a.planned ≡ true
  returned a (call c) r f = clash {b = false} r refl
  returned a (schedule t) r f = clash {b = false} r refl
  returned a (branch d to) r f = clash {b = false} r refl
  returned a (jump to) r f = clash {b = false} r refl
  returned a (future d to) r f = clash {b = false} r refl
  returned a return r f = (bars-not (says-itself a.planned)).ok f
  returned a faulty r f = clash {b = false} r refl

  -- an instant that ends leaves all else as it was, and begins a unit
  pub instant-keeps : (u : State) → Ends P readings times code (length code) (start_at P readings times code s) u → InstantKeeps P times code s u
  instant-keeps u w =
      let k = goes_kept w.before (start_at P readings times code s) w.last w.goes start-kept in
      let p = returned w.last (fetch P readings times code w.last) w.returns (clear w.last w.not-refused).0 in
      subst (InstantKeeps P times code s) w.leaves
      (record { time = k.time; outputs = k.outputs; ports = k.ports; left = k.left; begins = subst (λ (b : Bool). Planned b w.last.state) p k.plan })
