-- An advance answers the same with other readings, times and results, where they agree in what it uses (specs/Uses.antt).
-- Assumes that agreement.
use Prim.Native.Nat.{ℕ, zero, suc, ◌≤◌, ◌<◌}
use mathlib.Core.Path.{◌≡◌, refl, sym, ap, subst, ◌∙◌}
use mathlib.Core.Bool.{Bool, true, false, not, cond}
use mathlib.Core.List.{List, [], ◌∷◌, ◌++◌, map}
use native.Mathlib.Omega.{arith}
use lib.Dec.{eqb}
use lib.IntN.{ℤ}
use lib.ListN.{length, get_or, set}
use borrow.Author.Tests.{eqb-true}
use Rattle.theory.specs.Lists.{member, Put, puts}
use Rattle.theory.specs.Rows.{placeless}
use Rattle.theory.specs.Verdict.{accepted_number, or_else, within, verdict, first_refusal}
use Rattle.theory.specs.declared.Answer.{Answer}
use Rattle.theory.proofs.Lists.{map_same}
use Rattle.theory.proofs.Members.{every-member}
use Rattle.cells.specs.Cell.{num_at}
use Rattle.cells.specs.Refusals.{shape_refused, time_refused, overrun_refused, faulty_refused}
use Rattle.program.specs.Program.{Program, task}
use Rattle.program.specs.Ports.{value_of, assigned}
use Rattle.rules.specs.Fields.{in_range}
use Rattle.rules.specs.Shape.{bad_length}
use Rattle.rules.specs.Verdict.{table_refusals}
use Rattle.runs.specs.Tick.{left_of, work, left_after}
use Rattle.code.specs.Op.{Op, call, schedule, branch, jump, future, return, faulty}
use Rattle.code.specs.Compile.{long_refusal}
use Rattle.machine.specs.declared.State.{State}
use Rattle.machine.specs.declared.At.{At}
use Rattle.machine.specs.Change.{with_ports, with_left}
use Rattle.machine.specs.Instruction.{Call, driver_call, output_call, sensor_call, call_of, NamesNothing, is_faulty, Faulty, time_bad}
use Rattle.machine.specs.Instruction.{still_running, called, executes}
use Rattle.machine.specs.Instant as instant
use Rattle.machine.specs.Instant.{Outcome, ok, stop, is_return, refusal_at, Goes}
use Rattle.machine.specs.Schedules.{Who, nobody, one, several, running, after_tick, ticked, tick_all}
use Rattle.machine.specs.Advance.{Lent, Advance, advance_shape_bad, run_refusals, advance_refusals, advance_verdict, advance_answer}
use Rattle.machine.specs.Advance.{ready, answer, handed}
use Rattle.machine.specs.Comes.{program, code, instant_start, standing, FaultyAt}
use Rattle.machine.specs.Uses.{Meets, Reads, Releases, lending, SameLengths, Agrees}
use Rattle.machine.proofs.Instructions.{faulty-says}
use Rattle.machine.proofs.Instants.{passes, at_return, at-refusal}
use Rattle.machine.proofs.Comes.{goes-comes}
use Rattle.machine.proofs.Stopped.{before-tick}
use Rattle.machine.proofs.Answered.{outcome, advance-refused, advance-steps}

module _ (P : Program) (code : List Op) (readings others times times₂ : List ℤ) where
  -- what a call, and what an instruction uses is the same
  abbrev SameCall : Call → Type 0
  SameCall (driver_call d) = Unit {0}
  SameCall (output_call t) = Unit {0}
  SameCall (sensor_call p) = value_of readings p ≡ value_of others p

  abbrev Same : Op → Type 0
  Same (call c) = SameCall (call_of c)
  Same (schedule t) = num_at times t ≡ num_at times₂ t
  Same (branch d a) = Unit {0}
  Same (jump a) = Unit {0}
  Same (future d a) = Unit {0}
  Same return = Unit {0}
  Same faulty = Unit {0}

  -- a call, and an instruction, that uses the same does the same
  same-called : (s : State) (c : Call) → SameCall c → called P readings times s c ≡ called P others times₂ s c
  same-called s (driver_call d) e = refl
  same-called s (output_call t) e = refl
  same-called s (sensor_call p) e = ap (λ (x : ℤ). with_ports s (set s.ports p x)) e

  same-executes : (o : Op) (a : At) → Same o → executes P readings times o a ≡ executes P others times₂ o a
  same-executes (call c) a e =
      ap (λ (s : State). record { address = suc a.address; planned = a.planned; state = s }) (same-called a.state (call_of c) e)
  same-executes (schedule t) a e =
      ap (λ (k : ℕ). record { address = suc a.address; planned = a.planned; state = with_left a.state (set a.state.left t k) }) e
  same-executes (branch d to) a e = refl
  same-executes (jump to) a e = refl
  same-executes (future d to) a e = refl
  same-executes return a e = refl
  same-executes faulty a e = refl

  -- an instruction that uses the same is lent a bad time in the same case
  same-time : (o : Op) → Same o → time_bad P times o ≡ time_bad P times₂ o
  same-time (call c) e = refl
  same-time (schedule t) e = ap (λ (k : ℕ). not (in_range k (task P t).worst)) e
  same-time (branch d a) e = refl
  same-time (jump a) e = refl
  same-time (future d a) e = refl
  same-time return e = refl
  same-time faulty e = refl

  -- at most `count` instructions from a come to the same
  abbrev Alike : ℕ → At → Type 0
  Alike count a = instant.run_from P readings times code count a ≡ instant.run_from P others times₂ code count a

  -- instructions from a come to the same, if what each that they come to uses is the same
  same-run : (count : ℕ) (a : At)
      → ((n : ℕ) (b : At) → n < count → Goes P readings times code n a b
      → (Faulty P (length code) b.planned (get_or code b.address faulty) → ⊥) → Same (get_or code b.address faulty))
      → Alike count a
  same-run zero a h = refl
  same-run (suc count) a h =
      go (is_faulty P (length code) a.planned o) refl
      (λ r e. same-run count next (λ n b l g. h (suc n) b (omega arith) (r, e, g)))
    where
      o : Op
      o = get_or code a.address faulty

      next : At
      next = executes P readings times o a

      -- the refusal of the instruction, where f says that it is faulty and t that its time is bad
      refusal : Bool → Bool → ℕ
      refusal f t = or_else f faulty_refused (or_else t time_refused (or_else (still_running a.state o) overrun_refused accepted_number))

      -- whatever the times, a faulty instruction is refused with 19
      faulted : is_faulty P (length code) a.planned o ≡ true → (ts : List ℤ) → refusal_at P readings ts code a ≡ faulty_refused
      faulted e ts = ap (λ (f : Bool). refusal f (time_bad P ts o)) e

      -- the run is the same after a refusal, a `return`, or one instruction more
      going : Same o → refusal_at P readings times code a ≡ refusal_at P others times₂ code a
          → (refusal_at P readings times code a ≡ accepted_number → is_return o ≡ false → Alike count next)
          → (r : ℕ) → refusal_at P readings times code a ≡ r → (b : Bool) → is_return o ≡ b → Alike (suc count) a
      going e w ih (suc r) p b q =
          at-refusal P readings times code count a (suc r) (omega arith) p
          ∙ sym (at-refusal P others times₂ code count a (suc r) (omega arith) (sym w ∙ p))
      going e w ih zero p true q =
          at_return P readings times code count a p q ∙ sym (at_return P others times₂ code count a (sym w ∙ p) q)
      going e w ih zero p false q =
          passes P readings times code count a p q
          ∙ ih p q
          ∙ ap (instant.run_from P others times₂ code count) (same-executes o a e)
          ∙ sym (passes P others times₂ code count a (sym w ∙ p) q)

      go : (f : Bool) → is_faulty P (length code) a.planned o ≡ f
          → (refusal_at P readings times code a ≡ accepted_number → is_return o ≡ false → Alike count next)
          → Alike (suc count) a
      go true e ih =
          at-refusal P readings times code count a faulty_refused (omega arith) (faulted e times)
          ∙ sym (at-refusal P others times₂ code count a faulty_refused (omega arith) (faulted e times₂))
      go false e ih =
          let u = h 0 a (omega arith) refl ((faulty-says P (length code) a.planned o).no e) in
          going u (ap (refusal (is_faulty P (length code) a.planned o)) (same-time o u)) ih (refusal_at P readings times code a) refl (is_return o) refl

-- the tick of the schedules from u is the same, if so are the results of the task that completes in it
same-tick : (P : Program) (S results others : List ℤ) (u : State)
    → ((t p : ℕ) → running S u ≡ one t → left_of u.left t ≡ 1 → member p (task P t).gives ≡ true → value_of results p ≡ value_of others p)
    → tick_all P S results u ≡ tick_all P S others u
same-tick P S results others u h = go (running S u) refl
  where
    outputs : (t : ℕ) → running S u ≡ one t → (b : Bool) → eqb (left_of u.left t) 1 ≡ b
        → ◌≡◌ {A = List ℤ} (elim b [ true ↦ puts (assigned (value_of results) (task P t).gives) u.outputs | false ↦ u.outputs ])
        (elim b [ true ↦ puts (assigned (value_of others) (task P t).gives) u.outputs | false ↦ u.outputs ])
    outputs t r true e =
        ap (λ (w : List Put). puts w u.outputs)
        (map_same (λ p. record { place = p; value = value_of results p }) (λ p. record { place = p; value = value_of others p }) (task P t).gives
        (every-member _ (task P t).gives
        (λ p m. ap (λ (x : ℤ). record { place = p; value = x }) (h t p r (eqb-true (left_of u.left t) 1 e) m))))
    outputs t r false e = refl

    go : (w : Who) → running S u ≡ w → ticked P S results u w ≡ ticked P S others u w
    go nobody e = refl
    go (one t) e =
        ap (λ (v : List ℤ). ok (after_tick S u (left_after (work t) u.left) v)) (outputs t e (eqb (left_of u.left t) 1) refl)
    go several e = refl

-- where the lengths are the same, so are the numbers that are given before anything runs
module _ (L : Advance) (X : Lent) (l : SameLengths L X) where
  same_shape : advance_shape_bad L ≡ advance_shape_bad (lending L X)
  unfolding advance_shape_bad bad_length
  same_shape = rw (l.readings, l.results, l.times)

  same-verdict : advance_verdict L ≡ advance_verdict (lending L X)
  unfolding advance_verdict
  same-verdict =
      ap (λ (b : Bool). or_else b shape_refused (verdict (map (within (λ (K : Advance). K.tables)) (table_refusals ++ (long_refusal ∷ [])) ++ run_refusals) L))
      same_shape

  same-judged : first_refusal advance_refusals L ≡ first_refusal advance_refusals (lending L X)
  same-judged =
      ap (λ (b : Bool). cond b (placeless shape_refused) (first_refusal (map (within (λ (K : Advance). K.tables)) (table_refusals ++ (long_refusal ∷ [])) ++ run_refusals) L))
      same_shape

  -- where a number is given before anything runs, the answer is the same
  pub refused-same : accepted_number < advance_verdict L → advance_answer L ≡ advance_answer (lending L X)
  refused-same h =
      sym (advance-refused L h)
      ∙ ap (λ (x : Answer). record { answer = x; state = L.state }) same-judged
      ∙ advance-refused (lending L X) (omega (arith, h, same-verdict))

module _ (L : Advance) (X : Lent) (A : Agrees L X) where
  -- an instruction that the instant comes to uses the same of both
  same-reached : L.state.remaining ≡ 0 → (n : ℕ) (b : At) → n < length (code L)
      → Goes (program L) L.lent.readings L.lent.times (code L) n (instant_start L) b
      → (FaultyAt L b → ⊥)
      → Same (program L) (code L) L.lent.readings X.readings L.lent.times X.times (standing L b)
  same-reached z n b l g f =
      go (standing L b)
      (record { at = b; reaches = record { no-tick-left = z; before = n; in_count = l; comes = goes-comes L n b g }; stands = refl; not-faulty = f })
    where
      named : (c : ℕ) → Meets L (call c) → (k : Call) → call_of c ≡ k → SameCall (program L) (code L) L.lent.readings X.readings L.lent.times X.times k
      named c r (driver_call d) e = tt
      named c r (output_call t) e = tt
      named c r (sensor_call p) e = A.readings p (c, e, r)

      go : (o : Op) → Meets L o → Same (program L) (code L) L.lent.readings X.readings L.lent.times X.times o
      go (call c) r = named c r (call_of c) refl
      go (schedule t) r = A.times t r
      go (branch d a) r = tt
      go (jump a) r = tt
      go (future d a) r = tt
      go return r = tt
      go faulty r = tt

  -- the E part of the step comes to the same
  same-ready :
      ready (program L) (code L) L.lent.readings L.lent.times L.state ≡ ready (program L) (code L) X.readings X.times L.state
  same-ready = go L.state.remaining refl
    where
      go : (n : ℕ) → L.state.remaining ≡ n
          → ◌≡◌ {A = Outcome}
          (elim n [ zero ↦ instant.run_instant (program L) L.lent.readings L.lent.times (code L) L.state | suc k ↦ ok L.state ])
          (elim n [ zero ↦ instant.run_instant (program L) X.readings X.times (code L) L.state | suc k ↦ ok L.state ])
      go zero z =
          same-run (program L) (code L) L.lent.readings X.readings L.lent.times X.times (length (code L)) (instant_start L)
          (λ n b l g f. same-reached z n b l g f)
      go (suc n) z = refl

  -- the whole step comes to the same
  same_step : outcome L ≡ outcome (lending L X)
  same_step =
      go (ready (program L) (code L) L.lent.readings L.lent.times L.state) refl
      ∙ ap then same-ready
    where
      then : Outcome → Outcome
      then o = elim o [ ok u ↦ tick_all (program L) L.schedule X.results u | stop n ↦ stop n ]

      go : (o : Outcome) → ready (program L) (code L) L.lent.readings L.lent.times L.state ≡ o
          → ◌≡◌ {A = Outcome} (elim o [ ok u ↦ tick_all (program L) L.schedule L.lent.results u | stop n ↦ stop n ]) (then o)
      go (ok u) e =
          same-tick (program L) L.schedule L.lent.results X.results u
          (λ t p r q m. A.results t p (record {
            before-tick = u;
            begins = (before-tick L u).0 e;
            runs = r;
            last-tick = q;
          }) m)
      go (stop n) e = refl

  -- the answer of an advance is the same
  pub used-only : advance_answer L ≡ advance_answer (lending L X)
  used-only = go (advance_verdict L) refl
    where
      go : (n : ℕ) → advance_verdict L ≡ n → advance_answer L ≡ advance_answer (lending L X)
      go zero e =
          sym (advance-steps L e)
          ∙ ap (λ (o : Outcome). handed (answer L.state o)) same_step
          ∙ advance-steps (lending L X) (sym (same-verdict L X A.lengths) ∙ e)
      go (suc n) e = refused-same L X A.lengths (omega (arith, e))

-- an instruction that is met is not faulty
faulty-then : (L : Advance) (o : Op) (r : Meets L o) → Faulty (program L) (length (code L)) r.at.planned o → ⊥
faulty-then L o r f = r.not-faulty (subst (Faulty (program L) (length (code L)) r.at.planned) (sym r.stands) f)

module _ (L : Advance) where
  -- E code reads only declared sensors
  pub reads-sensor : (p : ℕ) → Reads L p → member p (program L).sensors ≡ true
  reads-sensor p (c, e, r) = go (member p (program L).sensors) refl
    where
      go : (b : Bool) → member p (program L).sensors ≡ b → b ≡ true
      go true m = refl
      go false m = absurd (faulty-then L (call c) r (subst (NamesNothing (program L)) (sym e) m))

  -- E code releases only declared tasks
  pub releases-declared : (t : ℕ) → Releases L t → t < length (program L).tasks
  releases-declared t r = omega (arith, faulty-then L (schedule t) r)

  -- while a tick of the unit remains the E code comes to no instruction
  pub meets-none : 1 ≤ L.state.remaining → (o : Op) → Meets L o → ⊥
  meets-none l o r = omega (arith, r.reaches.no-tick-left)
