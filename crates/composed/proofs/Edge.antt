-- Where an instant is about to begin: what is known of the machine's state and of Giotto's configuration, whether nothing has happened
-- yet or a unit has ended. Assumes that the system is sound.
use Prim.Native.Nat.{ℕ, suc, ◌%◌, ◌^◌, ◌≤◌, ◌<◌}
use mathlib.Core.Path.{◌≡◌, refl, sym, ap, ap₂, subst, ◌∙◌}
use mathlib.Core.Bool.{Bool, true, false}
use mathlib.Core.List.{List, [], ◌∷◌}
use mathlib.Core.Logic.{inl, inr}
use native.Mathlib.Omega.{arith}
use lib.Dec.{eqb}
use lib.IntN.{ℤ}
use lib.ListN.{length, length-replicate}
use Rattle.theory.specs.Lists.{keep, member, gather, puts}
use Rattle.theory.proofs.Bools.{clash}
use Rattle.theory.proofs.Lists.{each-length}
use Rattle.theory.proofs.Filled.{zeros-at}
use Rattle.theory.proofs.Members.{keep-members}
use Rattle.cells.specs.Limits.{suppliers, max_ports, max_tasks}
use Rattle.program.specs.Tables.{Tables, port_first}
use Rattle.program.specs.Program.{Program, program_of, task, mode, ticks_of, next_unit, due_tasks}
use Rattle.program.specs.Ports.{value_of, assigned}
use Rattle.program.proofs.Decoded.{mode-count, next-below}
use Rattle.rules.proofs.Accepted.{accepted-fields, due-declared}
use Rattle.code.proofs.Accepted.{accepted-modes}
use Rattle.runs.specs.Tick.{left_of}
use Rattle.runs.specs.Round.{before, worst_case, nothing}
use Rattle.runs.specs.Dominated.{AtMost}
use Rattle.suppliers.specs.Supplier.{course}
use Rattle.suppliers.proofs.Accepted.{own-member, owner-declared}
use Rattle.giotto.specs.Instant.{Configuration, Function, results, after_tasks}
use Rattle.giotto.specs.Execution.{initial}
use Rattle.giotto.proofs.Due.{due-of-mode}
use Rattle.machine.specs.declared.State.{State}
use Rattle.machine.specs.Advance.{state_of}
use Rattle.compiled.specs.Done.{seen, local, AtBlock}
use Rattle.composed.specs.Sound.{Sound}
use Rattle.composed.specs.Related.{OwnedBy, tasks_of, NotBegun, worst_run, Going}
use Rattle.composed.proofs.Copied.{copied-same, copied-held}

module _ (T : Tables) (W S : List ℤ) (F : Function) where
  abbrev P : Program
  P = program_of T

  -- the remaining times are at most those of supplier j's worst-case run alone before unit k of mode m
  abbrev pub Below : ℕ → ℕ → ℕ → List ℕ → Type 0
  Below j m k left = AtMost (OwnedBy P j) left (before (course P W S j m) (worst_case (course P W S j m)) nothing k)

  -- an instant is about to begin, in tick n
  pub record Edge (n : ℕ) (C : Configuration) (s : State) : Type 0 where
    pub at : AtBlock T C.mode C.unit s
    pub stamp : C.time ≡ n
    pub clock : s.time ≡ n % 2 ^ 32
    pub ports : s.ports ≡ C.ports
    pub all-ports : length s.ports ≡ max_ports
    pub all-outputs : length s.outputs ≡ max_ports
    pub all_left : length s.left ≡ max_tasks
    -- copying the local outputs of all due tasks is step 1
    pub copied : after_tasks P (local s) (seen C.mode C.unit s)
        ≡ after_tasks P (results P F C.ports) C
    -- due tasks have ended, and so have the tasks of other modes
    pub ended : (t : ℕ) → member t (due_tasks (mode P C.mode) C.unit) ≡ true → left_of s.left t ≡ 0
    pub others : (t : ℕ) → member t (tasks_of P C.mode) ≡ false → left_of s.left t ≡ 0
    -- active tasks are the mode's; those of the mode that are not due are active, and hold their results where they have ended
    pub only-active : (t : ℕ) → C.active t ≡ true → member t (tasks_of P C.mode) ≡ true
    pub still-active : (t : ℕ) → member t (tasks_of P C.mode) ≡ true → member t (due_tasks (mode P C.mode) C.unit) ≡ false
        → C.active t ≡ true
    pub held : (t p : ℕ) → member t (tasks_of P C.mode) ≡ true → member t (due_tasks (mode P C.mode) C.unit) ≡ false
        → left_of s.left t ≡ 0 → member p (task P t).gives ≡ true → value_of s.outputs p ≡ results P F C.ports t p
    pub most : (t : ℕ) → left_of s.left t ≤ (task P t).worst
    pub below : (j : ℕ) → j < suppliers → Below j C.mode C.unit s.left

  module _ (h : Sound T W S) where
    -- before anything has happened an instant is about to begin
    first_edge : Edge 0 (initial P F) (state_of P.first)
    first_edge =
        record {
          at =
              record {
                declared = (accepted-fields T h.accepted).start;
                in-round = (accepted-modes T h.accepted P.start (omega (arith, mode-count T, (accepted-fields T h.accepted).start))).some;
                pending = inr (refl, refl, refl);
              };
          stamp = refl;
          clock = refl;
          ports = refl;
          all-ports = each-length (port_first T) max_ports 0;
          all-outputs = each-length (port_first T) max_ports 0;
          all_left = length-replicate {A = ℕ} max_tasks 0;
          copied =
              copied-same P (keep (λ t. true) (tasks_of P P.start)) P.first
              ∙ sym (ap (λ (ts : List ℕ). puts (gather (λ t. assigned (results P F P.first t) (task P t).gives) ts) P.first) (none (tasks_of P P.start)));
          ended = λ t e. zeros-at max_tasks t;
          others = λ t e. zeros-at max_tasks t;
          only-active = λ t e. clash {b = false} e refl;
          still-active = λ t e n. clash e n;
          held = λ t p e n. clash e n;
          most = λ t. omega (arith, zeros-at max_tasks t);
          below = λ j l t o. omega arith;
        }
      where
        none : (ts : List ℕ) → keep (λ t. false) ts ≡ []
        none [] = refl
        none (t ∷ ts) = none ts

    pub fresh-edge : (n : ℕ) (C : Configuration) (s : State) → NotBegun P F n C s → Edge n C s
    fresh-edge n C s f =
        subst (λ (k : ℕ). Edge k C s) (sym f.no-tick)
        (subst (λ (D : Configuration). Edge 0 D s) (sym f.initially) (subst (Edge 0 (initial P F)) (sym f.is-fresh) first_edge))

    -- an instant is about to begin where a unit has ended
    module _ (k n : ℕ) (C : Configuration) (s : State) (g : Going T W S F k n C s) (z : s.remaining ≡ 0) where
      -- where a unit has ended, its ticks have elapsed
      over : s.elapsed ≡ ticks_of (mode P C.mode)
      over = omega (arith, g.ticks, z)

      -- where a unit has ended, a task that is due has ended
      due-ended : (t : ℕ) → member t (due_tasks (mode P C.mode) C.unit) ≡ true → left_of s.left t ≡ 0
      due-ended t e =
          let j = (task P t).supplier in
          let l = owner-declared T h.accepted t (due-declared T h.accepted C.mode C.unit t g.declared e) in
          let due = subst (λ (u : ℕ). member t (due_tasks (mode P C.mode) u) ≡ true) g.next e in
          let end = (h.good j C.mode l g.declared).ends k t g.in-round (own-member P j t (due_tasks (mode P C.mode) (next_unit (mode P C.mode) k)) refl ∙ due) in
          let less : left_of s.left t ≤ left_of (worst_run T W S F j C.mode k (ticks_of (mode P C.mode))).left t =
          subst (λ (e : ℕ). left_of s.left t ≤ left_of (worst_run T W S F j C.mode k e).left t) over ((g.ahead j l).owes t refl) in
          omega (arith, less, end)

      -- where a round has ended, all tasks have ended
      all-ended : C.unit ≡ 0 → (t : ℕ) → left_of s.left t ≡ 0
      all-ended u t = go (member t (tasks_of P C.mode)) refl
        where
          go : (b : Bool) → member t (tasks_of P C.mode) ≡ b → left_of s.left t ≡ 0
          go true e = due-ended t (subst (λ (k : ℕ). member t (due_tasks (mode P C.mode) k) ≡ true) (sym u) e)
          go false e = g.others t e

      -- where a unit has ended, each supplier owes at most what its worst-case run alone owes before the next
      next-below-worst : (j : ℕ) → j < suppliers → Below j C.mode C.unit s.left
      next-below-worst j l = go (eqb (suc k) (mode P C.mode).units) g.next
        where
          go : (b : Bool) → C.unit ≡ elim b as (λ b. ℕ) [ true ↦ 0 | false ↦ suc k ] → Below j C.mode C.unit s.left
          go true e = λ t o. omega (arith, all-ended e t)
          go false e =
              subst (λ (u : ℕ). Below j C.mode u s.left) (sym e)
              (λ t o. subst (λ (e : ℕ). left_of s.left t ≤ left_of (worst_run T W S F j C.mode k e).left t) over ((g.ahead j l).owes t o))

      pub going-edge : Edge n C s
      going-edge =
          record {
            at =
                record {
                  declared = g.declared;
                  in-round = subst (λ (u : ℕ). u < (mode P C.mode).units) (sym g.next) (next-below (mode P C.mode) k g.in-round);
                  pending = inl g.pending;
                };
            stamp = omega (arith, g.stamp, z);
            clock = g.clock;
            ports = g.ports;
            all-ports = g.all-ports;
            all-outputs = g.all-outputs;
            all_left = g.all_left;
            copied = step-1;
            ended = due-ended;
            others = g.others;
            only-active = λ t e. sym (g.active t) ∙ e;
            still-active = λ t e _. g.active t ∙ e;
            held = λ t p e _. g.held t p e;
            most = g.most;
            below = next-below-worst;
          }
        where
          due : List ℕ
          due = due_tasks (mode P C.mode) C.unit

          of-mode : (t : ℕ) → member t due ≡ true → member t (tasks_of P C.mode) ≡ true
          of-mode t = due-of-mode T h.accepted C.mode C.unit t g.declared

          step-1 : after_tasks P (local s) (seen C.mode C.unit s)
              ≡ after_tasks P (results P F C.ports) C
          step-1 =
              ap₂ (λ (ts : List ℕ) (v : List ℤ). puts (gather (λ t. assigned (value_of s.outputs) (task P t).gives) ts) v)
              (keep-members (λ t. true) due (λ t m. refl)) g.ports
              ∙ copied-held P due C.ports (value_of s.outputs) (results P F C.ports) (λ t p m. g.held t p (of-mode t m) (due-ended t m))
              ∙ ap (λ (ts : List ℕ). puts (gather (λ t. assigned (results P F C.ports t) (task P t).gives) ts) C.ports)
              (sym (keep-members C.active due (λ t m. g.active t ∙ of-mode t m)))
