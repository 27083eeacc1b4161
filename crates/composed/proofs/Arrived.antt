-- The mode and the unit that an instant enters, whether a switch is taken or none: what has ended, who is active, who holds results.
-- Assumes that the program is accepted, and what holds where an instant begins (`Edge`).
use Prim.Native.Nat.{ℕ, ◌<◌}
use mathlib.Core.Path.{◌≡◌, refl, sym, ap, ◌∙◌}
use mathlib.Core.Bool.{Bool, true, false, not, ◌&&◌, ◌||◌}
use mathlib.Core.List.{List}
use mathlib.Core.Option.{Option, none, some}
use native.Mathlib.Omega.{arith}
use lib.IntN.{ℤ}
use lib.ListN.{length}
use Rattle.theory.specs.Lists.{member}
use Rattle.theory.specs.Verdict.{accepted_number}
use Rattle.theory.proofs.Bools.{clash}
use Rattle.theory.proofs.Members.{member-keep}
use Rattle.cells.specs.Limits.{suppliers, max_ports}
use Rattle.program.specs.Tables.{Tables, mode_count}
use Rattle.program.specs.Program.{Program, Switch, program_of, task, mode, due_tasks}
use Rattle.program.specs.Ports.{value_of}
use Rattle.rules.specs.Verdict.{program_verdict}
use Rattle.rules.proofs.Accepted.{due-declared}
use Rattle.runs.specs.Tick.{left_of}
use Rattle.giotto.specs.Instant.{Configuration, Function, results, completed, sensed, switch_of, mode_after, unit_after, after_switch}
use Rattle.giotto.specs.Instant.{after_drivers}
use Rattle.giotto.proofs.Due.{due-of-mode, switch-all}
use Rattle.giotto.proofs.Stays.{takes-stay}
use Rattle.machine.specs.declared.State.{State}
use Rattle.compiled.proofs.Named.{entered-declared}
use Rattle.composed.specs.Related.{tasks_of}
use Rattle.composed.proofs.Edge.{Below, Edge}

-- without a switch the mode's tasks are active again (x: active before; d: due; z: of the mode that is entered)
active-stay : (x d z : Bool) → (d ≡ true → z ≡ true) → (x ≡ true → z ≡ true) → (z ≡ true → d ≡ false → x ≡ true)
    → ((x && not (x && d)) || d) ≡ z
active-stay true true z f g h = sym (f refl)
active-stay false true z f g h = sym (f refl)
active-stay true false z f g h = sym (g refl)
active-stay false false true f g h = h refl refl
active-stay false false false f g h = refl

-- with a switch every active task is due, so only the target's are active (x: active before; d: due; z: of the target)
active-go : (x d z : Bool) → (x ≡ true → d ≡ true) → ((x && not (x && d)) || z) ≡ z
active-go true true z f = refl
active-go true false z f = clash {b = false} (f refl) refl
active-go false d z f = refl

module _ (T : Tables) (W S : List ℤ) (F : Function) where
  abbrev P : Program
  P = program_of T

  -- an instant enters mode m and unit k, and leaves the port values v
  pub record Arrived (C : Configuration) (s : State) (m k : ℕ) (v : List ℤ) : Type 0 where
    pub declared : m < mode_count T
    pub in-round : k < (mode P m).units
    pub ended : (t : ℕ) → member t (due_tasks (mode P m) k) ≡ true → left_of s.left t ≡ 0
    pub others : (t : ℕ) → member t (tasks_of P m) ≡ false → left_of s.left t ≡ 0
    pub active : (t : ℕ) → ((C.active t && not (member t (completed P C))) || member t (due_tasks (mode P m) k)) ≡ member t (tasks_of P m)
    pub held : (t p : ℕ) → member t (tasks_of P m) ≡ true → member t (due_tasks (mode P m) k) ≡ false → left_of s.left t ≡ 0
        → member p (task P t).gives ≡ true → value_of s.outputs p ≡ results P F v t p
    pub below : (j : ℕ) → j < suppliers → Below T W S F j m k s.left

  module _ (a : program_verdict T ≡ accepted_number) (n : ℕ) (C : Configuration) (s : State) (g : Edge T W S F n C s)
      (readings : List ℤ) where
    -- the port values after step 3 of the instant
    abbrev read : List ℤ
    read = sensed P (results P F C.ports) readings C

    -- the tasks that are due at the instant
    abbrev due : List ℕ
    due = due_tasks (mode P C.mode) C.unit

    -- all ports are there before the instant
    all : length C.ports ≡ max_ports
    all = ap length (sym g.ports) ∙ g.all-ports

    -- the active tasks afterwards, where the completed tasks are the active due ones
    with-completed : (t : ℕ) (z b : Bool) → ((C.active t && not (C.active t && member t due)) || z) ≡ b
        → ((C.active t && not (member t (completed P C))) || z) ≡ b
    with-completed t z b e = ap (λ (c : Bool). (C.active t && not c) || z) (member-keep C.active t due) ∙ e

    -- an instant in which no switch is taken enters the mode and unit that it is in
    stays : Arrived C s C.mode C.unit (after_drivers P (mode P C.mode) C.unit read)
    stays =
        record {
          declared = g.at.declared;
          in-round = g.at.in-round;
          ended = g.ended;
          others = g.others;
          active = λ t. with-completed t _ _
              (active-stay (C.active t) (member t due) (member t (tasks_of P C.mode))
              (due-of-mode T a C.mode C.unit t g.at.declared) (g.only-active t) (g.still-active t));
          held = λ t p e n z q.
              g.held t p e n z q
              ∙ ap (λ (x : List ℤ). F t x p)
              (sym (takes-stay T a (results P F C.ports) readings C all g.at.declared t (due-declared T a C.mode 0 t g.at.declared e) n));
          below = g.below;
        }

    module _ (w : Switch) (e : switch_of P C read ≡ some w) where
      -- where a switch is taken every task of the mode is due
      all-due : (t : ℕ) → member t (tasks_of P C.mode) ≡ true → member t due ≡ true
      all-due t = switch-all T a C.mode C.unit t read w g.at.declared e

      -- where a switch is taken every task has ended
      quiet : (t : ℕ) → left_of s.left t ≡ 0
      quiet t = go (member t (tasks_of P C.mode)) refl
        where
          go : (b : Bool) → member t (tasks_of P C.mode) ≡ b → left_of s.left t ≡ 0
          go true q = g.ended t (all-due t q)
          go false q = g.others t q

      target : (w.target < mode_count T) × (0 < (mode P w.target).units)
      target = entered-declared T a C.mode C.unit g.at.declared g.at.in-round read (some w) e

      changes : Arrived C s w.target 0 (after_drivers P (mode P w.target) 0 (after_switch P (some w) read))
      changes =
          record {
            declared = target.0;
            in-round = target.1;
            ended = λ t _. quiet t;
            others = λ t _. quiet t;
            active = λ t. with-completed t _ _
                (active-go (C.active t) (member t due) (member t (tasks_of P w.target)) (λ x. all-due t (g.only-active t x)));
            held = λ t p x n. clash x n;
            below = λ j l t o. omega (arith, quiet t);
          }

    -- an instant enters its mode and unit, whether a switch is taken or none
    pub arrive : (w : Option Switch) → switch_of P C read ≡ w
        → Arrived C s (mode_after C.mode w) (unit_after C.unit w)
        (after_drivers P (mode P (mode_after C.mode w)) (unit_after C.unit w) (after_switch P w read))
    arrive none e = stays
    arrive (some w) e = changes w e
