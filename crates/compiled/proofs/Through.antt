-- Straight-line code comes to its steps one after the other, refusals too, and uses up as many of the count.
-- Assumes that it stands at the address, and that each of it names something (`Names`).
use Prim.Native.Nat.{ℕ, suc, ◌+◌}
use mathlib.Core.Path.{◌≡◌, refl, sym, ap, ◌∙◌}
use mathlib.Core.Bool.{Bool, false}
use mathlib.Core.List.{List, [], ◌∷◌, map}
use native.Mathlib.Nat.{zero-add, suc-add}
use native.Mathlib.Omega.{arith}
use lib.IntN.{ℤ}
use lib.ListN.{length}
use Rattle.theory.specs.Lists.{Every}
use Rattle.program.specs.Program.{Program}
use Rattle.code.specs.Op.{Op, call, schedule}
use Rattle.code.proofs.At as place
use Rattle.machine.specs.declared.State.{State}
use Rattle.machine.specs.Instruction.{is_faulty, time_bad, still_running}
use Rattle.machine.specs.Instant.{Outcome, fetch, run_from}
use Rattle.compiled.specs.Block.{Straight, calls, releases, op_of, unless, and_then, effect, through}
use Rattle.compiled.proofs.Steps.{stepped}
use Rattle.compiled.proofs.Then.{then-unless}

-- what a step calls or releases is there: it is not faulty, however long the code, and after a `future` or before
abbrev pub Names : Program → Straight → Type 0
Names P o = (n : ℕ) (planned : Bool) → is_faulty P n planned (op_of o) ≡ false

module _ (P : Program) (readings times : List ℤ) (code : List Op) where
  -- what at most this many instructions come to from an address, before a `future`
  abbrev pub from : ℕ → ℕ → State → Outcome
  from count a s = run_from P readings times code count (record { address = a; planned = false; state = s })

  -- one step of straight-line code, from its address
  one : (o : Straight) (count a : ℕ) (s : State) → fetch P readings times code (record { address = a; planned = false; state = s }) ≡ op_of o → Names P o
      → from (suc count) a s
      ≡ unless (time_bad P times (op_of o)) (still_running s (op_of o)) (from count (suc a) (effect P readings times o s))
  one (calls c) count a s e h =
      stepped P readings times code count (record { address = a; planned = false; state = s }) (call c) e (h (length code) false) refl
  one (releases t) count a s e h =
      stepped P readings times code count (record { address = a; planned = false; state = s }) (schedule t) e (h (length code) false) refl

  -- straight-line code, run from its address, comes to its steps one after the other
  pub straight-through : (os : List Straight) (count a : ℕ) (s : State) → place.At code a (map op_of os) → Every (Names P) os
      → from (length os + count) a s ≡ and_then (through P readings times os s) (λ u. from count (a + length os) u)
  straight-through [] count a s h n =
      let z : a ≡ a + 0 = omega arith in
      ap (λ (c : ℕ). from c a s) (zero-add count) ∙ ap (λ (b : ℕ). from count b s) z
  straight-through (o ∷ os) count a s h n =
      let y : suc (length os) + count ≡ suc (length os + count) = suc-add (length os) count in
      let z : suc a + length os ≡ a + suc (length os) = omega arith in
      ap (λ (c : ℕ). from c a s) y
      ∙ one o (length os + count) a s (place.fetch-at h) n.0
      ∙ ap (unless (time_bad P times (op_of o)) (still_running s (op_of o)))
      (straight-through os count (suc a) (effect P readings times o s) (place.at_tail h) n.1
      ∙ ap (λ (b : ℕ). and_then (through P readings times os (effect P readings times o s)) (λ u. from count b u)) z)
      ∙ sym (then-unless (time_bad P times (op_of o)) (still_running s (op_of o)) (through P readings times os (effect P readings times o s))
      (λ u. from count (a + suc (length os)) u))
