-- From the entry of a unit: its steps, then its `future` and `return`, come to what `entered` says.
-- Assumes that the verdict on the tables is 0, and that the mode is declared and has the unit.
use Prim.Native.Nat.{ℕ, suc, ◌+◌, ◌*◌, ◌<◌}
use mathlib.Core.Path.{◌≡◌, refl, sym, ap, subst, ◌∙◌}
use mathlib.Core.Bool.{true, false, not, ◌||◌}
use mathlib.Core.List.{List, map, map-append, map-map}
use native.Mathlib.Omega.{arith}
use lib.IntN.{ℤ}
use lib.ListN.{length, length-append, length-map}
use borrow.Author.Tests.{lt-leb}
use Rattle.theory.specs.Verdict.{accepted_number}
use Rattle.theory.proofs.Bools.{is_true}
use Rattle.cells.specs.Limits.{max_delay}
use Rattle.program.specs.Tables.{Tables}
use Rattle.program.specs.Program.{Program, Mode, program_of, mode, ticks_of, next_unit, due_invocations}
use Rattle.program.proofs.Decoded.{mode-count, next-below}
use Rattle.rules.specs.Verdict.{program_verdict}
use Rattle.rules.specs.Fields.{in_range}
use Rattle.rules.proofs.Fields.{range-says}
use Rattle.rules.proofs.Accepted.{accepted-ticks}
use Rattle.code.specs.Op.{future}
use Rattle.code.specs.Listing.{head_size, block_address, entry_address, future_address, head_of, body_of, listing}
use Rattle.code.proofs.At as place
use Rattle.code.proofs.Place.{placed}
use Rattle.code.proofs.Inside.{block_inside}
use Rattle.machine.specs.declared.State.{State}
use Rattle.machine.specs.Instant.{ok}
use Rattle.compiled.specs.Block.{op_of, head_steps, body_steps, through, begun, entered}
use Rattle.compiled.proofs.Then.{then_same}
use Rattle.compiled.proofs.Steps.{stepped, returned}
use Rattle.compiled.proofs.Through.{from, straight-through}
use Rattle.compiled.proofs.Named.{body-named}

-- the steps of a block up to the switch tests are its instructions there
pub head-ops : (P : Program) (M : Mode) (k : ℕ) → map op_of (head_steps P M k) ≡ head_of P M k
head-ops P M k = simp (map-append, map-map)

-- the steps of a block from its entry on are its instructions there
body-ops : (M : Mode) (k : ℕ) → map op_of (body_steps M k) ≡ body_of M k
body-ops M k = simp (map-append, map-map)

-- the steps of a block up to the switch tests are as many as its size says
pub head-count : (P : Program) (M : Mode) (k : ℕ) → length (head_steps P M k) ≡ head_size P M k
head-count P M k = simp (length-append, length-map)

-- the steps of a block from its entry on are as many as its size says
pub body-count : (M : Mode) (k : ℕ) → length (body_steps M k) ≡ 2 * length (due_invocations M k)
body-count M k = simp (length-append, length-map) (omega arith)

module _ (T : Tables) (a : program_verdict T ≡ accepted_number) (readings times : List ℤ) where
  abbrev P : Program
  P = program_of T

  module _ (m k : ℕ) (h : m < length P.modes) (l : k < (mode P m).units) where
    -- the delay of a unit is one that a `future` may have
    delay-right : not (in_range (ticks_of (mode P m)) max_delay) ≡ false
    delay-right = ap not (is_true (range-says (ticks_of (mode P m)) max_delay) (accepted-ticks T a m (omega (arith, mode-count T))))

    -- the `future` and `return` at the end of a block begin the unit
    end-run : (count : ℕ) (s : State) → from P readings times (listing P) (suc (suc count)) (future_address P m k) s ≡ ok (begun P readings times m k s)
    end-run count s =
        let to : ℕ = block_address P m (next_unit (mode P m) k) in
        let e = (placed P m k h l).end-at in
        stepped P readings times (listing P) (suc count) (record { address = future_address P m k; planned = false; state = s })
        (future (ticks_of (mode P m)) to) (place.fetch-at e)
        (λ i. delay-right i || lt-leb (length (listing P)) to (block_inside P m (next_unit (mode P m) k) h (next-below (mode P m) k l)) i) refl
        ∙ returned P readings times (listing P) count (record { address = suc (future_address P m k); planned = true; state = begun P readings times m k s })
        (place.fetch-at (place.at_tail e)) refl

    -- a run from the entry of a block to its `return` comes to what `entered` says
    pub entry-run : (count : ℕ) (s : State)
        → from P readings times (listing P) (length (body_steps (mode P m) k) + suc (suc count)) (entry_address P m k) s ≡ entered P readings times m k s
    unfolding entered
    entry-run count s =
        let z : entry_address P m k + length (body_steps (mode P m) k) ≡ future_address P m k = omega (arith, body-count (mode P m) k) in
        straight-through P readings times (listing P) (body_steps (mode P m) k) (suc (suc count)) (entry_address P m k) s
        (subst (place.At (listing P) (entry_address P m k)) (sym (body-ops (mode P m) k)) (placed P m k h l).body_at)
        (body-named T a m k (omega (arith, mode-count T)))
        ∙ then_same (through P readings times (body_steps (mode P m) k) s) _ (λ u. ok (begun P readings times m k u))
        (λ u. ap (λ (b : ℕ). from P readings times (listing P) (suc (suc count)) b u) z ∙ end-run count u)
