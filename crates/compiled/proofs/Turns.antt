-- The code of a block, run from its address: the head, then with the switch that is taken, or none, from the entry of the unit that is
-- entered. Assumes that the verdict on the tables is 0, that the mode is declared and has the unit, and that the count is at least one
-- less than the listing is long.
use Prim.Native.Nat.{ℕ, suc, ◌+◌, ◌-◌, ◌≤◌, ◌<◌}
use mathlib.Core.Path.{◌≡◌, refl, sym, ap, subst, ◌∙◌}
use mathlib.Core.List.{List}
use mathlib.Core.Option.{Option, none, some}
use native.Mathlib.Omega.{arith}
use lib.IntN.{ℤ}
use lib.ListN.{length}
use Rattle.theory.specs.Verdict.{accepted_number}
use Rattle.program.specs.Tables.{Tables, mode_count}
use Rattle.program.specs.Program.{Program, Switch, program_of, mode, entered_unit, due_switches}
use Rattle.program.proofs.Decoded.{mode-count}
use Rattle.rules.specs.Verdict.{program_verdict}
use Rattle.code.specs.Listing.{head_size, block_address, entry_address, future_address, listing}
use Rattle.code.proofs.At as place
use Rattle.code.proofs.Place.{Placed, placed}
use Rattle.giotto.specs.Instant.{taken}
use Rattle.machine.specs.declared.State.{State}
use Rattle.machine.specs.Instant.{Outcome}
use Rattle.compiled.specs.Block.{head_steps, body_steps, through, switched, turned, block_instant}
use Rattle.compiled.proofs.Then.{then_same}
use Rattle.compiled.proofs.Through.{from, straight-through}
use Rattle.compiled.proofs.Tests.{Leads, tests-none, tests-some, taken-one}
use Rattle.compiled.proofs.Count.{staying, turning}
use Rattle.compiled.proofs.Named.{head-named, switches-aimed, entered-declared}
use Rattle.compiled.proofs.Entry.{head-ops, head-count, body-count, entry-run}

module _ (T : Tables) (a : program_verdict T ≡ accepted_number) (readings times : List ℤ) where
  abbrev P : Program
  P = program_of T

  -- the run of the listing, of at most so many instructions from an address
  abbrev runs : ℕ → ℕ → State → Outcome
  runs = from P readings times (listing P)

  module _ (m k : ℕ) (h : m < mode_count T) (l : k < (mode P m).units) where
    -- the parts of the block of mode m and unit k stand at their addresses
    parts : Placed P m k
    parts = placed P m k (omega (arith, mode-count T)) l

    -- a run from the switch tests of a block, with the switch that is taken, or none, comes to what `turned` says
    turn-run : (count : ℕ) (s : State) (w : Option Switch) → length (listing P) ≤ suc (head_size P (mode P m) k + count)
        → taken P s.ports (due_switches (mode P m) k) ≡ w
        → runs count (block_address P m k + head_size P (mode P m) k) s ≡ turned P readings times m k w s
    turn-run count s none b e =
        let here : m < length P.modes = omega (arith, mode-count T) in
        let ws : List Switch = due_switches (mode P m) k in
        let body : ℕ = length (body_steps (mode P m) k) in
        let rest : ℕ = count - (length ws + (body + 2)) in
        let z : count ≡ length ws + (body + suc (suc rest)) = omega (arith, staying P m k here l, body-count (mode P m) k) in
        let y : block_address P m k + head_size P (mode P m) k + length ws ≡ entry_address P m k = omega arith in
        ap (λ (c : ℕ). runs c (block_address P m k + head_size P (mode P m) k) s) z
        ∙ tests-none P readings times (listing P) k ws (body + suc (suc rest)) (block_address P m k + head_size P (mode P m) k) (2 + future_address P m k) s
        parts.tests-at parts.stubs-at (switches-aimed T a m k h) e
        ∙ ap (λ (b : ℕ). runs (body + suc (suc rest)) b s) y
        ∙ entry-run T a readings times m k here l rest s
    turn-run count s (some w) b e =
        let here : m < length P.modes = omega (arith, mode-count T) in
        let ws : List Switch = due_switches (mode P m) k in
        let d = entered-declared T a m k h l s.ports (some w) e in
        let there : w.target < length P.modes = omega (arith, mode-count T, d.0) in
        let body : ℕ = length (body_steps (mode P w.target) (entered_unit k w)) in
        let r : Leads P readings times (listing P) k (length ws + 2) (block_address P m k + head_size P (mode P m) k) s w =
        tests-some P readings times (listing P) k ws (block_address P m k + head_size P (mode P m) k) (2 + future_address P m k) s w
        parts.tests-at parts.stubs-at (switches-aimed T a m k h) e in
        let rest : ℕ = count - (r.before + (body + 2)) in
        let z : count ≡ r.before + (body + suc (suc rest)) =
        omega (
          arith,
          r.few,
          turning P m k here l w.target (entered_unit k w) there d.1 (taken-one P s.ports ws w e),
          body-count (mode P w.target) (entered_unit k w),
        ) in
        ap (λ (c : ℕ). runs c (block_address P m k + head_size P (mode P m) k) s) z
        ∙ r.leads (body + suc (suc rest))
        ∙ entry-run T a readings times w.target (entered_unit k w) there d.1 rest (switched P readings times (some w) s)

    -- a run from the address of a block comes to what `block_instant` says
    pub block_run : (count : ℕ) (s : State) → length (listing P) ≤ suc count → runs count (block_address P m k) s ≡ block_instant P readings times m k s
    unfolding block_instant
    block_run count s b =
        let head : ℕ = length (head_steps P (mode P m) k) in
        let rest : ℕ = count - head in
        let z : count ≡ head + rest = omega (arith, staying P m k (omega (arith, mode-count T)) l, head-count P (mode P m) k) in
        let y : block_address P m k + head ≡ block_address P m k + head_size P (mode P m) k = omega (arith, head-count P (mode P m) k) in
        ap (λ (c : ℕ). runs c (block_address P m k) s) z
        ∙ straight-through P readings times (listing P) (head_steps P (mode P m) k) rest (block_address P m k) s
        (subst (place.At (listing P) (block_address P m k)) (sym (head-ops P (mode P m) k)) parts.head_at) (head-named T a m k h)
        ∙ then_same (through P readings times (head_steps P (mode P m) k) s) _
        (λ u. turned P readings times m k (taken P u.ports (due_switches (mode P m) k)) u)
        (λ u.
        ap (λ (b : ℕ). runs rest b u) y
        ∙ turn-run rest u (taken P u.ports (due_switches (mode P m) k)) (omega (arith, head-count P (mode P m) k)) refl)
