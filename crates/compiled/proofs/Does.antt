-- The compiled code does the instant: run from the block of a mode and unit, or from address 0, it comes to what `block_instant` says,
-- and so do its words. An instant is refused only with 16 and 17, and only with 17 where the times that are lent are in their ranges.
-- Assumes that the verdict on the tables is 0, and that the machine stands at the block of a unit of a declared mode (`AtBlock`).
use Prim.Native.Nat.{ℕ, suc, ◌-◌, ◌<◌}
use mathlib.Core.Path.{◌≡◌, refl, sym, ap, subst, ◌∙◌}
use mathlib.Core.Bool.{false}
use mathlib.Core.List.{List}
use mathlib.Core.Logic.{◌⊎◌, inl, inr}
use mathlib.Core.Option.{Option}
use native.Mathlib.Omega.{arith}
use lib.IntN.{ℤ}
use lib.ListN.{length}
use borrow.Author.Tests.{lt-leb}
use Rattle.theory.specs.Verdict.{accepted_number}
use Rattle.theory.proofs.Lists.{every_map}
use Rattle.cells.specs.Cell.{num_at}
use Rattle.cells.specs.Refusals.{time_refused, overrun_refused}
use Rattle.program.specs.Tables.{Tables, task_count}
use Rattle.program.specs.Program.{Program, Switch, program_of, task, mode, due_switches, due_tasks}
use Rattle.program.proofs.Decoded.{mode-count}
use Rattle.rules.specs.Fields.{InRange}
use Rattle.rules.specs.Verdict.{program_verdict}
use Rattle.code.specs.Op.{Op, jump, emit, instructions}
use Rattle.code.specs.Listing.{block_address, listing}
use Rattle.code.specs.Compile.{listing_of}
use Rattle.code.proofs.At as place
use Rattle.code.proofs.Place.{start-at}
use Rattle.code.proofs.Words.{emit-instructions}
use Rattle.code.proofs.Inside.{block_inside}
use Rattle.giotto.specs.Instant.{mode_after, unit_after, taken}
use Rattle.machine.specs.declared.State.{State}
use Rattle.machine.specs.Instant.{stop, run_instant}
use Rattle.compiled.specs.Block.{head_steps, turned, switched, block_instant}
use Rattle.compiled.specs.Done.{AtBlock}
use Rattle.compiled.proofs.Steps.{stepped}
use Rattle.compiled.proofs.Through.{from}
use Rattle.compiled.proofs.Named.{tasks-declared, entered-declared}
use Rattle.compiled.proofs.Refused.{through-two, head-late, entered-two, entered-late, block-stops}
use Rattle.compiled.proofs.Turns.{block_run}

-- an instant is refused only with 16 and 17
pub only_two : (P : Program) (readings times : List ℤ) (m k : ℕ) (s : State) (n : ℕ) → block_instant P readings times m k s ≡ stop n → (n ≡ time_refused) ⊎ (n ≡ overrun_refused)
only_two P readings times m k s n e =
    block-stops P readings times ((n ≡ time_refused) ⊎ (n ≡ overrun_refused)) m k s n
    (through-two P readings times (head_steps P (mode P m) k) s n)
    (λ u w q f. entered-two P readings times (mode_after m w) (unit_after k w) (switched P readings times w u) n f) e

module _ (T : Tables) (a : program_verdict T ≡ accepted_number) (readings times : List ℤ) where
  abbrev P : Program
  P = program_of T

  -- a run from address 0 jumps to the block of unit 0 of the start mode
  start-run : (count : ℕ) (s : State) → P.start < length P.modes → 0 < (mode P P.start).units
      → from P readings times (listing P) (suc count) 0 s ≡ from P readings times (listing P) count (block_address P P.start 0) s
  start-run count s h l =
      stepped P readings times (listing P) count (record { address = 0; planned = false; state = s }) (jump (block_address P P.start 0))
      (place.fetch-at (start-at P)) (lt-leb (length (listing P)) (block_address P P.start 0) (block_inside P P.start 0 h l)) refl

  -- the compiled code, run from a block, does the instant
  pub code-does : (m k : ℕ) (s : State) → AtBlock T m k s → run_instant P readings times (listing_of T) s ≡ block_instant P readings times m k s
  unfolding listing_of
  code-does m k s b = go b.pending
    where
      n : ℕ
      n = length (listing P)

      here : m < length P.modes
      here = omega (arith, mode-count T, b.declared)

      go : (s.pending ≡ block_address P m k) ⊎ ((s.pending ≡ 0) × (m ≡ P.start) × (k ≡ 0))
          → from P readings times (listing P) n s.pending s ≡ block_instant P readings times m k s
      go (inl e) =
          ap (λ (p : ℕ). from P readings times (listing P) n p s) e
          ∙ block_run T a readings times m k b.declared b.in-round n s (omega arith)
      go (inr (e, f, g)) =
          let some : n ≡ suc (n - 1) = omega (arith, block_inside P m k here b.in-round) in
          let l : 0 < (mode P P.start).units = subst (λ (i : ℕ). 0 < (mode P i).units) f (omega (arith, b.in-round)) in
          let z : block_address P P.start 0 ≡ block_address P m k = sym (λ i. block_address P (f i) (g i)) in
          ap (λ (p : ℕ). from P readings times (listing P) n p s) e
          ∙ ap (λ (c : ℕ). from P readings times (listing P) c 0 s) some
          ∙ start-run (n - 1) s (subst (λ (i : ℕ). i < length P.modes) f here) l
          ∙ ap (λ (p : ℕ). from P readings times (listing P) (n - 1) p s) z
          ∙ block_run T a readings times m k b.declared b.in-round (n - 1) s (omega arith)

  -- the words of the compiled code, run from a block, do the instant
  pub words-do : (m k : ℕ) (s : State) → AtBlock T m k s
      → run_instant P readings times (instructions (emit (listing_of T))) s ≡ block_instant P readings times m k s
  words-do m k s b = ap (λ (code : List Op). run_instant P readings times code s) (emit-instructions (listing_of T)) ∙ code-does m k s b

  -- an instant is refused only with 17 where the times that are lent are in their ranges
  pub only-late : ((t : ℕ) → t < task_count T → InRange (num_at times t) (task P t).worst)
      → (m k : ℕ) (s : State) (n : ℕ) → AtBlock T m k s → block_instant P readings times m k s ≡ stop n → n ≡ overrun_refused
  only-late r m k s n b e =
      block-stops P readings times (n ≡ overrun_refused) m k s n (head-late P readings times (mode P m) k s n) late e
    where
      late : (u : State) (w : Option Switch) → taken P u.ports (due_switches (mode P m) k) ≡ w → turned P readings times m k w u ≡ stop n → n ≡ overrun_refused
      late u w q f =
          let d = entered-declared T a m k b.declared b.in-round u.ports w q in
          entered-late P readings times (mode_after m w) (unit_after k w) (switched P readings times w u) n
          (every_map _ _ (due_tasks (mode P (mode_after m w)) (unit_after k w)) r (tasks-declared T a (mode_after m w) (unit_after k w) d.0)) f
