-- A related state is within the limits of number 21.
-- Assumes that the system is sound; of a state with which a unit goes on, just that.
use Prim.Native.Nat.{ℕ, ◌/◌, ◌≤◌, ◌<◌}
use mathlib.Core.Path.{◌≡◌, sym, ap, subst, ◌∙◌}
use mathlib.Core.List.{List}
use mathlib.Core.Logic.{inl, inr}
use native.Mathlib.Nat.{mul-div_cancel_left}
use native.Mathlib.Decide.{dec_lt}
use native.Mathlib.Omega.{arith}
use lib.IntN.{ℤ}
use lib.ListN.{length, get_or-eq_default}
use Rattle.theory.specs.Verdict.{accepted_number}
use Rattle.theory.proofs.Lists.{those-few}
use Rattle.theory.proofs.Filled.{zeros-at}
use Rattle.cells.specs.Limits.{suppliers, max_tasks, words_each, max_worst}
use Rattle.program.specs.Tables.{Tables, task_count}
use Rattle.program.specs.Program.{Program, Task, program_of, task, mode}
use Rattle.program.proofs.Decoded.{next-below, task-count, mode-count, task-row}
use Rattle.rules.specs.Verdict.{program_verdict}
use Rattle.rules.proofs.Accepted.{accepted-fields, accepted-ticks}
use Rattle.code.specs.Op.{emit}
use Rattle.code.specs.Listing.{listing}
use Rattle.code.specs.Compile.{listing_of}
use Rattle.code.proofs.Place.{block_within, future-in-block}
use Rattle.code.proofs.Words.{emit-length}
use Rattle.code.proofs.Inside.{block_inside}
use Rattle.runs.specs.Schedule.{schedule_count, row_of, block_of}
use Rattle.runs.proofs.Tick.{passed-few}
use Rattle.giotto.specs.Instant.{Configuration, Function}
use Rattle.machine.specs.declared.State.{State}
use Rattle.machine.specs.Advance.{Lent, StateFits, state_of}
use Rattle.composed.specs.Sound.{Sound}
use Rattle.composed.specs.Suited.{by_compiled}
use Rattle.composed.specs.Related.{Going, Related}

-- the compiled code has as many instructions as the listing
code-count : (T : Tables) → length (emit (listing_of T)) / words_each ≡ length (listing (program_of T))
unfolding listing_of
code-count T =
    ap (λ (n : ℕ). n / words_each) (emit-length (listing_of T)) ∙ mul-div_cancel_left (length (listing_of T)) {n = words_each} (omega arith)

-- the compiled code has an instruction
code-some : (T : Tables) → 0 < length (emit (listing_of T)) / words_each
unfolding listing
code-some T = omega (arith, code-count T)

-- a block has no more rows than the schedule
block-few : (S : List ℤ) (j a : ℕ) → length (block_of S j a) ≤ schedule_count S
block-few S j a = those-few _ (row_of S) (schedule_count S) 0

module _ (T : Tables) (a : program_verdict T ≡ accepted_number) where
  -- no task's worst case is longer than the longest
  worst-few : (t : ℕ) → (task (program_of T) t).worst ≤ max_worst
  worst-few t = go (dec_lt t (task_count T))
    where
      go : Dec (t < task_count T) → (task (program_of T) t).worst ≤ max_worst
      go (yes l) = let e = ap (λ (K : Task). K.worst) (task-row T t l) in omega (arith, e, ((accepted-fields T a).tasks t l).worst.1)
      go (no l) =
          let e : (task (program_of T) t).worst ≡ 0 =
          ap (λ (K : Task). K.worst) (get_or-eq_default (program_of T).tasks _ {n = t} (omega (arith, l, task-count T))) in
          omega (arith, e)

module _ (T : Tables) (W S : List ℤ) (F : Function) (sound : Sound T W S) (n : ℕ) (C : Configuration) (X : Lent) where
  abbrev P : Program
  P = program_of T

  -- a fresh state is within the limits of number 21
  fresh-fits : StateFits (by_compiled T S X (state_of P.first))
  fresh-fits = record {
    pending = code-some T;
    current = code-some T;
    elapsed = omega arith;
    remaining = omega arith;
    left = λ t l. omega (arith, zeros-at max_tasks t);
    positions = λ j l. omega (arith, zeros-at suppliers j);
  }

  -- a state with which a unit goes on is within the limits of number 21
  going-fits : (s : State) (k : ℕ) → Going T W S F k n C s → StateFits (by_compiled T S X s)
  going-fits s k h =
      let m = C.mode in
      let d : m < length P.modes = omega (arith, mode-count T, h.declared) in
      let u : C.unit < (mode P m).units = omega (arith, h.next, next-below (mode P m) k h.in-round) in
      let t = (accepted-ticks T sound.accepted m h.declared).1 in
      record {
        pending = omega (arith, h.pending, code-count T, block_inside P m C.unit d u);
        current = omega (arith, h.current, code-count T, (future-in-block P m k).ends, block_within P m k d h.in-round);
        elapsed = omega (arith, h.ticks, t);
        remaining = omega (arith, h.ticks, t);
        left = λ t l. omega (arith, h.most t, worst-few T sound.accepted t);
        positions = λ j l. omega (
          arith,
          (h.ahead j l).settled-s,
          passed-few (block_of S j s.current) s.elapsed s.left,
          block-few S j s.current,
        );
      }

  -- every related state is within the limits of number 21
  pub related-fits : (s : State) → Related T W S F n C s → StateFits (by_compiled T S X s)
  related-fits s (inl f) = subst (λ (s : State). StateFits (by_compiled T S X s)) (sym f.is-fresh) fresh-fits
  related-fits s (inr (k, h)) = going-fits s k h
