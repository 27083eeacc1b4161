-- An instant is refused only with 16 and 17; its parts with 17 only, where the times that are lent for the tasks they release are in
-- their ranges. Assumes the latter.
use Prim.Native.Nat.{ℕ, ◌+◌}
use mathlib.Core.Path.{◌≡◌, refl, ap}
use mathlib.Core.Bool.{false, not}
use mathlib.Core.List.{List, [], ◌∷◌, map}
use mathlib.Core.Logic.{◌⊎◌, inl, inr}
use mathlib.Core.Option.{Option}
use lib.IntN.{ℤ}
use Rattle.theory.specs.Lists.{Every}
use Rattle.theory.proofs.Bools.{clash, is_true}
use Rattle.theory.proofs.Lists.{every_map, every-all, every_append, every-image}
use Rattle.cells.specs.Cell.{num_at}
use Rattle.cells.specs.Limits.{first_output_call, first_sensor_call}
use Rattle.cells.specs.Refusals.{time_refused, overrun_refused}
use Rattle.program.specs.Program.{Program, Mode, Invocation, Update, Switch, task, mode, due_invocations, due_updates, due_switches, due_tasks}
use Rattle.rules.specs.Fields.{InRange}
use Rattle.rules.proofs.Fields.{range-says}
use Rattle.giotto.specs.Instant.{taken}
use Rattle.machine.specs.declared.State.{State}
use Rattle.machine.specs.Instruction.{time_bad, still_running}
use Rattle.machine.specs.Instant.{ok, stop}
use Rattle.machine.proofs.Outcomes.{ok-not-stop}
use Rattle.compiled.specs.Block.{Straight, calls, releases, op_of, effect, head_steps, body_steps, through, begun, entered, turned}
use Rattle.compiled.specs.Block.{block_instant}
use Rattle.compiled.proofs.Then.{unless-stops, then-stops}

module _ (P : Program) (readings times : List ℤ) where
  -- calls and releases are refused only with 16 or 17
  pub through-two : (os : List Straight) (s : State) (n : ℕ) → through P readings times os s ≡ stop n
      → (n ≡ time_refused) ⊎ (n ≡ overrun_refused)
  through-two [] s n = λ e. absurd (ok-not-stop e)
  through-two (o ∷ os) s n =
      unless-stops ((n ≡ time_refused) ⊎ (n ≡ overrun_refused)) (time_bad P times (op_of o)) (still_running s (op_of o)) (through P readings times os (effect P readings times o s)) n
      (λ t e. inl e) inr (through-two os (effect P readings times o s) n)

  -- calls and releases are refused only with 17 where no time is bad
  pub through-late : (os : List Straight) (s : State) (n : ℕ) → Every (λ o. time_bad P times (op_of o) ≡ false) os
      → through P readings times os s ≡ stop n → n ≡ overrun_refused
  through-late [] s n h = λ e. absurd (ok-not-stop e)
  through-late (o ∷ os) s n h =
      unless-stops (n ≡ overrun_refused) (time_bad P times (op_of o)) (still_running s (op_of o)) (through P readings times os (effect P readings times o s)) n
      (λ t e. clash t h.0) (λ e. e) (through-late os (effect P readings times o s) n h.1)

  -- a call needs no time, so its time is not bad
  calls-timed : {A : Type 0} (f : A → ℕ) (xs : List A) → Every (λ o. time_bad P times (op_of o) ≡ false) (map (λ x. calls (f x)) xs)
  calls-timed f xs = every-image _ (λ x. calls (f x)) xs (every-all _ xs (λ x. refl))

  -- the calls of a block before its switch tests are refused only with 17
  pub head-late : (M : Mode) (k : ℕ) (s : State) (n : ℕ) → through P readings times (head_steps P M k) s ≡ stop n → n ≡ overrun_refused
  head-late M k s n e =
      through-late (head_steps P M k) s n
      (every_append _ (map (λ t. calls (first_output_call + t)) (due_tasks M k)) _ (calls-timed (λ t. first_output_call + t) (due_tasks M k))
      (every_append _ (map (λ (r : Update). calls r.driver) (due_updates M k)) _ (calls-timed (λ (r : Update). r.driver) (due_updates M k))
      (calls-timed (λ p. first_sensor_call + p) P.sensors))) e

  -- an instant is refused from the entry on only with 16 or 17
  pub entered-two : (m k : ℕ) (s : State) (n : ℕ) → entered P readings times m k s ≡ stop n → (n ≡ time_refused) ⊎ (n ≡ overrun_refused)
  unfolding entered
  entered-two m k s n e =
      then-stops ((n ≡ time_refused) ⊎ (n ≡ overrun_refused)) (through P readings times (body_steps (mode P m) k) s)
      (λ u. ok (begun P readings times m k u)) n
      (through-two (body_steps (mode P m) k) s n) (λ v p f. absurd (ok-not-stop f)) e

  -- an instant is refused from the entry on only with 17 where the times of the tasks released are in their ranges
  pub entered-late : (m k : ℕ) (s : State) (n : ℕ) → Every (λ t. InRange (num_at times t) (task P t).worst) (due_tasks (mode P m) k)
      → entered P readings times m k s ≡ stop n → n ≡ overrun_refused
  unfolding entered
  entered-late m k s n h e =
      then-stops (n ≡ overrun_refused) (through P readings times (body_steps (mode P m) k) s) (λ u. ok (begun P readings times m k u)) n
      (through-late (body_steps (mode P m) k) s n timed) (λ v p f. absurd (ok-not-stop f)) e
    where
      timed : Every (λ o. time_bad P times (op_of o) ≡ false) (body_steps (mode P m) k)
      timed =
          every_append _ (map (λ (r : Invocation). calls r.driver) (due_invocations (mode P m) k)) _
          (calls-timed (λ (r : Invocation). r.driver) (due_invocations (mode P m) k))
          (every-image _ releases (due_tasks (mode P m) k)
          (every_map _ _ (due_tasks (mode P m) k) (λ t r. ap not (is_true (range-says (num_at times t) (task P t).worst) r)) h))

  -- an instant that is refused is refused before the switch tests, or from the entry on
  pub block-stops : (R : Type 0) (m k : ℕ) (s : State) (n : ℕ) → (through P readings times (head_steps P (mode P m) k) s ≡ stop n → R)
      → ((u : State) (w : Option Switch) → taken P u.ports (due_switches (mode P m) k) ≡ w → turned P readings times m k w u ≡ stop n → R)
      → block_instant P readings times m k s ≡ stop n → R
  unfolding block_instant
  block-stops R m k s n f g e =
      then-stops R (through P readings times (head_steps P (mode P m) k) s)
      (λ u. turned P readings times m k (taken P u.ports (due_switches (mode P m) k)) u) n f
      (λ u q. g u (taken P u.ports (due_switches (mode P m) k)) refl) e
