-- The searches of numbers 6, 7 and 8: some port of one of 001's sets is bad, against the claim of every port of the set.
-- Assumes that the test of a port bars the claim of it.
use Prim.Native.Nat.{ℕ}
use mathlib.Core.Path.{refl, sym, subst}
use mathlib.Core.Bool.{Bool, ◌&&◌}
use mathlib.Core.Logic.{inl, inr, ⊎_elim}
use lib.Dec.{eqb}
use Rattle.theory.specs.Claim.{Bars}
use Rattle.theory.proofs.Search.{rows-bar}
use Rattle.theory.specs.Search.{any}
use Rattle.theory.proofs.Bools.{says_eq, bars-and, bars-as, ◌or◌, ◌and◌}
use Rattle.program.specs.Tables.{Tables, input, output, task_port_count, task_port_task, task_port_port, guard_kind, guard_port, kind_interval}
use Rattle.program.specs.Tables.{copy_source, copy_destination, mode_port_port}
use Rattle.program.specs.Sets.{is_kind, OfKind, TaskPort, Input, Output, ModePort, Source, Destination}
use Rattle.program.proofs.Sets.{kind-says}
use Rattle.rules.specs.Modes.{own_port, output_with, input_with, port_with, source_with, destination_with, some_output, some_input}
use Rattle.rules.specs.Modes.{some_port, some_source, some_destination}

module _ (T : Tables) {bad : ℕ → Bool} {G : ℕ → Type 0} (b : (p : ℕ) → Bars (bad p) (G p)) where
  some-task-port : (kind t : ℕ) → Bars (any (λ k. eqb (task_port_task T k) t && is_kind T kind (task_port_port T k) && bad (task_port_port T k)) (task_port_count T)) ((p : ℕ) → OfKind T kind p × TaskPort T t p → G p)
  some-task-port kind t =
      bars-as (rows-bar (task_port_port T) _ (λ k. says_eq _ _ and kind-says T kind (task_port_port T k)) b)
      (λ g p (q, (k, l, (e, f))). g p (k, l, ((e, subst (OfKind T kind) (sym f) q), f)))
      (λ g p (k, l, ((e, q), f)). g p (subst (OfKind T kind) f q, (k, l, (e, f))))

  -- the test that some output of a task is bad bars the claim of every output of it
  pub some-output-bars : (t : ℕ) → Bars (some_output T bad t) ((p : ℕ) → Output T t p → G p)
  unfolding some_output output_with own_port
  some-output-bars t = some-task-port output t

  -- the test that some input of a task is bad bars the claim of every input of it
  pub some-input-bars : (t : ℕ) → Bars (some_input T bad t) ((p : ℕ) → Input T t p → G p)
  unfolding some_input input_with own_port
  some-input-bars t = some-task-port input t

  -- the test that some port of a mode is bad bars the claim of every port of it
  pub some-port-bars : (m : ℕ) → Bars (some_port T bad m) ((p : ℕ) → ModePort T m p → G p)
  unfolding some_port port_with
  some-port-bars m = rows-bar (mode_port_port T) _ (λ k. says_eq _ _) b

  -- the test that some source of a driver is bad bars the claim of every source of it
  pub some-source-bars : (d : ℕ) → Bars (some_source T bad d) ((p : ℕ) → Source T d p → G p)
  unfolding some_source source_with
  some-source-bars d =
      bars-as
      (rows-bar (copy_source T) _ (λ c. says_eq _ _) b or bars-and (says_eq (guard_kind T d) kind_interval) (b (guard_port T d)))
      (λ g p. ⊎_elim (g.0 p) (λ e. subst G e.1 (g.1 e.0)))
      (λ g. (λ p w. g p (inl w), λ e. g (guard_port T d) (inr (e, refl))))

  -- the test that some destination of a driver is bad bars the claim of every destination of it
  pub some-destination-bars : (d : ℕ) → Bars (some_destination T bad d) ((p : ℕ) → Destination T d p → G p)
  unfolding some_destination destination_with
  some-destination-bars d = rows-bar (copy_destination T) _ (λ c. says_eq _ _) b
