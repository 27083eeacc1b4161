-- What is lent to a tick suits it where it is right by Giotto's configurations alone: the results of every task that is active after the
-- tick's instant are its function of its inputs. For a task that runs has time left, so it is one of the mode's, and these are active.
-- Assumes that the system is sound, and that the relation holds before the tick.
use Prim.Native.Nat.{ℕ}
use mathlib.Core.Path.{◌≡◌, refl, sym, ap, subst, ◌∙◌}
use mathlib.Core.Bool.{Bool, true, false}
use mathlib.Core.List.{List}
use native.Mathlib.Omega.{arith}
use lib.IntN.{ℤ}
use lib.ListN.{length}
use Rattle.theory.specs.Lists.{member}
use Rattle.cells.specs.Cell.{num_at}
use Rattle.cells.specs.Limits.{max_ports, max_tasks}
use Rattle.program.specs.Tables.{Tables}
use Rattle.program.specs.Program.{Program, program_of, task}
use Rattle.program.specs.Ports.{value_of}
use Rattle.rules.specs.Fields.{InRange}
use Rattle.code.specs.Op.{emit}
use Rattle.code.specs.Compile.{listing_of}
use Rattle.runs.specs.Tick.{left_of}
use Rattle.giotto.specs.Instant.{Configuration, Function, results}
use Rattle.giotto.specs.Execution.{pass, released_by}
use Rattle.machine.specs.declared.State.{State}
use Rattle.machine.specs.Advance.{Lent}
use Rattle.composed.specs.Sound.{Sound}
use Rattle.composed.specs.Suited.{Suited}
use Rattle.composed.specs.Related.{tasks_of, Going, Related}
use Rattle.composed.proofs.Readied.{Readied, readied, readied-one}

-- while a unit goes on, a task that has time left is active
busy-active : (T : Tables) (W S : List ℤ) (F : Function) (k n : ℕ) (C : Configuration) (u : State) → Going T W S F k n C u
    → (t : ℕ) → left_of u.left t ≡ 1 → C.active t ≡ true
busy-active T W S F k n C u g t e = g.active t ∙ go (member t (tasks_of (program_of T) C.mode)) refl
  where
    go : (b : Bool) → member t (tasks_of (program_of T) C.mode) ≡ b → b ≡ true
    go true z = refl
    go false z = absurd (omega (arith, e, g.others t z))

module _ (T : Tables) (W S : List ℤ) (F : Function) (n : ℕ) (C : Configuration) (s : State) (X : Lent) where
  abbrev P : Program
  P = program_of T

  -- Giotto's configuration after the tick's instant
  abbrev next : Configuration
  next = pass P F n X.readings C

  -- what is lent to a tick suits it where it is right by Giotto's configurations alone
  pub given-suits : Sound T W S → Related T W S F n C s
      → length X.readings ≡ max_ports → length X.results ≡ max_ports → length X.times ≡ max_tasks
      → ((t : ℕ) → member t (released_by P F n X.readings C) ≡ true → InRange (num_at X.times t) (task P t).worst)
      → ((t p : ℕ) → (pass P F n X.readings C).active t ≡ true → member p (task P t).gives ≡ true
      → value_of X.results p ≡ results P F (pass P F n X.readings C).ports t p)
      → Suited T (emit (listing_of T)) S F n C s X
  given-suits h r rl ol tl times gives = record {
    readings-length = rl;
    results-length = ol;
    times-length = tl;
    times = times;
    results = λ u t p e _ c m.
        let g = subst (Going T W S F b.unit n next) (readied-one T W S F n C s X.readings X.times b u e) b.keeps in
        gives t p (busy-active T W S F b.unit n next u g t c) m ∙ ap (λ (v : List ℤ). results P F v t p) (sym g.ports);
  }
    where
      b : Readied T W S F n C s X.readings X.times
      b = readied T W S F n C s X.readings X.times h times r
