-- The execution is 001's: from the initial configuration, at each time stamp the successor configuration, and between two of them
-- nothing changes; no time stamp is missed. Assumes the program's rules; the task functions and the readings are any.
use Prim.Native.Nat.{ℕ, zero, suc, ◌/◌, ◌≤◌, ◌<◌}
use mathlib.Core.Path.{◌≡◌, sym, subst, ◌∙◌}
use mathlib.Core.Bool.{Bool, true, false}
use mathlib.Core.List.{List}
use mathlib.Core.Option.{Option, none, some}
use native.Mathlib.Nat.{mod-lt}
use native.Mathlib.Decide.{ℕ_discrete}
use native.Mathlib.Omega.{arith}
use lib.Dec.{eqb}
use lib.IntN.{ℤ}
use lib.ListN.{length}
use borrow.Author.Tests.{eq-eqb, ne_eqb}
use Rattle.theory.specs.Verdict.{Keep}
use Rattle.theory.proofs.Lists.{each-length}
use Rattle.theory.proofs.Puts.{puts-length}
use Rattle.cells.specs.Limits.{max_ports}
use Rattle.program.specs.Tables.{Tables, port_first, mode_count, mode_period}
use Rattle.program.specs.Units.{units}
use Rattle.program.specs.Program.{Program, Switch, program_of}
use Rattle.program.specs.Ports.{value_of}
use Rattle.program.proofs.Units.{units-some}
use Rattle.rules.specs.Verdict.{program_rules}
use Rattle.rules.proofs.Timing.{ticks-some}
use Rattle.giotto.specs.Instant.{Configuration, enter, sensed, switch_of, instant, released, Function, results}
use Rattle.giotto.specs.Successor.{Successor}
use Rattle.giotto.specs.Execution.{pass, released_by, execution}
use Rattle.giotto.proofs.Succeeds.{instant-succeeds}
use Rattle.giotto.proofs.Released.{instant-mode}

-- an instant keeps the number of ports
pub instant-ports : (P : Program) (result : ℕ → ℕ → ℤ) (readings : List ℤ) (C : Configuration)
    → length (instant P result readings C).ports ≡ length C.ports
instant-ports P result readings C = go (switch_of P C (sensed P result readings C))
  where
    go : (s : Option Switch) → length (enter P C s (sensed P result readings C)).ports ≡ length C.ports
    go none = simp puts-length
    go (some w) = simp puts-length

module _ (P : Program) (F : Function) (n : ℕ) (readings : List ℤ) (C : Configuration) where
  -- at its time stamp a configuration goes on to what its instant leaves
  pub pass-goes : C.time ≡ n → pass P F n readings C ≡ instant P (results P F C.ports) readings C
  pass-goes e = rw (eq-eqb C.time n e, pass)

  -- at its time stamp a configuration releases the tasks that its instant releases
  pub releases-then : C.time ≡ n → released_by P F n readings C ≡ released P (results P F C.ports) readings C
  releases-then e = rw (eq-eqb C.time n e, released_by)

  -- at a tick that is not its time stamp a configuration stays
  pub pass-stays : (C.time ≡ n → ⊥) → pass P F n readings C ≡ C
  pass-stays d = rw (ne_eqb C.time n d, pass)

-- a configuration has all ports, a declared mode, and one of the mode's units
pub record Proper (T : Tables) (C : Configuration) : Type 0 where
  pub ports : length C.ports ≡ max_ports
  pub mode : C.mode < mode_count T
  pub unit : C.unit < units T C.mode

module _ (T : Tables) (K : Keep program_rules T) (F : Function) (readings : ℕ → List ℤ) where
  -- the configuration of the execution before tick n
  abbrev at : ℕ → Configuration
  at n = execution (program_of T) F readings n

  -- what the tasks give in tick n, if there is an instant in it
  abbrev result_at : ℕ → ℕ → ℕ → ℤ
  result_at n = results (program_of T) F (at n).ports

  -- what the instant leaves in tick n, if there is one in it
  abbrev next : ℕ → Configuration
  next n = instant (program_of T) (result_at n) (readings n) (at n)

  -- what the instant leaves in tick n is the successor configuration
  succeeds : (n : ℕ) → Proper T (at n) → Successor T (result_at n) (value_of (readings n)) (at n) (next n)
  succeeds n s = instant-succeeds T K (result_at n) (readings n) (at n) s.ports s.mode s.unit

  -- every configuration of an execution has all ports, a declared mode and one of its units
  pub execution-keeps : (n : ℕ) → Proper T (at n)
  execution-keeps zero = record { ports = each-length (port_first T) max_ports 0; mode = K.1.0.start; unit = units-some T _ }
  execution-keeps (suc n) = go (eqb (at n).time n) (execution-keeps n)
    where
      go : (b : Bool) → Proper T (at n) → Proper T (elim b [ true ↦ next n | false ↦ at n ])
      go true s =
          record {
            ports = instant-ports (program_of T) (result_at n) (readings n) (at n) ∙ s.ports;
            mode = instant-mode T K.1.0 (result_at n) (readings n) (at n) s.mode;
            unit = rw (succeeds n s).next-unit (mod-lt (suc (succeeds n s).unit) (units-some T (next n).mode));
          }
      go false s = s

  -- at a time stamp an execution goes on to the successor configuration
  pub execution-succeeds : (n : ℕ) → (at n).time ≡ n → Successor T (result_at n) (value_of (readings n)) (at n) (at (suc n))
  execution-succeeds n e =
      subst (Successor T (result_at n) (value_of (readings n)) (at n)) (sym (pass-goes (program_of T) F n (readings n) (at n) e)) (succeeds n (execution-keeps n))

  -- at a tick that is no time stamp nothing changes in an execution
  pub execution-waits : (n : ℕ) → ((at n).time ≡ n → ⊥) → at (suc n) ≡ at n
  execution-waits n d = pass-stays (program_of T) F n (readings n) (at n) d

  -- the next time stamp of an execution is never past: so none is missed
  pub time-ahead : (n : ℕ) → n ≤ (at n).time
  time-ahead zero = omega arith
  time-ahead (suc n) = go (ℕ_discrete (at n).time n) (time-ahead n)
    where
      ticks : 1 ≤ mode_period T (at (suc n)).mode / units T (at (suc n)).mode
      ticks = ticks-some T K.1.0 K.1.1.1.1.1.1.1.1.0 (at (suc n)).mode (execution-keeps (suc n)).mode

      go : Dec ((at n).time ≡ n) → n ≤ (at n).time → suc n ≤ (at (suc n)).time
      go (yes e) l = omega (arith, (execution-succeeds n e).time-stamp, ticks)
      go (no d) l = rw (execution-waits n d) (omega arith)
