-- An execution of a program: the configuration at every tick, and so the value of every port at every tick.
-- Ports keep their values between instants.
use Rattle.std.specs.Prelude.{ℕ, zero, suc, true, false, List, [], eqb, ℤ}
use Rattle.program.specs.Program.{Program}
use Rattle.giotto.specs.Instant.{Configuration, instant, released, Function, results}

module _ (P : Program) (F : Function) where
  -- the initial configuration, C₀ = (0, start, 0, init, ∅)
  abbrev pub initial : Configuration
  initial = record { time = 0; mode = P.start; unit = 0; ports = P.first; active = λ t. false }

  -- tick n: where the time stamp says so, the program is invoked with the readings of that tick
  abbrev pub pass : ℕ → List ℤ → Configuration → Configuration
  pass n readings C = elim (eqb C.time n) [ true ↦ instant P (results P F C.ports) readings C | false ↦ C ]

  -- the configuration of an execution before tick n
  abbrev pub execution : (ℕ → List ℤ) → ℕ → Configuration
  execution readings zero = initial
  execution readings (suc n) = let C = execution readings n in pass n (readings n) C

  -- the tasks that become active in tick n, from a configuration before it
  abbrev pub released_by : ℕ → List ℤ → Configuration → List ℕ
  released_by n readings C = elim (eqb C.time n) [ true ↦ released P (results P F C.ports) readings C | false ↦ [] ]

  -- the tasks that become active in tick n of an execution
  abbrev pub released_at : (ℕ → List ℤ) → ℕ → List ℕ
  released_at readings n = released_by n (readings n) (execution readings n)

  -- the port values of an execution in tick n
  abbrev pub ports_in_tick : (ℕ → List ℤ) → ℕ → List ℤ
  ports_in_tick readings n = (execution readings (suc n)).ports
