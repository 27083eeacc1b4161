-- No silent gap for a missing reading (document 02, K6), as statements. In an accepted program, in every mode whose switches look at a
-- sensor, a missing reading of that sensor satisfies the guard of exactly one switch of the mode; nothing more is asked, and nothing less;
-- and in a composed run, at an instant at which that switch is due, a missing reading takes it.
-- Proved of these definitions in proofs/Missing.antt.
use Rattle.std.specs.Prelude.{ℕ, suc, ◌≤◌, ◌≡◌, true, ◌↔◌}
use Rattle.theory.specs.Verdict.{accepted_number, Keep}
use Rattle.cells.specs.Refusals.{gap_refused}
use Rattle.readings.specs.Reading.{no_reading}
use Rattle.program.specs.Tables.{Tables, switch_frequency, switch_target}
use Rattle.program.specs.Sets.{Sensor}
use Rattle.program.specs.Units.{units, due}
use Rattle.program.specs.Program.{program_of}
use Rattle.program.specs.Ports.{value_of}
use Rattle.rules.specs.Missing.{SwitchOf, Satisfies, MissingMet}
use Rattle.rules.specs.Verdict.{program_verdict, published_rules}
use Rattle.code.specs.Listing.{future_address}
use Rattle.giotto.specs.Instant.{Configuration, Function, results}
use Rattle.giotto.specs.Successor.{Changes, Successor}
use Rattle.machine.specs.Advance.{Lent}
use Rattle.demands.specs.Composed.{System, Accepted, state_at, configuration_at, SuitedAt}
use Rattle.demands.specs.Kept.{InRound}

-- in every mode of an accepted program whose switches look at a sensor, a missing reading of that sensor satisfies the guard of exactly one
-- switch of the mode
abbrev pub MissingSatisfies : Type 0
MissingSatisfies = (T : Tables) → program_verdict T ≡ accepted_number → MissingMet T

-- 24 is given exactly where a program meets Giotto's published rules, numbers 1 to 10, and that does not hold of it
abbrev pub GapExact : Type 0
GapExact = (T : Tables) → (program_verdict T ≡ gap_refused) ↔ (Keep published_rules T × (MissingMet T → ⊥))

-- tick n is an instant of Giotto's execution, and switch row i of the mode that is current before it is due then
pub record DueAt (T : Tables) (n : ℕ) (C : Configuration) (i : ℕ) : Type 0 where
  pub instant : C.time ≡ n
  pub of-mode : SwitchOf T C.mode i
  pub is-due : due (units T C.mode) (switch_frequency T i) C.unit ≡ true

-- tick n enters mode m: Giotto's execution is in the first tick of a round of m, and the machine in unit 0 of it
pub record Enters (Y : System) (F : Function) (lents : ℕ → Lent) (n m : ℕ) : Type 0 where
  pub mode : (configuration_at Y F lents (suc n)).mode ≡ m
  pub round : InRound (program_of Y.tables) n (configuration_at Y F lents (suc n)) 0 0
  pub machine : (state_at Y lents (suc n)).current ≡ future_address (program_of Y.tables) m 0

-- tick n takes the switch of row i: Giotto's execution goes on to the successor by 001, whose steps 4 to 6 change the mode by that row,
-- with the copies of its driver; and the target of that row is entered
pub record TakesSwitch (Y : System) (F : Function) (lents : ℕ → Lent) (n i : ℕ) : Type 0 where
  pub successor : Successor Y.tables (results (program_of Y.tables) F (configuration_at Y F lents n).ports)
      (value_of (lents n).readings) (configuration_at Y F lents n) (configuration_at Y F lents (suc n))
  pub changes : Changes Y.tables (configuration_at Y F lents n) successor.after-sensors successor.after-switch
      (configuration_at Y F lents (suc n)).mode successor.unit
  pub by_row : changes.row ≡ i
  pub enters : Enters Y F lents n (switch_target Y.tables i)

-- In a composed run, at an instant at which a switch is due whose guard a missing reading of a sensor satisfies, the reading of that sensor
-- missing: that switch is taken
abbrev pub MissingTakes : Type 0
MissingTakes =
    (Y : System) → Accepted Y → (F : Function) (lents : ℕ → Lent) (n : ℕ) → ((k : ℕ) → k ≤ n → SuitedAt Y F lents k)
    → (i p : ℕ) → Sensor Y.tables p → Satisfies Y.tables p i → DueAt Y.tables n (configuration_at Y F lents n) i
    → value_of (lents n).readings p ≡ no_reading
    → TakesSwitch Y F lents n i
