-- How long until the alarm mode (document 02, K12), as statements. From an instant on, each later instant finds in its interval the guarded
-- sensor port of one switch of the mode that is current after that instant: then the run enters that switch's target mode no later than
-- period / switch frequency ticks after it. The reading at the starting instant is not counted on, and entry into the mode at that instant
-- is included. With K6: a sensor that stays missing leads out of every mode that looks at it. Proved in proofs/Response.antt.
use Rattle.std.specs.Prelude.{ℕ, suc, ◌+◌, ◌*◌, ◌-◌, ◌/◌, ◌%◌, ◌≤◌, ◌<◌, ◌≡◌, List, ℤ}
use Rattle.theory.specs.Verdict.{accepted_number}
use Rattle.readings.specs.Reading.{no_reading, Inside}
use Rattle.program.specs.Tables.{Tables, guard_kind, guard_port, guard_low, guard_high, kind_interval, mode_period, switch_mode}
use Rattle.program.specs.Tables.{switch_frequency, switch_driver}
use Rattle.program.specs.Sets.{Sensor}
use Rattle.program.specs.Units.{units}
use Rattle.program.specs.Program.{program_of}
use Rattle.program.specs.Ports.{value_of}
use Rattle.rules.specs.Missing.{SwitchOf, LooksAt, ForMissing}
use Rattle.rules.specs.Verdict.{program_verdict}
use Rattle.giotto.specs.Instant.{Function}
use Rattle.machine.specs.Advance.{Lent}
use Rattle.demands.specs.Giotto.{at}
use Rattle.demands.specs.Composed.{System, Accepted, readings, configuration_at, SuitedAt}
use Rattle.demands.specs.Kept.{InRound}
use Rattle.demands.specs.Missing.{TakesSwitch}

-- how many ticks the switch of row i is waited for at most: period / switch frequency
abbrev pub waiting : Tables → ℕ → ℕ
waiting T i = mode_period T (switch_mode T i) / switch_frequency T i

-- how many ticks it is waited for from the start of unit k of its mode: it is due at every multiple of units / frequency
abbrev pub waiting_from : Tables → ℕ → ℕ → ℕ
waiting_from T i k =
    let m = switch_mode T i in
    let turn = units T m / switch_frequency T i in
    (turn - k % turn) * (mode_period T m / units T m)

-- On Giotto's execution of a program, for any task function and any readings
module _ (T : Tables) (F : Function) (readings : ℕ → List ℤ) where
  -- tick n is an instant: the program is invoked in it
  abbrev pub InstantAt : ℕ → Type 0
  InstantAt n = (at T F readings n).time ≡ n

  -- the mode that is current after tick n
  abbrev pub current_after : ℕ → ℕ
  current_after n = (at T F readings (suc n)).mode

  -- tick n finds the guarded port of switch row i in its interval: low ≤ reading ≤ high
  abbrev pub FindsInside : ℕ → ℕ → Type 0
  FindsInside i n = let d = switch_driver T i in Inside (guard_low T d) (value_of (readings n) (guard_port T d)) (guard_high T d)

  -- tick n is an instant, and switch row i is one of the mode that is current after it, with an interval on a sensor port
  pub record Watches (n i : ℕ) : Type 0 where
    pub instant : InstantAt n
    pub of-mode : SwitchOf T (current_after n) i
    pub interval : guard_kind T (switch_driver T i) ≡ kind_interval
    pub sensor : Sensor T (guard_port T (switch_driver T i))

  -- each instant after tick n, and up to b ticks after it, finds the guarded port of switch row i in its interval
  abbrev pub FindsAfter : ℕ → ℕ → ℕ → Type 0
  FindsAfter i n b = (k : ℕ) → n < k → k ≤ n + b → InstantAt k → FindsInside i k

module _ (Y : System) (F : Function) (lents : ℕ → Lent) where
  -- from tick n on the mode stays that is current after it, and tick k, an instant, takes the switch of row i: Giotto's execution and the
  -- machine enter its target mode
  pub record Leaves (n k i : ℕ) : Type 0 where
    pub instant : InstantAt Y.tables F (readings Y F lents) k
    pub takes : TakesSwitch Y F lents k i
    pub stays : (l : ℕ) → n ≤ l → l < k
        → current_after Y.tables F (readings Y F lents) l ≡ current_after Y.tables F (readings Y F lents) n

  -- some tick after tick n, and up to b ticks after it, does
  pub record LeavesWithin (n b i : ℕ) : Type 0 where
    pub tick : ℕ
    pub later : n < tick
    pub in-time : tick ≤ n + b
    pub leaves : Leaves n tick i

  -- what is asked of the run: its ticks are suited up to b ticks after tick n
  abbrev pub SuitedFor : ℕ → ℕ → Type 0
  SuitedFor n b = (k : ℕ) → k ≤ n + b → SuitedAt Y F lents k

-- in a composed run a switch whose guarded port is found in its interval for this many ticks is taken within them
abbrev pub RespondsIn : (Tables → ℕ → ℕ) → Type 0
RespondsIn bound =
    (Y : System) → Accepted Y → (F : Function) (lents : ℕ → Lent) (n i : ℕ) → SuitedFor Y F lents n (bound Y.tables i)
    → Watches Y.tables F (readings Y F lents) n i → FindsAfter Y.tables F (readings Y F lents) i n (bound Y.tables i)
    → LeavesWithin Y F lents n (bound Y.tables i) i

-- The response time: period / switch frequency
abbrev pub ResponseTime : Type 0
ResponseTime = RespondsIn waiting

-- With a tick less it would be false: so the bound is sharp. (Shown on the insulation monitor of examples/ in worked/proofs/Response.)
abbrev pub NoTickLess : Type 0
NoTickLess = RespondsIn (λ T i. waiting T i - 1) → ⊥

-- And exactly: where tick n begins unit k of its mode, the switch is taken at its next turn
abbrev pub ResponseExact : Type 0
ResponseExact =
    (Y : System) → Accepted Y → (F : Function) (lents : ℕ → Lent) (n k i : ℕ) → SuitedFor Y F lents n (waiting_from Y.tables i k)
    → InRound (program_of Y.tables) n (configuration_at Y F lents (suc n)) k 0
    → Watches Y.tables F (readings Y F lents) n i → FindsAfter Y.tables F (readings Y F lents) i n (waiting_from Y.tables i k)
    → Leaves Y F lents n (n + waiting_from Y.tables i k) i

-- the longest wait is from the start of a round, where the mode may have just been entered
pub record LongestFromStart (T : Tables) (i : ℕ) : Type 0 where
  pub from_start : waiting_from T i 0 ≡ waiting T i
  pub longest : (k : ℕ) → waiting_from T i k ≤ waiting T i
  -- period / switch frequency is whole
  pub whole : waiting T i * switch_frequency T i ≡ mode_period T (switch_mode T i)

abbrev pub WaitingLongest : Type 0
WaitingLongest = (T : Tables) → program_verdict T ≡ accepted_number → (m i : ℕ) → SwitchOf T m i → LongestFromStart T i

-- of the switches of mode m that look at port p, that of row i is the slowest
pub record Slowest (T : Tables) (m p i : ℕ) : Type 0 where
  pub of-mode : SwitchOf T m i
  pub looks : LooksAt T i p
  pub no-slower : (j : ℕ) → SwitchOf T m j → LooksAt T j p → waiting T j ≤ waiting T i

-- in every mode that looks at a port, some switch is the slowest that does
abbrev pub SlowestSome : Type 0
SlowestSome = (T : Tables) (m p i : ℕ) → SwitchOf T m i → LooksAt T i p → (s : ℕ) × Slowest T m p s

-- each instant after tick n, and up to b ticks after it, finds no reading at port p
abbrev pub MissingAfter : (T : Tables) → Function → (ℕ → List ℤ) → ℕ → ℕ → ℕ → Type 0
MissingAfter T F readings p n b =
    (k : ℕ) → n < k → k ≤ n + b → InstantAt T F readings k → value_of (readings k) p ≡ no_reading

-- A sensor that stays missing leads out of every mode that looks at it, within the slowest such switch's period / frequency: by the switch
-- for its missing reading. (Where the target is the same mode, a new round of it is entered.)
abbrev pub MissingLeadsOut : Type 0
MissingLeadsOut =
    (Y : System) → Accepted Y → (F : Function) (lents : ℕ → Lent) (n p s : ℕ) → SuitedFor Y F lents n (waiting Y.tables s)
    → InstantAt Y.tables F (readings Y F lents) n → Sensor Y.tables p
    → Slowest Y.tables (current_after Y.tables F (readings Y F lents) n) p s
    → MissingAfter Y.tables F (readings Y F lents) p n (waiting Y.tables s)
    → (i : ℕ) × ForMissing Y.tables i p × LeavesWithin Y F lents n (waiting Y.tables s) i

-- The same from the first missing reading on, in tick r, which is not the first tick: the mode that looks at the sensor is the one that is
-- current before that tick, and its switch for the missing reading is taken in that tick or less than that many ticks after it
abbrev pub MissingSince : Type 0
MissingSince =
    (Y : System) → Accepted Y → (F : Function) (lents : ℕ → Lent) (r p s : ℕ) → 1 ≤ r → SuitedFor Y F lents r (waiting Y.tables s)
    → Sensor Y.tables p → Slowest Y.tables (configuration_at Y F lents r).mode p s
    → ((k : ℕ) → r ≤ k → k < r + waiting Y.tables s → InstantAt Y.tables F (readings Y F lents) k
    → value_of (lents k).readings p ≡ no_reading)
    → (i : ℕ) × ForMissing Y.tables i p × ((k : ℕ) × ((r ≤ k) × (k < r + waiting Y.tables s)) × TakesSwitch Y F lents k i)
