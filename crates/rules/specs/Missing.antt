-- Number 24: no silent gap for a missing reading. A mode with an interval switch on a sensor port must also have a switch on that port for
-- the no-reading value alone (document 02, K6). And the same in a user's words: what a missing reading does in a mode that looks at it.
use Rattle.std.specs.Prelude.{ℕ, ◌<◌, ◌≡◌, Bool, true, not, ◌&&◌, eqb, ℤ}
use Rattle.theory.specs.Search.{any}
use Rattle.readings.specs.Reading.{no_reading, is_missing}
use Rattle.program.specs.Tables.{Tables, sensor, guard_kind, guard_port, guard_low, guard_high, kind_interval, switch_count, switch_mode}
use Rattle.program.specs.Tables.{switch_driver}
use Rattle.program.specs.Guard.{guard_of, holds}
use Rattle.program.specs.Sets.{is_kind, Sensor}

-- switch row j is one of mode m, and its guard is on port p for the no-reading value alone
unfoldable pub for_missing : Tables → ℕ → ℕ → ℕ → Bool
for_missing T m p j =
    let d = switch_driver T j in
    eqb (switch_mode T j) m
    && (eqb (guard_kind T d) kind_interval && eqb (guard_port T d) p)
    && (is_missing (guard_low T d) && is_missing (guard_high T d))

-- 24: the guard of switch row i is an interval on a sensor, and no switch of its mode is for that sensor's no-reading value alone
unfoldable pub gap_at : Tables → ℕ → Bool
gap_at T i =
    let d = switch_driver T i in
    let none = not (any (for_missing T (switch_mode T i) (guard_port T d)) (switch_count T)) in
    (eqb (guard_kind T d) kind_interval && is_kind T sensor (guard_port T d)) && none

-- number 24: some switch leaves a gap
unfoldable pub gap_bad : Tables → Bool
gap_bad T = any (gap_at T) (switch_count T)

-- switch row i is one of mode m
pub record SwitchOf (T : Tables) (m i : ℕ) : Type 0 where
  pub in_table : i < switch_count T
  pub of-mode : switch_mode T i ≡ m

-- switch row i looks at port p: its guard is an interval on p
pub record LooksAt (T : Tables) (i p : ℕ) : Type 0 where
  pub guard : guard_kind T (switch_driver T i) ≡ kind_interval
  pub port : guard_port T (switch_driver T i) ≡ p

-- switch row j is for the missing reading of port p alone: its interval on p is from no-reading to no-reading
pub record ForMissing (T : Tables) (j p : ℕ) : Type 0 where
  pub looks : LooksAt T j p
  pub low : guard_low T (switch_driver T j) ≡ no_reading
  pub high : guard_high T (switch_driver T j) ≡ no_reading

-- rule 24: where a switch of a mode looks at a sensor, a switch of the same mode is for the missing reading of that sensor alone
abbrev pub NoGap : Tables → Type 0
NoGap T = (m p i : ℕ) → Sensor T p → SwitchOf T m i → LooksAt T i p → (j : ℕ) × SwitchOf T m j × ForMissing T j p

-- a missing reading of port p satisfies the guard of switch row i, whatever the other ports hold
abbrev pub Satisfies : Tables → ℕ → ℕ → Type 0
Satisfies T p i = (v : ℕ → ℤ) → v p ≡ no_reading → holds (guard_of T (switch_driver T i)) v ≡ true

-- in mode m a missing reading of port p satisfies the guard of exactly one switch, the same whatever the other ports hold
pub record OneSwitch (T : Tables) (m p : ℕ) : Type 0 where
  pub row : ℕ
  pub of-mode : SwitchOf T m row
  pub satisfied : Satisfies T p row
  pub only : (v : ℕ → ℤ) → v p ≡ no_reading → (i : ℕ) → SwitchOf T m i → holds (guard_of T (switch_driver T i)) v ≡ true → i ≡ row

-- in every mode whose switches look at a sensor, a missing reading of that sensor satisfies the guard of exactly one switch of the mode
abbrev pub MissingMet : Tables → Type 0
MissingMet T = (m p i : ℕ) → Sensor T p → SwitchOf T m i → LooksAt T i p → OneSwitch T m p
