-- Numbers 9 and 10: units of a mode, and task frequencies against switch frequencies.
use Rattle.std.specs.Prelude.{ℕ, ◌≤◌, ◌<◌, ◌≡◌, Bool, ◌&&◌, ◌||◌, List, [], ◌∷◌, eqb, ltb}
use Rattle.std.specs.Int.{◌∣◌}
use Rattle.theory.specs.Search.{any}
use Rattle.theory.specs.Rows.{RowTests, testing, some_bad, RowRules, asking}
use Rattle.cells.specs.Limits.{max_units}
use Rattle.program.specs.Tables.{Tables, mode_count, mode_period, invocation_count, invocation_mode, invocation_frequency, switch_count}
use Rattle.program.specs.Tables.{switch_mode, switch_frequency, modes_at, switches_at}
use Rattle.program.specs.Units.{misses, units, Units}

-- 9: the least common multiple of the frequencies of mode m exceeds 256 or does not divide its period
unfoldable pub units_wrong : Tables → ℕ → Bool
units_wrong T m = ltb max_units (units T m) || misses (mode_period T m) (units T m)

-- number 9, row by row: the mode is named
abbrev pub unit_tests : Tables → List RowTests
unit_tests T = testing modes_at (mode_count T) (units_wrong T) ∷ []

-- number 9: in some mode, the least common multiple of the frequencies exceeds 256 or does not divide the period
unfoldable pub units_bad : Tables → Bool
units_bad T = some_bad (unit_tests T)

-- the least common multiple of the frequencies of mode m is at most 256 and divides its period
pub record ModeUnits (T : Tables) (m : ℕ) : Type 0 where
  pub count : ℕ
  pub is-least : Units T m count
  pub few : count ≤ max_units
  pub divides : count ∣ mode_period T m

-- rule 9: in every mode, the least common multiple of the frequencies is at most 256 and divides the period
abbrev pub UnitsFit : Tables → Type 0
UnitsFit T = (m : ℕ) → m < mode_count T → ModeUnits T m

-- rule 9, row by row
abbrev pub unit_rules : Tables → List RowRules
unit_rules T = asking modes_at (mode_count T) (ModeUnits T) ∷ []

-- 10: switch row s and invocation row i are of one mode, and task frequency divided by switch frequency is not whole
unfoldable pub not_whole : Tables → ℕ → ℕ → Bool
not_whole T s i = eqb (invocation_mode T i) (switch_mode T s) && misses (invocation_frequency T i) (switch_frequency T s)

-- 10: in the mode of switch row s, some task frequency divided by its switch frequency is not whole
unfoldable pub whole_wrong : Tables → ℕ → Bool
whole_wrong T s = any (not_whole T s) (invocation_count T)

-- number 10, row by row: the switch is named
abbrev pub whole_tests : Tables → List RowTests
whole_tests T = testing switches_at (switch_count T) (whole_wrong T) ∷ []

-- number 10: in some mode, a task frequency divided by a switch frequency is not whole
unfoldable pub whole_bad : Tables → Bool
whole_bad T = some_bad (whole_tests T)

-- rule 10: in every mode, each switch frequency divides each task frequency
abbrev pub Whole : Tables → Type 0
Whole T =
    (s i : ℕ) → s < switch_count T → i < invocation_count T → invocation_mode T i ≡ switch_mode T s
    → switch_frequency T s ∣ invocation_frequency T i

-- what rule 10 asks of switch row s: its frequency divides each task frequency of its mode
abbrev pub WholeRow : Tables → ℕ → Type 0
WholeRow T s =
    (i : ℕ) → i < invocation_count T → invocation_mode T i ≡ switch_mode T s → switch_frequency T s ∣ invocation_frequency T i

-- rule 10, row by row
abbrev pub whole_rules : Tables → List RowRules
whole_rules T = asking switches_at (switch_count T) (WholeRow T) ∷ []
