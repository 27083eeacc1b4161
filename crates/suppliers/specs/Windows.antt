-- Number 12, windows: a field out of range, not 0 ≤ from < to ≤ period, or two rows of one mode share a tick, whoever owns
-- them. The windows verdict.
use Rattle.std.specs.Prelude.{ℕ, ◌≤◌, ◌<◌, Bool, not, ◌&&◌, ◌||◌, List, [], ◌∷◌, ltb, leb, ℤ}
use Rattle.theory.specs.Search.{any}
use Rattle.theory.specs.Rows.{RowTests, testing, some_bad, RowRules, asking}
use Rattle.theory.specs.Verdict.{Refusal, verdict, first_refusal, Rule}
use Rattle.theory.specs.declared.Answer.{Answer}
use Rattle.cells.specs.Limits.{suppliers, max_windows}
use Rattle.cells.specs.Refusals.{windows_refused}
use Rattle.program.specs.Tables.{Tables, mode_count, mode_period, windows_at}
use Rattle.rules.specs.Shape.{bad_slice, shape_bad, WholeRows, Shaped}
use Rattle.code.specs.Compile.{call_refusals, call_rules}
use Rattle.runs.specs.Windows.{window_width, window_count, window_supplier, window_mode, window_from, window_to, share_tick, Has}

-- the tables and the windows, as they are lent
pub record Windowed : Type 0 where
  pub tables : Tables
  pub windows : List ℤ

unfoldable pub window_wrong : Tables → List ℤ → ℕ → Bool
window_wrong T W i =
    not
    (ltb (window_supplier W i) suppliers
    && ltb (window_mode W i) (mode_count T)
    && ltb (window_from W i) (window_to W i)
    && leb (window_to W i) (mode_period T (window_mode W i)))
    || any (share_tick W i) i

-- number 12, row by row
abbrev pub window_tests : Windowed → List RowTests
window_tests L = testing windows_at (window_count L.windows) (window_wrong L.tables L.windows) ∷ []

unfoldable pub windows_bad : Windowed → Bool
windows_bad L = some_bad (window_tests L)

pub record WindowFits (T : Tables) (W : List ℤ) (i : ℕ) : Type 0 where
  pub supplier : window_supplier W i < suppliers
  pub mode : window_mode W i < mode_count T
  pub some-tick : window_from W i < window_to W i
  pub in-period : window_to W i ≤ mode_period T (window_mode W i)

pub record Windows (L : Windowed) : Type 0 where
  pub each : (i : ℕ) → i < window_count L.windows → WindowFits L.tables L.windows i
  pub apart : (i j m t : ℕ) → j < i → i < window_count L.windows → Has L.windows i m t → Has L.windows j m t → ⊥

-- what rule 12 asks of window i, by itself and against the rows before it, whoever owns them
pub record WindowRow (L : Windowed) (i : ℕ) : Type 0 where
  pub itself : WindowFits L.tables L.windows i
  pub apart : (j m t : ℕ) → j < i → Has L.windows i m t → Has L.windows j m t → ⊥

-- rule 12, row by row
abbrev pub window_rules : Windowed → List RowRules
window_rules L = asking windows_at (window_count L.windows) (WindowRow L) ∷ []

-- number 1 applies to what the windows verdict is lent: a table or the windows are not whole rows, or have too many
unfoldable pub windows_shape_bad : Windowed → Bool
windows_shape_bad L = shape_bad L.tables || bad_slice window_width max_windows L.windows

-- the refusal of number 12
abbrev pub windows_refusal : Refusal Windowed
windows_refusal = record { number = windows_refused; applies = windows_bad; rows = window_tests }

abbrev pub window_rows_refusals : List (Refusal Windowed)
window_rows_refusals = windows_refusal ∷ []

abbrev pub windows_verdict_refusals : List (Refusal Windowed)
windows_verdict_refusals = call_refusals (λ L. L.tables) windows_shape_bad window_rows_refusals

-- the windows verdict: numbers 1 to 12 and 24
unfoldable pub windows_verdict : Windowed → ℕ
windows_verdict L = verdict windows_verdict_refusals L

-- the answer on windows: that number with its place
unfoldable pub windows_answer : Windowed → Answer
windows_answer L = first_refusal windows_verdict_refusals L

abbrev pub WindowsShaped : Windowed → Type 0
WindowsShaped L = Shaped L.tables × WholeRows window_width max_windows L.windows

-- rule 12
abbrev pub windows_rule : Rule Windowed
windows_rule = record { number = windows_refused; holds = Windows; rows = window_rules }

abbrev pub window_rows_rules : List (Rule Windowed)
window_rows_rules = windows_rule ∷ []

abbrev pub windows_verdict_rules : List (Rule Windowed)
windows_verdict_rules = call_rules (λ L. L.tables) WindowsShaped window_rows_rules
