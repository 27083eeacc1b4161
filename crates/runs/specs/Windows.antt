-- The windows table: supplier, mode, from, to. A window is half open: tick `from` is in it, tick `to` is not.
use Rattle.std.specs.Prelude.{ℕ, ◌≤◌, ◌<◌, ◌≡◌, Bool, true, false, ◌&&◌, List, eqb, ltb, leb, ℤ}
use Rattle.theory.specs.Search.{any, first}
use Rattle.cells.specs.Cell.{rows_in, field_at, named_at}

abbrev pub window_width : ℕ
window_width = 4

abbrev pub window_count : List ℤ → ℕ
window_count W = rows_in window_width W

abbrev pub window_supplier : List ℤ → ℕ → ℕ
window_supplier W = field_at window_width 0 W

abbrev pub window_mode : List ℤ → ℕ → ℕ
window_mode W = named_at window_width 1 W

abbrev pub window_from : List ℤ → ℕ → ℕ
window_from W = field_at window_width 2 W

abbrev pub window_to : List ℤ → ℕ → ℕ
window_to W = field_at window_width 3 W

-- row i is a window of supplier s in mode m that has tick t
unfoldable pub window_has : List ℤ → ℕ → ℕ → ℕ → ℕ → Bool
window_has W s m t i = eqb (window_supplier W i) s && eqb (window_mode W i) m && leb (window_from W i) t && ltb t (window_to W i)

-- tick t of the round of mode m lies in a window of supplier s
unfoldable pub in_window : List ℤ → ℕ → ℕ → ℕ → Bool
in_window W s m t = any (window_has W s m t) (window_count W)

-- where the first window of supplier s in mode m that has tick t ends; 0 where none has it
unfoldable pub window_end : List ℤ → ℕ → ℕ → ℕ → ℕ
window_end W s m t = elim (in_window W s m t) [ true ↦ window_to W (first (window_has W s m t) (window_count W)) | false ↦ 0 ]

-- up to which tick the supplier may run: as far as is known, and where it runs beyond that, as far as the window that has the tick
unfoldable pub open_until : List ℤ → ℕ → ℕ → ℕ → ℕ → Bool → ℕ
open_until W s m t until running = elim (running && leb until t) [ true ↦ window_end W s m t | false ↦ until ]

-- windows i and j are of one mode and share a tick, where neither is empty
unfoldable pub share_tick : List ℤ → ℕ → ℕ → Bool
share_tick W i j = eqb (window_mode W j) (window_mode W i) && ltb (window_from W i) (window_to W j) && ltb (window_from W j) (window_to W i)

-- What the tests of windows say, as claims.
pub record Has (W : List ℤ) (i m t : ℕ) : Type 0 where
  pub of-mode : window_mode W i ≡ m
  pub begun : window_from W i ≤ t
  pub not-over : t < window_to W i

pub record InWindow (W : List ℤ) (s m t : ℕ) : Type 0 where
  pub row : ℕ
  pub in_table : row < window_count W
  pub owner : window_supplier W row ≡ s
  pub has : Has W row m t
