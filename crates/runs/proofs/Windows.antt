-- What the windows' tests say: a tick lies in a window, and two windows of one mode share a tick.
-- Assumes, for the second, that neither window is empty.
use Prim.Native.Nat.{ℕ, ◌<◌, max}
use mathlib.Core.Path.{◌≡◌, refl, sym, ◌∙◌}
use mathlib.Core.List.{List}
use native.Mathlib.Omega.{arith}
use lib.IntN.{ℤ}
use Rattle.theory.specs.Claim.{Says}
use Rattle.theory.proofs.Bools.{says_eq, says-lt, says-le, says-as, ◌and◌}
use Rattle.theory.proofs.Search.{any-says}
use Rattle.runs.specs.Windows.{window_count, window_supplier, window_mode, window_from, window_to, window_has, in_window, share_tick, Has}
use Rattle.runs.specs.Windows.{InWindow}

-- the test of row i says whether it is a window of supplier s in mode m that has tick t
pub window-has-says : (W : List ℤ) (s m t i : ℕ) → Says (window_has W s m t i) ((window_supplier W i ≡ s) × Has W i m t)
unfolding window_has
window-has-says W s m t i =
    says-as (says_eq (window_supplier W i) s and says_eq (window_mode W i) m and says-le (window_from W i) t and says-lt t (window_to W i))
    (λ h. (h.0.0.0, record { of-mode = h.0.0.1; begun = h.0.1; not-over = h.1 }))
    (λ h. (((h.0, h.1.of-mode), h.1.begun), h.1.not-over))

-- the test of tick t says whether it lies in a window of supplier s in mode m
pub in-window-says : (W : List ℤ) (s m t : ℕ) → Says (in_window W s m t) (InWindow W s m t)
unfolding in_window
in-window-says W s m t =
    says-as (any-says (window_has W s m t) (λ i. (window_supplier W i ≡ s) × Has W i m t) (window-has-says W s m t) (window_count W))
    (λ h. record { row = h.0; in_table = h.1; owner = h.2.0; has = h.2.1 })
    (λ w. (w.row, w.in_table, (w.owner, w.has)))

-- windows i and j share a tick of a mode
pub record Shared (W : List ℤ) (i j : ℕ) : Type 0 where
  pub mode : ℕ
  pub tick : ℕ
  pub has_i : Has W i mode tick
  pub has_j : Has W j mode tick

-- two windows that are not empty are found to share a tick exactly where they do
pub share-says : (W : List ℤ) (i j : ℕ) → window_from W i < window_to W i → window_from W j < window_to W j → Says (share_tick W i j) (Shared W i j)
unfolding share_tick
share-says W i j p q =
    says-as (says_eq (window_mode W j) (window_mode W i) and says-lt (window_from W i) (window_to W j) and says-lt (window_from W j) (window_to W i))
    (λ h. record {
      mode = window_mode W i;
      tick = max (window_from W i) (window_from W j);
      has_i = record { of-mode = refl; begun = omega arith; not-over = omega (arith, h.1) };
      has_j = record { of-mode = h.0.0; begun = omega arith; not-over = omega (arith, h.0.1) };
    })
    (λ w. (
      (w.has_j.of-mode ∙ sym w.has_i.of-mode, omega (arith, w.has_i.begun, w.has_j.not-over)),
      omega (arith, w.has_j.begun, w.has_i.not-over),
    ))
