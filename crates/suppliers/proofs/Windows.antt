-- Number 12: the test of the windows bars windows that fit and share no tick, row by row. The test of a shared tick is exact where no
-- window is empty, and a window that is empty is refused too. And a tick lies in one supplier's windows: assumes that they share no tick.
use Prim.Native.Nat.{ℕ, ◌<◌}
use mathlib.Core.Path.{◌≡◌, refl, sym, ap, ◌∙◌}
use mathlib.Core.Bool.{true}
use native.Mathlib.Omega.{arith}
use native.Mathlib.Decide.{dec_lt}
use Rattle.theory.specs.Claim.{Bars}
use Rattle.theory.proofs.Bools.{says-lt, says-le, says-as, bars-not, bars-says, bars-as, ◌and◌, bars-then}
use Rattle.theory.proofs.Search.{bars-below}
use Rattle.theory.proofs.Rows.{one_table}
use Rattle.theory.proofs.Verdict.{Rowed, bars-rows}
use Rattle.program.specs.Tables.{windows_at}
use Rattle.runs.specs.Windows.{window_supplier, in_window, InWindow}
use Rattle.runs.proofs.Windows.{in-window-says, share-says}
use Rattle.suppliers.specs.Windows.{Windowed, window_wrong, window_tests, windows_bad, WindowFits, Windows, WindowRow, window_rules}

module _ (L : Windowed) where
  -- the test of a window bars what rule 12 asks of it, where the windows before it fit
  window-bars : (i : ℕ) → ((j : ℕ) → j < i → WindowRow L j) → Bars (window_wrong L.tables L.windows i) (WindowRow L i)
  unfolding window_wrong
  window-bars i before =
      bars-as
      (bars-then
      (bars-not (says-as (says-lt _ _ and says-lt _ _ and says-lt _ _ and says-le _ _)
      (λ (((s, m), t), p). record { supplier = s; mode = m; some-tick = t; in-period = p })
      (λ (f : WindowFits L.tables L.windows i). (((f.supplier, f.mode), f.some-tick), f.in-period))))
      (λ f. bars-below i (λ j l. bars-says (share-says L.windows i j f.some-tick (before j l).itself.some-tick))))
      (λ (f, g). record { itself = f; apart = λ j m t l p q. g j l (record { mode = m; tick = t; has_i = p; has_j = q }) })
      (λ w. (w.itself, λ j l s. w.apart j s.mode s.tick l s.has_i s.has_j))

  -- number 12 and rule 12 speak of the same rows
  pub windows-rowed : Rowed (windows_bad L) (window_tests L) (window_rules L)
  unfolding windows_bad
  windows-rowed = (one_table windows_at (λ i h before. window-bars i before), refl)

  -- number 12 bars windows that fit and share no tick
  pub windows-bar : Bars (windows_bad L) (Windows L)
  windows-bar =
      bars-rows (window_tests L) (window_rules L) windows-rowed
      (λ (g, _). record { each = λ i h. (g i h).itself; apart = λ i j m t l h. (g i h).apart j m t l })
      (λ w. (λ i h. record { itself = w.each i h; apart = λ j m t l. w.apart i j m t l h }, tt))

-- where windows share no tick, a tick of a mode lies in the windows of one supplier at most
pub windows-one : (L : Windowed) → Windows L → (s r m t : ℕ) → in_window L.windows s m t ≡ true → in_window L.windows r m t ≡ true → s ≡ r
windows-one L w s r m t p q =
    let a = (in-window-says L.windows s m t).yes p in
    let b = (in-window-says L.windows r m t).yes q in
    go a b (dec_lt a.row b.row) (dec_lt b.row a.row)
  where
    go : (a : InWindow L.windows s m t) (b : InWindow L.windows r m t) → Dec (a.row < b.row) → Dec (b.row < a.row) → s ≡ r
    go a b (yes l) d = absurd (w.apart b.row a.row m t l b.in_table b.has a.has)
    go a b (no l) (yes k) = absurd (w.apart a.row b.row m t k a.in_table a.has b.has)
    go a b (no l) (no k) =
        let e : a.row ≡ b.row = omega arith in sym a.owner ∙ ap (window_supplier L.windows) e ∙ b.owner
