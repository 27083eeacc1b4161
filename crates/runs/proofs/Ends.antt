-- Where the window that has a tick ends: beyond the tick, and up to there every tick is in a window. So a run that asks for the
-- end once need not ask at each tick.
use Prim.Native.Nat.{ℕ, ◌≤◌, ◌<◌}
use mathlib.Core.Path.{◌≡◌, refl, ap, subst, ◌∙◌}
use mathlib.Core.Bool.{Bool, true, false, not, ◌&&◌}
use mathlib.Core.List.{List}
use native.Mathlib.Omega.{arith}
use lib.Dec.{leb}
use lib.IntN.{ℤ}
use borrow.Author.Tests.{leb-false, le-leb, lt-leb}
use Rattle.std.specs.Prelude.{Option, Some, None, cond}
use Rattle.theory.specs.Search.{any, first, lowest_passing}
use Rattle.theory.proofs.Bools.{is_true}
use Rattle.theory.proofs.Search.{Passed, any_at, first_found, lowest}
use Rattle.runs.specs.Windows.{window_count, window_to, window_has, in_window, window_end, open_until}
use Rattle.runs.proofs.Windows.{window-has-says, in-window-says}

module _ (W : List ℤ) (s m : ℕ) where
  end-some : (t : ℕ) → in_window W s m t ≡ true → window_to W (first (window_has W s m t) (window_count W)) ≡ window_end W s m t
  unfolding window_end
  end-some t h = rw (h, window_end)

  -- where no window has the tick, the end is 0
  pub end_none : (t : ℕ) → in_window W s m t ≡ false → 0 ≡ window_end W s m t
  unfolding window_end
  end_none t h = rw (h, window_end)

  -- where row i is the first window that has the tick, the end is that of row i
  pub end-found : (t i : ℕ) → Passed (window_has W s m t) (window_count W) i → i < window_count W → window_has W s m t i ≡ true
      → window_to W i ≡ window_end W s m t
  unfolding in_window
  end-found t i p l h =
      ap (window_to W) (first_found (window_has W s m t) (window_count W) i p l h)
      ∙ end-some t (any_at (window_has W s m t) (window_count W) i l h)

  -- where the window ends that a search of the windows answers with; 0 where it answers with none
  abbrev pub end_at : Option ℕ → ℕ
  end_at (Some i) = window_to W i
  end_at None = 0

  -- the end is that of the row that the search answers with
  pub end-sought : (t : ℕ) (o : Option ℕ) → o ≡ lowest_passing (window_has W s m t) (window_count W) → end_at o ≡ window_end W s m t
  unfolding window_end in_window
  end-sought t o e = ap end_at e ∙ go (any (window_has W s m t) (window_count W))
    where
      row : ℕ
      row = first (window_has W s m t) (window_count W)

      go : (b : Bool) → end_at (cond b (Some row) None) ≡ elim b [ true ↦ window_to W row | false ↦ 0 ]
      go true = refl
      go false = refl

  -- from tick t on, every tick before `until` is in a window
  abbrev pub Open : ℕ → ℕ → Type 0
  Open t until = (u : ℕ) → t ≤ u → u < until → in_window W s m u ≡ true

  -- a tick that is in a window: the end lies beyond it, and the window is open up to there
  end-beyond : (t : ℕ) → in_window W s m t ≡ true → (t < window_end W s m t) × Open t (window_end W s m t)
  unfolding in_window
  end-beyond t h =
      let (i, w) = lowest (window_has W s m t) (window_count W) h in
      let (own, has) = (window-has-says W s m t i).yes w.has in
      let e : window_to W i ≡ window_end W s m t = end-found t i (record { in-range = omega (arith, w.below); clear = w.clear }) w.below w.has in (
        omega (arith, has.not-over),
        λ u l o. is_true (in-window-says W s m u) (record {
          row = i;
          in_table = w.below;
          owner = own;
          has = record { of-mode = has.of-mode; begun = omega (arith, has.begun); not-over = omega arith };
        }),
      )

  -- where the supplier does not run beyond what is known to be open, no window is asked
  pub until-known : (t until : ℕ) (running : Bool) → (running && leb until t) ≡ false → until ≡ open_until W s m t until running
  unfolding open_until
  until-known t until running h = rw (h, open_until)

  -- where the supplier runs beyond what is known to be open, the windows are asked
  pub until-asked : (t until : ℕ) (running : Bool) → (running && leb until t) ≡ true → window_end W s m t ≡ open_until W s m t until running
  unfolding open_until
  until-asked t until running h = rw (h, open_until)

  -- what `next`, the tick up to which it is open, says of tick t: a supplier that runs is outside exactly where t is not before `next`
  pub record Told (t : ℕ) (running : Bool) (next : ℕ) : Type 0 where
    pub outside : (running && leb next t) ≡ (running && not (in_window W s m t))
    pub still : Open t next

  -- the tick up to which it is open tells that of tick t, if what was known to be open is open
  pub until-tells : (t until : ℕ) (running : Bool) → Open t until → Told t running (open_until W s m t until running)
  until-tells t until false h = subst (Told t false) (until-known t until false refl) (record { outside = refl; still = h })
  until-tells t until true h = go (leb until t) refl (in_window W s m t) refl
    where
      go : (a : Bool) → leb until t ≡ a → (b : Bool) → in_window W s m t ≡ b → Told t true (open_until W s m t until true)
      go false p b q =
          subst (Told t true) (until-known t until true p) (record { outside = rw (p, h t (omega arith) (leb-false until t p)); still = h })
      go true p true q =
          let (l, o) = end-beyond t q in
          subst (Told t true) (until-asked t until true p) (record { outside = rw (lt-leb (window_end W s m t) t l, q); still = o })
      go true p false q =
          subst (Told t true) (end_none t q ∙ until-asked t until true p) (record { outside = rw (le-leb 0 t (omega arith), q); still = λ u l o. absurd (omega arith) })
