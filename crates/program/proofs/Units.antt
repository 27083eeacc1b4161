-- The units of a mode: within the limit, the number that the search finds is the least common multiple of its frequencies.
use Prim.Native.Nat.{ℕ, zero, suc, ◌%◌, ◌≤◌, ◌∣◌}
use mathlib.Core.Path.{◌≡◌, refl, subst}
use mathlib.Core.Bool.{Bool}
use mathlib.Core.Logic.{inl, inr, ⊎_elim}
use native.Mathlib.Nat.{dvd_of_mod-eq-zero, mod-eq-zero_of_dvd, dvd-mod_iff, dvd_antisymm, mod-lt}
use native.Mathlib.Decide.{dec_le}
use native.Mathlib.Omega.{arith}
use Rattle.theory.specs.Claim.{Says, Bars}
use Rattle.theory.specs.Search.{first}
use Rattle.theory.proofs.Bools.{says-as, says_eq, bars-not, bars-as, ◌or◌, says-bars}
use Rattle.theory.proofs.Search.{first-within, first-has, first-least, rows-bar}
use Rattle.cells.specs.Limits.{max_units}
use Rattle.program.specs.Tables.{Tables, invocation_mode, invocation_frequency, update_mode, update_frequency, switch_mode}
use Rattle.program.specs.Tables.{switch_frequency}
use Rattle.program.specs.Units.{misses, row_misses, is_multiple, units, Multiple, Units}

-- the test says that f does not divide u; a frequency 0 divides only 0
pub misses-bars : (u f : ℕ) → Bars (misses u f) (f ∣ u)
unfolding misses
misses-bars u f = bars-not (says-as (says_eq (u % f) 0) (dvd_of_mod-eq-zero f) (mod-eq-zero_of_dvd f))

module _ (T : Tables) (m : ℕ) where
  -- the test says that u is a multiple of every frequency of mode m
  pub multiple-says : (u : ℕ) → Says (is_multiple T m u) (Multiple T m u)
  unfolding is_multiple row_misses
  multiple-says u =
      says-bars
      (bars-as
      (rows-bar (invocation_frequency T) _ (λ i. says_eq (invocation_mode T i) m) (misses-bars u)
      or rows-bar (update_frequency T) _ (λ i. says_eq (update_mode T i) m) (misses-bars u)
      or rows-bar (switch_frequency T) _ (λ i. says_eq (switch_mode T i) m) (misses-bars u))
      (λ g f. ⊎_elim (g.0.0 f) (⊎_elim (g.0.1 f) (g.1 f)))
      (λ g. ((λ f w. g f (inl w), λ f w. g f (inr (inl w))), λ f w. g f (inr (inr w)))))

  -- a mode has at least one unit
  pub units-some : 1 ≤ units T m
  unfolding units
  units-some = omega arith

  -- a mode has at most one unit more than the limit
  pub units-within : units T m ≤ suc max_units
  unfolding units
  units-within = omega (arith, first-within (λ u. is_multiple T m (suc u)) max_units)

  -- what the search finds divides every multiple: what is left over of another multiple is a smaller one
  pub units-least : units T m ≤ max_units → Units T m (units T m)
  unfolding units
  units-least h = record { some = omega arith; multiple = mine; least = λ w k. dvd_of_mod-eq-zero u (none w k (w % u) refl) }
    where
      passes : ℕ → Bool
      passes v = is_multiple T m (suc v)

      u : ℕ
      u = suc (first passes max_units)

      mine : Multiple T m u
      mine = (multiple-says u).yes (first-has passes max_units h)

      none : (w : ℕ) → Multiple T m w → (r : ℕ) → w % u ≡ r → w % u ≡ 0
      none w k zero e = e
      none w k (suc r) e =
          absurd
          ((multiple-says (suc r)).no (first-least passes max_units r (omega (arith, mod-lt w {m = u} (omega arith))))
          (λ f q. subst (λ (x : ℕ). f ∣ x) e ((dvd-mod_iff f (mine f q)).1 (k f q))))

  -- a least common multiple within the limit is the number that the search finds
  pub units-only : (u : ℕ) → Units T m u → u ≤ max_units → units T m ≡ u
  unfolding units
  units-only zero s l = absurd (omega (arith, s.some))
  units-only (suc v) s l =
      let h : units T m ≤ suc v = below (dec_le (units T m) (suc v)) in
      let w = units-least (omega arith) in
      dvd_antisymm (w.least (suc v) s.multiple) (s.least (units T m) w.multiple)
    where
      below : Dec (units T m ≤ suc v) → units T m ≤ suc v
      below (yes h) = h
      below (no h) =
          absurd ((multiple-says (suc v)).no (first-least (λ k. is_multiple T m (suc k)) max_units v (omega arith)) s.multiple)
