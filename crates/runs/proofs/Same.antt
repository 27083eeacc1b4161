-- Two courses with the same units, blocks, releases, terminations and windows, and the same times of every release, have the
-- same answer of the judge. Assumes just that.
use Prim.Native.Nat.{ℕ, zero, suc, ◌*◌}
use mathlib.Core.Path.{◌≡◌, refl, ap, ◌∙◌}
use mathlib.Core.Bool.{true, false}
use mathlib.Core.List.{List, [], ◌∷◌}
use lib.ListN.{set}
use Rattle.theory.specs.Lists.{member}
use Rattle.theory.proofs.Members.{member-head, member-tail}
use Rattle.runs.specs.Round.{Course, Choice, release, outside, late, ended, left_at, watched, unfinished, judge}

-- a release uses the times of its jobs alone
release-same : (js : List ℕ) (c d : ℕ → ℕ) → ((j : ℕ) → member j js ≡ true → c j ≡ d j) → (left : List ℕ) → release js c left ≡ release js d left
release-same [] c d h left = refl
release-same (j ∷ js) c d h left =
    ap (λ n. release js c (set left j n)) (h j (member-head j js))
    ∙ release-same js c d (λ i m. h i (member-tail i j js m)) (set left j (d j))

-- two courses are the same but for the worst-case times
pub record SameCourse (C D : Course) : Type 0 where
  pub ticks : C.ticks ≡ D.ticks
  pub units : C.units ≡ D.units
  pub block : C.block ≡ D.block
  pub released : C.released ≡ D.released
  pub ending : C.ending ≡ D.ending
  pub window : C.window ≡ D.window

-- the judge's answer is the same where every release has the same time
pub judge-same : (C D : Course) → SameCourse C D → (c d : Choice) → ((k j : ℕ) → member j (C.released k) ≡ true → c k j ≡ d k j)
    → (u k : ℕ) (left : List ℕ) → judge C c u k left ≡ judge D d u k left
judge-same C D s c d h zero k left = refl
judge-same C D s c d h (suc u) k left =
    let q : release (C.released k) (c k) left ≡ release (D.released k) (d k) left =
    release-same (C.released k) (c k) (d k) (h k) left ∙ ap (λ r. release (r k) (d k) left) s.released in
    λ i. elim (watched (s.window i) (s.block i k) (s.ticks i) 0 (k * s.ticks i) (record { position = 0; left = q i })) [
      | left_at t ↦ outside t
      | ended r ↦ elim (unfinished (s.ending i k) r) [ true ↦ late (suc k * s.ticks i) | false ↦ judge-same C D s c d h u (suc k) r i ]
    ]
