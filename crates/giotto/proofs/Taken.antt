-- A switch that is due, and whose guard holds for the values that an instant has read, is the one that is taken. Assumes the program's rules.
use Prim.Native.Nat.{ℕ}
use mathlib.Core.Path.{◌≡◌, refl}
use mathlib.Core.Logic.{◌⊎◌, inl, inr}
use lib.IntN.{ℤ}
use Rattle.theory.specs.Verdict.{Keep}
use Rattle.program.specs.Tables.{Tables}
use Rattle.program.specs.Sets.{Sensor}
use Rattle.rules.specs.Verdict.{program_rules}
use Rattle.giotto.specs.Instant.{Configuration}
use Rattle.giotto.specs.Successor.{Valuation, SwitchEnabled, Stays, Changes, Successor}
use Rattle.giotto.proofs.One.{switch-row}

module _ (T : Tables) (K : Keep program_rules T) (result : ℕ → ℕ → ℤ) (readings : Valuation) (C C' : Configuration)
    (S : Successor T result readings C C') where
  -- after the sensors are read, each has its reading
  pub sensor-read : (p : ℕ) → Sensor T p → S.after-sensors p ≡ readings p
  sensor-read p s = S.step-3.written p (readings p) (s, refl)

  -- steps 4 to 6 change the mode by the enabled switch
  pub is-taken : (i : ℕ) → SwitchEnabled T C.mode C.unit S.after-sensors i
      → (c : Changes T C S.after-sensors S.after-switch C'.mode S.unit) × (c.row ≡ i)
  is-taken i e = go S.step-4-to-6
    where
      go : Stays T C S.after-sensors S.after-switch C'.mode S.unit ⊎ Changes T C S.after-sensors S.after-switch C'.mode S.unit
          → (c : Changes T C S.after-sensors S.after-switch C'.mode S.unit) × (c.row ≡ i)
      go (inl s) = absurd (s.none-enabled i e)
      go (inr c) = (c, switch-row T K.1.0 K.1.1.1.1.1.1.1.0 C S.after-sensors c.row i c.enabled e)
