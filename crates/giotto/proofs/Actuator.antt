-- An actuator after an instant: what an enabled update copied to it, since nothing after step 2 writes an actuator.
-- Assumes the program's rules, and that a configuration succeeds another by 001.
use Prim.Native.Nat.{ℕ, ◌<◌}
use mathlib.Core.Path.{◌≡◌, refl, ap, subst, ◌∙◌}
use mathlib.Core.Logic.{◌⊎◌, inl, inr}
use native.Mathlib.Omega.{arith}
use lib.IntN.{ℤ}
use Rattle.theory.specs.Verdict.{Keep}
use Rattle.program.specs.Tables.{Tables, copy_count, copy_driver, copy_source, copy_destination, update_driver}
use Rattle.program.specs.Sets.{OfKind, Actuator, Gives, ModePort}
use Rattle.program.specs.Ports.{value_of}
use Rattle.rules.specs.Verdict.{program_rules}
use Rattle.giotto.specs.Instant.{Configuration}
use Rattle.giotto.specs.Successor.{Valuation, UpdateEnabled, Completed, Stays, Changes, Successor}

module _ (T : Tables) (K : Keep program_rules T) (q : ℕ) (own : Actuator T q) where
  -- an actuator is no mode port: mode ports are outputs
  no-mode-port : (m : ℕ) → ModePort T m q → ⊥
  no-mode-port m (k, h, (e, f)) = omega (arith, own.1, (subst (OfKind T _) f (K.1.1.1.1.0.outputs k h)).1)

  module _ (result : ℕ → ℕ → ℤ) (readings : Valuation) (C C' : Configuration) (S : Successor T result readings C C') where
    -- a switch sets the ports of its target mode, and no actuator
    switch-keeps : Stays T C S.after-sensors S.after-switch C'.mode S.unit
        ⊎ Changes T C S.after-sensors S.after-switch C'.mode S.unit
        → S.after-switch q ≡ S.after-sensors q
    switch-keeps (inl s) = s.same-ports q
    switch-keeps (inr c) =
        c.mode-ports.kept q
        (λ x w. no-mode-port _ ((K.1.1.1.1.1.1.1.0.destinations c.row q c.enabled.in_table).0 (w.0, w.1, (w.2, w.3))))

    -- after step 2 of an instant an actuator keeps its value
    pub only-updates : value_of C'.ports q ≡ S.after-updates q
    only-updates =
        S.step-7.kept q
        (λ x (i, e, w).
        omega (arith, own.1, (((K.1.1.1.1.1.0.each i e.in_table).destinations q).0 (w.0, w.1, (w.2, w.3))).0.1))
        ∙ switch-keeps S.step-4-to-6
        ∙ S.step-3.kept q (λ x w. omega (arith, w.0.1, own.1))

    -- an enabled update copies to it what a completed task gave
    pub actuator-takes : (t p u c : ℕ) → Completed T C t → Gives T t p → UpdateEnabled T C.mode C.unit S.after-tasks u
        → c < copy_count T → copy_driver T c ≡ update_driver T u → copy_source T c ≡ p → copy_destination T c ≡ q
        → value_of C'.ports q ≡ result t p
    actuator-takes t p u c d g e h f s o =
        only-updates
        ∙ S.step-2.written q (S.after-tasks (copy_source T c)) (u, e, (c, h, f, o, refl))
        ∙ ap S.after-tasks s
        ∙ S.step-1.written p (result t p) (t, d, g, refl)
