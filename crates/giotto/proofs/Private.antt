-- A private port after an instant: what its task gave, where the task is completed, and else as it was, since no driver writes it.
-- Assumes rule 4, and that a configuration succeeds another by 001.
use Prim.Native.Nat.{ℕ}
use mathlib.Core.Path.{◌≡◌, refl, sym, subst, ◌∙◌}
use mathlib.Core.Logic.{◌⊎◌, inl, inr}
use native.Mathlib.Omega.{arith}
use lib.IntN.{ℤ}
use Rattle.program.specs.Tables.{Tables, private}
use Rattle.program.specs.Sets.{OfKind, Private, Gives}
use Rattle.program.specs.Ports.{value_of}
use Rattle.rules.specs.Declared.{Copies}
use Rattle.giotto.specs.Instant.{Configuration}
use Rattle.giotto.specs.Successor.{Valuation, Drives, Completed, Stays, Changes, Successor}

module _ (T : Tables) (c : Copies T) (p : ℕ) (own : OfKind T private p) where
  -- no driver writes a private port
  not-driven : (d : ℕ) (v : Valuation) (x : ℤ) → Drives T d v p x → ⊥
  not-driven d v x w = c.no-private-destination w.0 w.1 (subst (OfKind T private) (sym w.3) own)

  -- a private port is as it was after steps 4 to 6, whether a switch is taken or none
  switch-keeps : (C : Configuration) (v w : Valuation) (m u : ℕ) → Stays T C v w m u ⊎ Changes T C v w m u → w p ≡ v p
  switch-keeps C v w m u (inl s) = s.same-ports p
  switch-keeps C v w m u (inr s) = s.mode-ports.kept p (λ x d. not-driven _ v x d)

  module _ (result : ℕ → ℕ → ℤ) (readings : Valuation) (C C' : Configuration) (S : Successor T result readings C C') where
    -- after step 1 of an instant a private port keeps its value
    only-tasks : value_of C'.ports p ≡ S.after-tasks p
    only-tasks =
        S.step-7.kept p (λ x w. not-driven _ S.after-switch x w.2)
        ∙ switch-keeps C S.after-sensors S.after-switch C'.mode S.unit S.step-4-to-6
        ∙ S.step-3.kept p (λ x w. omega (arith, w.0.1, own.1))
        ∙ S.step-2.kept p (λ x w. not-driven _ S.after-tasks x w.2)

    -- where its task is completed, what the task gave enters it
    pub private-enters : (t : ℕ) → Completed T C t → Private T t p → value_of C'.ports p ≡ result t p
    private-enters t d q = only-tasks ∙ S.step-1.written p (result t p) (t, d, inr q, refl)

    -- where no task of it is completed, it is as it was
    pub private-stays : ((t : ℕ) → Completed T C t → Private T t p → ⊥) → value_of C'.ports p ≡ value_of C.ports p
    private-stays n = only-tasks ∙ S.step-1.kept p (λ x w. given w.0 w.1 w.2)
      where
        given : (t : ℕ) → Completed T C t → Gives T t p → ⊥
        given t d (inl o) = omega (arith, o.0.1, own.1)
        given t d (inr q) = n t d q
