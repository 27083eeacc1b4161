-- What due tasks give at an instant: copying local outputs is writing what the tasks give, where they hold it, and changes nothing
-- where they are the ports' own values. Nothing else is assumed.
use Prim.Native.Nat.{ℕ}
use mathlib.Core.Path.{◌≡◌, refl, ap}
use mathlib.Core.Bool.{true}
use mathlib.Core.List.{List}
use lib.IntN.{ℤ, pos}
use Rattle.theory.specs.Lists.{Every, gather, member, Put, puts}
use Rattle.theory.proofs.Lists.{every-all, every-image, map_same, gather-same, every-gather}
use Rattle.theory.proofs.Members.{every-member}
use Rattle.theory.proofs.Puts.{puts-own}
use Rattle.program.specs.Program.{Program, task}
use Rattle.program.specs.Ports.{value_of, assigned}

module _ (P : Program) (ts : List ℕ) (v : List ℤ) where
  -- ports that take the values which they have change nothing
  pub copied-same : puts (gather (λ t. assigned (value_of v) (task P t).gives) ts) v ≡ v
  copied-same =
      puts-own (pos 0) (gather (λ t. assigned (value_of v) (task P t).gives) ts) v
      (every-gather (λ (a : Put). a.value ≡ value_of v a.place) (λ t. assigned (value_of v) (task P t).gives) ts own)
    where
      own : (t : ℕ) → Every (λ (a : Put). a.value ≡ value_of v a.place) (assigned (value_of v) (task P t).gives)
      own t =
          every-image (λ (a : Put). a.value ≡ value_of v a.place) (λ p. record { place = p; value = value_of v p }) (task P t).gives
          (every-all (λ p. value_of v p ≡ value_of v p) (task P t).gives (λ p. refl))

  -- ports that take what stands for them in the local outputs take what their tasks give, where it holds that
  pub copied-held : (value : ℕ → ℤ) (result : ℕ → ℕ → ℤ)
      → ((t p : ℕ) → member t ts ≡ true → member p (task P t).gives ≡ true → value p ≡ result t p)
      → puts (gather (λ t. assigned value (task P t).gives) ts) v ≡ puts (gather (λ t. assigned (result t) (task P t).gives) ts) v
  copied-held value result h =
      ap (λ (l : List Put). puts l v)
      (gather-same _ _ ts (every-member _ ts (λ t m.
      map_same _ _ (task P t).gives
      (every-member _ (task P t).gives (λ p q. ap (λ (x : ℤ). record { place = p; value = x }) (h t p m q))))))
