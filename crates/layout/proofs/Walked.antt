-- A walk over pieces that stand one after the other, each of which does something to a table at its address: what a loop over them
-- has done after some of them, when two walks come to the same, and what a walk comes to when every number of the table is read anew.
use Prim.Native.Nat.{ℕ, zero, suc, ◌+◌, ◌≤◌, ◌<◌}
use mathlib.Core.Path.{◌≡◌, refl, sym, ap, ◌∙◌}
use mathlib.Core.List.{List, map}
use native.Mathlib.Nat.{add_assoc}
use native.Mathlib.Numerals.{add-one}
use native.Mathlib.Omega.{arith}
use Rattle.theory.specs.Lists.{sum}
use Rattle.theory.proofs.Lists.{sum_same}
use Rattle.layout.specs.Delays.{walked}

module _ (size : ℕ → ℕ) (step : ℕ → ℕ → List ℕ → List ℕ) (a : ℕ) where
  -- after k of n pieces the next one stands at this address, and the table is what they made of it
  pub record Walking (n : ℕ) (table : List ℕ) (k next : ℕ) (now : List ℕ) : Type 0 where
    pub in-range : k ≤ n
    pub ends : next ≡ a + sum size k
    pub done : now ≡ walked size step a k table

  -- the loop takes one piece more: where it ends, and the table afterwards
  pub walked_more : (n : ℕ) (table : List ℕ) (k next end : ℕ) (now after : List ℕ)
      → k < n → end ≡ next + size k → after ≡ step k next now → Walking n table k next now → Walking n table (k + 1) end after
  walked_more n table k next end now after l p q w =
      record {
        in-range = omega arith;
        ends = p ∙ ap (λ (b : ℕ). b + size k) w.ends ∙ add_assoc a (sum size k) (size k) ∙ ap (λ (i : ℕ). a + sum size i) (sym (add-one k));
        done = q ∙ (λ j. step k (w.ends j) (w.done j)) ∙ ap (λ (i : ℕ). walked size step a i table) (sym (add-one k));
      }

  -- behind the last piece the loop has done the whole walk
  pub walked_all : (n : ℕ) (table : List ℕ) (k next : ℕ) (now : List ℕ) → n ≤ k → Walking n table k next now
      → (now ≡ walked size step a n table) × (next ≡ a + sum size n)
  walked_all n table k next now l w =
      let e : k ≡ n = omega (arith, w.in-range) in
      (w.done ∙ ap (λ (i : ℕ). walked size step a i table) e, w.ends ∙ ap (λ (i : ℕ). a + sum size i) e)

  module _ {n : ℕ} {table : List ℕ} {k next : ℕ} {now : List ℕ} (w : Walking n table k next now) where
    -- where the pieces passed are no longer than c, the next one stands no further than c behind the first
    pub walked_near : (b c : ℕ) → sum size k ≤ c → a + c ≤ b → next ≤ b
    walked_near b c l h = omega (arith, w.ends)

-- walks over pieces of the same sizes that do the same come to the same
pub walked_same : (size size' : ℕ → ℕ) (step step' : ℕ → ℕ → List ℕ → List ℕ) (a n : ℕ) (table : List ℕ)
    → ((k : ℕ) → k < n → size k ≡ size' k) → ((k at : ℕ) (t : List ℕ) → k < n → step k at t ≡ step' k at t)
    → walked size step a n table ≡ walked size' step' a n table
walked_same size size' step step' a zero table e h = refl
walked_same size size' step step' a (suc n) table e h =
    let s = sum_same size size' n (λ k l. e k (omega arith)) in
    let r = walked_same size size' step step' a n table (λ k l. e k (omega arith)) (λ k at t l. h k at t (omega arith)) in
    (λ j. step n (a + s j) (r j)) ∙ h n (a + sum size' n) (walked size' step' a n table) (omega arith)

-- a walk comes, every number read by f, to the walk whose steps do so, from the table that is read so
pub walked-mapped : (f : ℕ → ℕ) (size : ℕ → ℕ) (step step' : ℕ → ℕ → List ℕ → List ℕ) (a n : ℕ) (table : List ℕ)
    → ((k at : ℕ) (t : List ℕ) → k < n → map f (step k at t) ≡ step' k at (map f t))
    → map f (walked size step a n table) ≡ walked size step' a n (map f table)
walked-mapped f size step step' a zero table h = refl
walked-mapped f size step step' a (suc n) table h =
    h n (a + sum size n) (walked size step a n table) (omega arith)
    ∙ ap (step' n (a + sum size n)) (walked-mapped f size step step' a n table (λ k at t l. h k at t (omega arith)))
