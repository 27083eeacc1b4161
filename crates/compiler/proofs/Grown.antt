-- A loop that writes piece after piece: what was written is the pieces so far. Where each piece begins, and how far it can reach.
use Prim.Native.Nat.{ℕ, ◌+◌, ◌≤◌, ◌<◌}
use mathlib.Core.Path.{◌≡◌, sym, ap, ◌∙◌}
use mathlib.Core.List.{List}
use native.Mathlib.Numerals.{add-one}
use native.Mathlib.Omega.{arith}
use lib.ListN.{length}
use Rattle.theory.specs.Lists.{cat, sum}
use Rattle.theory.proofs.Lists.{cat-length}
use Rattle.words.specs.Written.{Words, Written, writes}
use Rattle.words.proofs.Written.{writes_then, written_at}

-- after i of n pieces the loop is at `here`: it has written the first i pieces
pub record Grown (piece : ℕ → List Words) (n i : ℕ) (start here : Written) : Type 0 where
  pub in-range : i ≤ n
  pub same : here ≡ writes (cat piece i) start

module _ {piece : ℕ → List Words} {n : ℕ} {start : Written} where
  module _ {i : ℕ} {here : Written} (h : Grown piece n i start here) where
    -- the loop writes one piece more
    pub grown-more : {there : Written} → i < n → there ≡ writes (piece i) here → Grown piece n (i + 1) start there
    grown-more l e =
        record {
          in-range = omega arith;
          same = writes_then start (cat piece i) (piece i) h.same e ∙ ap (λ (k : ℕ). writes (cat piece k) start) (sym (add-one i));
        }

    -- the next piece begins where the sizes of those before it add up to
    pub grown-at : (size : ℕ → ℕ) → ((k : ℕ) → k < n → length (piece k) ≡ size k) → here.at ≡ start.at + sum size i
    grown-at size e =
        written_at start (cat piece i) h.same
        ∙ ap (λ (k : ℕ). start.at + k) (cat-length piece size i (λ k l. e k (omega (arith, h.in-range))))
