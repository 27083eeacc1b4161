-- A list whose first places were set, one after the other, to what a rule says: what stands there, what the whole is once all were
-- set, and how large numbers can be.
use Prim.Native.Nat.{ℕ, zero, suc, ◌+◌, ◌≤◌, ◌<◌}
use mathlib.Core.Path.{◌≡◌, refl, sym, ap, ap₂, ◌∙◌}
use mathlib.Core.List.{List, [], ◌∷◌}
use native.Mathlib.Decide.{dec_lt}
use native.Mathlib.Numerals.{add-one}
use native.Mathlib.Omega.{arith}
use lib.ListN.{length, get_or, set, replicate, length-set}
use lib.Seq.{get_or-set_same, get_or-set_other, ext_get_or}
use Rattle.theory.specs.Lists.{each, filled}
use Rattle.theory.proofs.Lists.{each-length, each_at}

module _ {A : Type 0} where
  module _ (f : ℕ → A) (l : List A) where
    -- a list with n places set, and place n set to what f says, has n + 1 places set
    pub filled_more : (n : ℕ) (now : List A) (x : A) → now ≡ filled f n l → x ≡ f n → set now n x ≡ filled f (n + 1) l
    filled_more n now x e q =
        ap₂ (λ (v : List A) (y : A). set v n y) e q ∙ ap (λ (k : ℕ). filled f k l) (sym (add-one n))

    -- a list keeps its length when places are set
    pub filled-length : (n : ℕ) → length (filled f n l) ≡ length l
    filled-length zero = refl
    filled-length (suc n) = length-set (filled f n l) n (f n) ∙ filled-length n

    -- d is what stands past the end of the list
    module _ (d : A) where
      -- at a place that was set stands what f says
      pub filled_at : (n i : ℕ) → n ≤ length l → i < n → get_or (filled f n l) i d ≡ f i
      filled_at zero i b h = absurd (omega arith)
      filled_at (suc n) i b h = go (dec_lt i n) (filled_at n i (omega arith))
        where
          go : Dec (i < n) → (i < n → get_or (filled f n l) i d ≡ f i) → get_or (filled f (suc n) l) i d ≡ f i
          go (yes k) ih = get_or-set_other (filled f n l) n i (f n) d (λ e. omega arith) ∙ ih k
          go (no k) ih =
              let e : i ≡ n = omega arith in rw e (get_or-set_same (filled f n l) n (f n) d (omega (arith, filled-length n)))

      -- a place that was not set is as before
      pub filled-beyond : (n i : ℕ) → n ≤ i → get_or (filled f n l) i d ≡ get_or l i d
      filled-beyond zero i h = refl
      filled-beyond (suc n) i h = get_or-set_other (filled f n l) n i (f n) d (λ e. omega arith) ∙ filled-beyond n i (omega arith)

      -- a list of which all places were set is what f says, in order
      pub filled-all : (n : ℕ) → length l ≡ n → filled f n l ≡ each f n 0
      filled-all n e =
          let k : length (filled f n l) ≡ n = filled-length n ∙ e in
          ext_get_or d (filled f n l) (each f n 0) (k ∙ sym (each-length f n 0))
          (λ i h. filled_at n i (omega arith) (omega arith) ∙ sym (each_at f n i d (omega arith)))

-- in a list of zeros stands 0 everywhere
pub zeros-at : (n i : ℕ) → get_or {A = ℕ} (replicate n 0) i 0 ≡ 0
zeros-at zero i = refl
zeros-at (suc n) zero = refl
zeros-at (suc n) (suc i) = zeros-at n i

-- a place set to no more than b leaves no more than b anywhere
pub set-most : (l : List ℕ) (n x i b : ℕ) → x ≤ b → get_or l i 0 ≤ b → get_or (set l n x) i 0 ≤ b
set-most [] n x i b h g = g
set-most (y ∷ l) zero x zero b h g = h
set-most (y ∷ l) zero x (suc i) b h g = g
set-most (y ∷ l) (suc n) x zero b h g = g
set-most (y ∷ l) (suc n) x (suc i) b h g = set-most l n x i b h g

module _ (f : ℕ → ℕ) (l : List ℕ) where
  -- where what f says and what stood in the list is no more than b, nothing in the list with places set is more
  pub filled-most : (b n : ℕ) → ((i : ℕ) → i < n → f i ≤ b) → ((i : ℕ) → get_or l i 0 ≤ b) → (i : ℕ) → get_or (filled f n l) i 0 ≤ b
  filled-most b zero h g i = g i
  filled-most b (suc n) h g i =
      set-most (filled f n l) n (f n) i b (h n (omega arith)) (filled-most b n (λ j k. h j (omega arith)) g i)
