-- Instructions that stand in a code at an address, and what is fetched there.
use Prim.Native.Nat.{ℕ, zero, suc, ◌+◌, ◌≤◌, ◌<◌}
use mathlib.Core.Path.{◌≡◌, ap, ◌∙◌}
use mathlib.Core.List.{List, [], ◌∷◌, ◌++◌, append_assoc}
use native.Mathlib.Omega.{arith}
use native.Mathlib.Decide.{dec_lt}
use lib.ListN.{length, get_or, length-append}
use lib.Seq.{get_or_at}
use Rattle.theory.specs.Lists.{cat}
use Rattle.code.specs.Op.{Op, faulty}

-- the code has these instructions at this address
pub record At (code : List Op) (pc : ℕ) (os : List Op) : Type 0 where
  pub pre : List Op
  pub post : List Op
  pub cut : code ≡ pre ++ (os ++ post)
  pub from : length pre ≡ pc

-- of two pieces that stand at an address the first stands there
pub at_left : {code : List Op} {pc : ℕ} (a b : List Op) → At code pc (a ++ b) → At code pc a
at_left a b h = record { pre = h.pre; post = b ++ h.post; cut = h.cut ∙ simp append_assoc; from = h.from }

-- of two pieces that stand at an address the second stands behind the first
pub at_right : {code : List Op} {pc : ℕ} (a b : List Op) → At code pc (a ++ b) → At code (pc + length a) b
at_right a b h =
    record { pre = h.pre ++ a; post = h.post; cut = h.cut ∙ simp append_assoc; from = omega (arith, length-append h.pre a) }

-- of instructions that stand at an address those behind the first stand one further
pub at_tail : {code : List Op} {pc : ℕ} {o : Op} {os : List Op} → At code pc (o ∷ os) → At code (suc pc) os
at_tail {o = o} h =
    record {
      pre = h.pre ++ (o ∷ []);
      post = h.post;
      cut = h.cut ∙ simp append_assoc;
      from = omega (arith, length-append h.pre (o ∷ []));
    }

-- what stands at an address stands at every number that equals it
pub at-move : {code : List Op} {pc : ℕ} {os : List Op} (to : ℕ) → pc ≡ to → At code pc os → At code to os
at-move to e h = record { pre = h.pre; post = h.post; cut = h.cut; from = h.from ∙ e }

-- what stands at an address of a code ends within the code
pub at-within : {code : List Op} {pc : ℕ} {os : List Op} → At code pc os → pc + length os ≤ length code
at-within {code} {pc} {os} h = omega (arith, simp length-append at (ap length h.cut), h.from)

-- of pieces one after the other, each stands behind those before it
pub at-cat : {code : List Op} {pc : ℕ} (f : ℕ → List Op) (n k : ℕ) → k < n → At code pc (cat f n) → At code (pc + length (cat f k)) (f k)
at-cat f zero k l h = absurd (omega arith)
at-cat {code} {pc} f (suc n) k l h = go (dec_lt k n) (λ m. at-cat f n k m (at_left (cat f n) (f n) h))
  where
    go : Dec (k < n) → (k < n → At code (pc + length (cat f k)) (f k)) → At code (pc + length (cat f k)) (f k)
    go (yes m) ih = ih m
    go (no m) ih = let e : k ≡ n = omega arith in rw e (at_right (cat f n) (f n) h)

-- what is fetched at an address is the instruction that stands there
pub fetch-at : {code : List Op} {pc : ℕ} {o : Op} {os : List Op} → At code pc (o ∷ os) → get_or code pc faulty ≡ o
fetch-at {code} {pc} {o} {os} h = rw h.cut (get_or_at h.pre o (os ++ h.post) faulty pc h.from)
