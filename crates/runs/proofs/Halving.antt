-- A search by halving for the lowest number from `from` on, below n, that passes a test: what is known before each number that it
-- asks, what it finds, how many it asks. Assumes, of what is found, that numbers above one that passes do too.
use Prim.Native.Nat.{ℕ, zero, suc, ◌+◌, ◌-◌, ◌/◌, ◌≤◌, ◌<◌}
use mathlib.Core.Path.{◌≡◌, refl}
use mathlib.Core.Bool.{Bool, true, false}
use native.Mathlib.Omega.{arith}
use native.Mathlib.Decide.{dec_lt}
use Rattle.theory.specs.Search.{first_from}
use Rattle.theory.proofs.Search.{Finds, finds}
use Rattle.theory.proofs.Bools.{clash}
use Rattle.cells.specs.Limits.{max_schedule}

-- below n, the numbers above one that passes the test pass it
abbrev pub Rising : (ℕ → Bool) → ℕ → Type 0
Rising p n = (j i : ℕ) → j ≤ i → i < n → p j ≡ true → p i ≡ true

module _ (p : ℕ → Bool) (n from : ℕ) where
  -- what a search knows: the numbers before `low` do not pass, those from `high` on do
  pub record Halved (low high : ℕ) : Type 0 where
    pub before : (i : ℕ) → from ≤ i → i < low → p i ≡ false
    pub after : (i : ℕ) → high ≤ i → i < n → p i ≡ true

  module _ (low high middle : ℕ) (r : Rising p n) (h : Halved low high) where
    -- a number that passes is the new `high`
    pub halved-down : p middle ≡ true → Halved low middle
    halved-down e = record { before = h.before; after = λ i l u. r middle i l u e }

    -- above a number that does not pass is the new `low`
    pub halved-up : middle < n → p middle ≡ false → Halved (middle + 1) high
    halved-up l e = record { before = λ i u v. go i (omega arith) (p i) refl; after = h.after }
      where
        go : (i : ℕ) → i ≤ middle → (b : Bool) → p i ≡ b → p i ≡ false
        go i u true q = clash (r i middle u l q) e
        go i u false q = q

  -- once nothing is left between, it has found the lowest number that passes
  pub halved-all : (low high : ℕ) → from ≤ low → low ≤ n → high ≤ low → Halved low high → low ≡ first_from p (n - from) from
  halved-all low high u v w h =
      let f = finds p (n - from) from in
      go (first_from p (n - from) from) f (dec_lt low (first_from p (n - from) from)) (dec_lt (first_from p (n - from) from) low)
    where
      go : (least : ℕ) → Finds p (n - from) from least → Dec (low < least) → Dec (least < low) → low ≡ least
      go least f (yes l) d = clash (h.after low w (omega (arith, f.high))) (f.least low u l)
      go least f (no l) (yes m) = clash (f.has (omega arith)) (h.before least f.low m)
      go least f (no l) (no m) = omega arith

-- how many of n numbers a search by halving asks, at most; n is within `most`
unfoldable pub halvings_within : ℕ → ℕ → ℕ
halvings_within zero n = 0
halvings_within (suc most) zero = 0
halvings_within (suc most) (suc n) = suc (halvings_within most (suc n / 2))

unfoldable pub halvings : ℕ → ℕ
halvings n = halvings_within n n

-- of fewer numbers it asks no more
within-mono : (k l n m : ℕ) → n ≤ k → m ≤ l → n ≤ m → halvings_within k n ≤ halvings_within l m
unfolding halvings_within
within-mono zero l n m a b c = omega arith
within-mono (suc k) l zero m a b c = omega arith
within-mono (suc k) zero (suc n) m a b c = absurd (omega arith)
within-mono (suc k) (suc l) (suc n) zero a b c = absurd (omega arith)
within-mono (suc k) (suc l) (suc n) (suc m) a b c =
    let h = within-mono k l (suc n / 2) (suc m / 2) (omega arith) (omega arith) (omega arith) in
    omega (arith, h)

-- of at most half the numbers it asks fewer
pub halvings-less : (n m : ℕ) → 0 < n → m ≤ n / 2 → halvings m < halvings n
unfolding halvings halvings_within
halvings-less zero m l u = absurd (omega arith)
halvings-less (suc n) m l u =
    let h = within-mono m n m (suc n / 2) (omega arith) (omega arith) u in
    omega (arith, h)

-- the most rows that it asks of a joined schedule
abbrev pub most_asked : ℕ
most_asked = 12

pub few-halvings : (n : ℕ) → n ≤ max_schedule → halvings n ≤ most_asked
unfolding halvings halvings_within
few-halvings n l = within-mono n max_schedule n max_schedule (omega arith) (omega arith) l
