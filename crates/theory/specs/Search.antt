-- A test of the numbers below a bound: whether some number passes it, and the lowest that does.
use Rattle.std.specs.Prelude.{ℕ, zero, suc, ◌+◌, ◌<◌, ◌≡◌, Bool, true, false, ◌||◌, cond, Option, Some, None}

-- some number below n passes the test
unfoldable pub any : (ℕ → Bool) → ℕ → Bool
any p zero = false
any p (suc n) = any p n || p n

-- of n numbers from i on, the lowest that passes the test; i + n where none does
unfoldable pub first_from : (ℕ → Bool) → ℕ → ℕ → ℕ
first_from p zero i = i
first_from p (suc n) i = elim (p i) [ true ↦ i | false ↦ first_from p n (i + 1) ]

-- the lowest number below n that passes the test; n where none does
unfoldable pub first : (ℕ → Bool) → ℕ → ℕ
unfolding first_from
first p n = first_from p n 0

-- the lowest number below n that passes the test, if there is one
abbrev pub lowest_passing : (ℕ → Bool) → ℕ → Option ℕ
lowest_passing p n = cond (any p n) (Some (first p n)) None

-- what is asked of each number below n, by a call that may answer b, answers what the test p says
abbrev pub Tests : (ℕ → Bool → Type 0) → ℕ → (ℕ → Bool) → Type 0
Tests answers n p = (k : ℕ) → k < n → (b : Bool) → answers k b → b ≡ p k
