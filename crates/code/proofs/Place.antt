-- Where the pieces of the listing stand; blocks stand apart, so an address is in one block only; what stands at the `future` of a unit.
-- Assumes of a block that its mode is declared and has its unit.
use Prim.Native.Nat.{ℕ, ◌+◌, ◌≤◌, ◌<◌}
use mathlib.Core.Path.{◌≡◌, refl, ap, sym, subst}
use mathlib.Core.List.{List, [], ◌∷◌, ◌++◌, append-nil}
use mathlib.Core.Option.{some}
use native.Mathlib.Omega.{arith}
use native.Mathlib.Decide.{dec_lt}
use lib.ListN.{length, get_or}
use Rattle.theory.specs.Lists.{cat}
use Rattle.theory.proofs.Lists.{sum-apart, cat-length}
use Rattle.program.specs.Program.{Program, Switch, mode, ticks_of, next_unit, due_switches}
use Rattle.code.specs.Op.{Op, jump, future, faulty}
use Rattle.code.specs.Listing.{head_size, block_size, mode_size, mode_address, block_address, entry_address, future_address, head_of}
use Rattle.code.specs.Listing.{tests_of, body_of, end_of, stubs_of, block_code, mode_code, listing}
use Rattle.code.specs.Compile.{future_delay, delay_at}
use Rattle.code.proofs.Length.{tests-length, head-length, body-length, block-length, mode-length}
use Rattle.code.proofs.At.{At, at_left, at_right, at_tail, at-move, at-within, at-cat, fetch-at}

-- at address 0 stands a jump to unit 0 of the start mode, and then the modes
pub start-at : (P : Program) → At (listing P) 0 (jump (block_address P P.start 0) ∷ cat (mode_code P) (length P.modes))
unfolding listing
start-at P = record { pre = []; post = []; cut = simp append-nil; from = refl }

-- a declared mode stands at its address
pub mode-at : (P : Program) (m : ℕ) → m < length P.modes → At (listing P) (mode_address P m) (mode_code P m)
mode-at P m h =
    at-move (mode_address P m) (omega (arith, cat-length (mode_code P) (λ i. mode_size P (mode P i)) m (λ i l. mode-length P i)))
    (at-cat (mode_code P) (length P.modes) m h (at_tail (start-at P)))

-- each block of a declared mode stands at its address
pub block_at : (P : Program) (m k : ℕ) → m < length P.modes → k < (mode P m).units → At (listing P) (block_address P m k) (block_code P m k)
block_at P m k h l =
    at-move (block_address P m k) (omega (arith, cat-length (block_code P m) (block_size P (mode P m)) k (λ j q. block-length P m j)))
    (at-cat (block_code P m) (mode P m).units k l (mode-at P m h))

-- the parts of the block of unit k of mode m stand at their addresses
pub record Placed (P : Program) (m k : ℕ) : Type 0 where
  pub head_at : At (listing P) (block_address P m k) (head_of P (mode P m) k)
  pub tests-at : At (listing P) (block_address P m k + head_size P (mode P m) k) (tests_of (due_switches (mode P m) k) (2 + future_address P m k))
  pub body_at : At (listing P) (entry_address P m k) (body_of (mode P m) k)
  pub end-at : At (listing P) (future_address P m k) (end_of P m k)
  pub stubs-at : At (listing P) (2 + future_address P m k) (stubs_of P k (due_switches (mode P m) k))

-- the parts of each block of a declared mode stand at their addresses
pub placed : (P : Program) (m k : ℕ) → m < length P.modes → k < (mode P m).units → Placed P m k
placed P m k h l = record {
  head_at = at_left hd _ b₀;
  tests-at = at_left ts _ b₁;
  body_at = at_left bd _ b₂;
  end-at = at_left (end_of P m k) _ b₃;
  stubs-at = at-move (2 + future_address P m k) (omega arith) (at_right (end_of P m k) _ b₃);
}
  where
    ws : List Switch
    ws = due_switches (mode P m) k

    hd : List Op
    hd = head_of P (mode P m) k

    ts : List Op
    ts = tests_of ws (2 + future_address P m k)

    bd : List Op
    bd = body_of (mode P m) k

    b₀ : At (listing P) (block_address P m k) (block_code P m k)
    b₀ = block_at P m k h l

    b₁ : At (listing P) (block_address P m k + head_size P (mode P m) k) (ts ++ (bd ++ (end_of P m k ++ stubs_of P k ws)))
    b₁ = at-move (block_address P m k + head_size P (mode P m) k) (omega (arith, head-length P (mode P m) k)) (at_right hd _ b₀)

    b₂ : At (listing P) (entry_address P m k) (bd ++ (end_of P m k ++ stubs_of P k ws))
    b₂ = at-move (entry_address P m k) (omega (arith, tests-length ws (2 + future_address P m k))) (at_right ts _ b₁)

    b₃ : At (listing P) (future_address P m k) (end_of P m k ++ stubs_of P k ws)
    b₃ = at-move (future_address P m k) (omega (arith, body-length (mode P m) k)) (at_right bd _ b₂)

-- a block ends within the listing
pub block_within : (P : Program) (m k : ℕ) → m < length P.modes → k < (mode P m).units
    → block_address P m k + block_size P (mode P m) k ≤ length (listing P)
block_within P m k h l = omega (arith, at-within (block_at P m k h l), block-length P m k)

-- address a is one of the block of unit k of mode m
pub record InBlock (P : Program) (m k a : ℕ) : Type 0 where
  pub begins : block_address P m k ≤ a
  pub ends : a < block_address P m k + block_size P (mode P m) k

-- a unit's block ends before a later unit's begins
pub units-apart : (P : Program) (m k k' : ℕ) → k < k' → block_address P m k + block_size P (mode P m) k ≤ block_address P m k'
units-apart P m k k' l = omega (arith, sum-apart (block_size P (mode P m)) k k' l)

-- a block ends before any block of a later mode begins
pub modes-apart : (P : Program) (m k m' k' : ℕ) → k < (mode P m).units → m < m'
    → block_address P m k + block_size P (mode P m) k ≤ block_address P m' k'
modes-apart P m k m' k' l h =
    omega (arith, sum-apart (block_size P (mode P m)) k (mode P m).units l, sum-apart (λ i. mode_size P (mode P i)) m m' h)

-- an address is in one block only
pub block-once : (P : Program) (m k m' k' a : ℕ) → k < (mode P m).units → k' < (mode P m').units → InBlock P m k a → InBlock P m' k' a
    → (m ≡ m') × (k ≡ k')
block-once P m k m' k' a l l' w w' = go (dec_lt m m') (dec_lt m' m)
  where
    same : m ≡ m' → InBlock P m k' a → Dec (k < k') → Dec (k' < k) → (m ≡ m') × (k ≡ k')
    same e v (yes h) t = absurd (omega (arith, units-apart P m k k' h))
    same e v (no h) (yes t) = absurd (omega (arith, units-apart P m k' k t))
    same e v (no h) (no t) = (e, omega arith)

    go : Dec (m < m') → Dec (m' < m) → (m ≡ m') × (k ≡ k')
    go (yes h) t = absurd (omega (arith, modes-apart P m k m' k' l h))
    go (no h) (yes t) = absurd (omega (arith, modes-apart P m' k' m k l' t))
    go (no h) (no t) =
        let e : m ≡ m' = omega arith in same e (subst (λ n. InBlock P n k' a) (sym e) w') (dec_lt k k') (dec_lt k' k)

-- the `future` of a unit is in its block
pub future-in-block : (P : Program) (m k : ℕ) → InBlock P m k (future_address P m k)
future-in-block P m k = record { begins = omega arith; ends = omega arith }

-- the `future`s of two units stand at two addresses
pub future-once : (P : Program) (m k m' k' : ℕ) → k < (mode P m).units → k' < (mode P m').units → future_address P m k ≡ future_address P m' k'
    → (m ≡ m') × (k ≡ k')
future-once P m k m' k' l l' e =
    block-once P m k m' k' (future_address P m k) l l' (future-in-block P m k) (rw e (future-in-block P m' k'))

-- the `future` of a unit has one unit's ticks and the block of the next unit
pub future-there : (P : Program) (m k : ℕ) → m < length P.modes → k < (mode P m).units
    → get_or (listing P) (future_address P m k) faulty ≡ future (ticks_of (mode P m)) (block_address P m (next_unit (mode P m) k))
future-there P m k h l = fetch-at (placed P m k h l).end-at

-- the delay of the `future` of a unit is one unit's ticks
pub delay-there : (P : Program) (m k : ℕ) → m < length P.modes → k < (mode P m).units
    → delay_at (listing P) (future_address P m k) ≡ some (ticks_of (mode P m))
delay-there P m k h l = ap future_delay (future-there P m k h l)
