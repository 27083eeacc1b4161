-- An instant of the compiled code needs fewer instructions than the listing has: without a switch it stays in one block, with a switch
-- it passes what stands before the entry of one block, two instructions of a stub, and what stands behind the entry of another or the
-- same. Assumes that the modes are declared and have the units.
use Prim.Native.Nat.{ℕ, ◌+◌, ◌*◌, ◌≤◌, ◌<◌}
use mathlib.Core.Path.{◌≡◌, sym, subst}
use native.Mathlib.Omega.{arith}
use native.Mathlib.Decide.{dec_lt}
use lib.ListN.{length}
use Rattle.program.specs.Program.{Program, mode, due_invocations, due_switches}
use Rattle.code.specs.Listing.{head_size, listing}
use Rattle.code.proofs.Place.{block_within, units-apart, modes-apart}

-- how many instructions of a block stand before its entry: the head and the switch tests
abbrev pub before_entry : Program → ℕ → ℕ → ℕ
before_entry P m k = head_size P (mode P m) k + length (due_switches (mode P m) k)

-- how many instructions of a block stand between its entry and its stubs: the body, `future` and `return`
abbrev pub behind_entry : Program → ℕ → ℕ → ℕ
behind_entry P m k = 2 * length (due_invocations (mode P m) k) + 2

module _ (P : Program) (m k : ℕ) (h : m < length P.modes) (l : k < (mode P m).units) where
  -- an instant without a switch needs fewer instructions than the listing has
  pub staying : before_entry P m k + behind_entry P m k < length (listing P)
  staying = omega (arith, block_within P m k h l)

  -- an instant with a switch, one of those that are due, needs fewer instructions than the listing has
  pub turning : (m' k' : ℕ) → m' < length P.modes → k' < (mode P m').units → 1 ≤ length (due_switches (mode P m) k)
      → before_entry P m k + 2 + behind_entry P m' k' < length (listing P)
  turning m' k' h' l' w = go (dec_lt m m') (dec_lt m' m)
    where
      same : k' < (mode P m).units → Dec (k < k') → Dec (k' < k) → before_entry P m k + 2 + behind_entry P m k' < length (listing P)
      same l' (yes s) t = omega (arith, units-apart P m k k' s, block_within P m k' h l')
      same l' (no s) (yes t) = omega (arith, units-apart P m k' k t, block_within P m k h l)
      same l' (no s) (no t) =
          let e : k ≡ k' = omega arith in
          subst (λ (n : ℕ). before_entry P m k + 2 + behind_entry P m n < length (listing P)) e (omega (arith, block_within P m k h l))

      go : Dec (m < m') → Dec (m' < m) → before_entry P m k + 2 + behind_entry P m' k' < length (listing P)
      go (yes s) t = omega (arith, modes-apart P m k m' k' l s, block_within P m' k' h' l')
      go (no s) (yes t) = omega (arith, modes-apart P m' k' m k l' t, block_within P m k h l)
      go (no s) (no t) =
          let e : m ≡ m' = omega arith in
          subst (λ (n : ℕ). before_entry P m k + 2 + behind_entry P n k' < length (listing P)) e
          (same (subst (λ (n : ℕ). k' < (mode P n).units) (sym e) l') (dec_lt k k') (dec_lt k' k))
