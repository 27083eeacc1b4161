-- How long the pieces of the listing are, and the length rule of document 01.
-- Assumes of the rule that the units of each mode are a multiple of each of its frequencies (`Whole`).
use Prim.Native.Nat.{ℕ, suc, ◌+◌, ◌*◌, ◌/◌, ◌≤◌, ◌<◌}
use mathlib.Core.Path.{◌≡◌, refl, ap, ◌∙◌}
use mathlib.Core.List.{List, [], ◌∷◌}
use native.Mathlib.Omega.{arith}
use lib.ListN.{length, length-append, length-map}
use Rattle.theory.specs.Lists.{keep, Every, sum}
use Rattle.theory.proofs.Lists.{bit, sum_same, sum-add, sum-const, sum-zero, cat-length, keep-length}
use Rattle.theory.proofs.Due.{due-times}
use Rattle.program.specs.Units.{due}
use Rattle.program.specs.Program.{Program, Mode, Invocation, Update, Switch, mode, due_invocations, due_updates, due_switches}
use Rattle.code.specs.Listing.{head_size, block_size, mode_size, mode_address, head_of, tests_of, body_of, stubs_of, block_code, mode_code}
use Rattle.code.specs.Listing.{listing, frequencies, mode_length, length_rule}

-- u units are a multiple of the frequency f
abbrev pub Fits : ℕ → ℕ → Type 0
Fits u f = (u / f) * f ≡ u

-- a mode has a unit, and its units are a multiple of each frequency
pub record WholeMode (M : Mode) : Type 0 where
  pub some : 1 ≤ M.units
  pub invocations : Every (λ r. Fits M.units r.frequency) M.invocations
  pub updates : Every (λ r. Fits M.units r.frequency) M.updates
  pub switches : Every (λ r. Fits M.units r.frequency) M.switches

-- every declared mode has a unit, and its units are a multiple of each of its frequencies
abbrev pub WholeUnits : Program → Type 0
WholeUnits P = (m : ℕ) → m < length P.modes → WholeMode (mode P m)

-- there is a test for each switch
pub tests-length : (ws : List Switch) (a : ℕ) → length (tests_of ws a) ≡ length ws
tests-length [] a = refl
tests-length (w ∷ ws) a = ap suc (tests-length ws (2 + a))

-- the stubs are two instructions for each switch
pub stubs-length : (P : Program) (k : ℕ) (ws : List Switch) → length (stubs_of P k ws) ≡ 2 * length ws
stubs-length P k [] = refl
stubs-length P k (w ∷ ws) = omega (arith, stubs-length P k ws)

-- what stands before the switch tests is as long as its size says
pub head-length : (P : Program) (M : Mode) (k : ℕ) → length (head_of P M k) ≡ head_size P M k
head-length P M k = simp (length-append, length-map)

-- between the entry and the `future` stand two instructions for each due task
pub body-length : (M : Mode) (k : ℕ) → length (body_of M k) ≡ 2 * length (due_invocations M k)
body-length M k = simp (length-append, length-map) (omega arith)

-- a block is as long as its size says
pub block-length : (P : Program) (m k : ℕ) → length (block_code P m k) ≡ block_size P (mode P m) k
block-length P m k = simp (length-append, length-map, tests-length, stubs-length) (omega arith)

-- a mode is as long as its size says
pub mode-length : (P : Program) (m : ℕ) → length (mode_code P m) ≡ mode_size P (mode P m)
mode-length P m = cat-length (block_code P m) (block_size P (mode P m)) (mode P m).units (λ k l. block-length P m k)

-- the listing ends where one mode more would begin
pub listing-length : (P : Program) → length (listing P) ≡ mode_address P (length P.modes)
unfolding listing
listing-length P =
    omega (arith, cat-length (mode_code P) (λ i. mode_size P (mode P i)) (length P.modes) (λ m l. mode-length P m))

-- over the units of a mode, rows are due as often as their frequencies add up to
pub due-counts : {A : Type 0} (frequency : A → ℕ) (u : ℕ) (xs : List A) → 1 ≤ u → Every (λ x. Fits u (frequency x)) xs
    → sum (λ k. length (keep (λ x. due u (frequency x) k) xs)) u ≡ frequencies frequency xs
due-counts frequency u [] h w = sum-zero u
due-counts frequency u (x ∷ xs) h w =
    sum_same _ (λ k. bit (due u (frequency x) k) + length (keep (λ x. due u (frequency x) k) xs)) u
    (λ k l. keep-length (λ x. due u (frequency x) k) x xs)
    ∙ omega (
      arith,
      sum-add (λ k. bit (due u (frequency x) k)) (λ k. length (keep (λ x. due u (frequency x) k) xs)) u,
      due-times u (frequency x) h w.0,
      due-counts frequency u xs h w.1,
    )

-- the blocks of a whole mode are as long as the length rule says of it
pub mode-rule : (P : Program) (M : Mode) → WholeMode M → mode_size P M ≡ mode_length P M
mode-rule P M o =
    sum_same (block_size P M) (λ k. i k + (i k + (i k + (u k + (w k + (w k + (w k + (length P.sensors + 2)))))))) n (λ k l. omega arith)
    ∙ simp (sum-add, sum-const)
    (omega (
      arith,
      due-counts (λ (r : Invocation). r.frequency) n M.invocations o.some o.invocations,
      due-counts (λ (r : Update). r.frequency) n M.updates o.some o.updates,
      due-counts (λ (r : Switch). r.frequency) n M.switches o.some o.switches,
    ))
  where
    n : ℕ
    n = M.units

    i : ℕ → ℕ
    i k = length (due_invocations M k)

    u : ℕ → ℕ
    u k = length (due_updates M k)

    w : ℕ → ℕ
    w k = length (due_switches M k)

-- the length rule: "1 plus, per mode, 3 × the sum of task and switch frequencies + the sum of update frequencies + units × (sensors + 2)"
pub length-rule : (P : Program) → WholeUnits P → length (listing P) ≡ length_rule P
length-rule P o =
    omega (
      arith,
      listing-length P,
      sum_same (λ m. mode_size P (mode P m)) (λ m. mode_length P (mode P m)) (length P.modes) (λ m l. mode-rule P (mode P m) (o m l)),
    )
