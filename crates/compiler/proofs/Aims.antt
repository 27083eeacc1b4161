-- The numbers in a block, and where the blocks of a round stand: they fit words where the tables are within document 01's limits.
-- Assumes that number 1 passes the tables, and that the block or the round begins early enough.
use Prim.Native.Nat.{ℕ, suc, ◌+◌, ◌*◌, ◌≤◌, ◌<◌}
use mathlib.Core.Path.{◌≡◌, ap, ◌∙◌}
use mathlib.Core.Bool.{Bool, true, false}
use mathlib.Core.List.{List}
use native.Mathlib.Omega.{arith}
use native.Mathlib.Nat.{mul-le-mul_right}
use lib.Dec.{eqb}
use lib.ListN.{length}
use Rattle.theory.specs.Lists.{sum}
use Rattle.theory.proofs.Lists.{sum-most}
use Rattle.cells.specs.Cell.{greatest_word}
use Rattle.cells.specs.Limits.{max_units}
use Rattle.program.specs.Tables.{Tables}
use Rattle.program.specs.Sets.{sensor_rows}
use Rattle.rules.specs.Shape.{shape_bad}
use Rattle.layout.specs.declared.counts.Counts.{Counts}
use Rattle.layout.specs.Counts.{counts_in, size_of, most_block, most_mode}
use Rattle.layout.specs.Few.{Sized}
use Rattle.layout.proofs.Limits.{block-most}
use Rattle.words.specs.Written.{Written}
use Rattle.writing.specs.Block.{Aimed, counts_at}
use Rattle.layout.specs.declared.counts.Instant.{Instant}
use Rattle.compiler.specs.Rounds.{unit_of, next_in, aim_in, block_in, block_start}
use Rattle.compiler.specs.declared.rounds.Round.{Round}
use Rattle.writing.proofs.Parts.{sized, parts-count}
use Rattle.compiler.proofs.Grown.{Grown, grown-at}

-- the next block is within a bound that the first block and the end of this one keep
next-most : (round : Round) (k end b : ℕ) → round.first ≤ b → end ≤ b → next_in round k end ≤ b
next-most round k end b l h = go (eqb (suc k) round.units)
  where
    go : (t : Bool) → elim t as (λ t. ℕ) [ true ↦ round.first | false ↦ end ] ≤ b
    go true = l
    go false = h

-- the numbers in a block fit words
pub aimed : (round : Round) (k at : ℕ) (due : Counts) → round.ticks ≤ greatest_word → round.first ≤ greatest_word → at + most_block < greatest_word → Sized due
    → Aimed (aim_in round k at due)
aimed round k at due t f l s =
    record {
      stub = omega (arith, s);
      ticks = t;
      next = next-most round k (at + size_of due) greatest_word f (omega (arith, block-most due s));
    }

-- what was counted of the tables with the sensors that they declare is what is due at the unit
pub counted_at : (T : Tables) (w : Instant) {sensors : ℕ} {due : Counts}
    → due ≡ counts_in T.invocations T.updates T.switches sensors w.mode.0 w.units w.unit → sensors ≡ length (sensor_rows T.ports (λ p. p))
    → due ≡ counts_at T w
counted_at T w e s = e ∙ ap (λ (n : ℕ). counts_in T.invocations T.updates T.switches n w.mode.0 w.units w.unit) s

module _ (T : Tables) (round : Round) where
  -- a block is as long as its size says, wherever it stands
  pub block-length : (entries : List ℕ) (k at : ℕ) → length (block_in T entries round k at) ≡ size_of (counts_at T (unit_of round k))
  block-length entries k at = parts-count T (unit_of round k) entries (aim_in round k at (counts_at T (unit_of round k)))

  -- no block of a round begins later than the longest blocks before it would end
  start-most : shape_bad T ≡ false → (k : ℕ) → block_start T round k ≤ round.first + k * most_block
  start-most e k =
      omega (arith, sum-most (λ j. size_of (counts_at T (unit_of round j))) most_block k (λ j l. block-most _ (sized T (unit_of round j) e)))

  -- each block of a round ends within the longest mode
  pub start-before : shape_bad T ≡ false → (k : ℕ) → k < suc max_units → block_start T round k + most_block ≤ round.first + most_mode
  start-before e k l = omega (arith, start-most e k, mul-le-mul_right {m = suc k} {n = suc max_units} most_block l)

  -- a loop that has written the blocks before that of unit k is where this one stands
  pub round_at : (entries : List ℕ) {n k : ℕ} {start here : Written}
      → Grown (λ k. block_in T entries round k (block_start T round k)) n k start here → here.at ≡ start.at + sum (λ j. size_of (counts_at T (unit_of round j))) k
  round_at entries w =
      grown-at w (λ j. size_of (counts_at T (unit_of round j))) (λ k l. block-length entries k (block_start T round k))
