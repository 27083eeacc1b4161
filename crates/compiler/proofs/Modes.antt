-- The modes of a program, as they are written: the blocks of one are those of its round, and as long as the layout counts.
use Prim.Native.Nat.{ℕ, ◌/◌}
use mathlib.Core.Path.{◌≡◌}
use mathlib.Core.List.{List}
use lib.ListN.{length}
use Rattle.theory.proofs.Lists.{cat-length}
use Rattle.cells.specs.declared.kinds.Mode.{Mode}
use Rattle.program.specs.Tables.{Tables, mode_period}
use Rattle.program.specs.Sets.{sensor_rows}
use Rattle.program.specs.Units.{units}
use Rattle.layout.specs.Counts.{size_of}
use Rattle.layout.specs.Layout.{size_in}
use Rattle.writing.specs.Block.{counts_at}
use Rattle.compiler.specs.Rounds.{unit_of, block_in, block_start, round_in}
use Rattle.compiler.specs.Modes.{round_of, mode_in, mode_start}
use Rattle.words.specs.Written.{Written, written}
use Rattle.compiler.proofs.Aims.{block-length}
use Rattle.compiler.proofs.Grown.{Grown, grown-at}

-- the blocks of a round with the units and the ticks of a mode are the blocks of that mode
pub mode-told : (T : Tables) (entries : List ℕ) (m : Mode) {u period : ℕ} (at : ℕ) → u ≡ units T m.0 → period ≡ mode_period T m.0
    → round_in T entries (record { mode = m; units = u; ticks = period / u; first = at }) ≡ mode_in T entries m.0 at
mode-told T entries m at q p = λ j. round_in T entries (record { mode = m; units = q j; ticks = p j / q j; first = at })

-- a mode is as long as its size says
pub mode-length : (T : Tables) (entries : List ℕ) (m at : ℕ) → length (mode_in T entries m at) ≡ size_in T (length (sensor_rows T.ports (λ p. p))) m
mode-length T entries m at =
    cat-length (λ k. block_in T entries (round_of T m at) k (block_start T (round_of T m at) k))
    (λ k. size_of (counts_at T (unit_of (round_of T m at) k))) (units T m)
    (λ k l. block-length T (round_of T m at) entries k (block_start T (round_of T m at) k))

-- a loop that has written the modes before mode m, behind the jump, is where this one stands
pub modes_at : (T : Tables) (entries : List ℕ) {n m : ℕ} {code : List ℕ} {here : Written}
    → Grown (λ m. mode_in T entries m (mode_start T m)) n m (written code 1) here → here.at ≡ mode_start T m
modes_at T entries w =
    grown-at w (size_in T (length (sensor_rows T.ports (λ p. p)))) (λ k l. mode-length T entries k (mode_start T k))
