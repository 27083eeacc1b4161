-- The shape of a table by its number: as the code has it, none past the last table, and small enough that no product wraps.
use Prim.Native.Nat.{ℕ, ◌*◌, ◌≤◌}
use mathlib.Core.Path.{◌≡◌}
use mathlib.Core.List.{map}
use native.Mathlib.Nat.{mul-le-mul}
use native.Mathlib.Omega.{arith}
use lib.ListN.{get_or, get_or-map, get_or-eq_default}
use Rattle.theory.specs.Lists.{Every}
use Rattle.theory.proofs.Lists.{every-at}
use Rattle.cells.specs.Cell.{widest}
use Rattle.cells.specs.Limits.{table_count, max_copies}
use Rattle.text.specs.Input.{Shape, shapes}
use Rattle.intake.specs.Shapes.{no_shape, shape_at}

-- the width of a table is that of the code's list
pub width-at : (k : ℕ) → get_or (map (λ (s : Shape). s.width) shapes) k 0 ≡ (shape_at k).width
unfolding shape_at
width-at k = get_or-map (λ (s : Shape). s.width) shapes k no_shape

-- the limit of a table is that of the code's list
pub limit-at : (k : ℕ) → get_or (map (λ (s : Shape). s.limit) shapes) k 0 ≡ (shape_at k).limit
unfolding shape_at
limit-at k = get_or-map (λ (s : Shape). s.limit) shapes k no_shape

-- past the last table there is no shape
pub shape-past : (k : ℕ) → table_count ≤ k → shape_at k ≡ no_shape
unfolding shape_at
shape-past k h = get_or-eq_default shapes no_shape h

-- no table has more columns or rows than these
abbrev Small : Shape → Type 0
Small s = (s.width ≤ widest) × (s.limit ≤ max_copies)

-- none of the ten tables has more columns or rows than these
all_small : Every Small shapes
all_small = search arith

-- no table has more columns or rows than these, whatever its number
pub shape-small : (k : ℕ) → Small (shape_at k)
unfolding shape_at
shape-small k = every-at Small shapes no_shape (omega arith, omega arith) all_small k

-- so many rows as a table may have do not have too many numbers
pub numbers-small : (k rows : ℕ) → rows ≤ (shape_at k).limit → rows * (shape_at k).width ≤ max_copies * widest
numbers-small k rows h =
    let small = shape-small k in
    mul-le-mul {n₁ = rows} {m₁ = (shape_at k).width} {n₂ = max_copies} {m₂ = widest} (omega arith) small.0
