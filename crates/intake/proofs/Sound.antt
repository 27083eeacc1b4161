-- What holds of the intake after any lines: the tables lie in the room one after the other, and there is room for those to come.
use Prim.Native.Nat.{ℕ, ◌+◌, ◌*◌, ◌<◌, ◌≤◌}
use mathlib.Core.Path.{◌≡◌, refl, ap, ◌∙◌}
use mathlib.Core.Bool.{true, false}
use mathlib.Core.List.{◌∷◌}
use native.Mathlib.Decide.{dec_lt}
use native.Mathlib.Nat.{mul-le-mul_right}
use native.Mathlib.Numerals.{add-one}
use native.Mathlib.Omega.{arith}
use lib.IntN.{ℤ}
use lib.ListN.{length, drop, length-set}
use lib.Seq.{drop-cons, get_or-set_same, get_or-set_other}
use Rattle.std.specs.Prelude.{is_some}
use Rattle.theory.proofs.Bools.{clash}
use Rattle.cells.specs.Limits.{table_count}
use Rattle.text.specs.Input.{shapes}
use Rattle.intake.specs.Shapes.{no_shape, shape_at, room_for}
use Rattle.intake.specs.Change.{nowhere, as_bad, as_too_many, with_start, with_number, with_table}
use Rattle.intake.specs.declared.state.Intake.{Intake}
use Rattle.intake.specs.declared.state.Span.{Span}
use Rattle.intake.proofs.Pieces.{end_of}

-- before the start mode no table was begun; every table that was begun ends where its last number will be; a room of n numbers has
-- places for those and for all tables to come
pub record Sound (i : Intake) (n : ℕ) : Type 0 where
  pub fresh : is_some i.start ≡ false → (i.table ≡ 0) × (i.left ≡ 0)
  pub few : i.table ≤ table_count
  pub spans-all : length i.spans ≡ table_count
  pub apart : (k : ℕ) → k < i.table → end_of i k ≤ i.at + i.left
  pub enough : i.at + i.left + room_for (drop i.table shapes) ≤ n

-- the shapes that are left are that of the next table and those after it
pub next-shape : (k : ℕ) → k < table_count → drop k shapes ≡ shape_at k ∷ drop (k + 1) shapes
unfolding shape_at
next-shape k h = rw (add-one k) (drop-cons shapes k no_shape h)

module _ (i : Intake) (n : ℕ) (s : Sound i n) where
  -- the intake of a bad text is sound
  pub sound-bad : Sound (as_bad i) n
  sound-bad =
      record { fresh = s.fresh; few = s.few; spans-all = s.spans-all; apart = s.apart; enough = s.enough }

  -- the intake of a text with a count out of its limit is sound
  pub sound-many : Sound (as_too_many i) n
  sound-many =
      record { fresh = s.fresh; few = s.few; spans-all = s.spans-all; apart = s.apart; enough = s.enough }

  -- the intake after the start mode is sound
  pub sound-start : (z : ℤ) → Sound (with_start i z) n
  sound-start z =
      record {
        fresh = λ e. clash {b = true} refl e;
        few = s.few;
        spans-all = s.spans-all;
        apart = s.apart;
        enough = s.enough;
      }

  -- a number of the latest table has a place
  pub sound-place : 0 < i.left → i.at < n
  sound-place h = omega (arith, s.enough)

  -- the intake after a number of the latest table is sound
  pub sound-number : 0 < i.left → is_some i.start ≡ true → Sound (with_number i) n
  sound-number h e =
      record {
        fresh = λ f. clash e f;
        few = s.few;
        spans-all = s.spans-all;
        apart = λ k b. omega (arith, s.apart k b);
        enough = omega (arith, s.enough);
      }

  -- the next table has a row count within the limit
  module _ (rows : ℕ) (next : i.table < table_count) (none_left : i.left ≤ 0) (e : is_some i.start ≡ true)
      (h : rows ≤ (shape_at i.table).limit) where
    -- how many numbers the next table has
    abbrev numbers : ℕ
    numbers = rows * (shape_at i.table).width

    -- every table that was begun ends no later than the next one
    apart_more : (k : ℕ) → k < i.table + 1 → end_of (with_table i numbers) k ≤ i.at + numbers
    apart_more k b = go (dec_lt k i.table)
      where
        go : Dec (k < i.table) → end_of (with_table i numbers) k ≤ i.at + numbers
        go (yes l) =
            let e = get_or-set_other i.spans i.table k (record { from = i.at; len = numbers }) nowhere (λ q. omega (arith, q)) in
            omega (arith, s.apart k l, ap (λ (p : Span). p.from + p.len) e)
        go (no l) =
            let q : k ≡ i.table = omega arith in
            let e = get_or-set_same i.spans i.table (record { from = i.at; len = numbers }) nowhere (omega (arith, s.spans-all)) in
            rw q (omega (arith, ap (λ (p : Span). p.from + p.len) e))

    -- the intake after a row count within the limit is sound: there is room for the tables to come
    pub sound-table : Sound (with_table i numbers) n
    sound-table =
        record {
          fresh = λ f. clash e f;
          few = omega arith;
          spans-all = length-set i.spans i.table (record { from = i.at; len = numbers }) ∙ s.spans-all;
          apart = apart_more;
          enough = omega (arith, s.enough, ap room_for (next-shape i.table next), mul-le-mul_right (shape_at i.table).width h);
        }
