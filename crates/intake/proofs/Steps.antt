-- What one line does to the intake, case by case.
use Prim.Native.Nat.{◌*◌, ◌<◌, ◌≤◌}
use mathlib.Core.Path.{◌≡◌, refl}
use mathlib.Core.Bool.{true, false}
use mathlib.Core.List.{List}
use lib.IntN.{ℤ}
use lib.ListN.{length, set}
use borrow.Author.Tests.{lt-ltb, le-ltb, le-leb, lt-leb}
use Rattle.std.specs.Prelude.{Option, Some, None, is_some}
use Rattle.cells.specs.Cell.{index_of}
use Rattle.cells.specs.Limits.{table_count}
use Rattle.intake.specs.Shapes.{shape_at}
use Rattle.intake.specs.Change.{as_bad, as_too_many, with_start, with_number, with_table}
use Rattle.intake.specs.Line.{fed, is_decided, stored_of, counted_of, took_of}
use Rattle.intake.specs.declared.state.Intake.{Intake}

-- a line with a number of the latest table
module _ (i : Intake) (room : List ℤ) (z : ℤ) where
  -- a number for which there is a place is stored there
  pub stored-in : i.at < length room → stored_of (fed i room) z ≡ fed (with_number i) (set room i.at z)
  unfolding stored_of
  stored-in h = simp (lt-ltb i.at (length room) h) refl

-- a line with a row count
module _ (i : Intake) (z : ℤ) where
  -- a row count after the last table leaves the text bad
  pub counted-last : table_count ≤ i.table → counted_of i z ≡ as_bad i
  unfolding counted_of
  counted-last h = simp (le-leb table_count i.table h) refl

  -- a row count within the limit begins the next table
  pub counted-within : i.table < table_count → index_of z ≤ (shape_at i.table).limit
      → counted_of i z ≡ with_table i (index_of z * (shape_at i.table).width)
  unfolding counted_of
  counted-within h l = simp (lt-leb table_count i.table h, le-leb (index_of z) (shape_at i.table).limit l) refl

  -- a row count past the limit decides
  pub counted-past : i.table < table_count → (shape_at i.table).limit < index_of z → counted_of i z ≡ as_too_many i
  unfolding counted_of
  counted-past h l = simp (lt-leb table_count i.table h, lt-leb (index_of z) (shape_at i.table).limit l) refl

-- a whole line
module _ (i : Intake) (room : List ℤ) where
  -- what is decided stays
  pub took-decided : (number : Option ℤ) → is_decided i ≡ true → took_of (fed i room) number ≡ fed i room
  unfolding took_of
  took-decided number d = simp d refl

  module _ (d : is_decided i ≡ false) where
    -- a line that is no number leaves the text bad
    pub took-none : took_of (fed i room) None ≡ fed (as_bad i) room
    unfolding took_of
    took-none = simp d refl

    -- the first line is the start mode
    pub took-start : (z : ℤ) → is_some i.start ≡ false → took_of (fed i room) (Some z) ≡ fed (with_start i z) room
    unfolding took_of
    took-start z s = simp (d, s) refl

    -- a line is a number of the latest table, as long as some are to come
    pub took_number : (z : ℤ) → is_some i.start ≡ true → 0 < i.left → took_of (fed i room) (Some z) ≡ stored_of (fed i room) z
    unfolding took_of
    took_number z s l = simp (d, s, lt-ltb 0 i.left l) refl

    -- a line behind the last number of the latest table is the row count of the next one
    pub took-count : (z : ℤ) → is_some i.start ≡ true → i.left ≤ 0 → took_of (fed i room) (Some z) ≡ fed (counted_of i z) room
    unfolding took_of
    took-count z s l = simp (d, s, le-ltb 0 i.left l) refl
