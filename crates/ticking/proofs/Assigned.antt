-- What all copies of a driver and all ports that a task gives assign, row by row, is what the program says of them; and a driver
-- assigns nothing unless its guard holds.
use Rattle.std.proofs.Common.{◌≡◌, ℕ, Bool, true, false, eqb, List, ℤ, sym, refl, ap, ◌∙◌}
use Rattle.theory.specs.Lists.{Put, puts, those}
use Rattle.theory.proofs.Lists.{map-those}
use Rattle.cells.specs.Cell.{rows_in}
use Rattle.program.specs.Tables.{Tables, task_port_width, task_port_count, task_port_port, copy_width, copy_count, copy_driver}
use Rattle.program.specs.Sets.{may_give}
use Rattle.program.specs.Guard.{guard_of, holds}
use Rattle.program.specs.Program.{copy_row, driver_row, ports_of}
use Rattle.program.specs.Ports.{value_of, assigned, moves, drive}
use Rattle.ticking.specs.Values.{copy_put, copied, gives_row, gives_put}

-- row c of the copies is a copy of driver d
abbrev pub is_copy_of : Tables → ℕ → ℕ → Bool
is_copy_of T d c = eqb (copy_driver T c) d

module _ (T : Tables) where
  module _ (d : ℕ) (v : List ℤ) where
    -- what the rows of the copies that are the driver's assign is what the driver's copies do
    pub copies-all : (copies : List ℤ) → T.copies ≡ copies
        → puts (those (is_copy_of T d) (copy_put T v) (rows_in copy_width copies) 0) v ≡ copied T d v
    copies-all copies e =
        ap (λ (t : List ℤ). puts (those (is_copy_of T d) (copy_put T v) (rows_in copy_width t) 0) v) (sym e)
        ∙ ap (λ (l : List Put). puts l v) (sym (map-those _ (is_copy_of T d) (copy_row T) (copy_count T) 0))

    -- a guard that holds lets the driver copy
    pub drive-copies : holds (guard_of T d) (value_of v) ≡ true → copied T d v ≡ drive (driver_row T d) v
    drive-copies e = rw (e, moves) refl

    -- a guard that does not hold lets the driver do nothing
    pub drive-nothing : holds (guard_of T d) (value_of v) ≡ false → v ≡ drive (driver_row T d) v
    drive-nothing e = rw (e, moves) refl

  -- what the rows of the task ports that the task gives assign is what its ports take
  pub outputs-all : (t : ℕ) (given v task_ports : List ℤ) → T.task_ports ≡ task_ports
      → puts (those (gives_row T t) (gives_put T given) (rows_in task_port_width task_ports) 0) v
      ≡ puts (assigned (value_of given) (ports_of T (may_give T) t)) v
  unfolding gives_row
  outputs-all t given v task_ports e =
      ap (λ (l : List ℤ). puts (those (gives_row T t) (gives_put T given) (rows_in task_port_width l) 0) v) (sym e)
      ∙ ap (λ (l : List Put). puts l v) (sym (map-those _ (gives_row T t) (task_port_port T) (task_port_count T) 0))
