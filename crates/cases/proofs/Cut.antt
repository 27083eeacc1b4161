-- A slice that is longer than its buffer, of one row more than the limit or one number more than the length that it must have, is number 1,
-- whole and cut to the buffer.
use Prim.Native.Nat.{ℕ, ◌+◌, ◌*◌, ◌/◌, ◌%◌, ◌≤◌, ◌<◌}
use mathlib.Core.Path.{◌≡◌, refl, ap}
use mathlib.Core.Bool.{true, not, or-true}
use mathlib.Core.List.{List}
use native.Mathlib.Nat.{le-div_iff_mul-le}
use native.Mathlib.Omega.{arith}
use lib.Dec.{eqb, ltb}
use lib.ListN.{length, take, replicate, length-take}
use lib.Seq.{length-take-le}
use borrow.Author.Tests.{lt-ltb, ne_eqb}
use Rattle.cells.specs.Limits.{max_modes, max_ports}
use Rattle.program.specs.Tables.{mode_width}
use Rattle.rules.specs.Shape.{bad_slice, bad_length}

module _ {A : Type 0} (width limit : ℕ) (some : 1 ≤ width) where
  -- one row more than the limit is too many
  pub too_long : (t : List A) → (limit + 1) * width ≤ length t → bad_slice width limit t ≡ true
  unfolding bad_slice
  too_long t h =
      let rows : limit + 1 ≤ length t / width = (le-div_iff_mul-le some).1 h in
      let more : ltb limit (length t / width) ≡ true = lt-ltb limit (length t / width) (omega arith) in
      simp more (or-true (not (eqb (length t % width) 0)))

  -- a buffer of so many rows, or more, keeps of a slice that is too long one that is too long
  pub cut-too-long : (cap : ℕ) (t : List A) → (limit + 1) * width ≤ cap → cap < length t
      → (bad_slice width limit (take cap t) ≡ true) × (bad_slice width limit t ≡ true)
  cut-too-long cap t h l = (too_long (take cap t) (simp length-take (omega arith)), too_long t (omega arith))

-- a slice by port or by task that does not have just so many numbers is number 1, and so is what a buffer of one more, or larger, keeps
-- of it
pub cut-wrong-length : {A : Type 0} (n cap : ℕ) (t : List A) → n < cap → cap < length t → (bad_length n (take cap t) ≡ true) × (bad_length n t ≡ true)
unfolding bad_length
cut-wrong-length n cap t h l =
    let kept : length (take cap t) ≡ cap = length-take-le cap t (omega arith) in
    (ap not (ne_eqb (length (take cap t)) n (λ e. omega arith)), ap not (ne_eqb (length t) n (λ e. omega arith)))

-- an instance: of two modes too many there is room for one, and either way there are too many
abbrev too_many : List ℕ
too_many = replicate (max_modes + 2) 0

too-many-modes : (bad_slice mode_width max_modes (take (max_modes + 1) too_many) ≡ true) × (bad_slice mode_width max_modes too_many ≡ true)
too-many-modes = cut-too-long mode_width max_modes (omega arith) (max_modes + 1) too_many (omega arith) (let many : length too_many ≡ max_modes + 2 = refl in omega arith)

-- of two readings too many there is room for one, and either way they are not as many as there are ports
abbrev many-readings : List ℕ
many-readings = replicate (max_ports + 2) 0

wrong-readings : (bad_length max_ports (take (max_ports + 1) many-readings) ≡ true) × (bad_length max_ports many-readings ≡ true)
wrong-readings = cut-wrong-length max_ports (max_ports + 1) many-readings (omega arith) (let many : length many-readings ≡ max_ports + 2 = refl in omega arith)
