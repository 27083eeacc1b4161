-- The delays that are counted from a program's tables say what the schedule rows are held against: whether a `future` stands at an
-- address, and whether a timeout is within its delay; so rows are tested by them as by the listing.
-- Assumes that the program is accepted and that number 11 passes it.
use Prim.Native.Nat.{ℕ, ◌-◌, ◌≤◌}
use mathlib.Core.Path.{◌≡◌, refl, ap, ◌∙◌}
use mathlib.Core.Bool.{Bool, not, ◌&&◌, ◌||◌}
use mathlib.Core.List.{List}
use mathlib.Core.Option.{Option, none, some}
use lib.Dec.{ltb, leb}
use lib.IntN.{ℤ}
use borrow.Author.Tests.{lt-ltb}
use Rattle.theory.specs.Verdict.{accepted_number}
use Rattle.cells.specs.Limits.{suppliers}
use Rattle.program.specs.Tables.{Tables}
use Rattle.rules.specs.Verdict.{program_verdict}
use Rattle.rules.proofs.Accepted.{accepted-clear}
use Rattle.code.specs.Compile.{listing_of, CodeFits, delay_at}
use Rattle.layout.specs.Delays.{delay_number, counted_delays}
use Rattle.layout.proofs.Limits.{few-modes}
use Rattle.layout.proofs.Delay.{counted-exact, delay-in-range}
use Rattle.runs.specs.Schedule.{row_supplier, row_address, row_timeout}
use Rattle.suppliers.specs.Schedule.{in_delay, delay_fits, Tabled, dispatch_fits, idle_fits, precedes, row_wrong, part_tests_by, part_tests}
use Rattle.suppliers.specs.Schedule.{joined_tests_by, joined_tests}
use Rattle.suppliers.specs.Delays.{row_wrong_by, part_tests_in, joined_tests_in}

-- a number that is the delay, and 0 where there is none, is read as the delay is, since no delay is 0
delay-says : (timeout n : ℕ) (o : Option ℕ) → n ≡ delay_number o → ((d : ℕ) → o ≡ some d → 1 ≤ d)
    → (ltb 0 n && leb timeout n) ≡ in_delay o timeout
delay-says timeout n none e h = ap (λ (x : ℕ). ltb 0 x && leb timeout x) e
delay-says timeout n (some d) e h =
    ap (λ (x : ℕ). ltb 0 x && leb timeout x) e ∙ ap (λ (b : Bool). b && leb timeout d) (lt-ltb 0 d (h d refl))

-- the delays that are counted from the tables say what the listing says
counted-says : (T : Tables) → program_verdict T ≡ accepted_number → CodeFits T → Tabled T (counted_delays T)
unfolding delay_fits
counted-says T v l a timeout =
    delay-says timeout _ (delay_at (listing_of T) a) (counted-exact T (few-modes T (accepted-clear T v).0) l a)
    (λ d e. (delay-in-range T v a d e).0)

module _ (T : Tables) (v : program_verdict T ≡ accepted_number) (l : CodeFits T) (S : List ℤ) where
  -- a row is wrong by the counted delays as by the listing
  wrong-counted : (i : ℕ) → row_wrong_by T (counted_delays T) S i ≡ row_wrong T (listing_of T) S i
  unfolding row_wrong_by row_wrong
  wrong-counted i =
      ap (λ (b : Bool). not (ltb (row_supplier S i) suppliers && (dispatch_fits T S i || idle_fits S i) && b) || precedes S i (i - 1))
      (counted-says T v l (row_address S i) (row_timeout S i))

  -- a part is tested by the counted delays as by the listing
  pub part-counted : (s : ℕ) → part_tests_in T (counted_delays T) S s ≡ part_tests T S s
  part-counted s = λ j. part_tests_by (λ i. wrong-counted i j) S s

  -- the joined schedule is tested by the counted delays as by the listing
  pub joined-counted : joined_tests_in T (counted_delays T) S ≡ joined_tests T S
  joined-counted = λ j. joined_tests_by (λ i. wrong-counted i j) S
