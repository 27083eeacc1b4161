-- Private ports in numbers (document 02, K7): F with private ports, what is refused and at which row, what stays; the first values; a
-- sensor call that names one.
use Prim.Native.Nat.{ℕ, ◌+◌}
use mathlib.Core.Path.{◌≡◌, refl}
use mathlib.Core.List.{List, [], ◌∷◌, ◌++◌}
use lib.IntN.{ℤ, pos}
use Rattle.theory.specs.Rows.{placeless, at_row}
use Rattle.program.specs.Tables.{Tables, tables}
use Rattle.program.specs.Program.{program_of, task}
use Rattle.program.specs.Ports.{value_of}
use Rattle.rules.specs.Verdict.{program_answer}
use Rattle.code.specs.Compile.{listing_of}
use Rattle.machine.specs.Advance.{Advance, fresh_answer, advance_answer}
use Rattle.worked.specs.Computed.{computed}
use Rattle.worked.specs.Programs.{numbers, always_row, interval_row, program_f}
use Rattle.worked.specs.Broken.{remembering}
use Rattle.worked.specs.Systems.{F-first}

-- kind 4 is private, and there is no kind 5; a private port of no task is accepted
kind-4 : program_answer (remembering (4 ∷ 0 ∷ []) [] [] [] []) ≡ placeless 0
unfolding computed
kind-4 = refl

kind-5 : program_answer (remembering (5 ∷ 0 ∷ []) [] [] [] []) ≡ at_row 2 0 12
unfolding computed
kind-5 = refl

-- F with a private port of t1 and two of t2, which are no mode ports
abbrev keeping : Tables
keeping = remembering (4 ∷ 7 ∷ 4 ∷ 8 ∷ 4 ∷ 9 ∷ []) (0 ∷ 12 ∷ 1 ∷ 14 ∷ 1 ∷ 13 ∷ []) [] [] []

keeping-accepted : program_answer keeping ≡ placeless 0
unfolding computed
keeping-accepted = refl

-- the functions take and give them, in table order
t1-takes : (task (program_of keeping) 0).takes ≡ 2 ∷ 3 ∷ 12 ∷ []
unfolding computed
t1-takes = refl

t2-gives : (task (program_of keeping) 1).gives ≡ 10 ∷ 11 ∷ 14 ∷ 13 ∷ []
unfolding computed
t2-gives = refl

-- the listing is F's
same-listing : listing_of keeping ≡ listing_of (program_f 6 2)
unfolding computed
same-listing = refl

-- in a fresh state the first value stands in the ports and beside the local outputs
fresh-port : value_of (fresh_answer keeping).state.ports 13 ≡ pos 8
unfolding computed
fresh-port = refl

fresh_kept : value_of (fresh_answer keeping).state.outputs 13 ≡ pos 8
unfolding computed
fresh_kept = refl

-- 3: a private port serves two tasks; a row of one repeats
serves-two : program_answer (remembering (4 ∷ 0 ∷ []) (0 ∷ 12 ∷ 1 ∷ 12 ∷ []) [] [] []) ≡ at_row 3 2 10
unfolding computed
serves-two = refl

row-repeats : program_answer (remembering (4 ∷ 0 ∷ []) (0 ∷ 12 ∷ 0 ∷ 12 ∷ []) [] [] []) ≡ at_row 3 2 10
unfolding computed
row-repeats = refl

-- 4: a copy has it as its source; as its destination; an interval guard names it, though no row uses the driver
copy-reads : program_answer (remembering (4 ∷ 0 ∷ []) [] [] (2 ∷ 12 ∷ 1 ∷ []) []) ≡ at_row 4 4 6
unfolding computed
copy-reads = refl

copy_writes : program_answer (remembering (4 ∷ 0 ∷ []) [] [] (2 ∷ 8 ∷ 12 ∷ []) []) ≡ at_row 4 4 6
unfolding computed
copy_writes = refl

guard-reads : program_answer (remembering (4 ∷ 0 ∷ []) [] (always_row ++ interval_row 12 (pos 0) (pos 9)) [] []) ≡ at_row 4 3 4
unfolding computed
guard-reads = refl

-- guards come before copies, whatever the rows; among copies the lowest row that breaks the rule either way
guard-first : program_answer (remembering (4 ∷ 0 ∷ []) [] (interval_row 12 (pos 0) (pos 9)) (2 ∷ 12 ∷ 1 ∷ []) []) ≡ at_row 4 3 3
unfolding computed
guard-first = refl

private-then-clash : program_answer (remembering (4 ∷ 0 ∷ []) [] [] (2 ∷ 8 ∷ 12 ∷ 2 ∷ 9 ∷ 1 ∷ []) []) ≡ at_row 4 4 6
unfolding computed
private-then-clash = refl

clash-then-private : program_answer (remembering (4 ∷ 0 ∷ []) [] [] (2 ∷ 9 ∷ 1 ∷ 2 ∷ 8 ∷ 12 ∷ []) []) ≡ at_row 4 4 6
unfolding computed
clash-then-private = refl

-- 3 comes before 4; a guard that is always names no port, though port 0 is private and stands in its field
three-first : program_answer (remembering (4 ∷ 0 ∷ []) (0 ∷ 12 ∷ 1 ∷ 12 ∷ []) [] (2 ∷ 12 ∷ 1 ∷ []) []) ≡ at_row 3 2 10
unfolding computed
three-first = refl

always-names-none : program_answer (tables (numbers (4 ∷ 0 ∷ [])) [] [] always_row [] (numbers (10 ∷ [])) [] [] [] [] (pos 0)) ≡ placeless 0
unfolding computed
always-names-none = refl

-- 5: a private port is no mode port
no-mode-port : program_answer (remembering (4 ∷ 0 ∷ []) [] [] [] (0 ∷ 12 ∷ [])) ≡ at_row 5 6 5
unfolding computed
no-mode-port = refl

-- 19: a sensor call that names a private port; the same call of the sensor passes
abbrev sensing : ℕ → Advance
sensing port = record {
  tables = keeping;
  code = 0 ∷ (2000 + port) ∷ 0 ∷ 4 ∷ 5 ∷ 0 ∷ 5 ∷ 0 ∷ 0 ∷ [];
  schedule = [];
  state = (fresh_answer keeping).state;
  lent = F-first.lent;
}

sensor-read : (advance_answer (sensing 0)).answer ≡ placeless 0
unfolding computed
sensor-read = refl

private-read : (advance_answer (sensing 12)).answer ≡ placeless 19
unfolding computed
private-read = refl
