-- Which row a refusal names (document 02, K3): of several bad rows the lowest, of a clash its later row, of several tables the first, and
-- the start mode and the supplier asked about after all rows; a row of the schedule as it stands in what is lent.
use Prim.Native.Nat.{ℕ, zero, suc}
use mathlib.Core.Path.{◌≡◌, refl}
use mathlib.Core.List.{List, [], ◌∷◌, ◌++◌}
use mathlib.Core.Logic.{◌⊎◌, inl, inr}
use lib.IntN.{ℤ, pos, negsuc}
use Rattle.theory.specs.Rows.{placeless, at_row}
use Rattle.program.specs.Tables.{Tables, tables, sensor, actuator, input}
use Rattle.rules.specs.Verdict.{program_answer, program_rules}
use Rattle.code.specs.Compile.{Compiling, compile_rules, compile_answer}
use Rattle.suppliers.specs.Windows.{Windowed, windows_answer, windows_verdict_rules}
use Rattle.suppliers.specs.Supplier.{Asked, part_rules, supplier_verdict}
use Rattle.machine.specs.Advance.{Advance, advance_rules, advance_answer, fresh_answer}
use Rattle.text.specs.Shipped.{answer_line}
use Rattle.demands.specs.Composed.{code, joined}
use Rattle.demands.specs.Places.{NamesRow}
use Rattle.demands.proofs.Places.{places-exact}
use Rattle.worked.specs.Computed.{computed}
use Rattle.worked.specs.Programs.{numbers, ports, always_row, interval_row, missing_row, program_f, guarded, window}
use Rattle.worked.specs.Programs as programs
use Rattle.worked.specs.Broken.{two_windows}
use Rattle.worked.specs.Systems.{F-system, F-fresh, F-first}

-- a program of one task with these rows as its task ports; ports 0 and 1 are inputs, port 2 is an actuator
abbrev serving : List ℕ → Tables
serving rows =
    tables (ports 2 input ++ ports 1 actuator) (numbers (0 ∷ 1 ∷ [])) (numbers rows) [] [] (numbers (10 ∷ [])) [] [] [] [] (pos 0)

-- rows 0 and 2 clash, and row 1 is bad alone: row 1
bad-before-clash : program_answer (serving (0 ∷ 0 ∷ 0 ∷ 2 ∷ 0 ∷ 0 ∷ [])) ≡ at_row 3 2 1
unfolding computed
bad-before-clash = refl

-- rows 0 and 1 clash, and row 2 is bad alone: row 1, the later of the two
clash-before-bad : program_answer (serving (0 ∷ 0 ∷ 0 ∷ 0 ∷ 0 ∷ 2 ∷ [])) ≡ at_row 3 2 1
unfolding computed
clash-before-bad = refl

-- three rows are the same: row 1; two pairs clash: the pair whose later row is lowest
three-alike : program_answer (serving (0 ∷ 0 ∷ 0 ∷ 0 ∷ 0 ∷ 0 ∷ [])) ≡ at_row 3 2 1
unfolding computed
three-alike = refl

two-pairs : program_answer (serving (0 ∷ 0 ∷ 0 ∷ 1 ∷ 0 ∷ 1 ∷ 0 ∷ 0 ∷ [])) ≡ at_row 3 2 2
unfolding computed
two-pairs = refl

-- rows count over the whole table, and modes do not go first: update row 0, of mode 1, and row 1, of mode 0, set an input
row-before-mode : program_answer (tables (numbers (3 ∷ 0 ∷ 2 ∷ 0 ∷ [])) [] [] always_row (numbers (0 ∷ 0 ∷ 1 ∷ [])) (numbers (10 ∷ 10 ∷ []))
    (numbers (0 ∷ 0 ∷ 1 ∷ 0 ∷ [])) [] (numbers (1 ∷ 1 ∷ 0 ∷ 0 ∷ 1 ∷ 0 ∷ [])) [] (pos 0)) ≡ at_row 7 8 0
unfolding computed
row-before-mode = refl

-- a program with these tasks, modes and this start mode, and nothing else
abbrev declaring : List ℕ → List ℕ → ℤ → Tables
declaring tasks modes start = tables [] (numbers tasks) [] [] [] (numbers modes) [] [] [] [] start

-- 2 in two tables: the first table, though its row is higher; the start mode comes after every table, and is named alone
two-tables : program_answer (declaring (0 ∷ 1 ∷ 8 ∷ 1 ∷ []) (0 ∷ []) (pos 1)) ≡ at_row 2 1 1
unfolding computed
two-tables = refl

table-and-start : program_answer (declaring [] (10 ∷ 4097 ∷ []) (pos 2)) ≡ at_row 2 5 1
unfolding computed
table-and-start = refl

start-alone : program_answer (declaring [] (10 ∷ 10 ∷ []) (negsuc 0)) ≡ at_row 2 12 0
unfolding computed
start-alone = refl

-- 6: two tasks of a mode share the output port 0: the later invocation
output-of-two : program_answer (tables (numbers (3 ∷ 0 ∷ [])) (numbers (0 ∷ 1 ∷ 0 ∷ 1 ∷ [])) (numbers (0 ∷ 0 ∷ 1 ∷ 0 ∷ [])) always_row []
    (numbers (10 ∷ [])) (numbers (0 ∷ 0 ∷ [])) (numbers (0 ∷ 1 ∷ 0 ∷ 0 ∷ 0 ∷ 1 ∷ 1 ∷ 0 ∷ [])) [] [] (pos 0)) ≡ at_row 6 7 1
unfolding computed
output-of-two = refl

-- 9 names the mode: updates of frequencies 2 and 3 (rows 0 and 2) in mode 1 of period 4; mode 0, with row 1, is good
mode-of-units : program_answer (tables [] [] [] always_row [] (numbers (6 ∷ 4 ∷ [])) [] []
    (numbers (1 ∷ 2 ∷ 0 ∷ 0 ∷ 3 ∷ 0 ∷ 1 ∷ 3 ∷ 0 ∷ [])) [] (pos 0)) ≡ at_row 9 5 1
unfolding computed
mode-of-units = refl

-- 10 names the switch: a task of frequency 3, and switches of frequencies 1 and 2; the task's row is 0, the switch's 1. No switch is for
-- the missing reading: 24, which is asked after 10
switch-of-whole : program_answer (tables (ports 1 sensor) (numbers (0 ∷ 1 ∷ [])) []
    (always_row ++ (interval_row 0 (pos 0) (pos 5) ++ interval_row 0 (pos 6) (pos 9))) [] (numbers (12 ∷ [])) []
    (numbers (0 ∷ 3 ∷ 0 ∷ 0 ∷ [])) [] (numbers (0 ∷ 1 ∷ 0 ∷ 1 ∷ 0 ∷ 2 ∷ 0 ∷ 2 ∷ [])) (pos 0)) ≡ at_row 10 9 1
unfolding computed
switch-of-whole = refl

-- the eighth of some rules, where it asks of rows: what is said of its number
eighth : {B C D E F G H X Y : Type 0} → X → B ⊎ (C ⊎ (D ⊎ (E ⊎ (F ⊎ (G ⊎ (H ⊎ ((X × Unit {0}) ⊎ Y)))))))
eighth x = inr (inr (inr (inr (inr (inr (inr (inl (x, tt))))))))

-- two guards of one mode that both hold for 5, and a switch for the missing reading
abbrev meeting : Tables
meeting = guarded (interval_row 0 (pos 0) (pos 5) ∷ interval_row 0 (pos 5) (pos 9) ∷ missing_row 0 ∷ [])

-- 8 names the later of two switches whose guards meet, and an assessor reads of that answer that row 1 breaks the rule, that row 0 does
-- not, and that no row of an earlier table does
guards-meet : program_answer meeting ≡ at_row 8 9 1
unfolding computed
guards-meet = refl

pub guards-meet-named : NamesRow program_rules meeting 8 9 1
guards-meet-named = (places-exact.program _ 8 9 1 (eighth refl)).0 guards-meet

-- compiling it and asking for its fresh state name the same row
abbrev compiling : Compiling
compiling = record { tables = meeting; slice = [] }

compiled-meet : (compile_answer compiling).answer ≡ at_row 8 9 1
unfolding computed
compiled-meet = refl

pub compiled-meet-named : NamesRow compile_rules compiling 8 9 1
compiled-meet-named = (places-exact.compiling compiling 8 9 1 (eighth refl)).0 compiled-meet

fresh-meet : (fresh_answer meeting).answer ≡ at_row 8 9 1
unfolding computed
fresh-meet = refl

pub fresh-meet-named : NamesRow program_rules meeting 8 9 1
fresh-meet-named = (places-exact.fresh meeting 8 9 1 (eighth refl)).0 fresh-meet

-- schedule rows of F's supplier, in numbers: supplier, address, kind, task, timeout
abbrev part : List ℕ → Asked
part rows = record { tables = program_f 6 2; windows = window 0 10; part = numbers rows; supplier = pos 0 }

-- 13: the last of four rows has a timeout beyond its delay: row 3 of the slice, though it is row 1 of its block
row-of-slice : supplier_verdict (part (0 ∷ 9 ∷ 0 ∷ 1 ∷ 5 ∷ 0 ∷ 9 ∷ 0 ∷ 0 ∷ 5 ∷ 0 ∷ 15 ∷ 0 ∷ 1 ∷ 5 ∷ 0 ∷ 15 ∷ 0 ∷ 0 ∷ 6 ∷ [])) ≡ at_row 13 11 3
unfolding computed
row-of-slice = refl

-- past the first twelve of some rules, those of 1 to 10, 24 and 11
past_twelve : {B C D E F G H I J K L M Y : Type 0} → Y → B ⊎ (C ⊎ (D ⊎ (E ⊎ (F ⊎ (G ⊎ (H ⊎ (I ⊎ (J ⊎ (K ⊎ (L ⊎ (M ⊎ Y)))))))))))
past_twelve y = inr (inr (inr (inr (inr (inr (inr (inr (inr (inr (inr (inr y)))))))))))

pub row-of-slice-named : NamesRow part_rules (part (0 ∷ 9 ∷ 0 ∷ 1 ∷ 5 ∷ 0 ∷ 9 ∷ 0 ∷ 0 ∷ 5 ∷ 0 ∷ 15 ∷ 0 ∷ 1 ∷ 5 ∷ 0 ∷ 15 ∷ 0 ∷ 0 ∷ 6 ∷ [])) 13 11 3
row-of-slice-named = (places-exact.supplier _ 13 11 3 (past_twelve (inr (inl (refl, tt))))).0 row-of-slice

-- 12 names the later of two windows that share a tick
abbrev sharing : Windowed
sharing = record { tables = program_f 6 2; windows = two_windows 0 6 5 10 }

windows-share : windows_answer sharing ≡ at_row 12 10 1
unfolding computed
windows-share = refl

pub windows-share-named : NamesRow windows_verdict_rules sharing 12 10 1
windows-share-named = (places-exact.windows sharing 12 10 1 (past_twelve (inl (refl, tt)))).0 windows-share

-- 13: not sorted counts at the later row; a row of another supplier is named where it stands, before the row that it puts out of order
not-sorted : supplier_verdict (part (0 ∷ 15 ∷ 0 ∷ 1 ∷ 5 ∷ 0 ∷ 9 ∷ 0 ∷ 1 ∷ 5 ∷ [])) ≡ at_row 13 11 1
unfolding computed
not-sorted = refl

row-of-another : supplier_verdict (part (0 ∷ 9 ∷ 0 ∷ 1 ∷ 5 ∷ 1 ∷ 9 ∷ 1 ∷ 0 ∷ 5 ∷ 0 ∷ 15 ∷ 0 ∷ 1 ∷ 5 ∷ [])) ≡ at_row 13 11 1
unfolding computed
row-of-another = refl

-- 13: to supplier 8 every row is of another, so row 0 is named; with no row it is the supplier asked about (`stranger-refused`)
rows-of-stranger : supplier_verdict (record { tables = program_f 6 2; windows = window 0 10; part = programs.schedule 1 0; supplier = pos 8 })
    ≡ at_row 13 11 0
unfolding computed
rows-of-stranger = refl

-- an advance of F from its fresh state with these rows behind those of its supplier
abbrev joined_with : List ℕ → Advance
joined_with rows = record {
  tables = program_f 6 2;
  code = code F-system;
  schedule = joined F-system ++ numbers rows;
  state = F-fresh;
  lent = F-first.lent;
}

-- 13: in the joined schedule the row is the joined one's: supplier 1 dispatches a task of supplier 0 in its first row, which is row 4
row-of-joined : (advance_answer (joined_with (1 ∷ 9 ∷ 0 ∷ 0 ∷ 5 ∷ []))).answer ≡ at_row 13 11 4
unfolding computed
row-of-joined = refl

pub row-of-joined-named : NamesRow advance_rules (joined_with (1 ∷ 9 ∷ 0 ∷ 0 ∷ 5 ∷ [])) 13 11 4
row-of-joined-named = (places-exact.advance _ 13 11 4 (past_twelve (inl (refl, tt)))).0 row-of-joined

-- 13: not sorted by supplier counts at the later row too: a row of supplier 0 behind one of supplier 1
supplier-behind : (advance_answer (joined_with (1 ∷ 9 ∷ 1 ∷ 0 ∷ 5 ∷ 0 ∷ 15 ∷ 1 ∷ 0 ∷ 5 ∷ []))).answer ≡ at_row 13 11 5
unfolding computed
supplier-behind = refl

-- so many idle rows of supplier 1 at F's first `future`
abbrev idling : ℕ → List ℕ
idling zero = []
idling (suc n) = 1 ∷ 9 ∷ 1 ∷ 0 ∷ 5 ∷ idling n

-- 13: 257 rows of supplier 1 behind the four of supplier 0: its 257th row, row 260 of the joined schedule
past-256 : (advance_answer (joined_with (idling 257))).answer ≡ at_row 13 11 260
unfolding computed
past-256 = refl

-- the line that the shipped program prints, in ASCII: `6 7 3`; 0, 1, 11 and 24 stand alone, 2 and 10 do not
line-6 : answer_line (at_row 6 7 3) ≡ 54 ∷ 32 ∷ 55 ∷ 32 ∷ 51 ∷ 10 ∷ []
unfolding computed
line-6 = refl

lines-alone : answer_line (placeless 0) ++ (answer_line (placeless 1) ++ (answer_line (placeless 11) ++ answer_line (placeless 24)))
    ≡ 48 ∷ 10 ∷ 49 ∷ 10 ∷ 49 ∷ 49 ∷ 10 ∷ 50 ∷ 52 ∷ 10 ∷ []
unfolding computed
lines-alone = refl

line-2 : answer_line (at_row 2 12 0) ≡ 50 ∷ 32 ∷ 49 ∷ 50 ∷ 32 ∷ 48 ∷ 10 ∷ []
unfolding computed
line-2 = refl

line-10 : answer_line (at_row 10 9 1) ≡ 49 ∷ 48 ∷ 32 ∷ 57 ∷ 32 ∷ 49 ∷ 10 ∷ []
unfolding computed
line-10 = refl
