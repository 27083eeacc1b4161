-- Compiling: the verdict 1 to 11 or 24, the length, and the lent slice afterwards; the delay of a `future` of the compiled code.
use Rattle.std.specs.Prelude.{ℕ, zero, suc, ◌*◌, ◌≤◌, Bool, ◌||◌, List, [], ◌∷◌, ◌++◌, map, ltb, length, take, drop, get_or}
use Rattle.std.proofs.Math.Option.{Option, none, some}
use Rattle.theory.specs.Rows.{placeless}
use Rattle.theory.specs.Verdict.{accepted_number, Refusal, unplaced, within, verdict, first_refusal, Rule, unplaced_rule, holding}
use Rattle.cells.specs.Limits.{max_code, words_each}
use Rattle.cells.specs.Refusals.{shape_refused, code_refused}
use Rattle.program.specs.Tables.{Tables}
use Rattle.program.specs.Program.{program_of}
use Rattle.rules.specs.Verdict.{shape_refusal, table_refusals, table_rules, program_rules}
use Rattle.code.specs.Op.{Op, call, schedule, branch, jump, future, return, faulty, emit}
use Rattle.code.specs.Listing.{listing}
use Rattle.code.specs.declared.Compiled.{Compiled}

-- the listing that these tables say
unfoldable pub listing_of : Tables → List Op
listing_of T = listing (program_of T)

-- number 11 outside compiling: E code exceeds 16,384 instructions
unfoldable pub code_long : Tables → Bool
code_long T = ltb max_code (length (listing_of T))

-- the refusal of tables whose E code exceeds the limit
abbrev pub long_refusal : Refusal Tables
long_refusal = unplaced code_refused code_long

-- the E code of these tables is within the limit
abbrev pub CodeFits : Tables → Type 0
CodeFits T = length (listing_of T) ≤ max_code

-- number 11 outside compiling, as a rule: the E code is within the limit
abbrev pub long_rule : Rule Tables
long_rule = unplaced_rule code_refused CodeFits

-- the refusals of a call that is lent the tables and more: its own 1, then 2 to 11 and 24 of the tables, then its own numbers
abbrev pub call_refusals : {A : Type 0} → (A → Tables) → (A → Bool) → List (Refusal A) → List (Refusal A)
call_refusals tables shape own =
    unplaced shape_refused shape ∷ (map (within tables) (table_refusals ++ (long_refusal ∷ [])) ++ own)

-- the rules of a call that is lent the tables and more: its own 1, then 2 to 11 and 24 of the tables, then its own rules
abbrev pub call_rules : {A : Type 0} → (A → Tables) → (A → Type 0) → List (Rule A) → List (Rule A)
call_rules tables shape own =
    unplaced_rule shape_refused shape ∷ (map (holding tables) (table_rules ++ (long_rule ∷ [])) ++ own)

-- what compiling is lent: the tables, and a slice for the code
pub record Compiling : Type 0 where
  pub tables : Tables
  pub slice : List ℕ

-- the listing exceeds the slice that was lent
unfoldable pub slice_short : Compiling → Bool
slice_short L = ltb (length L.slice) (words_each * length (listing_of L.tables))

-- number 11 of compiling: the E code exceeds the limit, or the slice that was lent
abbrev pub slice_refusals : List (Refusal Compiling)
slice_refusals = unplaced code_refused (λ L. code_long L.tables || slice_short L) ∷ []

-- the refusals of compiling: 1 to 10 and 24 of the tables, then 11
abbrev pub compile_refusals : List (Refusal Compiling)
compile_refusals = map (within (λ (L : Compiling). L.tables)) (shape_refusal ∷ table_refusals) ++ slice_refusals

-- the number of the first refusal of compiling that applies
unfoldable pub compile_verdict : Compiling → ℕ
compile_verdict L = verdict compile_refusals L

-- number 11 of compiling, as a rule: the E code is within the limit and fits the slice
abbrev pub slice_rules : List (Rule Compiling)
slice_rules =
    unplaced_rule code_refused (λ L. CodeFits L.tables × (words_each * length (listing_of L.tables) ≤ length L.slice)) ∷ []

-- the rules of compiling: those of the tables, then 11
abbrev pub compile_rules : List (Rule Compiling)
compile_rules = map (holding (λ (L : Compiling). L.tables)) program_rules ++ slice_rules

-- what compiling answers: accepted with the length of the listing, or the first refusal with its place and length 0
abbrev pub compile_answer : Compiling → Compiled
compile_answer L = elim (compile_verdict L) [
  | zero ↦ record { answer = placeless accepted_number; length = length (listing_of L.tables) }
  | suc n ↦ record { answer = first_refusal compile_refusals L; length = 0 }
]

-- the slice as compiling leaves it: the words of the listing and then the rest as it was, or all as it was
abbrev pub compile_slice : Compiling → List ℕ
compile_slice L = elim (compile_verdict L) [
  | zero ↦ emit (listing_of L.tables) ++ drop (words_each * length (listing_of L.tables)) L.slice
  | suc n ↦ L.slice
]

-- the words that compiling leaves in the slice
abbrev pub words_of : Compiling → List ℕ
words_of L = take (words_each * (compile_answer L).length) (compile_slice L)

-- the delay of an instruction that is a `future`, or none
abbrev pub future_delay : Op → Option ℕ
future_delay (call n) = none
future_delay (schedule t) = none
future_delay (branch d a) = none
future_delay (jump a) = none
future_delay (future d a) = some d
future_delay return = none
future_delay faulty = none

-- the delay of the `future` at an address of a code, or none
abbrev pub delay_at : List Op → ℕ → Option ℕ
delay_at code a = future_delay (get_or code a faulty)
