-- Demand 2, as statements: a program is accepted exactly when it meets the published rules of Giotto, as bounded in document
-- 01; the E code is the one listing; a missing reading lies in no interval but its own.
-- Proved of these definitions in proofs/Verdict.antt.
use Rattle.std.specs.Prelude.{ℕ, ◌*◌, ◌≤◌, ◌<◌, ◌≡◌, ◌↔◌, length, drop}
use Rattle.theory.specs.Verdict.{accepted_number, First, Keep, FirstAt, ByRows}
use Rattle.theory.specs.declared.Answer.{Answer}
use Rattle.readings.specs.Reading.{no_reading, Inside}
use Rattle.cells.specs.Limits.{max_code, words_each}
use Rattle.program.specs.Tables.{Tables, driver_count, guard_kind, guard_low, guard_high, kind_interval}
use Rattle.program.specs.Program.{program_of}
use Rattle.rules.specs.Verdict.{program_verdict, program_answer, program_rules}
use Rattle.code.specs.Op.{instructions}
use Rattle.code.specs.Listing.{length_rule}
use Rattle.code.specs.Compile.{Compiling, listing_of, compile_answer, compile_slice, words_of}

-- The answer is x exactly where rule n, the number of x, is broken and no earlier one is, and the place of x is that of the lowest row
-- that breaks rule n; so it is 0, without a place, exactly where every rule holds. What each rule asks of each row: rules/specs
abbrev pub VerdictExact : Type 0
VerdictExact = (T : Tables) (x : Answer) → (program_answer T ≡ x) ↔ FirstAt program_rules T x

-- each rule that has a place holds exactly where no row breaks it, where the rules before it hold
abbrev pub VerdictByRows : Type 0
VerdictByRows = (T : Tables) → ByRows program_rules T

-- the number alone, of which most statements speak, is n exactly where rule n is broken and no earlier one is
pub record VerdictNumber (T : Tables) : Type 0 where
  pub number : (program_answer T).number ≡ program_verdict T
  pub exact : (n : ℕ) → (program_verdict T ≡ n) ↔ First program_rules T n

abbrev pub AcceptedExactly : Type 0
AcceptedExactly = (T : Tables) → (program_verdict T ≡ accepted_number) ↔ Keep program_rules T

-- no interval guard of an accepted program holds for a missing reading, but the one from no-reading to no-reading
abbrev pub MissingReading : Type 0
MissingReading =
    (T : Tables) → program_verdict T ≡ accepted_number → (d : ℕ) → d < driver_count T → guard_kind T d ≡ kind_interval
    → Inside (guard_low T d) no_reading (guard_high T d) → (guard_low T d ≡ no_reading) × (guard_high T d ≡ no_reading)

-- what compiling that is not refused does: the length is 01's rule, the words are those of the listing, the rest of the slice is as before
pub record Compiles (L : Compiling) : Type 0 where
  pub length-rule : (compile_answer L).length ≡ length_rule (program_of L.tables)
  pub few : (compile_answer L).length ≤ max_code
  pub the-listing : instructions (words_of L) ≡ listing_of L.tables
  pub the_rest : drop (words_each * (compile_answer L).length) (compile_slice L) ≡ drop (words_each * (compile_answer L).length) L.slice
  pub same_length : length (compile_slice L) ≡ length L.slice

abbrev pub ListingWritten : Type 0
ListingWritten = (L : Compiling) → (compile_answer L).answer.number ≡ accepted_number → Compiles L

-- compiling that is refused writes nothing, and its length is 0
abbrev pub RefusalKeeps : Type 0
RefusalKeeps =
    (L : Compiling) → ((compile_answer L).answer.number ≡ accepted_number → ⊥) → (compile_slice L ≡ L.slice) × ((compile_answer L).length ≡ 0)
