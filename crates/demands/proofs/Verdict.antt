-- Demand 2 holds of the definitions: the verdict exactly, the missing reading, and what compiling writes.
use Prim.Native.Nat.{ℕ, ◌*◌, ◌≤◌}
use mathlib.Core.Path.{◌≡◌, ap, ◌∙◌}
use mathlib.Core.List.{List, ◌∷◌, map}
use native.Mathlib.Omega.{arith}
use lib.ListN.{length, drop, length-append, length-drop}
use lib.Seq.{drop_at}
use Rattle.theory.specs.Verdict.{accepted_number, Refusal, within}
use Rattle.theory.proofs.Bools.{bars-lt, ◌or◌}
use Rattle.theory.proofs.Verdict.{verdict-clear, verdict-both, by_rows}
use Rattle.cells.specs.Limits.{max_code, words_each}
use Rattle.program.specs.Tables.{Tables}
use Rattle.rules.specs.Verdict.{shape_refusal, table_refusals, program_verdict, program_rules}
use Rattle.rules.specs.Shape.{shape_bad}
use Rattle.rules.proofs.Accepted.{lent-accepted}
use Rattle.rules.proofs.Verdict.{program-barred, program-first, program-first-at, program-number, program-accepted, missing-guard}
use Rattle.code.specs.Op.{Op, emit, instructions}
use Rattle.code.specs.Compile.{Compiling, listing_of, code_long, slice_short, slice_refusals, compile_verdict, compile_answer, compile_slice}
use Rattle.code.proofs.Words.{emit-instructions, emit-length, words_are}
use Rattle.code.proofs.Accepted.{accepted-length}
use Rattle.code.proofs.Answers.{compile-passes, compile-refused}
use Rattle.demands.specs.Verdict.{VerdictExact, VerdictByRows, VerdictNumber, AcceptedExactly, MissingReading, ListingWritten, RefusalKeeps}

-- the answer is that of the first rule that is broken, with its place
pub verdict-exact : VerdictExact
verdict-exact T x = program-first-at T x

-- each rule that has a place holds exactly where no row breaks it
pub verdict-by-rows : VerdictByRows
verdict-by-rows T = by_rows (shape_refusal ∷ table_refusals) program_rules T (program-barred T)

-- the number of the answer is that of the first rule that is broken
pub verdict-number : (T : Tables) → VerdictNumber T
verdict-number T = record { number = program-number T; exact = program-first T }

-- a program is accepted exactly where every rule holds
pub accepted-exactly : AcceptedExactly
accepted-exactly T = program-accepted T

-- no interval guard but its own holds for a missing reading
pub missing-reading : MissingReading
missing-reading T a d l k w = missing-guard T a d l k w

-- what a compiling that is not refused knows: the program is accepted, and 11 does not apply
own : List (Refusal Compiling)
own = map (within (λ (L : Compiling). L.tables)) (shape_refusal ∷ table_refusals)

pub compiled-accepted : (L : Compiling) → compile_verdict L ≡ accepted_number → program_verdict L.tables ≡ accepted_number
unfolding compile_verdict
compiled-accepted L e = lent-accepted (λ (L : Compiling). L.tables) (λ L. shape_bad L.tables) slice_refusals L (λ s. s) e

fits : (L : Compiling) → compile_verdict L ≡ accepted_number → (length (listing_of L.tables) ≤ max_code) × (words_each * length (listing_of L.tables) ≤ length L.slice)
unfolding compile_verdict own code_long slice_short
fits L e =
    (bars-lt max_code (length (listing_of L.tables)) or bars-lt (length L.slice) (words_each * length (listing_of L.tables))).ok
    (verdict-clear slice_refusals L (omega arith) (verdict-both own slice_refusals L (omega arith) e).1).0

-- compiling that is not refused writes the listing, and nothing else
pub listing-written : ListingWritten
listing-written L z = record {
  length-rule = rw (e, compile_answer) (accepted-length L.tables (compiled-accepted L e));
  few = rw (e, compile_answer) (fits L e).0;
  the-listing = ap instructions (words_are L e) ∙ emit-instructions os;
  the_rest = rw (e, compile_answer, compile_slice) (drop_at (emit os) rest n words);
  same_length = rw (e, compile_slice) (simp (length-append, length-drop) (omega (arith, words, (fits L e).1)));
}
  where
    e : compile_verdict L ≡ accepted_number
    e = compile-passes L z

    os : List Op
    os = listing_of L.tables

    n : ℕ
    n = words_each * length (listing_of L.tables)

    rest : List ℕ
    rest = drop (words_each * length (listing_of L.tables)) L.slice

    words : length (emit (listing_of L.tables)) ≡ words_each * length (listing_of L.tables)
    words = emit-length (listing_of L.tables)

-- compiling that is refused writes nothing, and its length is 0
pub refusal-keeps : RefusalKeeps
refusal-keeps L h = compile-refused L h
