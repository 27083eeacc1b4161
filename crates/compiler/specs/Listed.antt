-- What compiling answers, together with the slice as it is left: for every program, and for one that numbers 1 to 10 and 24 pass.
use Rattle.std.specs.Prelude.{ℕ, ◌*◌, true, false, ◌||◌, List, ◌++◌, length, drop, Result, Ok, Err}
use Rattle.theory.specs.Rows.{placeless}
use Rattle.theory.specs.Verdict.{accepted_number}
use Rattle.theory.specs.declared.Answer.{Answer}
use Rattle.answers.specs.Answers.{answer_of}
use Rattle.answers.specs.declared.Refused.{Refused}
use Rattle.cells.specs.Limits.{words_each}
use Rattle.cells.specs.Refusals.{code_refused}
use Rattle.program.specs.Tables.{Tables}
use Rattle.code.specs.Op.{emit}
use Rattle.code.specs.Compile.{Compiling, listing_of, code_long, slice_short, compile_answer, compile_slice}
use Rattle.code.specs.declared.Compiled.{Compiled}

-- what compiling comes to, as its answer in numbers and the length: that of the listing, or 0 where it refuses
abbrev pub compiled_of : Result ℕ Refused → Compiled
compiled_of (Ok n) = record { answer = answer_of {A = ℕ} (Ok n); length = n }
compiled_of (Err e) = record { answer = answer_of {A = ℕ} (Err e); length = 0 }

-- compiling that is lent these tables and this slice
abbrev pub compiling : Tables → List ℕ → Compiling
compiling T slice = record { tables = T; slice = slice }

-- an answer, and the slice as it is left
pub record Compilation : Type 0 where
  pub answer : Compiled
  pub slice : List ℕ

-- an outcome from its answer and its slice
abbrev pub outcome : Compiled → List ℕ → Compilation
outcome answer slice = record { answer = answer; slice = slice }

-- the outcome of compiling
abbrev pub compiled : Compiling → Compilation
compiled L = outcome (compile_answer L) (compile_slice L)

-- the outcome of a refusal with this answer: no length, and the slice as it was
abbrev pub refused : Compiling → Answer → Compilation
refused L x = outcome (record { answer = x; length = 0 }) L.slice

-- the outcome of an accepted program: its listing is written, the rest of the slice stays as it was
abbrev pub accepted : Compiling → Compilation
accepted L =
    outcome (record { answer = placeless accepted_number; length = length (listing_of L.tables) })
    (emit (listing_of L.tables) ++ drop (words_each * length (listing_of L.tables)) L.slice)

-- the outcome of a program that numbers 1 to 10 and 24 pass: number 11, or the listing
abbrev pub listed : Compiling → Compilation
listed L = elim (code_long L.tables || slice_short L) [ true ↦ refused L (placeless code_refused) | false ↦ accepted L ]
