-- The words of a listing say its instructions, and no others.
-- The words of any list of instructions read back, whatever its numbers. Assumes of what compiling leaves that it is not refused.
use Prim.Native.Nat.{◌*◌}
use mathlib.Core.Path.{◌≡◌, refl, ap}
use mathlib.Core.List.{List, [], ◌∷◌}
use native.Mathlib.Omega.{arith}
use lib.ListN.{length, drop, length-append}
use lib.Seq.{take_at}
use Rattle.theory.specs.Verdict.{accepted_number}
use Rattle.cells.specs.Limits.{words_each}
use Rattle.program.specs.Program.{Program}
use Rattle.code.specs.Op.{Op, call, schedule, branch, jump, future, return, faulty, words, emit, instructions}
use Rattle.code.specs.Listing.{listing}
use Rattle.code.specs.Compile.{Compiling, listing_of, compile_verdict, compile_answer, compile_slice, words_of}

-- the words of a list of instructions say those instructions
pub emit-instructions : (os : List Op) → instructions (emit os) ≡ os
emit-instructions [] = refl
emit-instructions (call n ∷ os) = ap (λ l. call n ∷ l) (emit-instructions os)
emit-instructions (schedule t ∷ os) = ap (λ l. schedule t ∷ l) (emit-instructions os)
emit-instructions (branch d a ∷ os) = ap (λ l. branch d a ∷ l) (emit-instructions os)
emit-instructions (jump a ∷ os) = ap (λ l. jump a ∷ l) (emit-instructions os)
emit-instructions (future d a ∷ os) = ap (λ l. future d a ∷ l) (emit-instructions os)
emit-instructions (return ∷ os) = ap (λ l. return ∷ l) (emit-instructions os)
emit-instructions (faulty ∷ os) = ap (λ l. faulty ∷ l) (emit-instructions os)

-- the words of the listing say the listing
pub listing-words : (P : Program) → instructions (emit (listing P)) ≡ listing P
listing-words P = emit-instructions (listing P)

-- an instruction has three words
pub words-length : (o : Op) → length (words o) ≡ words_each
words-length (call n) = refl
words-length (schedule t) = refl
words-length (branch d a) = refl
words-length (jump a) = refl
words-length (future d a) = refl
words-length return = refl
words-length faulty = refl

-- the words of a list of instructions are three times as many
pub emit-length : (os : List Op) → length (emit os) ≡ words_each * length os
emit-length [] = refl
emit-length (o ∷ os) = omega (arith, length-append (words o) (emit os), words-length o, emit-length os)

-- the words that compiling leaves are those of the listing
pub words_are : (L : Compiling) → compile_verdict L ≡ accepted_number → words_of L ≡ emit (listing_of L.tables)
words_are L e =
    rw (e, compile_answer, compile_slice)
    (take_at (emit (listing_of L.tables)) (drop (words_each * length (listing_of L.tables)) L.slice) (words_each * length (listing_of L.tables))
    (emit-length (listing_of L.tables)))
