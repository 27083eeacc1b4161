-- F meets the premises of what is said of a listing's text and of its delays: its listing reads back, and its table of delays says
-- which addresses hold a `future`.
use Prim.Native.Nat.{ℕ, ◌≤◌}
use mathlib.Core.Path.{◌≡◌, refl, ap}
use mathlib.Core.Bool.{Bool, true, false, ◌&&◌}
use mathlib.Core.List.{List, [], ◌∷◌}
use mathlib.Core.Option.{none, some}
use native.Mathlib.Omega.{arith}
use lib.Dec.{leb}
use lib.ListN.{length, replicate}
use borrow.Author.Tests.{leb-true}
use Rattle.theory.specs.Lists.{Every}
use Rattle.theory.proofs.Bools.{clash}
use Rattle.cells.specs.Cell.{word_at, greatest_word}
use Rattle.cells.specs.Limits.{max_code}
use Rattle.rules.specs.Verdict.{program_verdict}
use Rattle.code.specs.Op.{Op, call, schedule, branch, jump, future, return, faulty}
use Rattle.code.specs.Compile.{listing_of, delay_at}
use Rattle.layout.specs.Delays.{marked, delay_number}
use Rattle.layout.proofs.Delay.{table-exact, zero-none}
use Rattle.text.specs.Listing.{arguments, listing_text}
use Rattle.text.specs.ReadBack.{Printable, read_listing}
use Rattle.text.proofs.Inverted.{read-listing}
use Rattle.worked.specs.Computed.{computed}
use Rattle.worked.specs.Programs.{program_f}

-- whether an instruction is known and its numbers are of 32 bits, by a test
abbrev is_known : Op → Bool
is_known (call n) = true
is_known (schedule t) = true
is_known (branch d a) = true
is_known (jump a) = true
is_known (future d a) = true
is_known return = true
is_known faulty = false

abbrev are_words : List ℕ → Bool
are_words [] = true
are_words (n ∷ ns) = leb n greatest_word && are_words ns

are_printed : List Op → Bool
are_printed [] = true
are_printed (o ∷ os) = is_known o && are_words (arguments o) && are_printed os

every-word : (ns : List ℕ) → are_words ns ≡ true → Every (λ (n : ℕ). n ≤ greatest_word) ns
every-word [] e = tt
every-word (n ∷ ns) e = go (leb n greatest_word) refl e (every-word ns)
  where
    go : (b : Bool) → leb n greatest_word ≡ b → (b && are_words ns) ≡ true → (are_words ns ≡ true → Every (λ (n : ℕ). n ≤ greatest_word) ns) → Every (λ (n : ℕ). n ≤ greatest_word) (n ∷ ns)
    go true p f ih = (leb-true n greatest_word p, ih f)
    go false p f ih = clash {b = false} f refl

every-printable : (os : List Op) → are_printed os ≡ true → Every Printable os
unfolding are_printed
every-printable [] e = tt
every-printable (o ∷ os) e = go (is_known o) (are_words (arguments o)) refl refl e (every-printable os)
  where
    go : (a b : Bool) → is_known o ≡ a → are_words (arguments o) ≡ b → (a && b && are_printed os) ≡ true → (are_printed os ≡ true → Every Printable os) → Every Printable (o ∷ os)
    go true true p q f ih = (record { known = λ h. clash p (ap is_known h); fits = every-word (arguments o) q }, ih f)
    go true false p q f ih = clash {b = false} f refl
    go false b p q f ih = clash {b = false} f refl

-- F's listing has 17 instructions, all of them printed whole
F-few : length (listing_of (program_f 6 2)) ≡ 17
unfolding computed
F-few = refl

F-printed : are_printed (listing_of (program_f 6 2)) ≡ true
unfolding computed are_printed
F-printed = refl

-- what is printed of F's listing reads back
pub F-reads-back : read_listing (listing_text (listing_of (program_f 6 2))) ≡ some (listing_of (program_f 6 2))
F-reads-back = read-listing (listing_of (program_f 6 2)) (omega (arith, F-few)) (every-printable (listing_of (program_f 6 2)) F-printed)

-- F's table of delays has 5 at the `future` of address 9, and 0 exactly where no `future` stands
pub F-delay : word_at (marked (listing_of (program_f 6 2)) 0 (replicate max_code 0)) 9 ≡ delay_number (delay_at (listing_of (program_f 6 2)) 9)
F-delay = table-exact (listing_of (program_f 6 2)) (omega (arith, F-few)) 9

F-five : delay_at (listing_of (program_f 6 2)) 9 ≡ some 5
unfolding computed
F-five = refl

F-verdict : program_verdict (program_f 6 2) ≡ 0
unfolding computed
F-verdict = refl

F-none : delay_at (listing_of (program_f 6 2)) 10 ≡ none
unfolding computed
F-none = refl

pub F-no-delay : word_at (marked (listing_of (program_f 6 2)) 0 (replicate max_code 0)) 10 ≡ 0
F-no-delay = (zero-none (program_f 6 2) F-verdict (omega (arith, F-few)) 10).1 F-none
