-- What the shipped program answers to what it has read, and what is printed of that.
use Rattle.std.specs.Prelude.{ℕ, ◌*◌, Bool, cond, List, ◌++◌, take, replicate}
use Rattle.theory.specs.Rows.{placeless}
use Rattle.cells.specs.Limits.{max_held, words_each}
use Rattle.cells.specs.Refusals.{shape_refused, code_refused}
use Rattle.program.specs.Tables.{Tables}
use Rattle.code.specs.Op.{instructions}
use Rattle.code.specs.Compile.{Compiling, compile_answer, compile_slice}
use Rattle.code.specs.declared.Compiled.{Compiled}
use Rattle.text.specs.Listing.{listing_text}
use Rattle.text.specs.Input.{Read, bad, too_many, got}
use Rattle.text.specs.Shipped.{bad_input, larger_listing, answer_line, is_larger}
use Rattle.answering.specs.declared.answer.Shown.{Shown}
use Rattle.answering.specs.declared.answer.Shown.TheVariants.{Bad, Larger, Said}

-- the answer, and the code as it is left
pub record Answered : Type 0 where
  pub shown : Shown
  pub code : List ℕ

-- an answer and its code put together
abbrev pub answered : Shown → List ℕ → Answered
answered s code = record { shown = s; code = code }

-- what compiling answered, with whether its 11 is that of a listing larger than is held
abbrev pub shown_of : Compiled → Bool → Shown
shown_of c larger = cond larger Larger (Said c.answer c.length)

-- the answer to a program that was read: compiling's own
abbrev pub compiled_of : Tables → List ℕ → Answered
compiled_of T code =
    let L : Compiling = record { tables = T; slice = code } in
    answered (shown_of (compile_answer L) (is_larger T (compile_answer L).answer.number)) (compile_slice L)

-- the answer to what was read: `bad input`; 1 for a count outside its limit; else what compiling says
unfoldable pub answer_shown : Read Tables → List ℕ → Answered
answer_shown bad code = answered Bad code
answer_shown too_many code = answered (Said (placeless shape_refused) 0) code
answer_shown (got T rest) code = compiled_of T code

-- the code that is lent to compiling: room for the longest listing that is held, 0 at first
abbrev pub blank : List ℕ
blank = replicate (words_each * max_held) 0

-- what is printed of a listing that is larger than is held: 11, and that it is
abbrev pub larger_lines : List ℕ
larger_lines = answer_line (placeless code_refused) ++ larger_listing

-- what is printed of what is to be shown: `bad input`, or what the answer begins with and then as much of the code as it is long
abbrev pub text_shown : Shown → List ℕ → List ℕ
text_shown Bad code = bad_input
text_shown Larger code = larger_lines
text_shown (Said x n) code = answer_line x ++ listing_text (instructions (take (words_each * n) code))

-- what is printed of an answer
unfoldable pub text_of_answer : Answered → List ℕ
text_of_answer a = text_shown a.shown a.code
