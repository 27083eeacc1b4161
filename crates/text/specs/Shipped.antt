-- What the shipped program prints for what it reads: the compiling verdict on one line, with its place, then, if it is 0, the listing;
-- 11 and that the listing is larger than is held, where it is within the limit; 1 at once for a count outside its limit; `bad input` for
-- other text. And the same of an accepted program by the length of its listing.
use Rattle.std.specs.Prelude.{ℕ, zero, suc, ◌*◌, ◌≤◌, ◌<◌, ◌≡◌, Bool, not, ◌&&◌, cond, List, [], ◌∷◌, ◌++◌, eqb, leb, length, replicate}
use Rattle.theory.specs.Rows.{placeless}
use Rattle.theory.specs.Verdict.{accepted_number}
use Rattle.theory.specs.declared.Answer.{Answer}
use Rattle.cells.specs.Limits.{max_code, max_held, words_each}
use Rattle.cells.specs.Refusals.{shape_refused, fields_refused, whole_refused, code_refused}
use Rattle.program.specs.Tables.{Tables}
use Rattle.rules.specs.Verdict.{program_verdict}
use Rattle.code.specs.Compile.{listing_of, code_long, compile_answer}
use Rattle.code.specs.declared.Compiled.{Compiled}
use Rattle.text.specs.Decimal.{newline, decimal}
use Rattle.text.specs.Listing.{spaced, listing_text}
use Rattle.text.specs.Input.{Read, bad, too_many, got, program_read}

-- the line of a text that is no program: b a d  i n p u t in ASCII
abbrev pub bad_input : List ℕ
bad_input = 98 ∷ 97 ∷ 100 ∷ 32 ∷ 105 ∷ 110 ∷ 112 ∷ 117 ∷ 116 ∷ newline ∷ []

-- the line of a listing that is larger than is held: l i s t i n g  l a r g e r  t h a n, the most instructions that are held,
-- i n s t r u c t i o n s in ASCII
abbrev pub larger_listing : List ℕ
larger_listing =
    (108 ∷ 105 ∷ 115 ∷ 116 ∷ 105 ∷ 110 ∷ 103 ∷ 32 ∷ 108 ∷ 97 ∷ 114 ∷ 103 ∷ 101 ∷ 114 ∷ 32 ∷ 116 ∷ 104 ∷ 97 ∷ 110 ∷ 32 ∷ [])
    ++ decimal max_held
    ++ (32 ∷ 105 ∷ 110 ∷ 115 ∷ 116 ∷ 114 ∷ 117 ∷ 99 ∷ 116 ∷ 105 ∷ 111 ∷ 110 ∷ 115 ∷ newline ∷ [])

-- a number of 2 to 10, which has a place in the tables
abbrev pub has_place : ℕ → Bool
has_place n = leb fields_refused n && leb n whole_refused

-- the line of an answer: its number, and behind a number of 2 to 10 table and row
unfoldable pub answer_line : Answer → List ℕ
answer_line x =
    decimal x.number ++ cond (has_place x.number) (spaced (x.outer ∷ x.inner ∷ [])) [] ++ (newline ∷ [])

-- the number 11 for a listing within the limit: the listing is larger than is held
unfoldable pub is_larger : Tables → ℕ → Bool
is_larger T n = eqb n code_refused && not (code_long T)

-- what is printed behind the line of this number: for 0 the listing, for 11 of a listing within the limit that it is larger than is held
abbrev pub behind_number : Tables → ℕ → List ℕ
behind_number T zero = listing_text (listing_of T)
behind_number T (suc n) = cond (is_larger T (suc n)) larger_listing []

-- what is printed of a program with this answer of compiling it into the slice that is held
abbrev pub printed_for : Tables → Compiled → List ℕ
printed_for T c = answer_line c.answer ++ behind_number T c.answer.number

-- what is printed of what was read
abbrev pub printed : Read Tables → List ℕ
printed bad = bad_input
printed too_many = answer_line (placeless shape_refused)
printed (got T rest) = printed_for T (compile_answer (record { tables = T; slice = replicate (words_each * max_held) 0 }))

-- what the shipped program prints for a text
unfoldable pub shipped : List ℕ → List ℕ
shipped text = printed (program_read text)

-- a text that is printed of an accepted program, by how long its listing is: 0 and the listing; 11 and that it is larger than is held;
-- 11 alone
pub record ByLength (T : Tables) (text : List ℕ) : Type 0 where
  pub held : length (listing_of T) ≤ max_held → text ≡ answer_line (placeless accepted_number) ++ listing_text (listing_of T)
  pub larger : max_held < length (listing_of T) → length (listing_of T) ≤ max_code → text ≡ answer_line (placeless code_refused) ++ larger_listing
  pub long : max_code < length (listing_of T) → text ≡ answer_line (placeless code_refused)

-- what the shipped program prints for the text of an accepted program goes by how long its listing is
abbrev pub PrintsByLength : Type 0
PrintsByLength =
    (text : List ℕ) (T : Tables) → program_read text ≡ got T [] → program_verdict T ≡ accepted_number → ByLength T (shipped text)
