-- What is handed to writes, however much each of them takes: the pages of an answer, one after the other.
use Rattle.std.specs.Prelude.{ℕ, ◌+◌, ◌-◌, ◌*◌, ◌≡◌, Bool, true, cond, List, [], ◌∷◌, ◌++◌, eqb, ltb, length, take, drop, replicate}
use Rattle.cells.specs.Limits.{words_each}
use Rattle.code.specs.Op.{Op, instructions}
use Rattle.text.specs.Listing.{lines_from}
use Rattle.text.specs.Page.{lines_of, page_end}
use Rattle.text.specs.Shipped.{bad_input, answer_line}
use Rattle.answering.specs.Answer.{Answered, larger_lines}
use Rattle.answering.specs.declared.answer.Shown.{Shown}
use Rattle.answering.specs.declared.answer.Shown.TheVariants.{Bad, Larger, Said}
use Rattle.answering.specs.declared.pages.Sheet.{Sheet}

-- how many bytes the buffer has that pieces are read into and pages are laid in
abbrev pub buffer_size : ℕ
buffer_size = 4096

-- the buffer at first: all its bytes are 0
abbrev pub empty_buffer : List ℕ
empty_buffer = replicate buffer_size 0

-- what an answer begins with: its first line, or the two for a listing that is larger than is held
unfoldable pub opening_of : Shown → List ℕ
opening_of Bad = bad_input
opening_of Larger = larger_lines
opening_of (Said x n) = answer_line x

-- the length of the listing that is shown; behind `bad input`, and where it is larger than is held, there is none
abbrev pub length_shown : Shown → ℕ
length_shown Bad = 0
length_shown Larger = 0
length_shown (Said x n) = n

-- the code whose lines follow what an answer begins with
unfoldable pub code_of : Answered → List ℕ
code_of a = take (words_each * length_shown a.shown) a.code

-- the instructions whose lines follow what an answer begins with
abbrev pub ops_of : Answered → List Op
ops_of a = instructions (code_of a)

-- a page and the buffer that it lies in
pub record Spread : Type 0 where
  pub sheet : Sheet
  pub buffer : List ℕ

-- a page and its buffer put together
abbrev pub spread : Sheet → List ℕ → Spread
spread s buffer = record { sheet = s; buffer = buffer }

-- a page with these bytes at the buffer's start; the page behind it begins with this instruction
abbrev pub laid : List ℕ → ℕ → List ℕ → Spread
laid text next buffer = spread (record { from = 0; len = length text; next = next }) (text ++ drop (length text) buffer)

-- the first page has what the answer begins with; each other begins with an instruction and has as many lines as the buffer is sure to hold
unfoldable pub page_of : Answered → Bool → ℕ → List ℕ → Spread
page_of a begun from buffer =
    let end = page_end (length (ops_of a) - from) (ops_of a) (length buffer) from 0 in
    cond begun (laid (lines_of (ops_of a) from end) end buffer) (laid (opening_of a.shown) 0 buffer)

-- what is handed to the next write: what is left of the page
unfoldable pub rest_of : Spread → List ℕ
rest_of p = drop p.sheet.from (take p.sheet.len p.buffer)

-- a page of which so many bytes more were written
abbrev pub onward : Sheet → ℕ → Sheet
onward s n = record { from = s.from + n; len = s.len; next = s.next }

-- the page after a write that took so many bytes: the rest of it, or the next page
unfoldable pub wrote_of : Answered → Spread → ℕ → Spread
wrote_of a p n =
    cond (ltb n (length (rest_of p))) (spread (onward p.sheet n) p.buffer)
    (page_of a true p.sheet.next p.buffer)

-- the page that is left after these writes, each with the bytes that it took
abbrev pub page_left : Answered → Spread → List ℕ → Spread
page_left a p [] = p
page_left a p (n ∷ ns) = page_left a (wrote_of a p n) ns

-- all that was taken by these writes, in order, each with the bytes that it took
abbrev pub taken_of : Answered → Spread → List ℕ → List ℕ
taken_of a p [] = []
taken_of a p (n ∷ ns) = take n (rest_of p) ++ taken_of a (wrote_of a p n) ns

-- all that is still to be handed on: the rest of the page, and the lines from the next page's first instruction on
abbrev pub pending_of : Answered → Spread → List ℕ
pending_of a p = rest_of p ++ lines_from p.sheet.next (drop p.sheet.next (ops_of a))

-- no byte of an answer is left to hand on
unfoldable pub is_written : Spread → Bool
is_written p = eqb (length (rest_of p)) 0

-- what some writes, whatever each of them took, have come to
pub record AfterWrites (a : Answered) (first last : Spread) : Type 0 where
  pub takes : List ℕ
  pub comes : page_left a first takes ≡ last

-- where printing ends, with this in the buffer: whether all was written
pub record Printed (a : Answered) (first : Spread) (all : Bool) (buffer : List ℕ) : Type 0 where
  pub sheet : Sheet
  pub writes : AfterWrites a first (spread sheet buffer)
  pub whole : is_written (spread sheet buffer) ≡ all
