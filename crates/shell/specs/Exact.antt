-- What is promised of the shipped program. Outside every contract are two calls, `read` and `write`, and their loops; so it is said of
-- every sequence of pieces that reads may bring, and of every number of bytes that each write may take: the bytes handed to `write`, in
-- order, are the text that document 01 gives; and no read is asked for after the text is decided.
use Rattle.std.specs.Prelude.{ℕ, ◌≤◌, ◌≡◌, true, false, List, [], ◌∷◌, ◌++◌, map, ℤ, length, take, Some, None}
use Rattle.theory.specs.Lists.{Every}
use Rattle.theory.specs.Rows.{placeless}
use Rattle.cells.specs.Refusals.{shape_refused}
use Rattle.text.specs.Line.{room}
use Rattle.text.specs.Shipped.{bad_input, answer_line, printed, shipped}
use Rattle.intake.specs.Heard.{heard}
use Rattle.intake.specs.Exact.{Roomy}
use Rattle.answering.specs.Answer.{Answered}
use Rattle.shell.specs.Reading.{Brought, piece, end, failure, brought, Hearing}
use Rattle.answering.specs.Writing.{Spread, page_of, page_left, taken_of, pending_of, is_written}
use Rattle.shell.specs.Running.{heard_in, answer_in, Ran}

-- the buffers that the program works in: room for the largest program, and for any line
pub record Buffers : Type 0 where
  pub tables : List ℤ
  pub roomy : Roomy tables
  pub bytes : List ℕ
  pub fits : room ≤ length bytes

-- reads that bring these pieces, one after the other
abbrev pub pieces : List (List ℕ) → List Brought
pieces ps = map piece ps

-- the text that these pieces are
abbrev pub pieces_text : List (List ℕ) → List ℕ
pieces_text [] = []
pieces_text (p ∷ ps) = p ++ pieces_text ps

module _ (B : Buffers) (reads : List Brought) where
  -- what is known after these reads
  abbrev pub heard_by : Hearing
  heard_by = heard_in B.tables reads

  -- what is answered to what is known after these reads
  abbrev pub answer_to : Answered
  answer_to = answer_in B.tables reads

  -- the first page of the answer
  abbrev pub first_page : Spread
  first_page = page_of answer_to false 0 B.bytes

  -- what was handed on and taken, in order, with so many bytes taken by each write
  abbrev pub handed : List ℕ → List ℕ
  handed takes = taken_of answer_to first_page takes

  -- what is still to come, with so many bytes taken by each write
  abbrev pub to_come : List ℕ → List ℕ
  to_come takes = pending_of answer_to (page_left answer_to first_page takes)

  -- nothing is still to come, with so many bytes taken by each write
  abbrev pub Finished : List ℕ → Type 0
  Finished takes = is_written (page_left answer_to first_page takes) ≡ true

  -- these reads have the program print a text: whatever writes take, it is handed on from its first byte on, in order; whole where the
  -- program ends; and it ends, where each write takes a byte at least, after no more writes than the text has bytes
  pub record Prints (text : List ℕ) : Type 0 where
    pub in_order : (takes : List ℕ) → handed takes ++ to_come takes ≡ text
    pub whole : (takes : List ℕ) → Finished takes → handed takes ≡ text
    pub ends : (takes : List ℕ) → Every (λ (n : ℕ). 1 ≤ n) takes → length text ≤ length takes → Finished takes

-- a run that says that all was written has handed on the whole text of the answer to what it has heard
abbrev pub RanWhole : Type 0
RanWhole =
    (tables left : List ℤ) (code buffer : List ℕ) (R : Ran tables left code buffer true)
    → let a = answer_in tables R.reads in
    taken_of a (page_of a false 0 R.bytes) R.prints.writes.takes ≡ printed (heard (heard_in tables R.reads).fed)

-- what a read has brought, by its answer: it has failed, 0 is the end of the input, else so many bytes of the buffer came
pub record ReadSays (buffer : List ℕ) : Type 0 where
  pub failed : brought None buffer ≡ failure
  pub ended : brought (Some 0) buffer ≡ end
  pub came : (n : ℕ) → 1 ≤ n → n ≤ length buffer → brought (Some n) buffer ≡ piece (take n buffer)

-- what a read has brought is told by its answer, whatever stands in the buffer
abbrev pub BroughtExactly : Type 0
BroughtExactly = (buffer : List ℕ) → ReadSays buffer

-- a text, in whatever pieces reads bring it, is answered as document 01 says
abbrev pub PrintsExactly : Type 0
PrintsExactly = (B : Buffers) (ps : List (List ℕ)) → Prints B (pieces ps ++ (end ∷ [])) (shipped (pieces_text ps))

-- where a read fails before the text is decided, what is missing of it is not known: `bad input`
abbrev pub FailsPlainly : Type 0
FailsPlainly =
    (B : Buffers) (ps : List (List ℕ)) → (heard_by B (pieces ps)).more ≡ true → Prints B (pieces ps ++ (failure ∷ [])) bad_input

-- where the program reads no more, the text is decided: it is answered as document 01 says whatever would have followed
abbrev pub StopsDecided : Type 0
StopsDecided =
    (B : Buffers) (ps : List (List ℕ)) → (heard_by B (pieces ps)).more ≡ false
    → (more : List ℕ) → Prints B (pieces ps) (shipped (pieces_text ps ++ more))

-- "1 at once": once the answer is 1 whatever follows, no read is asked for
abbrev pub StopsAtOnce : Type 0
StopsAtOnce =
    (B : Buffers) (ps : List (List ℕ)) → ((more : List ℕ) → shipped (pieces_text ps ++ more) ≡ answer_line (placeless shape_refused))
    → (heard_by B (pieces ps)).more ≡ false
