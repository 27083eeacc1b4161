-- What the program comes to in the memory that it is lent: some reads, the answer to what they brought, and some writes of that.
use Rattle.std.specs.Prelude.{ℕ, ◌≤◌, ◌≡◌, Bool, false, List, ℤ, length}
use Rattle.text.specs.Line.{room}
use Rattle.intake.specs.Heard.{heard}
use Rattle.answering.specs.Answer.{Answered, answer_shown, blank}
use Rattle.shell.specs.Reading.{Brought, Hearing, hears, silent}
use Rattle.answering.specs.Writing.{page_of, Printed}

-- what is known after these reads into these tables
abbrev pub heard_in : List ℤ → List Brought → Hearing
heard_in tables reads = hears (silent tables) reads

-- what is answered to what is known after these reads into these tables
abbrev pub answer_in : List ℤ → List Brought → Answered
answer_in tables reads = answer_shown (heard (heard_in tables reads).fed) blank

-- the program has run from these tables to these, with this code, this buffer and whether all was written
pub record Ran (tables left : List ℤ) (code buffer : List ℕ) (all : Bool) : Type 0 where
  pub reads : List Brought
  pub over : (heard_in tables reads).more ≡ false
  pub filled : (heard_in tables reads).fed.room ≡ left
  pub listed : (answer_in tables reads).code ≡ code
  -- the buffer as the last read has left it
  pub bytes : List ℕ
  pub fits : room ≤ length bytes
  pub prints : Printed (answer_in tables reads) (page_of (answer_in tables reads) false 0 bytes) all buffer
