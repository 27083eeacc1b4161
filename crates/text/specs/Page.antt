-- The listing page by page: what stands in the lent slice, where a page ends, and that it has a line at least where one fits.
use Rattle.std.specs.Prelude.{ℕ, zero, suc, ◌+◌, ◌-◌, ◌≤◌, ◌<◌, max, ◌≡◌, true, false, List, ◌++◌, ltb, length, get_or, take, drop}
use Rattle.std.proofs.Math.Seq.{slice}
use Rattle.code.specs.Op.{Op, faulty}
use Rattle.text.specs.Listing.{line_of, lines_from}
use Rattle.text.specs.Line.{room, text_of}
use Rattle.text.specs.declared.line.Line.{Line}
use Rattle.text.specs.declared.page.Page.{Page}

-- a line is laid at a place of a slice, and this is the place behind it; the rest is as it was
pub record Laid (before after : List ℕ) (at : ℕ) (l : Line) (behind : ℕ) : Type 0 where
  pub end : behind ≡ at + l.len
  pub text : after ≡ take at before ++ text_of l ++ drop behind before

-- the lines of the instructions from one number up to another
abbrev pub lines_of : List Op → ℕ → ℕ → List ℕ
lines_of os from next = lines_from from (slice from next os)

-- the lines of the instructions from one number up to another stand at the start of a slice, the rest is as it was
pub record PageWritten (os : List Op) (from : ℕ) (before after : List ℕ) (next len : ℕ) : Type 0 where
  pub onward : from ≤ next
  pub inside : next ≤ max from (length os)
  pub within : len ≤ length before
  pub size : len ≡ length (lines_of os from next)
  pub text : after ≡ lines_of os from next ++ drop len before

-- where a page of this size ends that has come to an instruction, with so many instructions left and so many bytes written: at the
-- first for which there may be no room
abbrev pub page_end : ℕ → List Op → ℕ → ℕ → ℕ → ℕ
page_end zero os size next len = next
page_end (suc left) os size next len = elim (ltb (size - len) room) [
  | true ↦ next
  | false ↦ page_end left os size (next + 1) (len + length (line_of next (get_or os next faulty)))
]

-- a page from this instruction on; with one line at least, where there is an instruction and room for any line
pub record Filled (os : List Op) (from : ℕ) (before after : List ℕ) (p : Page) : Type 0 where
  pub written : PageWritten os from before after p.next p.len
  pub end : p.next ≡ page_end (length os - from) os (length before) from 0
  pub progress : from < length os → room ≤ length before → from < p.next
