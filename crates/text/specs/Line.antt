-- A line of text by value: what it says, and what it says after more was appended.
use Rattle.std.specs.Prelude.{ℕ, suc, ◌+◌, ◌≡◌, List, ◌++◌, length, take, drop, replicate}
use Rattle.text.specs.Digits.{most_digits}
use Rattle.text.specs.declared.line.Line.{Line}

-- how many bytes a line holds, more than any line of a listing has
abbrev pub room : ℕ
room = 64

-- the most bytes of an argument with its space
abbrev pub most_argument : ℕ
most_argument = suc most_digits

-- the text of a line: as many of its bytes as it has
unfoldable pub text_of : Line → List ℕ
text_of l = take l.len l.bytes

-- a line that says this text, all of it; behind it stand zeros
pub record Holds (l : Line) (said : List ℕ) : Type 0 where
  pub text : text_of l ≡ said
  pub len : l.len ≡ length said
  pub rest : drop l.len l.bytes ≡ drop l.len (replicate room 0)

-- a line that says what another said, and this after it; behind it stands what stood there
pub record Appended (before after : Line) (more : List ℕ) : Type 0 where
  pub text : text_of after ≡ text_of before ++ more
  pub len : after.len ≡ before.len + length more
  pub rest : drop after.len after.bytes ≡ drop after.len before.bytes
