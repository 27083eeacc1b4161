-- What a line of a listing says behind its address: the mnemonic and the arguments of an instruction, as the code makes them.
use Rattle.std.specs.Prelude.{ℕ, ◌+◌, ◌*◌, cond, List, [], ◌++◌, eqb}
use Rattle.code.specs.Op.{Op}
use Rattle.text.specs.Line.{most_argument}
use Rattle.text.specs.Listing.{mnemonic, arguments, spaced}

-- how many bytes the longest mnemonic has, `schedule`
abbrev pub most_mnemonic : ℕ
most_mnemonic = 8

-- the most bytes that an instruction says: it has at most two arguments
abbrev pub most_said : ℕ
most_said = most_mnemonic + 2 * most_argument

-- what is said of an instruction: its mnemonic and its arguments
unfoldable pub said_of : Op → List ℕ
said_of o = mnemonic o ++ spaced (arguments o)

-- a text where the unused word is 0, and nothing otherwise
unfoldable pub said_where : ℕ → List ℕ → List ℕ
said_where unused said = cond (eqb unused 0) said []
