-- The listing as text: an instruction a line, its address, its mnemonic, its arguments, one space between words.
-- Unused words are not printed.
use Rattle.std.specs.Prelude.{ℕ, suc, List, [], ◌∷◌, ◌++◌}
use Rattle.code.specs.Op.{Op, call, schedule, branch, jump, future, return, faulty}
use Rattle.text.specs.Decimal.{space, newline, decimal}

-- the mnemonic of an instruction in ASCII: c a l l, s c h e d u l e, i f, j u m p, f u t u r e, r e t u r n
abbrev pub mnemonic : Op → List ℕ
mnemonic (call n) = 99 ∷ 97 ∷ 108 ∷ 108 ∷ []
mnemonic (schedule t) = 115 ∷ 99 ∷ 104 ∷ 101 ∷ 100 ∷ 117 ∷ 108 ∷ 101 ∷ []
mnemonic (branch d a) = 105 ∷ 102 ∷ []
mnemonic (jump a) = 106 ∷ 117 ∷ 109 ∷ 112 ∷ []
mnemonic (future d a) = 102 ∷ 117 ∷ 116 ∷ 117 ∷ 114 ∷ 101 ∷ []
mnemonic return = 114 ∷ 101 ∷ 116 ∷ 117 ∷ 114 ∷ 110 ∷ []
mnemonic faulty = []

-- the arguments of an instruction: its words that are used
abbrev pub arguments : Op → List ℕ
arguments (call n) = n ∷ []
arguments (schedule t) = t ∷ []
arguments (branch d a) = d ∷ a ∷ []
arguments (jump a) = a ∷ []
arguments (future d a) = d ∷ a ∷ []
arguments return = []
arguments faulty = []

-- numbers in decimal, each after a space
abbrev pub spaced : List ℕ → List ℕ
spaced [] = []
spaced (n ∷ ns) = space ∷ (decimal n ++ spaced ns)

-- the line of an instruction at an address
abbrev pub line_of : ℕ → Op → List ℕ
line_of address o = decimal address ++ (space ∷ (mnemonic o ++ (spaced (arguments o) ++ (newline ∷ []))))

-- the lines of instructions, of which the first has this address
abbrev pub lines_from : ℕ → List Op → List ℕ
lines_from address [] = []
lines_from address (o ∷ os) = line_of address o ++ lines_from (suc address) os

-- the listing of instructions as text: their lines from address 0 on
abbrev pub listing_text : List Op → List ℕ
listing_text os = lines_from 0 os
