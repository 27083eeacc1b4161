-- The numbers of a table: a lent slice of signed numbers, row after row; and the words of E code.
use Rattle.std.specs.Prelude.{ℕ, ◌+◌, ◌*◌, ◌/◌, ◌≤◌, ◌<◌, Bool, false, cond, List, eqb, ltb, ℤ, pos, negsuc, get_or, length}

-- the signed number at a place of a slice, and 0 past its end
abbrev pub cell_at : List ℤ → ℕ → ℤ
cell_at t i = get_or t i (pos 0)

-- a number that is out of range wherever document 01 has a range
abbrev pub out_of_range : ℕ
out_of_range = 2147483648

-- a signed number as one that counts or names; a negative one is out of every range
abbrev pub index_of : ℤ → ℕ
index_of (pos n) = n
index_of (negsuc n) = out_of_range

-- the number that names nothing, of each kind
abbrev pub unnamed : ℕ
unnamed = 255

-- the number of a kind (port, task, driver, mode): one byte, `unnamed` for all that is larger, since every table has fewer rows
unfoldable pub name_of : ℕ → ℕ
name_of n = cond (ltb n unnamed) n unnamed

-- the number at a place of a slice, as one that counts or names
unfoldable pub num_at : List ℤ → ℕ → ℕ
num_at t i = index_of (cell_at t i)

-- the number of a kind at a place of a slice
unfoldable pub name_at : List ℤ → ℕ → ℕ
name_at t i = name_of (num_at t i)

-- how many whole rows a table of this width has
abbrev pub rows_in : ℕ → List ℤ → ℕ
rows_in width t = length t / width

-- the most columns that a table of document 01 has
abbrev pub widest : ℕ
widest = 5

-- a width and a column small enough that the place of the column in its row does not wrap
pub record Column (width column : ℕ) : Type 0 where
  pub some : 1 ≤ width
  pub few : width ≤ widest
  pub within : column < widest

-- a column of a row: as a number, as the number of a kind, as a signed value
abbrev pub field_at : ℕ → ℕ → List ℤ → ℕ → ℕ
field_at width column t row = num_at t (row * width + column)

abbrev pub named_at : ℕ → ℕ → List ℤ → ℕ → ℕ
named_at width column t row = name_at t (row * width + column)

abbrev pub value_at : ℕ → ℕ → List ℤ → ℕ → ℤ
value_at width column t row = cell_at t (row * width + column)

-- the word at a place of E code, and 0 past its end
unfoldable pub word_at : List ℕ → ℕ → ℕ
word_at code i = get_or code i 0

-- the greatest word
abbrev pub greatest_word : ℕ
greatest_word = 4294967295

-- the test that two signed numbers are equal
abbrev pub eq_z : ℤ → ℤ → Bool
eq_z (pos a) (pos b) = eqb a b
eq_z (pos a) (negsuc b) = false
eq_z (negsuc a) (pos b) = false
eq_z (negsuc a) (negsuc b) = eqb a b
