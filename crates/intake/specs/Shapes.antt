-- The ten tables in the order of the text: the shape of each by its number, and the room for all of them.
use Rattle.std.specs.Prelude.{ℕ, ◌+◌, ◌*◌, List, [], ◌∷◌, get_or}
use Rattle.text.specs.Input.{Shape, shapes}

-- the shape past the last table: no numbers and no rows
abbrev pub no_shape : Shape
no_shape = record { width = 0; limit = 0 }

-- the shape of the table of this number
unfoldable pub shape_at : ℕ → Shape
shape_at k = get_or shapes k no_shape

-- how many numbers tables of these shapes have that each have the most rows
abbrev pub room_for : List Shape → ℕ
room_for [] = 0
room_for (s ∷ ss) = s.limit * s.width + room_for ss

-- how many numbers the largest program has: a room of so many never is too short
abbrev pub whole_room : ℕ
whole_room = room_for shapes
