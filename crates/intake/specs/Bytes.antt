-- The intake after one byte more, after many, and at the end of the input.
use Rattle.std.specs.Prelude.{ℕ, cond, List, [], ◌∷◌, eqb}
use Rattle.text.specs.Decimal.{newline}
use Rattle.text.specs.Part.{start_part, is_start, part_after, signed_of}
use Rattle.text.specs.declared.number.Part.{Part}
use Rattle.intake.specs.Change.{with_part}
use Rattle.intake.specs.Line.{Fed, fed, took_of}

-- what is known of a text, with this read of the line
abbrev pub at_part : Fed → Part → Fed
at_part f p = fed (with_part f.intake p) f.room

-- what is known of a text after the end of a line: it is taken whole, and the next one begins
unfoldable pub line_end : Fed → Fed
line_end f = at_part (took_of f (signed_of f.intake.part)) start_part

-- what is known of a text after one byte more
unfoldable pub fed_of : Fed → ℕ → Fed
fed_of f b = cond (eqb b newline) (line_end f) (at_part f (part_after f.intake.part b))

-- what is known of a text after all of these bytes
abbrev pub fed_all : Fed → List ℕ → Fed
fed_all f [] = f
fed_all f (b ∷ bs) = fed_all (fed_of f b) bs

-- what is known of a text at the end of the input: a last line without a line end is a line, if it has some byte
unfoldable pub ended_of : Fed → Fed
ended_of f = cond (is_start f.intake.part) f (line_end f)
