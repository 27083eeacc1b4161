-- `text::listing::named` meets its contract: behind the mnemonic, after i turns, the first i arguments.
use lib.ListN.{take}
use Rattle.text.specs.Line.{Appended}
use Rattle.text.specs.Listing.{spaced}
use Rattle.text.proofs.listing.named.Given as goal

abbrev pub invariant-loop-n : goal.invariant-loop-n
invariant-loop-n l = Appended l.initial.line l.line (spaced (take l.n-index l.arguments))
