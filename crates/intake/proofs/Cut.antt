-- Where the input is cut does not matter: feeding two pieces one after the other is feeding them joined; and what a loop over the
-- bytes does.
use Prim.Native.Nat.{ℕ, ◌+◌, ◌<◌, ◌≤◌}
use mathlib.Core.Path.{◌≡◌, refl, ap}
use mathlib.Core.List.{List, [], ◌∷◌}
use native.Mathlib.Numerals.{add-one}
use lib.ListN.{length, get_or, drop, drop_of_length-le}
use lib.Seq.{drop-cons}
use Rattle.intake.specs.Line.{Fed}
use Rattle.intake.specs.Bytes.{fed_of, fed_all}
use Rattle.intake.specs.Exact.{CutAnywhere}

-- feeding two pieces one after the other is feeding them joined
pub cut-anywhere : CutAnywhere
cut-anywhere f [] second = refl
cut-anywhere f (b ∷ bs) second = cut-anywhere (fed_of f b) bs second

module _ (f : Fed) (bytes : List ℕ) (k : ℕ) where
  -- feeding the bytes from a place on is feeding the byte there, and then those after it
  pub fed-more : k < length bytes → fed_all f (drop k bytes) ≡ fed_all (fed_of f (get_or bytes k 0)) (drop (k + 1) bytes)
  fed-more h = rw (add-one k, drop-cons bytes k 0 h)

  -- past the last byte nothing is fed
  pub fed-done : length bytes ≤ k → fed_all f (drop k bytes) ≡ f
  fed-done h = ap (fed_all f) (drop_of_length-le bytes {i = k} h)
