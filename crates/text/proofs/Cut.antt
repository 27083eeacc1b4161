-- Where a line is cut does not matter: feeding two pieces one after the other is feeding them joined.
use Prim.Native.Nat.{ℕ}
use mathlib.Core.Path.{◌≡◌, refl}
use mathlib.Core.List.{List, [], ◌∷◌, ◌++◌}
use Rattle.text.specs.Part.{part_after, part_after_all}
use Rattle.text.specs.declared.number.Part.{Part}

pub part_cut : (p : Part) (a b : List ℕ) → part_after_all p (a ++ b) ≡ part_after_all (part_after_all p a) b
part_cut p [] b = refl
part_cut p (x ∷ xs) b = part_cut (part_after p x) xs b
