-- Drivers one after the other are drivers at once.
-- Assumes, of drivers, that none of them writes what one of them reads (`Unmixed`).
use Prim.Native.Nat.{ℕ}
use mathlib.Core.Path.{◌≡◌, refl, sym, ap, ap₂, ◌∙◌}
use mathlib.Core.Bool.{Bool, true, false}
use mathlib.Core.List.{List, [], ◌∷◌, map}
use mathlib.Core.Logic.{◌⊎◌, inl, inr}
use lib.IntN.{ℤ, pos}
use Rattle.theory.specs.Lists.{gather, Put, puts}
use Rattle.theory.proofs.Bools.{is_false}
use Rattle.theory.proofs.Members.{Has, has-as, has-map, member-says}
use Rattle.theory.proofs.Puts.{puts-append, puts-other}
use Rattle.readings.specs.Reading.{inside}
use Rattle.program.specs.Guard.{Guard, always, interval, holds}
use Rattle.program.specs.Program.{Copy, Driver}
use Rattle.program.specs.Ports.{value_of, moves, drive, drive_all}
use Rattle.program.proofs.Ports.{moves-miss}

-- the port values after drivers copy one after the other
abbrev pub drive_each : List Driver → List ℤ → List ℤ
drive_each [] v = v
drive_each (D ∷ Ds) v = drive_each Ds (drive D v)

-- an interval guard reads its port, a guard that always holds reads none
abbrev pub GuardReads : Guard → ℕ → Type 0
GuardReads always p = ⊥
GuardReads (interval q low high) p = q ≡ p

-- a driver reads the port of its interval guard and the sources of its copies
abbrev pub Reads : Driver → ℕ → Type 0
Reads D p = GuardReads D.guard p ⊎ Has (λ c. c.source ≡ p) D.copies

-- a driver writes the destinations of its copies
abbrev pub Writes : Driver → ℕ → Type 0
Writes D p = Has (λ c. c.destination ≡ p) D.copies

-- none of the drivers of a list writes what one of them reads
abbrev pub Unmixed : List Driver → Type 0
Unmixed Ds = (p : ℕ) → Has (λ D. Writes D p) Ds → Has (λ D. Reads D p) Ds → ⊥

module _ (v w : List ℤ) where
  -- a guard holds alike for two lists of values that agree on the port that it reads
  holds_same : (g : Guard) → ((p : ℕ) → GuardReads g p → value_of w p ≡ value_of v p) → holds g (value_of w) ≡ holds g (value_of v)
  holds_same always h = refl
  holds_same (interval q low high) h = ap (λ (x : ℤ). inside low x high) (h q refl)

  -- copies move alike from two lists of values that agree on the sources
  copies-same : (cs : List Copy) → ((p : ℕ) → Has (λ c. c.source ≡ p) cs → value_of w p ≡ value_of v p)
      → ◌≡◌ {A = List Put} (map (λ c. record { place = c.destination; value = value_of w c.source }) cs)
      (map (λ c. record { place = c.destination; value = value_of v c.source }) cs)
  copies-same [] h = refl
  copies-same (c ∷ cs) h =
      ap₂ (λ (x : ℤ) (l : List Put). record { place = c.destination; value = x } ∷ l) (h c.source (inl refl))
      (copies-same cs (λ p m. h p (inr m)))

  -- a driver moves alike from two lists of values that agree on what it reads
  moves-same : (D : Driver) → ((p : ℕ) → Reads D p → value_of w p ≡ value_of v p) → moves w D ≡ moves v D
  moves-same D h =
      ap₂ (λ (b : Bool) (l : List Put). elim b as (λ b. List Put) [ true ↦ l | false ↦ [] ]) (holds_same D.guard (λ p m. h p (inl m)))
      (copies-same D.copies (λ p m. h p (inr m)))

-- a port that a driver does not write is as before
drive-other : (D : Driver) (v w : List ℤ) (p : ℕ) → (Writes D p → ⊥) → value_of (puts (moves v D) w) p ≡ value_of w p
drive-other D v w p none =
    puts-other (pos 0) (moves v D) w p
    (moves-miss D v p
    (is_false (member-says p (map (λ c. c.destination) D.copies))
    (λ h. none (has-as _ _ D.copies (λ c e. sym e) ((has-map (λ y. p ≡ y) (λ c. c.destination) D.copies).0 h)))))

-- from values that agree with v on all that the drivers read, they write one after the other what they move at v
each-moves : (Ds : List Driver) (v w : List ℤ) → Unmixed Ds → ((p : ℕ) → Has (λ D. Reads D p) Ds → value_of w p ≡ value_of v p)
    → drive_each Ds w ≡ puts (gather (moves v) Ds) w
each-moves [] v w u h = refl
each-moves (D ∷ Ds) v w u h =
    ap (λ (l : List Put). drive_each Ds (puts l w)) (moves-same v w D (λ p m. h p (inl m)))
    ∙ each-moves Ds v (puts (moves v D) w) (λ p a b. u p (inr a) (inr b))
    (λ p m. drive-other D v w p (λ a. u p (inl a) (inr m)) ∙ h p (inr m))
    ∙ sym (puts-append (moves v D) (gather (moves v) Ds) w)

-- drivers one after the other are drivers at once
pub drive-once : (Ds : List Driver) (v : List ℤ) → Unmixed Ds → drive_each Ds v ≡ drive_all Ds v
drive-once Ds v u = each-moves Ds v v u (λ p m. refl)
