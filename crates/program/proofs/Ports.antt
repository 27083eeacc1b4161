-- What a driver's moves and a task's outputs write, as assignments to the ports.
-- Assumes of `assigned-at` that the port lies inside.
use Prim.Native.Nat.{ℕ, ◌<◌}
use mathlib.Core.Path.{◌≡◌, refl, ap, sym, ◌∙◌}
use mathlib.Core.Bool.{Bool, true, false}
use mathlib.Core.List.{List, [], map}
use mathlib.Core.Logic.Iff
use mathlib.Core.Logic.{◌↔◌}
use lib.IntN.{ℤ, pos}
use lib.ListN.{length}
use Rattle.theory.specs.Lists.{gather, member, Put, puts}
use Rattle.theory.proofs.Bools.{clash, is_true}
use Rattle.theory.proofs.Members.{Has, has-then, has-as, has-map, has-gather, member-says}
use Rattle.theory.proofs.Puts.{Wrote, puts-at}
use Rattle.program.specs.Guard.{holds}
use Rattle.program.specs.Program.{Driver}
use Rattle.program.specs.Ports.{value_of, assigned, copy_puts, moves}

-- ports that take values each get their own
pub wrote-assigned : (value : ℕ → ℤ) (ps : List ℕ) (p : ℕ) (x : ℤ) → Wrote (assigned value ps) p x ↔ Has (λ q. (q ≡ p) × (x ≡ value q)) ps
wrote-assigned value ps p x = has-map (λ a. (a.place ≡ p) × (x ≡ a.value)) (λ q. record { place = q; value = value q }) ps

-- port p gets x exactly where it is one of the ports that take values, and x its value
pub assigned-exactly : (value : ℕ → ℤ) (ps : List ℕ) (p : ℕ) (x : ℤ) → Wrote (assigned value ps) p x ↔ ((member p ps ≡ true) × (x ≡ value p))
assigned-exactly value ps p x = (
  λ w.
      let h = (wrote-assigned value ps p x).0 w in
      (is_true (member-says p ps) (has-as _ _ ps (λ q e. sym e.0) h), has-then _ ps (λ q e. e.1 ∙ ap value e.0) h),
  λ (m, e). (wrote-assigned value ps p x).1 (has-as _ _ ps (λ q d. (sym d, e ∙ ap value d)) ((member-says p ps).yes m)),
)

-- each port that takes a value has it afterwards
pub assigned-at : (value : ℕ → ℤ) (ps : List ℕ) (v : List ℤ) (p : ℕ) → p < length v → member p ps ≡ true → value_of (puts (assigned value ps) v) p ≡ value p
assigned-at value ps v p l m =
    puts-at (pos 0) (assigned value ps) v p (value p) l
    ((assigned-exactly value ps p (value p)).1 (m, refl)) (λ y w. ((assigned-exactly value ps p y).0 w).1)

-- a port that is none of those that take values is not written
pub assigned-miss : (value : ℕ → ℤ) (ps : List ℕ) (p : ℕ) → member p ps ≡ false → (x : ℤ) → Wrote (assigned value ps) p x → ⊥
assigned-miss value ps p n x w = clash ((assigned-exactly value ps p x).0 w).0 n

-- a driver writes only its destinations
pub moves-miss : (D : Driver) (v : List ℤ) (p : ℕ) → member p (map (λ c. c.destination) D.copies) ≡ false → (x : ℤ) → Wrote (moves v D) p x → ⊥
moves-miss D v p n x = go (holds D.guard (value_of v))
  where
    go : (b : Bool) → Wrote (elim b [ true ↦ copy_puts v D | false ↦ [] ]) p x → ⊥
    go true w =
        clash
        (is_true (member-says p (map (λ c. c.destination) D.copies))
        ((has-map (λ y. p ≡ y) (λ c. c.destination) D.copies).1
        (has-as _ _ D.copies (λ c e. sym e.0) ((has-map (λ a. (a.place ≡ p) × (x ≡ a.value)) _ D.copies).0 w)))) n
    go false w = w

-- several drivers write what each writes
pub wrote-all : {R : Type 0} (v : List ℤ) (f : R → Driver) (rows : List R) (p : ℕ) (x : ℤ)
    → Wrote (gather (moves v) (map f rows)) p x ↔ Has (λ r. Wrote (moves v (f r)) p x) rows
wrote-all v f rows p x =
    Iff.trans (has-gather (λ (a : Put). (a.place ≡ p) × (x ≡ a.value)) (moves v) (map f rows))
    (has-map (λ D. Wrote (moves v D) p x) f rows)
