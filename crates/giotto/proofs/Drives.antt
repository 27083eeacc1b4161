-- What a driver writes: its moves are 001's `Drives`, inside the ports, with one value for each destination.
-- Assumes rules 1, 2 and 4 where they are named.
use Prim.Native.Nat.{ℕ, ◌<◌}
use mathlib.Core.Path.{◌≡◌, refl, ap, sym, subst, ◌∙◌}
use mathlib.Core.Bool.{Bool, true, false}
use mathlib.Core.List.{List, []}
use mathlib.Core.Logic.{◌↔◌}
use native.Mathlib.Omega.{arith}
use lib.IntN.{ℤ}
use Rattle.theory.specs.Lists.{Put}
use Rattle.theory.proofs.Bools.{clash}
use Rattle.theory.proofs.Members.{has-map}
use Rattle.theory.proofs.Puts.{Wrote, Assigns}
use Rattle.cells.specs.Limits.{max_ports}
use Rattle.program.specs.Tables.{Tables, driver_count, copy_source}
use Rattle.program.specs.Guard.{guard_of, holds}
use Rattle.program.specs.Sets.{Destination}
use Rattle.program.specs.Program.{Copy, driver_row, program_of, driver}
use Rattle.program.specs.Ports.{value_of, copy_puts, moves}
use Rattle.program.proofs.Decoded.{driver-row, has-copies}
use Rattle.rules.specs.Shape.{Shaped}
use Rattle.rules.specs.Fields.{Fields}
use Rattle.rules.specs.Declared.{Copies}
use Rattle.rules.proofs.Shape.{ports-few}
use Rattle.giotto.specs.Successor.{Valuation, Drives}
use Rattle.giotto.proofs.Steps.{same_row}

module _ (T : Tables) where
  -- the copies of a driver of the tables write what it drives
  wrote-copies : (v : List ℤ) (d p : ℕ) (x : ℤ)
      → Wrote (copy_puts v (driver_row T d)) p x ↔ Drives T d (value_of v) p x
  wrote-copies v d p x =
      let s = has-map (λ (a : Put). (a.place ≡ p) × (x ≡ a.value)) (λ c. record { place = c.destination; value = value_of v c.source }) (driver_row T d).copies in
      let r = has-copies T (λ (c : Copy). (c.destination ≡ p) × (x ≡ value_of v c.source)) d in (
        λ h. let w = r.0 (s.0 h) in (w.0, w.1, w.2, w.3.0, w.3.1),
        λ w. s.1 (r.1 (w.0, w.1, w.2, (w.3, w.4))),
      )

  -- a driver of the tables writes what it drives where its guard holds, and else nothing
  wrote-moves : (v : List ℤ) (d p : ℕ) (x : ℤ)
      → Wrote (moves v (driver_row T d)) p x ↔ ((holds (guard_of T d) (value_of v) ≡ true) × Drives T d (value_of v) p x)
  wrote-moves v d p x = go (holds (guard_of T d) (value_of v)) refl
    where
      go : (b : Bool) → holds (guard_of T d) (value_of v) ≡ b
          → Wrote (elim b [ true ↦ copy_puts v (driver_row T d) | false ↦ [] ]) p x
          ↔ ((holds (guard_of T d) (value_of v) ≡ true) × Drives T d (value_of v) p x)
      go true e = let r = wrote-copies v d p x in (λ h. (e, r.0 h), λ w. r.1 w.1)
      go false e = (λ h. absurd h, λ w. clash w.0 e)

  -- the program's driver of a declared number writes what it drives where its guard holds, and else nothing
  pub wrote-driver : (v : List ℤ) (d p : ℕ) (x : ℤ) → d < driver_count T
      → Wrote (moves v (driver (program_of T) d)) p x ↔ ((holds (guard_of T d) (value_of v) ≡ true) × Drives T d (value_of v) p x)
  wrote-driver v d p x l = rw (driver-row T d l) (wrote-moves v d p x)

  module _ (d p : ℕ) (v : Valuation) where
    -- what a driver drives is a destination of it
    drives-to : (x : ℤ) → Drives T d v p x → Destination T d p
    drives-to x w = (w.0, w.1, (w.2, w.3))

    -- what a driver drives lies inside the ports
    drives-inside : Shaped T → Fields T → (x : ℤ) → Drives T d v p x → p < max_ports
    drives-inside s f x w = omega (arith, ports-few T s, (f.copies w.0 w.1).destination, w.3)

    -- a driver drives one value to a destination
    drives-one : Copies T → (x y : ℤ) → Drives T d v p x → Drives T d v p y → x ≡ y
    drives-one k x y a b = a.4 ∙ ap (λ c. v (copy_source T c)) e ∙ sym b.4
      where
        e : a.0 ≡ b.0
        e =
            same_row a.0 b.0
            (λ l. k.apart a.0 b.0 l b.1 (a.2 ∙ sym b.2) (a.3 ∙ sym b.3))
            (λ l. k.apart b.0 a.0 l a.1 (b.2 ∙ sym a.2) (b.3 ∙ sym a.3))

  -- the moves of a driver whose guard holds are assignments of what it drives
  pub moves-assign : Shaped T → Fields T → Copies T → (v : List ℤ) (d : ℕ) → d < driver_count T → holds (guard_of T d) (value_of v) ≡ true
      → Assigns (Drives T d (value_of v)) (moves v (driver (program_of T) d)) max_ports
  moves-assign s f k v d l g =
      record {
        wrote = λ p x. (λ h. ((wrote-driver v d p x l).0 h).1, λ w. (wrote-driver v d p x l).1 (g, w));
        one = λ p x y. drives-one d p (value_of v) k x y;
        inside = λ p x. drives-inside d p (value_of v) s f x;
      }

  -- where no two rows drive one port, the writes of their drivers are assignments of what they drive
  pub rows-assign : {Row : ℕ → Type 0} (driver_of : ℕ → ℕ) (l : List Put) (v : Valuation) → Shaped T → Fields T → Copies T
      → ((p : ℕ) (x : ℤ) → Wrote l p x ↔ ((i : ℕ) × Row i × Drives T (driver_of i) v p x))
      → ((i j p : ℕ) → Row i → Row j → Destination T (driver_of i) p → Destination T (driver_of j) p → i ≡ j)
      → Assigns (λ p x. (i : ℕ) × Row i × Drives T (driver_of i) v p x) l max_ports
  rows-assign driver_of l v s f k wrote apart =
      record {
        wrote = wrote;
        one = λ p x y (i, r, a) (j, q, b).
            let e = apart i j p r q (drives-to (driver_of i) p v x a) (drives-to (driver_of j) p v y b) in
            drives-one (driver_of i) p v k x y a (subst (λ n. Drives T (driver_of n) v p y) (sym e) b);
        inside = λ p x w. drives-inside (driver_of w.0) p v s f x w.2;
      }
