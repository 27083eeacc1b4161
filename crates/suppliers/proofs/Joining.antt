-- Parts of all suppliers joined, one after the other: each supplier's blocks are those of its part, the rows fit and are sorted, no
-- supplier has more rows than the limit. Assumes that each part passes number 13 and has its shape.
use Prim.Native.Nat.{ℕ, zero, suc, ◌+◌, ◌*◌, ◌≤◌, ◌<◌}
use mathlib.Core.Path.{◌≡◌, refl, sym, ap, ap₂, ◌∙◌}
use mathlib.Core.Bool.{Bool, true, ◌&&◌}
use mathlib.Core.List.{List, [], ◌++◌, append-nil}
use mathlib.Core.Logic.{⊎_elim}
use native.Mathlib.Omega.{arith}
use native.Mathlib.Decide.{ℕ_discrete}
use lib.Dec.{eqb}
use lib.IntN.{ℤ}
use lib.ListN.{length, length-append}
use Rattle.theory.specs.Lists.{those, cat}
use Rattle.theory.proofs.Lists.{those-count, those-few, those-none}
use Rattle.theory.proofs.Bools.{is_false, says_eq, says-itself, ◌and◌}
use Rattle.cells.specs.Limits.{suppliers, max_part, max_schedule}
use Rattle.program.specs.Tables.{Tables}
use Rattle.program.specs.Program.{program_of}
use Rattle.rules.specs.Shape.{WholeRows}
use Rattle.rules.proofs.Shape.{whole-few}
use Rattle.code.specs.Listing.{future_address}
use Rattle.runs.specs.Schedule.{schedule_width, schedule_count, row_supplier, row_address, row_of, block_of}
use Rattle.suppliers.specs.Schedule.{row_count, Rows, Part, Joined}
use Rattle.suppliers.specs.Supplier.{course}
use Rattle.suppliers.proofs.Appended.{SameRow, same-supplier, same_address, same_row, row-either, appended-those, appended-rows}

-- the rows of a schedule that pass a test
abbrev picked : {A : Type 0} → (List ℤ → ℕ → Bool) → (List ℤ → ℕ → A) → List ℤ → List A
picked p row S = those (p S) (row S) (schedule_count S) 0

-- the first n parts, joined, are whole rows that fit and are sorted, of suppliers below n
record First (T : Tables) (parts : ℕ → List ℤ) (n : ℕ) : Type 0 where
  count : ℕ
  is_whole : length (cat parts n) ≡ count * schedule_width
  few : count ≤ n * max_part
  rows : Rows T (cat parts n)
  below : (i : ℕ) → i < schedule_count (cat parts n) → row_supplier (cat parts n) i < n

module _ (T : Tables) (parts : ℕ → List ℤ) (fits : (s : ℕ) → s < suppliers → Part T (parts s) s)
    (whole : (s : ℕ) → s < suppliers → WholeRows schedule_width max_part (parts s)) where
  -- the first n of parts that pass number 13, joined, are such rows
  first-parts : (n : ℕ) → n ≤ suppliers → First T parts n
  first-parts zero l = record {
    count = 0;
    is_whole = omega arith;
    few = omega arith;
    rows = record {
      each = λ i m. absurd (omega arith);
      sorted = record { by-supplier = λ j i k m. absurd (omega arith); by_address = λ j i k m. absurd (omega arith) };
    };
    below = λ i m. absurd (omega arith);
  }
  first-parts (suc n) l = one_more (first-parts n (omega arith)) (fits n (omega arith)) (whole n (omega arith))
    where
      one_more : First T parts n → Part T (parts n) n → WholeRows schedule_width max_part (parts n) → First T parts (suc n)
      one_more f p (k, e, m) = record {
        count = f.count + k;
        is_whole = omega (arith, length-append (cat parts n) (parts n), f.is_whole, e);
        few = omega (arith, f.few, m);
        rows = appended-rows (cat parts n) (parts n) f.count f.is_whole T f.rows p.rows
            (λ i j u v. omega (arith, f.below i u, p.own j v));
        below = λ i u.
            ⊎_elim (λ w. omega (arith, same-supplier (cat parts (suc n)) i (cat parts n) i w.1, f.below i w.0))
            (λ w. omega (arith, same-supplier (cat parts (suc n)) i (parts n) w.0 w.3, p.own w.0 w.2))
            (row-either (cat parts n) (parts n) f.count f.is_whole i u);
      }

  -- `p` is a test that asks for a row's cells alone, and that only rows of supplier s pass
  module _ {A : Type 0} (s : ℕ) (p : List ℤ → ℕ → Bool) (row : List ℤ → ℕ → A)
      (same : (S : List ℤ) (i : ℕ) (R : List ℤ) (j : ℕ) → SameRow S i R j → (p S i ≡ p R j) × (row S i ≡ row R j))
      (own : (S : List ℤ) (i : ℕ) → p S i ≡ true → row_supplier S i ≡ s) where
    -- no row passes where none is of supplier s
    none-picked : (S : List ℤ) → ((i : ℕ) → i < schedule_count S → row_supplier S i ≡ s → ⊥) → picked p row S ≡ []
    none-picked S h =
        those-none (p S) (row S) (schedule_count S) 0 (λ i _ l. is_false (says-itself (p S i)) (λ q. h i (omega arith) (own S i q)))

    -- where one part more is joined, its rows that pass are added
    picked_more : (n : ℕ) → n < suppliers → picked p row (cat parts (suc n)) ≡ picked p row (cat parts n) ++ picked p row (parts n)
    picked_more n l = let f = first-parts n (omega arith) in appended-those (cat parts n) (parts n) f.count f.is_whole p row same

    -- of the first parts, joined, just the rows of the part of s pass
    picked-part : (n : ℕ) → n ≤ suppliers → s < n → picked p row (cat parts n) ≡ picked p row (parts s)
    picked-part zero l m = absurd (omega arith)
    picked-part (suc n) l m = picked_more n (omega arith) ∙ go (ℕ_discrete s n) (picked-part n (omega arith))
      where
        go : Dec (s ≡ n) → (s < n → picked p row (cat parts n) ≡ picked p row (parts s))
            → picked p row (cat parts n) ++ picked p row (parts n) ≡ picked p row (parts s)
        go (yes e) ih =
            ap₂ (λ (a b : List A). a ++ b)
            (none-picked (cat parts n) (λ i u q. omega (arith, (first-parts n (omega arith)).below i u))) (ap (λ k. picked p row (parts k)) (sym e))
        go (no e) ih =
            ap₂ (λ (a b : List A). a ++ b) (ih (omega arith))
            (none-picked (parts n) (λ i u q. e (sym q ∙ (fits n (omega arith)).own i u)))
            ∙ append-nil (picked p row (parts s))

  -- a supplier's block in the joined schedule is that of its part
  pub joined-block : (s a : ℕ) → s < suppliers → block_of (cat parts suppliers) s a ≡ block_of (parts s) s a
  joined-block s a l =
      picked-part s (λ S i. eqb (row_supplier S i) s && eqb (row_address S i) a) row_of
      (λ S i R j h. (λ k. eqb (same-supplier S i R j h k) s && eqb (same_address S i R j h k) a, same_row S i R j h))
      (λ S i h. ((says_eq (row_supplier S i) s and says_eq (row_address S i) a).yes h).0) suppliers (omega arith) l

  -- a supplier's course in the joined schedule is that of its part
  pub joined-course : (W : List ℤ) (s m : ℕ) → s < suppliers
      → course (program_of T) W (cat parts suppliers) s m ≡ course (program_of T) W (parts s) s m
  joined-course W s m l = λ i. record {
    ticks = (course (program_of T) W (parts s) s m).ticks;
    units = (course (program_of T) W (parts s) s m).units;
    block = λ k. joined-block s (future_address (program_of T) m k) l i;
    released = (course (program_of T) W (parts s) s m).released;
    ending = (course (program_of T) W (parts s) s m).ending;
    worst = (course (program_of T) W (parts s) s m).worst;
    window = (course (program_of T) W (parts s) s m).window;
  }

  -- the joined schedule has as many rows of a supplier as its part
  joined-count : (s : ℕ) → s < suppliers → row_count (cat parts suppliers) s ≡ row_count (parts s) s
  unfolding row_count
  joined-count s l =
      let test : List ℤ → ℕ → Bool = λ S i. eqb (row_supplier S i) s in
      sym (those-count {A = ℕ} (test (cat parts suppliers)) (λ i. 0) (schedule_count (cat parts suppliers)) 0)
      ∙ ap length (picked-part s (λ S i. eqb (row_supplier S i) s) (λ S i. 0)
      (λ S i R j h. (ap (λ n. eqb n s) (same-supplier S i R j h), refl)) (λ S i h. (says_eq (row_supplier S i) s).yes h) suppliers (omega arith) l)
      ∙ those-count {A = ℕ} (test (parts s)) (λ i. 0) (schedule_count (parts s)) 0

  -- the joined schedule passes number 13
  pub joined-fits : Joined T (cat parts suppliers)
  unfolding row_count
  joined-fits = record {
    rows = (first-parts suppliers (omega arith)).rows;
    few = λ s l. omega (
      arith,
      joined-count s l,
      those-few (λ i. eqb (row_supplier (parts s) i) s) (λ i. i) (schedule_count (parts s)) 0,
      whole-few schedule_width max_part (parts s) (whole s l),
    );
  }

  -- the joined schedule has its shape
  pub joined-whole : WholeRows schedule_width max_schedule (cat parts suppliers)
  joined-whole = let f = first-parts suppliers (omega arith) in (f.count, f.is_whole, omega (arith, f.few))
