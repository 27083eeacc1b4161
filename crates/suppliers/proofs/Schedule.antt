-- Number 13: the tests of schedule rows, of one supplier's part and of the joined schedule bar their claims, row by row.
-- Where the rows before a row are in order, the row above it stands for all of them, and the row 256 above it tells whether it is past
-- its supplier's 256th; row 0, whose row above is itself, does not come before itself.
use Prim.Native.Nat.{ℕ, zero, suc, ◌-◌, ◌≤◌, ◌<◌}
use mathlib.Core.Path.{◌≡◌, refl, sym, subst}
use mathlib.Core.Bool.{false, not, ◌||◌}
use mathlib.Core.List.{List}
use mathlib.Core.Option.{Option, none, some}
use native.Mathlib.Omega.{arith}
use native.Mathlib.Decide.{ℕ_discrete}
use lib.Dec.{eqb}
use lib.IntN.{ℤ}
use Rattle.theory.specs.Claim.{Says, Bars}
use Rattle.theory.proofs.Bools.{clash, says_eq, says-lt, says-le, says-or, says-as, bars-not, bars-and, bars-as, bars-lt, bars-le, ◌and◌}
use Rattle.theory.proofs.Bools.{◌or◌, bars-then}
use Rattle.theory.proofs.Rows.{one_table}
use Rattle.theory.proofs.Verdict.{Rowed, bars-rows}
use Rattle.cells.specs.Limits.{suppliers, max_part}
use Rattle.program.specs.Tables.{Tables, schedule_at, supplier_at}
use Rattle.code.specs.Compile.{listing_of, delay_at}
use Rattle.runs.specs.Schedule.{schedule_count, row_supplier, row_address, row_timeout}
use Rattle.suppliers.specs.Schedule.{in_delay, dispatch_fits, idle_fits, precedes, row_wrong, part_tests, part_bad, row_count, past_part}
use Rattle.suppliers.specs.Schedule.{joined_tests, joined_bad, Dispatches, Idles, RowFits, Rows, Part, Joined, InOrder, PartRow}
use Rattle.suppliers.specs.Schedule.{part_row_rules, rows_before, JoinedRow, joined_row_rules}
use Rattle.suppliers.proofs.Few.{few-bars, few-all, few-each}

-- the test of a timeout says whether there is a delay, and the timeout is within it
delay-says : (o : Option ℕ) (t : ℕ) → Says (in_delay o t) ((d : ℕ) × (o ≡ some d) × (t ≤ d))
delay-says none t = record { yes = λ e. clash {b = false} e refl; no = λ e w. absurd (let z : ◌≡◌ {A = ℕ} 0 1 = cc w.1 in omega arith) }
delay-says (some d) t = says-as (says-le t d) (λ l. (d, refl, l)) (λ w. let e : d ≡ w.0 = cc w.1 in omega (arith, w.2))

module _ (T : Tables) (S : List ℤ) where
  dispatch-says : (i : ℕ) → Says (dispatch_fits T S i) (Dispatches T S i)
  unfolding dispatch_fits
  dispatch-says i =
      says-as (says_eq _ _ and says-lt _ _ and says_eq _ _)
      (λ ((k, t), o). record { kind = k; task = t; own = o }) (λ d. ((d.kind, d.task), d.own))

  idle-says : (i : ℕ) → Says (idle_fits S i) (Idles S i)
  unfolding idle_fits
  idle-says i = says-as (says_eq _ _ and says_eq _ _) (λ (k, t). record { kind = k; task = t }) (λ d. (d.kind, d.task))

  -- the test that row i comes before row j bars that they stand in order
  precedes-bars : (i j : ℕ) → Bars (precedes S i j) (InOrder S j i)
  unfolding precedes
  precedes-bars i j =
      bars-as (bars-lt _ _ or bars-and (says_eq _ _) (bars-lt _ _)) (λ (l, h). (l, λ e. h (sym e))) (λ (l, h). (l, λ e. h (sym e)))

  -- the test of a row bars that it fits by itself and does not come before the row above it
  row-bars : (i : ℕ) → Bars (row_wrong T (listing_of T) S i) (RowFits T S i × InOrder S (i - 1) i)
  unfolding row_wrong
  row-bars i =
      bars-not (says-as (says-lt _ _ and says-or (dispatch-says i) (idle-says i) and delay-says (delay_at (listing_of T) (row_address S i)) (row_timeout S i))
      (λ ((s, a), (d, h, l)). record { supplier = s; action = a; delay = d; holds-future = h; timeout = l })
      (λ f. ((f.supplier, f.action), (f.delay, f.holds-future, f.timeout))))
      or precedes-bars i (i - 1)

  -- row i stands in order with every row before it
  abbrev Placed : ℕ → Type 0
  Placed i = (j : ℕ) → j < i → InOrder S j i

  -- a row that is in order with the row above it is so with every row before it, where the rows before it are in order
  from-above : (i : ℕ) → ((k : ℕ) → k < i → Placed k) → InOrder S (i - 1) i → Placed i
  from-above zero h a j l = absurd (omega arith)
  from-above (suc i) h a j l = go (ℕ_discrete j i)
    where
      above : InOrder S i (suc i)
      above = let e : suc i - 1 ≡ i = omega arith in subst (λ k. InOrder S k (suc i)) e a

      go : Dec (j ≡ i) → InOrder S j (suc i)
      go (yes e) = subst (λ k. InOrder S k (suc i)) (sym e) above
      go (no e) =
          let o = h i (omega arith) j (omega arith) in (
            omega (arith, o.0, above.0),
            λ q. omega (arith, o.1 (omega (arith, o.0, above.0)), above.1 (omega (arith, o.0, above.0))),
          )

  -- a row that is in order with every row before it is so with the row above it; row 0 with itself
  to-above : (i : ℕ) → Placed i → InOrder S (i - 1) i
  to-above zero h = (omega arith, λ e. omega arith)
  to-above (suc i) h = let e : i ≡ suc i - 1 = omega arith in subst (λ k. InOrder S k (suc i)) e (h i (omega arith))

  -- the test of a row bars that it fits by itself and is in order with the rows before it, where these are in order
  row-exact : (i : ℕ) → ((k : ℕ) → k < i → Placed k) → Bars (row_wrong T (listing_of T) S i) (RowFits T S i × Placed i)
  row-exact i before =
      bars-as (row-bars i) (λ (f, a). (f, from-above i before a)) (λ (f, o). (f, to-above i o))

  -- rows that fit, each by itself and held against the rows before it, are rows that fit and are sorted
  all-rows : ((i : ℕ) → i < schedule_count S → RowFits T S i) → ((i : ℕ) → i < schedule_count S → Placed i) → Rows T S
  all-rows f o =
      record { each = f; sorted = record { by-supplier = λ j i l m. (o i m j l).0; by_address = λ j i l m. (o i m j l).1 } }

  -- in rows that are sorted, each row is in order with the rows before it
  each_placed : Rows T S → (i : ℕ) → i < schedule_count S → Placed i
  each_placed r i m j l = (r.sorted.by-supplier j i l m, r.sorted.by_address j i l m)

  -- number 13 of a part and rule 13 speak of the same rows
  pub part-rowed : (s : ℕ) → Rowed (part_bad T S s) (part_tests T S s) (part_row_rules T S s)
  unfolding part_bad
  part-rowed s = ((refl, refl, λ i h before. row i before, (omega arith, tt), one_table supplier_at (λ r h before. bars-le suppliers s)), refl)
    where
      row : (i : ℕ) → ((k : ℕ) → k < i → PartRow T S s k)
          → Bars (row_wrong T (listing_of T) S i || not (eqb (row_supplier S i) s)) (PartRow T S s i)
      row i before =
          bars-as (row-exact i (λ k l. (before k l).sorted) or bars-not (says_eq (row_supplier S i) s))
          (λ ((f, o), e). record { itself = f; sorted = o; own = e }) (λ r. ((r.itself, r.sorted), r.own))

  -- number 13 of one supplier's part bars rows that fit, are sorted and are of that supplier
  pub part-bars : (s : ℕ) → Bars (part_bad T S s) (Part T S s)
  part-bars s =
      bars-rows (part_tests T S s) (part_row_rules T S s) (part-rowed s)
      (λ (g, (n, _)).
      record {
        rows = all-rows (λ i l. (g i l).itself) (λ i l. (g i l).sorted);
        own = λ i l. (g i l).own;
        supplier = n 0 (omega arith);
      })
      (λ p. (
        λ i l. record { itself = p.rows.each i l; sorted = each_placed p.rows i l; own = p.own i l },
        (λ r l. p.supplier, tt),
      ))

  -- number 13 of the joined schedule and rule 13 speak of the same rows
  pub joined-rowed : Rowed (joined_bad T S) (joined_tests T S) (joined_row_rules T S)
  unfolding joined_bad past_part
  joined-rowed = (one_table schedule_at (λ i h before. row i before), refl)
    where
      past : (i : ℕ) → ((k : ℕ) → k < i → Placed k) → Placed i → Bars (past_part S i) (rows_before S i < max_part)
      past i before own = few-bars (row_supplier S) max_part (omega arith) i (λ j k l h. go j k l h (ℕ_discrete k i))
        where
          go : (j k : ℕ) → j < k → k ≤ i → Dec (k ≡ i) → row_supplier S j ≤ row_supplier S k
          go j k l h (yes e) = subst (λ n. row_supplier S j ≤ row_supplier S n) (sym e) (own j (omega arith)).0
          go j k l h (no e) = (before k (omega arith) j l).0

      row : (i : ℕ) → ((k : ℕ) → k < i → JoinedRow T S k) → Bars (row_wrong T (listing_of T) S i || past_part S i) (JoinedRow T S i)
      row i before =
          bars-as (bars-then (row-exact i (λ k l. (before k l).sorted)) (λ (f, o). past i (λ k l. (before k l).sorted) o))
          (λ ((f, o), e). record { itself = f; sorted = o; few = e }) (λ r. ((r.itself, r.sorted), r.few))

  -- number 13 of the joined schedule bars rows that fit and are sorted, of each supplier no more than the limit
  pub joined-bars : Bars (joined_bad T S) (Joined T S)
  unfolding row_count
  joined-bars =
      bars-rows (joined_tests T S) (joined_row_rules T S) joined-rowed
      (λ (g, _).
      record {
        rows = all-rows (λ i l. (g i l).itself) (λ i l. (g i l).sorted);
        few = λ s l. few-all (row_supplier S) max_part (omega arith) s (schedule_count S) (λ i h. (g i h).few);
      })
      (λ p. (
        λ i l.
            record {
              itself = p.rows.each i l;
              sorted = each_placed p.rows i l;
              few = few-each (row_supplier S) max_part (omega arith) (schedule_count S) i l (p.few (row_supplier S i) (p.rows.each i l).supplier);
            },
        tt,
      ))
