-- Where the modes of a program begin and are entered, by rule: a mode begins at the sum of the sizes before it. A loop that puts this
-- into two lists comes to where the listing has the modes; no number exceeds the longest code.
-- Assumes of the tables that they have no more rows than the limits (`Few`), no more sensors and no more modes.
use Prim.Native.Nat.{ℕ, ◌+◌, ◌*◌, ◌≤◌, ◌<◌}
use mathlib.Core.Path.{◌≡◌, refl, sym, ap, subst, ◌∙◌}
use mathlib.Core.Bool.{false}
use mathlib.Core.List.{List}
use native.Mathlib.Numerals.{add-one}
use native.Mathlib.Omega.{arith}
use lib.IntN.{ℤ}
use lib.ListN.{length, get_or, set}
use Rattle.theory.specs.Lists.{filled, sum}
use Rattle.theory.proofs.Lists.{sum_same, sum-most}
use Rattle.theory.proofs.Filled.{filled_more, filled-length, filled_at, filled-most}
use Rattle.cells.specs.Limits.{max_ports, max_modes}
use Rattle.program.specs.Tables.{Tables, mode_count}
use Rattle.program.specs.Units.{units}
use Rattle.program.specs.Program.{Program, Mode, program_of, mode}
use Rattle.program.proofs.Units.{units-within}
use Rattle.program.proofs.Decoded.{mode-count, mode-row}
use Rattle.rules.specs.Shape.{shape_bad}
use Rattle.code.specs.Listing.{block_size, mode_size, mode_address}
use Rattle.code.specs.Compile.{listing_of}
use Rattle.code.proofs.Length.{listing-length}
use Rattle.layout.specs.Counts.{counts_in, counts_of, before_entry, size_of, most_mode, most_code}
use Rattle.layout.specs.Few.{Few}
use Rattle.layout.specs.Layout.{unit_counts, size_in, start_in, entry_in, LaidOut, Small}
use Rattle.layout.proofs.Limits.{counts-sized, mode-most, few-rows, few-modes}
use Rattle.layout.proofs.Sizes.{counts-due}

module _ (T : Tables) {invocations updates switches : List ℤ} {u : ℕ} (m sensors : ℕ) (e : T.invocations ≡ invocations)
    (f : T.updates ≡ updates) (g : T.switches ≡ switches) (q : u ≡ units T m) where
  -- what was counted of the lent tables was counted of the program that has them
  pub counts-lent : (k : ℕ) → counts_in invocations updates switches sensors m u k ≡ unit_counts T sensors m k
  counts-lent k = λ j. counts_in (sym e j) (sym f j) (sym g j) sensors m (q j) k

  -- the size of a mode that was counted of the lent tables is that of the program that has them
  pub size-lent : sum (λ k. size_of (counts_in invocations updates switches sensors m u k)) u ≡ size_in T sensors m
  size-lent = λ j. sum (λ k. size_of (counts-lent k j)) (q j)

module _ (T : Tables) (sensors : ℕ) where
  module _ (few : Few T.invocations T.updates T.switches) (s : sensors ≤ max_ports) where
    -- the modes before mode m are no longer than m times the most
    start-most : (m : ℕ) → start_in T sensors m ≤ 1 + m * most_mode
    start-most m =
        omega (
          arith,
          sum-most (size_in T sensors) most_mode m (λ i l. mode-most _ _ _ _ i (units T i) few s (units T i) (units-within T i)),
        )

    -- a mode that begins where the modes before it end is within the longest code
    pub start-near : (m : ℕ) {at : ℕ} → m < max_modes → at ≡ start_in T sensors m → at + most_mode ≤ most_code
    start-near m h q = omega (arith, h, q, start-most m)

  -- a declared mode that begins where the modes before it end is within the longest code, where number 1 passes the tables
  pub mode-near : shape_bad T ≡ false → sensors ≤ max_ports → (m : ℕ) {at : ℕ} → m < mode_count T → at ≡ start_in T sensors m
      → at + most_mode ≤ most_code
  mode-near e s m h q = start-near (few-rows T e) s m (omega (arith, h, few-modes T e)) q

  -- the program that the tables say
  abbrev P : Program
  P = program_of T

  module _ (e : sensors ≡ length (program_of T).sensors) where
    -- what was counted at unit k of a declared mode is what is due there
    pub counts-mode : (m k : ℕ) → m < mode_count T → unit_counts T sensors m k ≡ counts_of P (mode P m) k
    counts-mode m k h =
        ap (λ (s : ℕ). unit_counts T s m k) e ∙ counts-due T m k ∙ ap (λ (M : Mode). counts_of P M k) (sym (mode-row T m h))

    -- a declared mode is as long as it was counted
    pub size-mode : (m : ℕ) → m < mode_count T → size_in T sensors m ≡ mode_size P (mode P m)
    size-mode m h =
        sum_same _ _ (units T m) (λ k b. ap size_of (counts-mode m k h))
        ∙ ap (λ (M : Mode). sum (block_size P (mode P m)) M.units) (sym (mode-row T m h))

    -- where a declared mode begins, and where the last one ends
    pub start-mode : (m : ℕ) → m ≤ mode_count T → start_in T sensors m ≡ mode_address P m
    start-mode m h =
        ap (λ (n : ℕ). 1 + n) (sum_same (size_in T sensors) (λ i. mode_size P (mode P i)) m (λ i b. size-mode i (omega arith)))

  module _ (starts₀ entries₀ : List ℕ) where
    -- after m modes the next one begins at this address, and the lists have where the first m begin and are entered
    pub record Laying (m at : ℕ) (starts entries : List ℕ) : Type 0 where
      pub in-range : m ≤ mode_count T
      pub here : at ≡ start_in T sensors m
      pub begins : starts ≡ filled (start_in T sensors) m starts₀
      pub enters : entries ≡ filled (entry_in T sensors) m entries₀

    -- before the first mode the lists are as they were lent
    pub laying-none : Laying 0 1 starts₀ entries₀
    laying-none = record { in-range = omega arith; here = refl; begins = refl; enters = refl }

    module _ {m at : ℕ} {starts entries : List ℕ} (w : Laying m at starts entries) where
      -- one mode more is put into the lists, by its number
      pub laying-more : {i end : ℕ} {starts' entries' : List ℕ} → m < mode_count T → i ≡ m → starts' ≡ set starts i at
          → entries' ≡ set entries i (at + before_entry (unit_counts T sensors i 0)) → end ≡ at + size_in T sensors i → Laying (m + 1) end starts' entries'
      laying-more l e p q r = record {
        in-range = omega arith;
        here = rw (add-one m) (omega (arith, w.here, r, ap (size_in T sensors) e));
        begins = p ∙ ap (λ (n : ℕ). set starts n at) e ∙ filled_more (start_in T sensors) starts₀ m starts at w.begins w.here;
        enters =
            q
            ∙ ap (λ (n : ℕ). set entries n (at + before_entry (unit_counts T sensors n 0))) e
            ∙ filled_more (entry_in T sensors) entries₀ m entries _ w.enters (ap (λ (n : ℕ). n + before_entry (unit_counts T sensors m 0)) w.here);
      }

      -- behind the last mode all were put into the lists
      pub laying-all : mode_count T ≤ m → Laying (mode_count T) at starts entries
      laying-all l = subst (λ (n : ℕ). Laying n at starts entries) (omega (arith, w.in-range)) w

    module _ {at : ℕ} {starts entries : List ℕ} (w : Laying (mode_count T) at starts entries) where
      -- the lists say where the listing has the modes, and the last one ends where the listing does
      pub laid_out : sensors ≡ length P.sensors → LaidOut T starts entries at
      unfolding listing_of
      laid_out e = record {
        starts = λ r m h. there (start_in T sensors) starts₀ w.begins r m h ∙ omega (arith, start-mode e m (omega arith));
        entries = λ r m h. there (entry_in T sensors) entries₀ w.enters r m h ∙ omega (arith, start-mode e m (omega arith), ap before_entry (counts-mode e m 0 h));
        length = w.here ∙ start-mode e (mode_count T) (omega arith) ∙ ap (mode_address P) (sym (mode-count T)) ∙ sym (listing-length P);
      }
        where
          there : (f : ℕ → ℕ) (list₀ : List ℕ) {list : List ℕ} → list ≡ filled f (mode_count T) list₀ → mode_count T ≤ length list
              → (m : ℕ) → m < mode_count T → get_or list m 0 ≡ f m
          there f list₀ q r m h =
              ap (λ (l : List ℕ). get_or l m 0) q
              ∙ filled_at f list₀ 0 (mode_count T) m (omega (arith, ap length q, filled-length f list₀ (mode_count T))) h

      -- no number exceeds the longest code, where none of the lent lists did
      pub laid-small : Few T.invocations T.updates T.switches → sensors ≤ max_ports → mode_count T ≤ max_modes
          → (Small starts₀ → Small starts) × (Small entries₀ → Small entries) × (at ≤ most_code)
      laid-small few s l = (
        λ z.
            subst Small (sym w.begins)
            (filled-most (start_in T sensors) starts₀ most_code (mode_count T) (λ i h. omega (arith, start-most few s i)) z),
        λ z.
            subst Small (sym w.enters)
            (filled-most (entry_in T sensors) entries₀ most_code (mode_count T)
            (λ i h. omega (arith, start-most few s i, counts-sized _ _ _ _ i (units T i) few s 0)) z),
        omega (arith, w.here, start-most few s (mode_count T)),
      )
