-- The marks of a listing's delays: of a block only the `future` marks, so they are those that a walk over the modes and units of the
-- tables makes; and those that a walk makes which marks modes, each read as its ticks.
use Prim.Native.Nat.{ℕ, zero, suc, ◌+◌, ◌<◌}
use mathlib.Core.Path.{◌≡◌, refl, sym, ap, ◌∙◌}
use mathlib.Core.List.{List, [], ◌∷◌, ◌++◌, map}
use mathlib.Core.Option.{Option}
use native.Mathlib.Nat.{add-zero}
use native.Mathlib.Omega.{arith}
use lib.ListN.{length, set}
use Rattle.theory.specs.Lists.{Every, cat}
use Rattle.theory.proofs.Lists.{cat-length}
use Rattle.program.specs.Tables.{Tables, mode_count}
use Rattle.program.specs.Units.{units}
use Rattle.program.specs.Program.{Program, Switch, program_of, mode, ticks_of, due_switches}
use Rattle.program.proofs.Decoded.{mode-count, mode-row}
use Rattle.code.specs.Op.{Op}
use Rattle.code.specs.Listing.{block_size, mode_size, future_address, head_of, tests_of, body_of, stubs_of, block_code, mode_code, listing}
use Rattle.code.specs.Compile.{future_delay, listing_of}
use Rattle.code.proofs.Length.{head-length, tests-length, body-length, block-length, mode-length}
use Rattle.code.proofs.Futures.{Plain, head_plain, tests_plain, body-plain, stubs-plain}
use Rattle.layout.specs.Counts.{counts_in, counts_of, before_future}
use Rattle.layout.specs.Layout.{unit_counts}
use Rattle.layout.specs.Delays.{mark, marked, walked, units_marked, modes_marked, ticks_in}
use Rattle.layout.proofs.Laid.{counts-mode, size-mode}
use Rattle.layout.proofs.Walked.{walked_same, walked-mapped}

-- the marks of mode m by the number of its units
pub marks-told : (T : Tables) {u : ℕ} (m sensors at : ℕ) (table : List ℕ) → u ≡ units T m
    → units_marked (counts_in T.invocations T.updates T.switches sensors m u) m at u table
    ≡ units_marked (unit_counts T sensors m) m at (units T m) table
marks-told T m sensors at table q =
    λ j. units_marked (counts_in T.invocations T.updates T.switches sensors m (q j)) m at (q j) table

-- the marks of two pieces are those of the first and then of the second, behind it
marked_append : (xs ys : List Op) (a : ℕ) (table : List ℕ) → marked (xs ++ ys) a table ≡ marked ys (a + length xs) (marked xs a table)
marked_append [] ys a table = ap (λ (n : ℕ). marked ys n table) (sym (add-zero a))
marked_append (x ∷ xs) ys a table =
    let e : suc a + length xs ≡ a + suc (length xs) = omega arith in
    marked_append xs ys (suc a) (mark (future_delay x) a table)
    ∙ ap (λ (n : ℕ). marked ys n (marked xs (suc a) (mark (future_delay x) a table))) e

-- instructions without a `future` mark nothing
marked-plain : (os : List Op) (a : ℕ) (table : List ℕ) → Every Plain os → marked os a table ≡ table
marked-plain [] a table h = refl
marked-plain (o ∷ os) a table h =
    ap (λ (d : Option ℕ). marked os (suc a) (mark d a table)) h.0 ∙ marked-plain os (suc a) table h.1

-- a piece without a `future` is passed over
marked-skip : (xs ys : List Op) (a : ℕ) (table : List ℕ) → Every Plain xs → marked (xs ++ ys) a table ≡ marked ys (a + length xs) table
marked-skip xs ys a table h = marked_append xs ys a table ∙ ap (marked ys (a + length xs)) (marked-plain xs a table h)

-- of a block that begins at address a only the `future` marks
block-marked : (P : Program) (m k a : ℕ) (table : List ℕ)
    → marked (block_code P m k) a table ≡ set table (a + before_future (counts_of P (mode P m) k)) (ticks_of (mode P m))
block-marked P m k a table =
    marked-skip hd _ a table (head_plain P (mode P m) k)
    ∙ marked-skip ts _ (a + length hd) table (tests_plain ws (2 + future_address P m k))
    ∙ marked-skip bd _ (a + length hd + length ts) table (body-plain (mode P m) k)
    ∙ marked-plain (stubs_of P k ws) _ _ (stubs-plain P k ws)
    ∙ ap (λ (n : ℕ). set table n (ticks_of (mode P m))) there
  where
    ws : List Switch
    ws = due_switches (mode P m) k

    hd : List Op
    hd = head_of P (mode P m) k

    ts : List Op
    ts = tests_of ws (2 + future_address P m k)

    bd : List Op
    bd = body_of (mode P m) k

    there : a + length hd + length ts + length bd ≡ a + before_future (counts_of P (mode P m) k)
    there = omega (arith, head-length P (mode P m) k, tests-length ws (2 + future_address P m k), body-length (mode P m) k)

-- the marks of pieces one after the other are those of a walk over them
cat-marked : (f : ℕ → List Op) (size : ℕ → ℕ) (n a : ℕ) (table : List ℕ) → ((k : ℕ) → k < n → length (f k) ≡ size k)
    → marked (cat f n) a table ≡ walked size (λ k. marked (f k)) a n table
cat-marked f size zero a table e = refl
cat-marked f size (suc n) a table e =
    let s = cat-length f size n (λ k l. e k (omega arith)) in
    let r = cat-marked f size n a table (λ k l. e k (omega arith)) in
    marked_append (cat f n) (f n) a table ∙ (λ j. marked (f n) (a + s j) (r j))

-- the marks of a mode are the ticks at the `future` of each unit
mode-marked : (P : Program) (m a : ℕ) (table : List ℕ)
    → marked (mode_code P m) a table ≡ units_marked (counts_of P (mode P m)) (ticks_of (mode P m)) a (mode P m).units table
mode-marked P m a table =
    cat-marked (block_code P m) (block_size P (mode P m)) (mode P m).units a table (λ k l. block-length P m k)
    ∙ walked_same _ _ _ _ a (mode P m).units table (λ k l. refl) (λ k at t l. block-marked P m k at t)

module _ (T : Tables) (sensors : ℕ) (e : sensors ≡ length (program_of T).sensors) where
  -- the program that the tables say
  abbrev P : Program
  P = program_of T

  -- the marks of a declared mode, counted
  row-marked : (m a : ℕ) (table : List ℕ) → m < mode_count T
      → marked (mode_code P m) a table ≡ units_marked (unit_counts T sensors m) (ticks_in T m) a (units T m) table
  row-marked m a table h =
      mode-marked P m a table
      ∙ (λ j. units_marked (λ k. sym (counts-mode T sensors e m k h) j) (ticks_of (mode-row T m h j)) a (mode-row T m h j).units table)

  -- the marks of the listing are those of all modes, counted
  pub listing-marked : (table : List ℕ) → marked (listing_of T) 0 table ≡ modes_marked T sensors (ticks_in T) (mode_count T) table
  unfolding listing_of listing
  listing-marked table =
      cat-marked (mode_code P) (λ m. mode_size P (mode P m)) (length P.modes) 1 table (λ m l. mode-length P m)
      ∙ ap (λ (n : ℕ). walked (λ m. mode_size P (mode P m)) (λ m. marked (mode_code P m)) 1 n table) (mode-count T)
      ∙ walked_same _ _ _ _ 1 (mode_count T) table (λ m h. sym (size-mode T sensors e m h)) (λ m at t h. row-marked m at t h)

-- a number that is put, every number read by f, is read so
map-set : (f : ℕ → ℕ) (l : List ℕ) (i x : ℕ) → map f (set l i x) ≡ set (map f l) i (f x)
map-set f [] i x = refl
map-set f (y ∷ l) zero x = refl
map-set f (y ∷ l) (suc i) x = ap (λ (t : List ℕ). f y ∷ t) (map-set f l i x)

-- the marks of modes, each read by f, are the marks of what f says of the modes
pub modes-read : (f : ℕ → ℕ) (T : Tables) (sensors : ℕ) (given given' : ℕ → ℕ) (n : ℕ) (table : List ℕ)
    → ((m : ℕ) → m < n → f (given m) ≡ given' m)
    → map f (modes_marked T sensors given n table) ≡ modes_marked T sensors given' n (map f table)
modes-read f T sensors given given' n table e =
    walked-mapped f _ _ (λ m at t. units_marked (unit_counts T sensors m) (given' m) at (units T m) t) 1 n table
    (λ m at t h.
    walked-mapped f _ _ (λ k b r. set r (b + before_future (unit_counts T sensors m k)) (f (given m))) at (units T m) t (λ k b r l. map-set f r _ _)
    ∙ ap (λ (x : ℕ). units_marked (unit_counts T sensors m) x at (units T m) (map f t)) (e m h))
