-- What the table of delays says: at every address the delay of the `future` there, and 0 where none stands; so do the delays that are
-- counted from the tables. The delays of an accepted program are from 1 to the limit, so 0 says that none stands there; and each is one
-- unit's ticks of a declared mode.
-- Assumes that the code has no more than the most instructions; of what is counted, that no more modes are declared than the limit; of
-- the delays, that the program is accepted.
use Prim.Native.Nat.{ℕ, zero, suc, ◌+◌, ◌≤◌, ◌<◌}
use mathlib.Core.Path.{◌≡◌, refl, sym, ap, ◌∙◌}
use mathlib.Core.List.{List, [], ◌∷◌, map}
use mathlib.Core.Logic.{◌↔◌}
use mathlib.Core.Option.{Option, none, some}
use native.Mathlib.Nat.{add-zero, zero-add}
use native.Mathlib.Omega.{arith}
use lib.ListN.{length, get_or, replicate, length-set, length-replicate, get_or-map}
use lib.Seq.{get_or-set_same, get_or-set_other}
use Rattle.theory.specs.Verdict.{accepted_number}
use Rattle.theory.proofs.Filled.{filled_at, filled-beyond, zeros-at}
use Rattle.cells.specs.Cell.{unnamed, word_at}
use Rattle.cells.specs.Limits.{max_modes, max_code, max_delay}
use Rattle.program.specs.Tables.{Tables, mode_count}
use Rattle.program.specs.Sets.{sensor_rows}
use Rattle.program.specs.Program.{program_of}
use Rattle.program.proofs.Decoded.{mode-count, sensors-rows}
use Rattle.rules.specs.Verdict.{program_verdict}
use Rattle.rules.proofs.Accepted.{accepted-ticks}
use Rattle.code.specs.Op.{Op}
use Rattle.code.specs.Compile.{listing_of, future_delay, delay_at}
use Rattle.code.proofs.Futures.{FutureOf, future-of}
use Rattle.layout.specs.Delays.{delay_number, mark, marked, modes_marked, mode_marks, ticks_in, mode_ticks, delays_of, counted_delays}
use Rattle.layout.proofs.Marks.{modes-read, listing-marked}

-- a mark stands at its address
mark-here : (d : Option ℕ) (a : ℕ) (table : List ℕ) → a < length table → get_or table a 0 ≡ 0 → get_or (mark d a table) a 0 ≡ delay_number d
mark-here none a table l z = z
mark-here (some d) a table l z = get_or-set_same table a d 0 l

-- a mark changes no other place than its own
mark-other : (d : Option ℕ) (a : ℕ) (table : List ℕ) (i : ℕ) → (i ≡ a → ⊥) → get_or (mark d a table) i 0 ≡ get_or table i 0
mark-other none a table i h = refl
mark-other (some d) a table i h = get_or-set_other table a i d 0 h

-- a mark keeps the length of the table
mark-length : (d : Option ℕ) (a : ℕ) (table : List ℕ) → length (mark d a table) ≡ length table
mark-length none a table = refl
mark-length (some d) a table = length-set table a d

-- instructions from address a on mark nothing before it
marked-before : (os : List Op) (a : ℕ) (table : List ℕ) (i : ℕ) → i < a → get_or (marked os a table) i 0 ≡ get_or table i 0
marked-before [] a table i h = refl
marked-before (o ∷ os) a table i h =
    marked-before os (suc a) (mark (future_delay o) a table) i (omega arith) ∙ mark-other (future_delay o) a table i (λ e. omega arith)

-- the marks of instructions from address a on are the delays of their `future`s, where the table was 0
marked-at : (os : List Op) (a : ℕ) (table : List ℕ) → a + length os ≤ length table → ((i : ℕ) → a ≤ i → get_or table i 0 ≡ 0)
    → (i : ℕ) → get_or (marked os a table) (a + i) 0 ≡ delay_number (delay_at os i)
marked-at [] a table l z i = z (a + i) (omega arith)
marked-at (o ∷ os) a table l z zero =
    ap (λ (n : ℕ). get_or (marked os (suc a) (mark (future_delay o) a table)) n 0) (add-zero a)
    ∙ marked-before os (suc a) (mark (future_delay o) a table) a (omega arith)
    ∙ mark-here (future_delay o) a table (omega arith) (z a (omega arith))
marked-at (o ∷ os) a table l z (suc i) =
    let e : a + suc i ≡ suc a + i = omega arith in
    ap (λ (n : ℕ). get_or (marked os (suc a) (mark (future_delay o) a table)) n 0) e
    ∙ marked-at os (suc a) (mark (future_delay o) a table) (omega (arith, mark-length (future_delay o) a table))
    (λ j h. mark-other (future_delay o) a table j (λ q. omega arith) ∙ z j (omega arith)) i

-- the table that was all 0 has at every address the delay of the `future` there, and 0 where none stands
pub table-exact : (os : List Op) → length os ≤ max_code → (a : ℕ) → word_at (marked os 0 (replicate max_code 0)) a ≡ delay_number (delay_at os a)
unfolding word_at
table-exact os l a =
    ap (λ (n : ℕ). get_or (marked os 0 (replicate max_code 0)) n 0) (sym (zero-add a))
    ∙ marked-at os 0 (replicate max_code 0) (omega (arith, length-replicate {A = ℕ} max_code 0)) (λ i h. zeros-at max_code i) a

-- a table of the same number everywhere, every number read by f, is that of what f says of it
map-replicate : (f : ℕ → ℕ) (n x : ℕ) → map f (replicate n x) ≡ replicate n (f x)
map-replicate f zero x = refl
map-replicate f (suc n) x = ap (λ (t : List ℕ). f x ∷ t) (map-replicate f n x)

module _ (T : Tables) (few : mode_count T ≤ max_modes) where
  -- the ticks of all modes
  abbrev ticks : List ℕ
  ticks = mode_ticks T (replicate max_modes 0)

  -- a declared mode has the ticks of its unit
  ticks-declared : (m : ℕ) → m < mode_count T → get_or ticks m 0 ≡ ticks_in T m
  ticks-declared m h = filled_at (ticks_in T) (replicate max_modes 0) 0 (mode_count T) m few h

  -- where no mode is marked there are no ticks
  ticks-none : get_or ticks unnamed 0 ≡ 0
  ticks-none =
      filled-beyond (ticks_in T) (replicate max_modes 0) 0 (mode_count T) unnamed (omega arith) ∙ zeros-at max_modes unnamed

  -- the delays that are counted are those of the listing
  pub counted-exact : length (listing_of T) ≤ max_code → (a : ℕ) → counted_delays T a ≡ delay_number (delay_at (listing_of T) a)
  unfolding delays_of word_at
  counted-exact l a =
      sym (get_or-map f marks a unnamed)
      ∙ ap (get_or (map f marks) a) ticks-none
      ∙ ap (λ (t : List ℕ). get_or t a 0) read
      ∙ table-exact (listing_of T) l a
    where
      f : ℕ → ℕ
      f m = get_or ticks m 0

      sensors : ℕ
      sensors = length (sensor_rows T.ports (λ p. p))

      marks : List ℕ
      marks = mode_marks T (replicate max_code unnamed)

      read : map f marks ≡ marked (listing_of T) 0 (replicate max_code 0)
      read =
          modes-read f T sensors (λ m. m) (ticks_in T) (mode_count T) (replicate max_code unnamed) ticks-declared
          ∙ ap (modes_marked T sensors (ticks_in T) (mode_count T)) (map-replicate f max_code unnamed ∙ ap (replicate max_code) ticks-none)
          ∙ sym (listing-marked T sensors (ap length (sym (sensors-rows T))) (replicate max_code 0))

-- each `future` of a program's listing is that of a unit of a declared mode, and waits that unit's ticks
pub delay-of : (T : Tables) (a d : ℕ) → delay_at (listing_of T) a ≡ some d → FutureOf (program_of T) a d
unfolding listing_of
delay-of T a d e = future-of (program_of T) a d e

module _ (T : Tables) (v : program_verdict T ≡ accepted_number) where
  -- every delay of an accepted program is at least 1 and at most the limit
  pub delay-in-range : (a d : ℕ) → delay_at (listing_of T) a ≡ some d → (1 ≤ d) × (d ≤ max_delay)
  delay-in-range a d e =
      let w = delay-of T a d e in
      let r = accepted-ticks T v w.own (omega (arith, w.declared, mode-count T)) in
      (omega (arith, w.delay, r.0), omega (arith, w.delay, r.1))

  -- where the table of delays of an accepted program says 0, no `future` stands
  pub zero-none : length (listing_of T) ≤ max_code → (a : ℕ)
      → (word_at (marked (listing_of T) 0 (replicate max_code 0)) a ≡ 0) ↔ (delay_at (listing_of T) a ≡ none)
  zero-none l a = (λ z. go (delay_at (listing_of T) a) refl (sym (table-exact (listing_of T) l a) ∙ z), λ e. table-exact (listing_of T) l a ∙ ap delay_number e)
    where
      go : (o : Option ℕ) → delay_at (listing_of T) a ≡ o → delay_number o ≡ 0 → o ≡ none
      go none e z = refl
      go (some d) e z = absurd (omega (arith, (delay-in-range a d e).0))
