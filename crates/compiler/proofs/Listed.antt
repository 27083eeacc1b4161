-- What is written from the tables of an accepted program is its listing: a block, a mode, all modes behind the jump.
-- Assumes that the verdict on the tables is 0, and that the layout says where each mode is entered.
use Prim.Native.Nat.{ℕ, zero, suc, ◌+◌, ◌<◌}
use mathlib.Core.Path.{◌≡◌, refl, sym, ap, ap₂, subst, ◌∙◌}
use mathlib.Core.Bool.{Bool, true, false}
use mathlib.Core.List.{List, [], ◌∷◌, ◌++◌, map, map-append}
use native.Mathlib.Omega.{arith}
use lib.Dec.{eqb}
use lib.ListN.{length, get_or}
use Rattle.theory.specs.Lists.{cat, Every}
use Rattle.theory.specs.Verdict.{accepted_number}
use Rattle.theory.proofs.Lists.{sum_same, every-keep}
use Rattle.program.specs.Tables.{Tables, start_mode, mode_count}
use Rattle.program.specs.Sets.{sensor_rows}
use Rattle.program.specs.Units.{units, due}
use Rattle.program.specs.Program.{Program, Mode, Switch, program_of, mode, ticks_of, next_unit, due_switches}
use Rattle.program.proofs.Decoded.{mode-count, mode-row, sensors-rows}
use Rattle.rules.specs.Verdict.{program_verdict}
use Rattle.code.specs.Op.{Op, jump, future, return}
use Rattle.code.specs.Listing.{block_size, mode_address, block_address, entry_address, future_address, head_of, tests_of, body_of, end_of, stubs_of}
use Rattle.code.specs.Listing.{block_code, mode_code, listing}
use Rattle.code.specs.Compile.{listing_of}
use Rattle.code.proofs.Accepted.{accepted-aims}
use Rattle.layout.specs.Counts.{counts_of, before_future, size_of}
use Rattle.layout.proofs.Sizes.{future-counted}
use Rattle.layout.proofs.Laid.{counts-mode, start-mode}
use Rattle.words.specs.Written.{Words, three}
use Rattle.writing.specs.Switches.{switches_in, stubs_in}
use Rattle.writing.specs.Block.{counts_at}
use Rattle.compiler.specs.Rounds.{next_in, block_in, block_start}
use Rattle.compiler.specs.Modes.{round_of, mode_in, mode_start, all_in}
use Rattle.compiler.proofs.Pieces.{when, head-same, body_same, switches-same, stubs-same}

-- the image of pieces put together is the images of the pieces put together
map-cat : {A B : Type 0} (f : A → B) (g : ℕ → List A) (n : ℕ) → map f (cat g n) ≡ cat (λ k. map f (g k)) n
map-cat f g zero = refl
map-cat f g (suc n) = map-append f (cat g n) (g n) ∙ ap (λ l. l ++ map f (g n)) (map-cat f g n)

-- pieces that are equal below a bound are equal together
cat-same : {A : Type 0} (f g : ℕ → List A) (n : ℕ) → ((k : ℕ) → k < n → f k ≡ g k) → cat f n ≡ cat g n
cat-same f g zero e = refl
cat-same f g (suc n) e = ap₂ (λ a b. a ++ b) (cat-same f g n (λ k l. e k (omega arith))) (e n (omega arith))

-- five parts, each equal to the image of another, are the image of the others together
five : {a b c d e : List Words} (v w x y z : List Op) → a ≡ map three v → b ≡ map three w → c ≡ map three x → d ≡ map three y → e ≡ map three z
    → a ++ (b ++ (c ++ (d ++ e))) ≡ map three (v ++ (w ++ (x ++ (y ++ z))))
five v w x y z p q r s t = (λ j. p j ++ (q j ++ (r j ++ (s j ++ t j)))) ∙ sym (simp map-append)

module _ (T : Tables) where
  -- the program that the tables say
  abbrev P : Program
  P = program_of T

  -- how many sensors the tables declare
  abbrev read : ℕ
  read = length (sensor_rows T.ports (λ p. p))

  -- the sensors that the tables declare are those of the program
  read_all : read ≡ length P.sensors
  read_all = ap length (sym (sensors-rows T))

  module _ (m : ℕ) (l : m < mode_count T) where
    -- what is counted in the tables is what is due in the mode
    counted : (k : ℕ) → counts_at T (when T m k) ≡ counts_of P (mode P m) k
    counted k = counts-mode T read read_all m k l

    module _ (first : ℕ) (e : first ≡ mode_address P m) (k : ℕ) where
      -- a block of a declared mode stands where it does in the listing
      block-start : block_start T (round_of T m first) k ≡ block_address P m k
      block-start = ap₂ (λ a b. a + b) e (sum_same _ (block_size P (mode P m)) k (λ j b. ap size_of (counted j)))

      module _ (at : ℕ) (b : at ≡ block_address P m k) where
        -- the stubs of a block stand behind its `future` and `return`
        stub-same : at + before_future (counts_at T (when T m k)) + 2 ≡ 2 + future_address P m k
        stub-same = omega (arith, b, ap before_future (counted k), future-counted P m k)

        -- the block that a block goes on with is that of the next unit
        next-same : next_in (round_of T m first) k (at + size_of (counts_at T (when T m k))) ≡ block_address P m (next_unit (mode P m) k)
        next-same = go (eqb (suc k) (units T m)) ∙ ap (λ (M : Mode). block_address P m (next_unit M k)) (sym (mode-row T m l))
          where
            go : (t : Bool) → elim t as (λ t. ℕ) [ true ↦ first | false ↦ at + size_of (counts_at T (when T m k)) ]
                ≡ block_address P m (elim t as (λ t. ℕ) [ true ↦ 0 | false ↦ suc k ])
            go true = omega (arith, e)
            go false = omega (arith, b, ap size_of (counted k))

  module _ (a : program_verdict T ≡ accepted_number) (entries : List ℕ)
      (entered : (m : ℕ) → m < mode_count T → get_or entries m 0 ≡ entry_address P m 0) where
    -- the due switches name declared targets
    declared : (m k : ℕ) → m < mode_count T → Every (λ w. w.target < mode_count T) (due_switches (mode P m) k)
    declared m k l =
        every-keep _ (λ r. due (mode P m).units r.frequency k) (mode P m).switches
        (subst (λ (n : ℕ). Every (λ w. w.target < n) (mode P m).switches) (mode-count T) ((accepted-aims T a).targets m (omega (arith, mode-count T))))

    module _ (m : ℕ) (l : m < mode_count T) (first : ℕ) (e : first ≡ mode_address P m) where
      -- the due switches of the tables are those of the mode
      due-same : (k : ℕ) → switches_in T.switches (when T m k) ≡ due_switches (mode P m) k
      due-same k = switches-same T m k ∙ ap (λ (M : Mode). due_switches M k) (sym (mode-row T m l))

      -- a block of a declared mode that is written is that of the listing
      block_same : (k at : ℕ) → at ≡ block_address P m k → block_in T entries (round_of T m first) k at ≡ map three (block_code P m k)
      block_same k at b =
          five (head_of P (mode P m) k) (tests_of (due_switches (mode P m) k) (2 + future_address P m k)) (body_of (mode P m) k) (end_of P m k) (stubs_of P k (due_switches (mode P m) k))
          (head-same T m k ∙ ap (λ (M : Mode). map three (head_of P M k)) (sym (mode-row T m l)))
          (ap₂ (λ (ws : List Switch) (s : ℕ). map three (tests_of ws s)) (due-same k) (stub-same m l first e k at b))
          (body_same T m k ∙ ap (λ (M : Mode). map three (body_of M k)) (sym (mode-row T m l)))
          (ap₂ (λ (t n : ℕ). map three (future t n ∷ return ∷ [])) (ap ticks_of (sym (mode-row T m l))) (next-same m l first e k at b))
          (ap (map three) (ap (stubs_in entries) (due-same k) ∙ stubs-same P entries (mode_count T) k entered (due_switches (mode P m) k) (declared m k l)))

      -- a declared mode that is written is that of the listing
      mode-same : mode_in T entries m first ≡ map three (mode_code P m)
      mode-same =
          cat-same _ (λ k. map three (block_code P m k)) (units T m) (λ k h. block_same k _ (block-start m l first e k))
          ∙ ap (λ (M : Mode). cat (λ k. map three (block_code P m k)) M.units) (sym (mode-row T m l))
          ∙ sym (map-cat three (block_code P m) (mode P m).units)

    -- a declared mode stands where it does in the listing
    start-same : (m : ℕ) → m < mode_count T → mode_start T m ≡ mode_address P m
    start-same m l = start-mode T read read_all m (omega arith)

    -- what is written from the tables of an accepted program is its listing
    pub all_same : (first : ℕ) → first ≡ block_address P (start_mode T) 0 → all_in T entries first ≡ map three (listing_of T)
    unfolding listing_of listing
    all_same first e =
        ap₂ (λ (n : ℕ) (os : List Words). three (jump n) ∷ os) e
        (cat-same _ (λ m. map three (mode_code P m)) (mode_count T) (λ m h. mode-same m h (mode_start T m) (start-same m h))
        ∙ ap (cat (λ m. map three (mode_code P m))) (sym (mode-count T))
        ∙ sym (map-cat three (mode_code P) (length P.modes)))
