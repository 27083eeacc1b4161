-- A loop over the units of a round up to the first break: after k of them the rest is judged as the whole, the next block begins
-- behind theirs, and the walk over the schedule has come to a row that every row before is behind. What the round comes to by it.
-- Assumes of the schedule that it is sorted; for the limits, of the tables that number 1 passes them.
use Prim.Native.Nat.{ℕ, zero, suc, ◌+◌, ◌-◌, ◌≤◌, ◌<◌}
use mathlib.Core.Path.{◌≡◌, refl, sym, ap, subst, subst₂, ◌∙◌}
use mathlib.Core.Bool.{Bool, true, false}
use mathlib.Core.List.{List}
use native.Mathlib.Nat.{add-zero, add_assoc, le_trans}
use native.Mathlib.Numerals.{add-one}
use native.Mathlib.Omega.{arith}
use lib.IntN.{ℤ}
use Rattle.theory.specs.Lists.{sum}
use Rattle.std.specs.Prelude.{Result, Ok, Err}
use Rattle.theory.proofs.Bools.{clash}
use Rattle.cells.specs.Limits.{max_ports, max_units}
use Rattle.program.specs.Tables.{Tables}
use Rattle.rules.specs.Shape.{shape_bad}
use Rattle.layout.specs.declared.counts.Counts.{Counts}
use Rattle.layout.specs.Counts.{counts_in, before_future, size_of, most_block, most_mode, most_code}
use Rattle.layout.proofs.Limits.{unit-most, mode-most, few-rows}
use Rattle.runs.specs.declared.block.Span.{Span}
use Rattle.runs.specs.Schedule.{rows_of, block_of, Sorted, found, span_of}
use Rattle.runs.specs.Round.{Course, Break, none, outside, late, worst_case, judge, nothing, worst_break}
use Rattle.runs.proofs.Blocks.{behind-later, found_within, found-behind}
use Rattle.runs.proofs.Found.{block-found}
use Rattle.answers.specs.declared.Refused.{Refused}
use Rattle.answers.specs.Answers.{answer_of as told}
use Rattle.suppliers.specs.Supplier.{answer_of}
use Rattle.rounds.specs.declared.round.Reached.{Reached}
use Rattle.rounds.specs.declared.units.Broken.{Broken}
use Rattle.rounds.specs.Course.{course_in, block_at, rows_at_future, row_before, Come}
use Rattle.rounds.specs.Breaks.{outside_at, late_at, unit_end, rounded}
use Rattle.rounds.proofs.Stops.{ok-same, err-same, err_mapped, unit-passed, unit-breaks, unit-own-block}

-- a walk goes on from the address of a block to its end, over the rows found at its `future`
come-more : (S : List ℤ) (s at row : ℕ) (c : Counts) → Come S s at row → Come S s (at + size_of c) (found S row s (at + before_future c)).end
come-more S s at row c h =
    let a = at + before_future c in
    record {
      within = (found_within S s a row h.within).2;
      behind =
          behind-later S s (suc a) (at + size_of c) (found S row s a).end (omega arith)
          (found-behind S s a row (behind-later S s at a row (omega arith) h.behind));
    }

-- the walk over the first k units has come to the next block and the row before it
pub come-walk : (S : List ℤ) (s : ℕ) (counts : ℕ → Counts) (first from : ℕ) → Come S s first from
    → (k : ℕ) → Come S s (block_at counts first k) (row_before S s counts first from k)
come-walk S s counts first from h zero = subst (λ (a : ℕ). Come S s a from) (sym (add-zero first)) h
come-walk S s counts first from h (suc k) =
    subst (λ (a : ℕ). Come S s a (row_before S s counts first from (suc k))) (add_assoc first (sum (λ j. size_of (counts j)) k) (size_of (counts k)))
    (come-more S s (block_at counts first k) (row_before S s counts first from k) (counts k) (come-walk S s counts first from h k))

-- a run breaks
abbrev breaks : Break → Bool
breaks none = false
breaks (outside t) = true
breaks (late t) = true

-- what is refused where a round of mode m breaks
abbrev pub refused_in : ℕ → Broken → Refused
refused_in m b = record { refusal = b.refusal; outer = m; inner = b.tick }

-- where a round is accepted, its run does not break, and it says where the walk has come to
pub round-accepted : (b : Break) (at row m : ℕ) {r : Reached} → Ok r ≡ err_mapped (refused_in m) (rounded b at row)
    → (b ≡ none) × (r.at ≡ at) × (r.row ≡ row)
unfolding rounded
round-accepted none at row m {r} e =
    let q = ok-same r (record { at = at; row = row }) e in (refl, ap (λ (x : Reached). x.at) q, ap (λ (x : Reached). x.row) q)
round-accepted (outside t) at row m e = absurd (grind arith)
round-accepted (late t) at row m e = absurd (grind arith)

-- where a round is refused, its run breaks, and its break is what is answered on its mode
pub round-refused : (b : Break) (at row m : ℕ) {x : Refused} → Err x ≡ err_mapped (refused_in m) (rounded b at row)
    → (b ≡ none → ⊥) × (told {A = Unit {0}} (Err x) ≡ answer_of m b)
unfolding rounded
round-refused none at row m e = absurd (grind arith)
round-refused (outside t) at row m {x} e =
    (λ z. clash refl (ap breaks z), ap (λ (x : Refused). told {A = Unit {0}} (Err x)) (err-same x (refused_in m (outside_at t)) e))
round-refused (late t) at row m {x} e =
    (λ z. clash refl (ap breaks z), ap (λ (x : Refused). told {A = Unit {0}} (Err x)) (err-same x (refused_in m (late_at t)) e))

module _ (T : Tables) (W S : List ℤ) (sensors s m u ticks first from : ℕ) where
  -- how much is due at each unit (`counts`), and the course of the round (`run`)
  abbrev counts : ℕ → Counts
  counts = counts_in T.invocations T.updates T.switches sensors m u

  abbrev run : Course
  run = course_in T.tasks T.invocations W s m u ticks (rows_at_future S s counts first)

  -- after k units none broke, the rest is judged as the whole, and the walk has come to this address and this row
  pub record Going (k at row : ℕ) (left : List ℕ) : Type 0 where
    pub in-range : k ≤ u
    pub judged : judge run (worst_case run) (u - k) k left ≡ worst_break run nothing
    pub ends : at ≡ block_at counts first k
    pub come : Come S s at row
    pub walked : row ≡ row_before S s counts first from k

  -- before the first unit the walk stands where the mode begins, and nothing is running
  pub going-none : Come S s first from → Going 0 first from nothing
  going-none w =
      let z : u - 0 ≡ u = omega arith in
      record {
        in-range = omega arith;
        judged = ap (λ (n : ℕ). judge run (worst_case run) n 0 nothing) z;
        ends = sym (add-zero first);
        come = w;
        walked = refl;
      }

  module _ {k at row : ℕ} {left : List ℕ} (h : Going k at row left) where
    -- no address up to the end of the next block exceeds the longest code and a block
    pub going-near : shape_bad T ≡ false → sensors ≤ max_ports → u ≤ suc max_units → first + most_mode ≤ most_code
        → {c : Counts} → c ≡ counts k → at + size_of c ≤ most_code + most_block
    going-near shape z l b d =
        let e = ap size_of d in
        let few = few-rows T shape in
        omega (
          arith,
          h.ends,
          mode-most _ _ _ sensors m u few z k (le_trans h.in-range l),
          e,
          unit-most _ _ _ sensors m u few z k,
        )

    -- the next unit, as it was counted, found and run
    module _ {c : Counts} {before : ℕ} {span : Span} {part : List ℤ} {unit : Result (List ℕ) Broken} (o : Sorted S) (l : k < u) (d : c ≡ counts k) (b : before ≡ before_future c)
        (q : span ≡ found S row s (at + before)) (p : part ≡ span_of S span)
        (e : unit ≡ unit_end (course_in T.tasks T.invocations W s m u ticks (λ j. rows_of part)) k left) where
      -- the rows found are the block of the next unit
      rows_are : rows_of part ≡ rows_at_future S s counts first k
      rows_are =
          ap rows_of p
          ∙ ap (λ (x : Span). rows_of (span_of S x)) q
          ∙ block-found S s (at + before) row o h.come.within (behind-later S s at (at + before) row (omega arith) h.come.behind)
          ∙ (λ j. block_of S s (h.ends j + b j))
          ∙ ap (λ (x : Counts). block_of S s (block_at counts first k + before_future x)) d

      -- the next unit ended as it does in the course
      unit-is : unit ≡ unit_end run k left
      unit-is = e ∙ unit-own-block T.tasks T.invocations W s m u ticks (rows_at_future S s counts first) k left rows_are

      -- the next unit and the units after it are judged as the round is
      rest : judge run (worst_case run) (suc (u - (k + 1))) k left ≡ worst_break run nothing
      rest =
          let z : u - k ≡ suc (u - (k + 1)) = omega arith in
          sym (ap (λ (n : ℕ). judge run (worst_case run) n k left) z) ∙ h.judged

      -- where the next unit does not break, the loop goes on behind its block
      pub going_more : {size : ℕ} {after : List ℕ} → size ≡ size_of c → unit ≡ Ok after → Going (k + 1) (at + size) span.end after
      going_more {size} {after} g n =
          record {
            in-range = omega arith;
            judged =
                (λ j. judge run (worst_case run) (u - (k + 1)) (add-one k j) after)
                ∙ sym (unit-passed run k left (u - (k + 1)) (sym n ∙ unit-is))
                ∙ rest;
            ends =
                (λ j. h.ends j + g j)
                ∙ ap (λ (x : Counts). block_at counts first k + size_of x) d
                ∙ (add_assoc first _ _ ∙ ap (block_at counts first) (sym (add-one k)));
            come =
                subst₂ (λ (x : ℕ) (y : ℕ). Come S s x y) (λ j. at + sym g j) (sym (ap (λ (x : Span). x.end) q ∙ (λ j. (found S row s (at + b j)).end)))
                (come-more S s at row c h.come);
            walked =
                ap (λ (x : Span). x.end) q
                ∙ (λ j. (found S (h.walked j) s (h.ends j + (b ∙ ap before_future d) j)).end)
                ∙ ap (row_before S s counts first from) (sym (add-one k));
          }

      -- where the next unit breaks, so does the round, with its break
      pub going-breaks : {x : Broken} → unit ≡ Err x
          → Err x ≡ rounded (worst_break run nothing) (block_at counts first u) (row_before S s counts first from u)
      going-breaks n =
          unit-breaks run k left (u - (k + 1)) (sym n ∙ unit-is) (block_at counts first u) (row_before S s counts first from u)
          ∙ ap (λ (b : Break). rounded b (block_at counts first u) (row_before S s counts first from u)) rest

    -- after the last unit no unit broke, and the round comes to where the walk has come to
    pub going-all : u ≤ k
        → Ok (record { at = at; row = row }) ≡ rounded (worst_break run nothing) (block_at counts first u) (row_before S s counts first from u)
    unfolding rounded
    going-all l =
        let z : 0 ≡ u - k = omega arith in
        let y : k ≡ u = omega (arith, h.in-range) in
        let e : judge run (worst_case run) 0 k left ≡ worst_break run nothing = ap (λ (n : ℕ). judge run (worst_case run) n k left) z ∙ h.judged in
        let f : at ≡ block_at counts first u = h.ends ∙ ap (block_at counts first) y in
        let g : row ≡ row_before S s counts first from u = h.walked ∙ ap (row_before S s counts first from) y in
        (λ j. Ok (record { at = f j; row = g j }))
        ∙ ap (λ (b : Break). rounded b (block_at counts first u) (row_before S s counts first from u)) e
