-- Domination over a unit and over the run: with times at most as long, from remaining times at most as long, the run is at
-- every tick at least as far, owes at most as much and runs only when the longer does. Assumes, of the jobs that are asked about (`Own`),
-- that every dispatch is of such a job; of all jobs nothing else.
use Prim.Native.Nat.{ℕ, zero, suc, ◌≤◌}
use mathlib.Core.Path.{◌≡◌, refl, ◌∙◌}
use mathlib.Core.Bool.{true}
use mathlib.Core.List.{List}
use native.Mathlib.Omega.{arith}
use lib.ListN.{length, length-set}
use Rattle.theory.specs.Lists.{member}
use Rattle.theory.proofs.Lists.{every-all}
use Rattle.runs.specs.Tick.{dispatch, Row, Act, rest, work, left_after, Place, doing, runs_in}
use Rattle.runs.specs.Round.{Course, Choice, unit_start, going, before, alone, Good}
use Rattle.runs.specs.Dominated.{OwnRows, AtMost, Dominated}
use Rattle.runs.proofs.Tick.{tick-runs, tick-dominated}
use Rattle.runs.proofs.Released.{release_length, release-below}

-- all jobs are asked about
abbrev pub Any : ℕ → Type 0
Any j = Unit {0}

-- every dispatch is of some job
pub any-rows : (block : List Row) → OwnRows Any block
any-rows block = every-all (λ x. x.kind ≡ dispatch → Any x.job) block (λ x k. tt)

-- what runs in a tick keeps the number of remaining times
after-length : (a : Act) (r : List ℕ) → length (left_after a r) ≡ length r
after-length rest r = refl
after-length (work j) r = simp length-set

going-length : (block : List Row) (s : Place) (e : ℕ) → length (going block s e).left ≡ length s.left
going-length block s zero = refl
going-length block s (suc e) = after-length (doing block e (going block s e)) (going block s e).left ∙ going-length block s e

-- before every unit there are as many remaining times as at the start of the run
pub before-length : (C : Course) (c : Choice) (left : List ℕ) (k : ℕ) → length (before C c left k) ≡ length left
before-length C c left zero = refl
before-length C c left (suc k) =
    going-length (C.block k) (unit_start C c k (before C c left k)) C.ticks
    ∙ release_length (C.released k) (c k) (before C c left k) ∙ before-length C c left k

-- choice c gives every release at most the time that choice d gives
abbrev pub Shorter : Course → Choice → Choice → Type 0
Shorter C c d = (k j : ℕ) → member j (C.released k) ≡ true → c k j ≤ d k j

module _ (Own : ℕ → Type 0) where
  -- e ticks of a block keep a place dominated
  pub going-dominated : (block : List Row) (s d : Place) → OwnRows Own block → Dominated Own block 0 s d
      → (e : ℕ) → Dominated Own block e (going block s e) (going block d e)
  going-dominated block s d o h zero = h
  going-dominated block s d o h (suc e) = tick-dominated Own block e (going block s e) (going block d e) o (going-dominated block s d o h e)

  -- a unit keeps the shorter run dominated, from any remaining times at its start of which its own are at most the other's
  pub unit-dominated : (C : Course) (c d : Choice) (k : ℕ) → OwnRows Own (C.block k)
      → ((j : ℕ) → Own j → member j (C.released k) ≡ true → c k j ≤ d k j) → (r q : List ℕ) → length r ≤ length q → AtMost Own r q
      → (e : ℕ) → Dominated Own (C.block k) e (going (C.block k) (unit_start C c k r) e) (going (C.block k) (unit_start C d k q) e)
  unit-dominated C c d k o shorter r q as_many less =
      going-dominated (C.block k) (unit_start C c k r) (unit_start C d k q) o
      (record {
        further = omega arith;
        owes = release-below Own (C.released k) (C.released k) (c k) (d k) r q (λ j w. refl) shorter (λ j w m l. omega arith) less;
        settled-s = omega arith;
        settled-d = omega arith;
      })

  -- Two runs of a course: of choice c from r, and of choice d from q.
  module _ (C : Course) (own : (k : ℕ) → OwnRows Own (C.block k)) (c d : Choice) (shorter : Shorter C c d) (r q : List ℕ)
      (as_many : length r ≤ length q) (less : AtMost Own r q) where
    unit-from : (k : ℕ) → AtMost Own (before C c r k) (before C d q k) → (e : ℕ) → Dominated Own (C.block k) e (alone C c r k e) (alone C d q k e)
    unit-from k b =
        unit-dominated C c d k (own k) (λ j w. shorter k j) (before C c r k) (before C d q k)
        (omega (arith, before-length C c r k, before-length C d q k)) b

    -- before every unit the shorter run owes at most as much
    pub before-dominated : (k : ℕ) → AtMost Own (before C c r k) (before C d q k)
    before-dominated zero = less
    before-dominated (suc k) = (unit-from k (before-dominated k) C.ticks).owes

    -- in every unit and after every tick the shorter run is dominated
    pub alone-dominated : (k e : ℕ) → Dominated Own (C.block k) e (alone C c r k e) (alone C d q k e)
    alone-dominated k e = unit-from k (before-dominated k) e

    -- whenever the shorter run runs, the longer runs too
    pub alone-runs : (k e : ℕ) → runs_in (C.block k) e (alone C c r k e) ≡ true → runs_in (C.block k) e (alone C d q k e) ≡ true
    alone-runs k e = tick-runs Own (C.block k) e (alone C c r k e) (alone C d q k e) (own k) (alone-dominated k e)

-- where the longer run keeps to its windows and terminations, the shorter keeps to them too
pub good-shorter : (C : Course) (c d : Choice) → Shorter C c d → (r q : List ℕ) → length r ≤ length q → AtMost Any r q → Good C d q → Good C c r
good-shorter C c d shorter r q as_many less g = record {
  inside = λ k e l n h. g.inside k e l n (alone-runs Any C own c d shorter r q as_many less k e h);
  ends = λ k j l m. omega (arith, g.ends k j l m, (alone-dominated Any C own c d shorter r q as_many less k C.ticks).owes j tt);
}
  where
    own : (k : ℕ) → OwnRows Any (C.block k)
    own k = any-rows (C.block k)
