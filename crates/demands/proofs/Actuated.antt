-- From the start of a round to an actuator: by rule 10 no switch is due before a task of the mode first terminates, and nothing after an
-- update writes an actuator. The statements' premises are that the system is accepted and that the ticks are suited.
use Prim.Native.Nat.{ℕ, zero, suc, ◌+◌, ◌*◌, ◌/◌, ◌%◌, ◌≤◌, ◌<◌}
use mathlib.Core.Path.{◌≡◌, refl, sym, ap, subst, ◌∙◌}
use mathlib.Core.Bool.{true}
use mathlib.Core.List.{List}
use mathlib.Core.Logic.{inl, inr}
use native.Mathlib.Nat.{mod_self, mod-eq_of_lt, suc-mul, div-mul_cancel}
use native.Mathlib.Omega.{arith}
use lib.IntN.{ℤ}
use borrow.Author.Tests.{eq-eqb, eqb-true}
use Rattle.theory.specs.Verdict.{Keep}
use Rattle.theory.proofs.Bools.{is_true}
use Rattle.theory.proofs.Due.{due-first, due-whole}
use Rattle.program.specs.Tables.{Tables, invocation_count, invocation_mode, invocation_frequency, invocation_task, update_frequency}
use Rattle.program.specs.Tables.{update_driver, switch_frequency}
use Rattle.program.specs.Sets.{Actuator}
use Rattle.program.specs.Units.{units, due, Frequency, Multiple}
use Rattle.program.specs.Program.{program_of, task}
use Rattle.program.specs.Ports.{value_of, values_of}
use Rattle.program.proofs.Guards.{always-holds}
use Rattle.rules.specs.Fields.{InvocationFits}
use Rattle.rules.specs.Verdict.{program_rules}
use Rattle.rules.proofs.Verdict.{program-accepted}
use Rattle.giotto.specs.Instant.{Configuration, Function, results}
use Rattle.giotto.specs.Successor.{UpdateEnabled, Completed, Successor}
use Rattle.giotto.specs.Execution.{execution}
use Rattle.giotto.proofs.Active.{enabled-says}
use Rattle.giotto.proofs.Actuator.{actuator-takes}
use Rattle.giotto.proofs.Execution.{execution-succeeds}
use Rattle.giotto.proofs.Round.{unit_ticks, BeginsUnit, QuietFor, next-instant, next-mode, next-unit, some-ticks, begins-through}
use Rattle.machine.specs.Advance.{Lent}
use Rattle.composed.specs.Related.{Related}
use Rattle.demands.specs.Composed.{System, Accepted, joined, readings, state_at, configuration_at}
use Rattle.demands.specs.Actuated.{terminating, Brings, Acts, ActsInTime, ReactionTime}
use Rattle.demands.proofs.Sound.{accepted-sound}
use Rattle.demands.proofs.Composed.{related-always, same-ports}
use Rattle.demands.proofs.Turns.{least, turns, turn-some, turn-ticks, around}
use Rattle.demands.proofs.Response.{begins-there, response-time}

-- tick k of an execution is an instant after tick n, in the mode of invocation row a, and its task is due then
record DueThere (T : Tables) (F : Function) (readings : ℕ → List ℤ) (a n k : ℕ) : Type 0 where
  later : n < k
  instant : (execution (program_of T) F readings k).time ≡ k
  mode : (execution (program_of T) F readings k).mode ≡ invocation_mode T a
  is-due : due (units T (invocation_mode T a)) (invocation_frequency T a) (execution (program_of T) F readings k).unit ≡ true

module _ (T : Tables) (K : Keep program_rules T) (a : ℕ) (h : a < invocation_count T) where
  -- the mode of the invocation, and how many units lie between two terminations of its task
  abbrev m : ℕ
  m = invocation_mode T a

  abbrev turn : ℕ
  turn = units T m / invocation_frequency T a

  fits : InvocationFits T a
  fits = K.1.0.invocations a h

  -- its frequency is one of the mode
  of-mode : Frequency T m (invocation_frequency T a)
  of-mode = inl (a, h, (refl, refl))

  whole : turn * invocation_frequency T a ≡ units T m
  whole = turns T K m (invocation_frequency T a) fits.mode fits.frequency.0 of-mode

  all : Multiple T m (units T m)
  all = (least T K m (invocation_frequency T a) fits.mode fits.frequency.0 of-mode).multiple

  -- a turn takes period / frequency ticks
  takes : turn * unit_ticks T m ≡ terminating T a
  takes = (turn-ticks T K m (invocation_frequency T a) fits.mode fits.frequency.0 of-mode).0

  -- a unit, counted around the round, is as far in the turn as one counted on
  here : (k : ℕ) → k % units T m % turn ≡ k % turn
  here = around T K m (invocation_frequency T a) fits.mode fits.frequency.0 of-mode

  module _ (F : Function) (readings : ℕ → List ℤ) (n : ℕ) (b : BeginsUnit T F readings n m 0) where
    -- in the units before the turn's end no switch is due: by rule 10 the task would be due too
    quiet : (e : ℕ) → suc e ≡ turn → QuietFor T F readings n m 0 e
    quiet e o j x y z v r i s =
        omega (arith, x, sym (mod-eq_of_lt inside) ∙ sym (here j) ∙ eqb-true (j % units T m % turn) 0 task-due)
      where
        inside : j < turn
        inside = omega (arith, y, o)

        there : 0 + j ≡ j
        there = omega arith

        task-due : due (units T m) (invocation_frequency T a) (j % units T m) ≡ true
        task-due =
            due-whole (units T m) (invocation_frequency T a) (switch_frequency T i) (j % units T m)
            (K.1.0.switches i s.in_table).frequency.0 whole
            (div-mul_cancel (switch_frequency T i)
            (all (switch_frequency T i) (inr (inr (i, s.in_table, (s.of-mode, refl))))))
            (div-mul_cancel (switch_frequency T i)
            (K.1.1.1.1.1.1.1.1.1.0 i a s.in_table h (sym s.of-mode)))
            (subst (λ (j : ℕ). due (units T m) (switch_frequency T i) (j % units T m) ≡ true) there s.is-due)

    -- the task is due at the turn's end
    due-there : DueThere T F readings a n (n + terminating T a)
    due-there = go turn refl (turn-some T K m (invocation_frequency T a) fits.mode fits.frequency.0 of-mode)
      where
        go : (q : ℕ) → turn ≡ q → 1 ≤ q → DueThere T F readings a n (n + terminating T a)
        go zero o l = absurd (omega (arith, l))
        go (suc e) o l =
            let t = unit_ticks T m in
            let last : BeginsUnit T F readings (n + e * t) m (0 + e) = begins-through T K F readings n m 0 b e (quiet e (sym o)) in
            let sum : n + e * t + t ≡ n + terminating T a = omega (arith, suc-mul e t, sym (ap (λ (q : ℕ). q * t) o) ∙ takes) in
            let end : suc (0 + e) ≡ turn = omega (arith, o) in
            subst (DueThere T F readings a n) sum (record {
              later = omega (arith, some-ticks T K F readings n m 0 b);
              instant = next-instant T K F readings (n + e * t) m (0 + e) last;
              mode = next-mode T K F readings (n + e * t) m (0 + e) last;
              is-due =
                  subst (λ (u : ℕ). due (units T m) (invocation_frequency T a) u ≡ true)
                  (sym (next-unit T K F readings (n + e * t) m (0 + e) last))
                  (eq-eqb (suc (0 + e) % units T m % turn) 0 (here (suc (0 + e)) ∙ ap (λ (x : ℕ). x % turn) end ∙ mod_self turn));
            })

module _ (Y : System) (ok : Accepted Y) (F : Function) (lents : ℕ → Lent) where
  abbrev T : Tables
  T = Y.tables

  keep : Keep program_rules T
  keep = (program-accepted T).0 (accepted-sound Y ok).accepted

  abbrev at : ℕ → Configuration
  at k = configuration_at Y F lents k

  abbrev RelatedAt : ℕ → Type 0
  RelatedAt k = Related T Y.windows (joined Y) F k (at k) (state_at Y lents k)

  -- after the first tick all tasks of the mode are active, since the configuration is related to the machine's state
  active-there : (k a : ℕ) → 1 ≤ k → a < invocation_count T → (at k).mode ≡ invocation_mode T a → RelatedAt k
      → (at k).active (invocation_task T a) ≡ true
  active-there k a l h e (inl o) = absurd (omega (arith, l, o.no-tick))
  active-there k a l h e (inr (_, g)) =
      g.active (invocation_task T a)
      ∙ is_true (enabled-says T (at k).mode 0 (invocation_task T a) g.declared)
      (a, record { in_table = h; of-mode = sym e; is-due = due-first (units T (at k).mode) (invocation_frequency T a) }, refl)

  module _ (n k a u p q : ℕ) (w : Brings T a u p q) (d : DueThere T F (readings Y F lents) a n k) (r : RelatedAt k)
      (r' : RelatedAt (suc k)) where
    abbrev t : ℕ
    t = invocation_task T a

    abbrev own : ℕ
    own = invocation_mode T a

    S : Successor T (results (program_of T) F (at k).ports) (value_of (lents k).readings) (at k) (at (suc k))
    S = execution-succeeds T keep F (readings Y F lents) k d.instant

    -- a row of the mode that is due in the unit there is due in the unit of the configuration
    due_in : (f : ℕ) → due (units T own) f (at k).unit ≡ true → due (units T (at k).mode) f (at k).unit ≡ true
    due_in f e = subst (λ (m : ℕ). due (units T m) f (at k).unit ≡ true) (sym d.mode) e

    completed : Completed T (at k) t
    completed = (
      active-there k a (omega (arith, d.later)) w.invocation d.mode r,
      (a, record { in_table = w.invocation; of-mode = sym d.mode; is-due = due_in (invocation_frequency T a) d.is-due }, refl),
    )

    -- the update is as often due as the task
    updated : UpdateEnabled T (at k).mode (at k).unit S.after-tasks u
    updated =
        record {
          in_table = w.update;
          of-mode = w.one-mode ∙ sym d.mode;
          is-due = due_in (update_frequency T u) (due-whole (units T own) (update_frequency T u) (invocation_frequency T a) (at k).unit
              (keep.1.0.invocations a w.invocation).frequency.0
              (div-mul_cancel (update_frequency T u)
              (all T keep a w.invocation (update_frequency T u) (inr (inl (u, w.update, (w.one-mode, refl))))))
              (whole T keep a w.invocation) (div-mul_cancel (invocation_frequency T a) w.as-often) d.is-due);
          guard = always-holds T (update_driver T u) S.after-tasks w.always;
        }

    acts-there : Acts Y F lents k t p q
    acts-there =
        let (c, h, f, s, o) = w.copies in
        let actuator : Actuator T q = keep.1.1.1.1.1.1.0.destinations u q w.update (c, h, (f, o)) in
        record {
          ends = record { instant = d.instant; completed = completed };
          value =
              ap (λ (v : List ℤ). value_of v q) (same-ports Y ok F lents (suc k) (at (suc k)) (state_at Y lents (suc k)) r')
              ∙ actuator-takes T keep q actuator (results (program_of T) F (at k).ports) (value_of (lents k).readings) (at k) (at (suc k)) S
              t p u c completed (inl w.output) updated h f s o
              ∙ ap (λ (v : List ℤ). F t (values_of v (task (program_of T) t).takes) p)
              (sym (same-ports Y ok F lents k (at k) (state_at Y lents k) r));
        }

-- from the start of a round to the actuator
pub acts-in-time : ActsInTime
acts-in-time Y ok F lents n a u p q f e r w =
    acts-there Y ok F lents n (n + terminating Y.tables a) a u p q w there
    (related-always Y ok F lents (n + terminating Y.tables a) (λ k l. f k (omega (arith, l))))
    (related-always Y ok F lents (suc (n + terminating Y.tables a)) (λ k l. f k (omega (arith, l))))
  where
    T : Tables
    T = Y.tables

    K : Keep program_rules T
    K = (program-accepted T).0 (accepted-sound Y ok).accepted

    b : BeginsUnit T F (readings Y F lents) n (invocation_mode T a) 0
    b = subst (λ (m : ℕ). BeginsUnit T F (readings Y F lents) n m 0) e (begins-there Y ok F lents n 0 r)

    there : DueThere T F (readings Y F lents) a n (n + terminating T a)
    there = due-there T K a w.invocation F (readings Y F lents) n b

-- the whole reaction
pub reaction-time : ReactionTime
reaction-time Y ok F lents n i a u p q f w g e o =
    let wait = response-time Y ok F lents n i (λ k l. f k (omega (arith, l))) w g in
    let enters = wait.leaves.takes.enters in
    record {
      wait = wait;
      acts =
          acts-in-time Y ok F lents wait.tick a u p q (λ k l. f k (omega (arith, l, wait.in-time))) (enters.mode ∙ e)
          enters.round o;
    }
