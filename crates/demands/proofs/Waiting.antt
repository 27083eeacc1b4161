-- How long a switch is waited for: where every later instant of Giotto's execution finds its guarded port in its interval, the mode stays
-- up to the instant at which the switch is due, as many units later as are left of its turn. Assumes the program's rules.
use Prim.Native.Nat.{ℕ, zero, suc, ◌+◌, ◌*◌, ◌-◌, ◌/◌, ◌%◌, ◌≤◌, ◌<◌}
use mathlib.Core.Path.{◌≡◌, refl, sym, ap, subst, subst₂, ◌∙◌}
use mathlib.Core.Bool.{true}
use mathlib.Core.List.{List}
use mathlib.Core.Logic.{inr}
use native.Mathlib.Nat.{mod-lt, suc-mul, zero-mul, mul-le-mul_right}
use native.Mathlib.Omega.{arith}
use lib.IntN.{ℤ}
use borrow.Author.Tests.{eq-eqb, eqb-true}
use Rattle.theory.specs.Verdict.{Keep}
use Rattle.program.specs.Tables.{Tables, mode_period, guard_kind, guard_port, kind_interval, switch_count, switch_mode, switch_frequency}
use Rattle.program.specs.Tables.{switch_driver}
use Rattle.program.specs.Guard.{guard_of, holds}
use Rattle.program.specs.Sets.{Sensor}
use Rattle.program.specs.Units.{units, due, Frequency}
use Rattle.program.specs.Ports.{value_of}
use Rattle.rules.specs.Fields.{SwitchFits}
use Rattle.rules.specs.Verdict.{program_rules}
use Rattle.rules.proofs.Missing.{holds-inside}
use Rattle.rules.proofs.Modes.{switch-once}
use Rattle.giotto.specs.Instant.{Function}
use Rattle.giotto.proofs.Round.{unit_ticks, BeginsUnit, Quiet, QuietFor, some-ticks, next-instant, next-mode, next-unit, begins-through}
use Rattle.giotto.proofs.Round.{mode-through}
use Rattle.demands.specs.Giotto.{at}
use Rattle.demands.specs.Missing.{DueAt}
use Rattle.demands.specs.Response.{waiting, waiting_from, current_after, FindsInside, FindsAfter}
use Rattle.demands.proofs.Turns.{turn_on, turn-over, turn-some, turn-ticks, around}

module _ (T : Tables) (K : Keep program_rules T) (i : ℕ) (h : i < switch_count T) where
  -- the mode of the switch, the driver with its guard, and how many units lie between two at which it is due
  abbrev m : ℕ
  m = switch_mode T i

  abbrev d : ℕ
  d = switch_driver T i

  abbrev turn : ℕ
  turn = units T m / switch_frequency T i

  fits : SwitchFits T i
  fits = K.1.0.switches i h

  -- its frequency is one of the mode
  of-mode : Frequency T m (switch_frequency T i)
  of-mode = inr (inr (i, h, (refl, refl)))

  -- a turn takes period / frequency ticks, and that is whole
  pub turn-waiting : (turn * unit_ticks T m ≡ waiting T i) × (waiting T i * switch_frequency T i ≡ mode_period T m)
  turn-waiting = turn-ticks T K m (switch_frequency T i) fits.mode fits.frequency.0 of-mode

  -- where k units of a turn have passed, it has this many left
  pub left : (k : ℕ) → (e : ℕ) × (k % turn + suc e ≡ turn) × (suc e * unit_ticks T m ≡ waiting_from T i k)
  left k = go (turn - k % turn) refl
    where
      go : (r : ℕ) → turn - k % turn ≡ r → (e : ℕ) × (k % turn + suc e ≡ turn) × (suc e * unit_ticks T m ≡ waiting_from T i k)
      go zero o = absurd (omega (arith, o, mod-lt k (turn-some T K m (switch_frequency T i) fits.mode fits.frequency.0 of-mode)))
      go (suc e) o = (e, omega (arith, o), ap (λ (x : ℕ). x * unit_ticks T m) (sym o))

  -- a unit, counted around the round, is as far in the turn as one counted on
  here : (k : ℕ) → k % units T m % turn ≡ k % turn
  here = around T K m (switch_frequency T i) fits.mode fits.frequency.0 of-mode

  module _ (F : Function) (readings : ℕ → List ℤ) (interval : guard_kind T d ≡ kind_interval) (sensor : Sensor T (guard_port T d)) where
    -- where the reading is in the interval, the guard holds for every valuation that has it
    pub found-holds : (n : ℕ) → FindsInside T F readings i n → (v : ℕ → ℤ) → v (guard_port T d) ≡ value_of (readings n) (guard_port T d)
        → holds (guard_of T d) v ≡ true
    found-holds n w v e = holds-inside T d v interval (rw e w)

    -- in a unit at which the switch is not due, no other is enabled either: by rule 8 it would be this one
    found-quiet : (n k : ℕ) → FindsInside T F readings i n → (k % turn ≡ 0 → ⊥) → Quiet T F readings n m k
    found-quiet n k w o z v r j s = o (sym (here k) ∙ eqb-true (k % units T m % turn) 0 this-due)
      where
        same : j ≡ i
        same =
            switch-once T K.1.0 K.1.1.1.1.1.1.1.0 v j i s.in_table h s.of-mode s.guard
            (found-holds n w v (r (guard_port T d) sensor))

        this-due : due (units T m) (switch_frequency T i) (k % units T m) ≡ true
        this-due = subst (λ (j : ℕ). due (units T m) (switch_frequency T j) (k % units T m) ≡ true) same s.is-due

    -- where the next instant ends a turn, the switch is due there
    due-next : (n k : ℕ) → BeginsUnit T F readings n m k → suc k % turn ≡ 0
        → DueAt T (n + unit_ticks T m) (at T F readings (n + unit_ticks T m)) i
    due-next n k b e =
        let mode : (at T F readings (n + unit_ticks T m)).mode ≡ m = next-mode T K F readings n m k b in
        record {
          instant = next-instant T K F readings n m k b;
          of-mode = record { in_table = h; of-mode = sym mode };
          is-due =
              subst₂ (λ (m u : ℕ). due (units T m) (switch_frequency T i) u ≡ true) (sym mode) (sym (next-unit T K F readings n m k b))
              (eq-eqb (suc k % units T m % turn) 0 (here (suc k) ∙ e));
        }

    -- the switch is due b ticks after tick n, at an instant, and up to then the mode stays
    pub record Waited (n b : ℕ) : Type 0 where
      pub due-then : DueAt T (n + b) (at T F readings (n + b)) i
      pub stays : (l : ℕ) → n ≤ l → l < n + b → current_after T F readings l ≡ m

    -- where e + 1 units of the turn are left, the switch is due at their end
    pub waited : (n k e : ℕ) → BeginsUnit T F readings n m k → k % turn + suc e ≡ turn
        → FindsAfter T F readings i n (suc e * unit_ticks T m) → Waited n (suc e * unit_ticks T m)
    waited n k e b o w =
        record {
          due-then = subst (λ (l : ℕ). DueAt T l (at T F readings l) i) sum (due-next (n + e * t) (k + e) last ends);
          stays = mode-through T K F readings n m k b e quiet;
        }
      where
        t : ℕ
        t = unit_ticks T m

        some : 1 ≤ t
        some = some-ticks T K F readings n m k b

        sum : n + e * t + t ≡ n + suc e * t
        sum = omega (arith, suc-mul e t)

        -- in each unit before the last the turn goes on, and the instant that begins it finds the port in the interval
        quiet : QuietFor T F readings n m k e
        quiet j x y z =
            let place : (k + j) % turn ≡ k % turn + j = turn_on turn k j (omega (arith, y, o)) in
            let long : 1 * t ≤ j * t = mul-le-mul_right t x in
            let short : suc j * t ≤ suc e * t = mul-le-mul_right t (omega (arith, y)) in
            found-quiet (n + j * t) (k + j)
            (w (n + j * t) (omega (arith, long, suc-mul 0 t, zero-mul t, some)) (omega (arith, short, suc-mul j t)) z)
            (λ v. omega (arith, v, place, x)) z

        last : BeginsUnit T F readings (n + e * t) m (k + e)
        last = begins-through T K F readings n m k b e quiet

        ends : suc (k + e) % turn ≡ 0
        ends = let count : k + suc e ≡ suc (k + e) = omega arith in ap (λ (x : ℕ). x % turn) (sym count) ∙ turn-over turn k (suc e) o
