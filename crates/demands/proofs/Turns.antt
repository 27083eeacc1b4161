-- The turns of a frequency of a mode: how many units lie between two at which a row of that frequency is due, how many ticks they take, and
-- where in a turn a unit is. Assumes the program's rules, and that the mode is declared and has the frequency.
use Prim.Native.Nat.{ℕ, zero, suc, ◌+◌, ◌*◌, ◌/◌, ◌%◌, ◌≤◌, ◌<◌, ◌∣◌}
use mathlib.Core.Path.{◌≡◌, sym, ap, subst, ◌∙◌}
use native.Mathlib.Nat.{mod_self, mod-eq_of_lt, mod-add-mod, mod-mod_of_dvd, mul_assoc, mul_comm, mul-div_cancel, div-mul_cancel, zero-mul}
use native.Mathlib.Nat.{dvd-mul_right}
use native.Mathlib.Omega.{arith}
use Rattle.theory.specs.Verdict.{Keep}
use Rattle.program.specs.Tables.{Tables, mode_count, mode_period}
use Rattle.program.specs.Units.{units, Frequency, Units}
use Rattle.program.proofs.Units.{units-least}
use Rattle.rules.specs.Timing.{UnitsFit}
use Rattle.rules.specs.Verdict.{program_rules}
use Rattle.rules.proofs.Timing.{units-few, units-divide}
use Rattle.giotto.proofs.Round.{unit_ticks}

-- j units on, a turn is j units further, where that is in it; and where it is just its end, it is at a start
pub turn_on : (q k j : ℕ) → k % q + j < q → (k + j) % q ≡ k % q + j
turn_on q k j l = sym (mod-add-mod k q j) ∙ mod-eq_of_lt l

pub turn-over : (q k j : ℕ) → k % q + j ≡ q → (k + j) % q ≡ 0
turn-over q k j e = sym (mod-add-mod k q j) ∙ ap (λ (x : ℕ). x % q) e ∙ mod_self q

-- where u units of t ticks are a period, and f turns of q units are the u units, a turn takes period / f ticks, and that is whole
turn-takes : (q f u t period : ℕ) → 1 ≤ f → q * f ≡ u → t * u ≡ period → (q * t ≡ period / f) × ((period / f) * f ≡ period)
turn-takes q f u t period h e g =
    let whole : q * t * f ≡ period = ap (λ (x : ℕ). x * f) (mul_comm q t) ∙ mul_assoc t q f ∙ ap (λ (x : ℕ). t * x) e ∙ g in
    let takes : q * t ≡ period / f = sym (mul-div_cancel (q * t) h) ∙ ap (λ (x : ℕ). x / f) whole in
    (takes, ap (λ (x : ℕ). x * f) (sym takes) ∙ whole)

module _ (T : Tables) (K : Keep program_rules T) (m f : ℕ) (declared : m < mode_count T) (some : 1 ≤ f) (w : Frequency T m f) where
  -- how many units a turn has
  abbrev turn : ℕ
  turn = units T m / f

  fit : UnitsFit T
  fit = K.1.1.1.1.1.1.1.1.0

  pub least : Units T m (units T m)
  least = units-least T m (units-few T fit m declared)

  -- a round is as many turns as the frequency says
  pub turns : turn * f ≡ units T m
  turns = div-mul_cancel f (least.multiple f w)

  pub turn-some : 1 ≤ turn
  turn-some = go turn turns
    where
      go : (q : ℕ) → q * f ≡ units T m → 1 ≤ q
      go zero e = absurd (omega (arith, e, zero-mul f, least.some))
      go (suc q) e = omega arith

  -- a turn takes period / frequency ticks, and that is whole
  pub turn-ticks : (turn * unit_ticks T m ≡ mode_period T m / f) × ((mode_period T m / f) * f ≡ mode_period T m)
  turn-ticks =
      turn-takes turn f (units T m) (unit_ticks T m) (mode_period T m) some turns (div-mul_cancel (units T m) (units-divide T fit m declared))

  -- a unit, counted around the round, is as far in the turn as one counted on
  pub around : (k : ℕ) → k % units T m % turn ≡ k % turn
  around k = mod-mod_of_dvd turn k (subst (λ (u : ℕ). turn ∣ u) turns (dvd-mul_right turn f))
