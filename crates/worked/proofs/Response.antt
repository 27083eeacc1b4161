-- How long until the insulation monitor of examples/ enters its alarm mode, where the resistance is missing: twenty ticks, which are met
-- and cannot be one less; only instants count. Instances of the response time's theorems.
use Prim.Native.Nat.{ℕ, zero, suc, ◌+◌, ◌%◌, ◌≤◌, ◌<◌}
use mathlib.Core.Path.{◌≡◌, refl, sym, ap, subst, ◌∙◌}
use mathlib.Core.List.{◌∷◌}
use mathlib.Core.Bool.{Bool, true, false, not, ◌&&◌}
use native.Mathlib.Omega.{arith}
use lib.IntN.{ℤ, pos}
use lib.Dec.{eqb, ltb}
use lib.ListN.{length, replicate}
use borrow.Author.Tests.{le-ltb}
use Rattle.theory.specs.Claim.{Says}
use Rattle.theory.specs.Search.{any}
use Rattle.theory.proofs.Bools.{says-lt, says_eq, says-not, ◌and◌}
use Rattle.theory.proofs.Search.{any-says}
use Rattle.cells.specs.Limits.{max_ports}
use Rattle.readings.specs.Reading.{no_reading, is_missing, Inside}
use Rattle.readings.proofs.Readings.{missing-says}
use Rattle.program.specs.Tables.{guard_port, guard_low, guard_high, switch_target, switch_driver}
use Rattle.program.specs.Program.{program_of}
use Rattle.program.specs.Ports.{value_of}
use Rattle.rules.specs.Missing.{SwitchOf, LooksAt, ForMissing}
use Rattle.rules.proofs.Missing.{missing-inside}
use Rattle.suppliers.proofs.Accepted.{windows-accepted}
use Rattle.giotto.specs.Instant.{Configuration, Function}
use Rattle.giotto.specs.Execution.{execution}
use Rattle.machine.specs.Advance.{Lent}
use Rattle.demands.specs.Composed.{readings, configuration_at, SuitedAt}
use Rattle.demands.specs.Kept.{InRound}
use Rattle.demands.specs.Missing.{TakesSwitch}
use Rattle.demands.specs.Response.{waiting, waiting_from, InstantAt, current_after, Watches, FindsAfter, Leaves, LeavesWithin, NoTickLess}
use Rattle.demands.specs.Response.{LongestFromStart, Slowest, MissingAfter}
use Rattle.demands.proofs.Supplied.{worst-case-suited}
use Rattle.demands.proofs.Response.{response-time, response-exact, waiting-longest, missing-leads-out, slowest-some}
use Rattle.demands.proofs.Since.{missing-since}
use Rattle.worked.specs.Computed.{computed}
use Rattle.worked.specs.Systems.{mix}
use Rattle.worked.specs.Insulation.{insulation, insulation-system, insulation_lent, lost_from, flickers, sinks}
use Rattle.worked.proofs.Insulation.{insulation-accepted, resistance, of-normal, of-alarm, lost-whole}

-- how long the switches for the missing reading are waited for, in the normal mode and in the alarm mode
pub normal-wait : waiting insulation 0 ≡ 20
unfolding computed
normal-wait = refl

pub alarm-wait : waiting insulation 3 ≡ 10
unfolding computed
alarm-wait = refl

-- from unit 0 of the normal mode the wait is twenty ticks, from unit 1 ten
from-unit-0 : waiting_from insulation 0 0 ≡ 20
unfolding computed
from-unit-0 = refl

from-unit-1 : waiting_from insulation 0 1 ≡ 10
unfolding computed
from-unit-1 = refl

-- readings that are lost from tick r on are missing there
pub lost-there : (r n : ℕ) → r ≤ n → value_of (lost_from r n) 0 ≡ no_reading
lost-there r n l = rw (le-ltb n r l, lost_from)

-- The resistance is lost after tick 0, at which the normal mode is entered and finds a good reading
abbrev pub lent-1 : ℕ → Lent
lent-1 = insulation_lent mix (lost_from 1)

pub suited-1 : (n : ℕ) → SuitedAt insulation-system mix lent-1 n
suited-1 n = worst-case-suited insulation-system insulation-accepted.windows mix (lost_from 1) (lost-whole 1) n

pub starts : InRound (program_of insulation) 0 (configuration_at insulation-system mix lent-1 1) 0 0
unfolding computed
starts = record { unit = omega arith; tick = omega arith; next = refl; stamp = refl }

watched : Watches insulation mix (lost_from 1) 0 0
unfolding computed
watched = record { instant = refl; of-mode = of-normal; interval = refl; sensor = resistance }

-- switch rows 0 and 3 are for the missing reading alone
pub for-missing : ForMissing insulation 0 0
unfolding computed
for-missing = record { looks = record { guard = refl; port = refl }; low = refl; high = refl }

pub for-missing-there : ForMissing insulation 3 0
unfolding computed
for-missing-there = record { looks = record { guard = refl; port = refl }; low = refl; high = refl }

found-1 : (b : ℕ) → FindsAfter insulation mix (lost_from 1) 0 0 b
found-1 b k l h e = missing-inside insulation 0 0 for-missing (value_of (lost_from 1 k)) (lost-there 1 k (omega (arith, l)))

-- the alarm mode is entered at tick 20, and the normal mode stays up to then: the bound is met
pub alarm-exact : Leaves insulation-system mix lent-1 0 20 0
alarm-exact =
    subst (λ (b : ℕ). Leaves insulation-system mix lent-1 0 b 0) (ap (λ (b : ℕ). 0 + b) from-unit-0)
    (response-exact insulation-system insulation-accepted mix lent-1 0 0 0 (λ k l. suited-1 k) starts watched (found-1 _))

pub alarm-within : LeavesWithin insulation-system mix lent-1 0 (waiting insulation 0) 0
alarm-within = response-time insulation-system insulation-accepted mix lent-1 0 0 (λ k l. suited-1 k) watched (found-1 _)

pub wait-longest : LongestFromStart insulation 0
wait-longest = waiting-longest insulation (windows-accepted _ insulation-accepted.windows) 0 0 of-normal

-- so with a tick less the promise would be false
target : switch_target insulation 0 ≡ 1
unfolding computed
target = refl

pub at-start : current_after insulation mix (lost_from 1) 0 ≡ 0
unfolding computed
at-start = refl

pub no-tick-less : NoTickLess
no-tick-less claim =
    let found = claim insulation-system insulation-accepted mix lent-1 0 0 (λ k l. suited-1 k) watched (found-1 _) in
    let early : found.tick < 20 = omega (arith, found.in-time, normal-wait) in
    omega
    (arith, sym (alarm-exact.stays found.tick (omega arith) early ∙ at-start) ∙ found.leaves.takes.enters.mode ∙ target)

-- Only instants count: a resistance that is missing at every instant after tick 0, and good between, raises the alarm too
flickers-whole : (n : ℕ) → length (flickers n) ≡ max_ports
flickers-whole n = go (ltb 0 n && eqb (n % 10) 0)
  where
    go : (b : Bool) → length {A = ℤ} (elim b [ true ↦ no_reading ∷ replicate 63 (pos 0) | false ↦ pos 80 ∷ replicate 63 (pos 0) ]) ≡ max_ports
    go true = refl
    go false = refl

abbrev flickering : ℕ → Configuration
flickering n = execution (program_of insulation) mix flickers n

-- tick k is an instant after tick 0 that finds a reading: none of the first twenty is
abbrev finds-some : ℕ → Bool
finds-some k = (ltb 0 k && eqb (flickering k).time k) && not (is_missing (value_of (flickers k) 0))

none-finds : any finds-some 21 ≡ false
unfolding computed
none-finds = refl

flickers-found : FindsAfter insulation mix flickers 0 0 20
flickers-found k l h e = missing-inside insulation 0 0 for-missing (value_of (flickers k)) (go (is_missing (value_of (flickers k) 0)) refl)
  where
    says : (k : ℕ) → Says (finds-some k) (((0 < k) × ((flickering k).time ≡ k)) × (value_of (flickers k) 0 ≡ no_reading → ⊥))
    says k = (says-lt 0 k and says_eq (flickering k).time k) and says-not (missing-says (value_of (flickers k) 0))

    go : (b : Bool) → is_missing (value_of (flickers k) 0) ≡ b → value_of (flickers k) 0 ≡ no_reading
    go true o = (missing-says (value_of (flickers k) 0)).yes o
    go false o =
        absurd ((any-says finds-some _ says 21).no none-finds (k, omega (arith, h), ((l, e), (missing-says (value_of (flickers k) 0)).no o)))

pub flickers-within : LeavesWithin insulation-system mix (insulation_lent mix flickers) 0 (waiting insulation 0) 0
unfolding computed
flickers-within =
    response-time insulation-system insulation-accepted mix (insulation_lent mix flickers) 0 0
    (λ k l. worst-case-suited insulation-system insulation-accepted.windows mix flickers flickers-whole k)
    (record { instant = refl; of-mode = of-normal; interval = refl; sensor = resistance }) flickers-found

-- A resistance that is too low raises the alarm as fast: 30 is inside the interval up to 49 of switch row 1
sinks-whole : (n : ℕ) → length (sinks n) ≡ max_ports
sinks-whole n = go (ltb n 1)
  where
    go : (b : Bool) → length {A = ℤ} (elim b [ true ↦ pos 80 ∷ replicate 63 (pos 0) | false ↦ pos 30 ∷ replicate 63 (pos 0) ]) ≡ max_ports
    go true = refl
    go false = refl

low-there : (n : ℕ) → 1 ≤ n → value_of (sinks n) 0 ≡ pos 30
low-there n l = rw (le-ltb n 1 l, sinks)

low-inside : Inside (guard_low insulation (switch_driver insulation 1)) (pos 30) (guard_high insulation (switch_driver insulation 1))
unfolding computed
low-inside = (refl, refl)

low-port : guard_port insulation (switch_driver insulation 1) ≡ 0
unfolding computed
low-port = refl

pub low-within : LeavesWithin insulation-system mix (insulation_lent mix sinks) 0 (waiting insulation 1) 1
unfolding computed
low-within =
    response-time insulation-system insulation-accepted mix (insulation_lent mix sinks) 0 1
    (λ k l. worst-case-suited insulation-system insulation-accepted.windows mix sinks sinks-whole k)
    (record { instant = refl; of-mode = record { in_table = omega arith; of-mode = refl }; interval = refl; sensor = resistance })
    (λ k l h e. rw (ap (value_of (sinks k)) low-port ∙ low-there k l) low-inside)

-- The slowest switch that looks at the resistance, in the normal mode: row 0, and row 1 is as slow; in the alarm mode row 3
normal-slowest : Slowest insulation 0 0 0
unfolding computed
normal-slowest = record { of-mode = of-normal; looks = record { guard = refl; port = refl }; no-slower = go }
  where
    go : (j : ℕ) → SwitchOf insulation 0 j → LooksAt insulation j 0 → waiting insulation j ≤ waiting insulation 0
    go zero s w = omega arith
    go (suc zero) s w = omega arith
    go (suc (suc zero)) s w = absurd (omega (arith, s.of-mode))
    go (suc (suc (suc zero))) s w = absurd (omega (arith, s.of-mode))
    go (suc (suc (suc (suc j)))) s w = absurd (omega (arith, s.in_table))

alarm-slowest : Slowest insulation 1 0 3
unfolding computed
alarm-slowest = record { of-mode = of-alarm; looks = record { guard = refl; port = refl }; no-slower = go }
  where
    go : (j : ℕ) → SwitchOf insulation 1 j → LooksAt insulation j 0 → waiting insulation j ≤ waiting insulation 3
    go zero s w = absurd (omega (arith, s.of-mode))
    go (suc zero) s w = absurd (omega (arith, s.of-mode))
    go (suc (suc zero)) s w = omega arith
    go (suc (suc (suc zero))) s w = omega arith
    go (suc (suc (suc (suc j)))) s w = absurd (omega (arith, s.in_table))

-- some switch is the slowest: the theorem's own
pub slowest-there : (s : ℕ) × Slowest insulation 1 0 s
unfolding computed
slowest-there = slowest-some insulation 1 0 3 of-alarm (record { guard = refl; port = refl })

-- Whatever the tasks compute, the readings and the execution times: a resistance that stays missing leads out of the normal mode within
-- twenty ticks, and out of a round of the alarm mode within ten
module _ (F : Function) (lents : ℕ → Lent) (suited : (k : ℕ) → SuitedAt insulation-system F lents k) (n : ℕ)
    (e : InstantAt insulation F (readings insulation-system F lents) n) where
  led-out : (m s : ℕ) → current_after insulation F (readings insulation-system F lents) n ≡ m → Slowest insulation m 0 s
      → (b : ℕ) → waiting insulation s ≡ b → MissingAfter insulation F (readings insulation-system F lents) 0 n b
      → (i : ℕ) × ForMissing insulation i 0 × LeavesWithin insulation-system F lents n b i
  led-out m s o w b q missing =
      subst (λ (b : ℕ). (i : ℕ) × ForMissing insulation i 0 × LeavesWithin insulation-system F lents n b i) q
      (missing-leads-out insulation-system insulation-accepted F lents n 0 s (λ k l. suited k) e resistance
      (subst (λ (m : ℕ). Slowest insulation m 0 s) (sym o) w)
      (subst (MissingAfter insulation F (readings insulation-system F lents) 0 n) (sym q) missing))

  pub normal-led-out : current_after insulation F (readings insulation-system F lents) n ≡ 0
      → MissingAfter insulation F (readings insulation-system F lents) 0 n 20
      → (i : ℕ) × ForMissing insulation i 0 × LeavesWithin insulation-system F lents n 20 i
  normal-led-out o missing = led-out 0 0 o normal-slowest 20 normal-wait missing

  pub alarm-led-out : current_after insulation F (readings insulation-system F lents) n ≡ 1
      → MissingAfter insulation F (readings insulation-system F lents) 0 n 10
      → (i : ℕ) × ForMissing insulation i 0 × LeavesWithin insulation-system F lents n 10 i
  alarm-led-out o missing = led-out 1 3 o alarm-slowest 10 alarm-wait missing

-- in numbers: lost after tick 0, it leads out of the normal mode by tick 20; from tick 1 on, the first at which it is missing, before
-- tick 21
pub lost-leads-out : (i : ℕ) × ForMissing insulation i 0 × LeavesWithin insulation-system mix lent-1 0 20 i
lost-leads-out = normal-led-out mix lent-1 suited-1 0 watched.instant at-start (λ k l h e. lost-there 1 k (omega (arith, l)))

pub lost-since : (i : ℕ) × ForMissing insulation i 0 × ((k : ℕ) × ((1 ≤ k) × (k < 21)) × TakesSwitch insulation-system mix lent-1 k i)
lost-since =
    let (i, w, (k, (x, y), t)) =
    missing-since insulation-system insulation-accepted mix lent-1 1 0 0 (omega arith) (λ k l. suited-1 k) resistance
    (subst (λ (m : ℕ). Slowest insulation m 0 0) (sym at-start) normal-slowest) (λ k l h e. lost-there 1 k l) in
    (i, w, (k, (x, omega (arith, y, normal-wait)), t))
