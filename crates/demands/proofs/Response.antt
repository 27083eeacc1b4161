-- The response time: a switch whose guarded port every later instant finds in its interval is taken at its next turn, in Giotto's execution
-- and by the machine. The statements' premises are that the program, or the system, is accepted, and that the ticks are suited.
use Prim.Native.Nat.{ℕ, zero, suc, ◌+◌, ◌*◌, ◌-◌, ◌/◌, ◌%◌, ◌≤◌, ◌<◌}
use mathlib.Core.Path.{◌≡◌, refl, sym, ap, subst, ◌∙◌}
use native.Mathlib.Nat.{zero-mod, suc-mul, mul-le-mul_right}
use native.Mathlib.Decide.{ℕ_discrete, dec_le}
use native.Mathlib.Omega.{arith}
use Rattle.theory.specs.Verdict.{Keep}
use Rattle.program.specs.Tables.{Tables, mode_count, guard_kind, guard_port, kind_interval, switch_count, switch_mode, switch_frequency}
use Rattle.program.specs.Tables.{switch_driver}
use Rattle.program.specs.Sets.{Sensor}
use Rattle.program.specs.Units.{units}
use Rattle.program.specs.Program.{Mode, mode_row, program_of, mode, ticks_of}
use Rattle.program.specs.Ports.{value_of}
use Rattle.program.proofs.Decoded.{next-around, mode-row}
use Rattle.rules.specs.Missing.{SwitchOf, LooksAt, ForMissing, NoGap}
use Rattle.rules.specs.Verdict.{program_rules}
use Rattle.rules.proofs.Missing.{missing-inside}
use Rattle.rules.proofs.Verdict.{program-accepted}
use Rattle.giotto.specs.Instant.{Configuration, Function}
use Rattle.giotto.proofs.Execution.{execution-keeps}
use Rattle.giotto.proofs.Round.{unit_ticks, BeginsUnit, instant-begins, some-ticks}
use Rattle.machine.specs.Advance.{Lent}
use Rattle.demands.specs.Composed.{System, Accepted, readings, configuration_at}
use Rattle.demands.specs.Kept.{InRound}
use Rattle.demands.specs.Response.{waiting, waiting_from, Watches, FindsAfter, Leaves, LeavesWithin}
use Rattle.demands.specs.Response.{SuitedFor, ResponseTime, ResponseExact, LongestFromStart, WaitingLongest, SlowestSome}
use Rattle.demands.specs.Response.{MissingLeadsOut}
use Rattle.demands.proofs.Sound.{accepted-sound}
use Rattle.demands.proofs.Missing.{due-taken}
use Rattle.demands.proofs.Waiting.{turn-waiting, left, found-holds, Waited, waited}

-- the longest wait is from the start of a round, and is period / frequency
longest-from-start : (T : Tables) → Keep program_rules T → (i : ℕ) → i < switch_count T → LongestFromStart T i
longest-from-start T K i h = record { from_start = from_start; longest = longest; whole = (turn-waiting T K i h).1 }
  where
    m : ℕ
    m = switch_mode T i

    turn : ℕ
    turn = units T m / switch_frequency T i

    from_start : waiting_from T i 0 ≡ waiting T i
    from_start =
        let all : turn - 0 % turn ≡ turn = omega (arith, zero-mod turn) in
        ap (λ (x : ℕ). x * unit_ticks T m) all ∙ (turn-waiting T K i h).0

    longest : (k : ℕ) → waiting_from T i k ≤ waiting T i
    longest k =
        let some_left : turn - k % turn ≤ turn = omega arith in
        omega (arith, mul-le-mul_right (unit_ticks T m) some_left, (turn-waiting T K i h).0)

pub waiting-longest : WaitingLongest
waiting-longest T a m i s = longest-from-start T ((program-accepted T).0 a) i s.in_table

module _ (Y : System) (a : Accepted Y) (F : Function) (lents : ℕ → Lent) where
  abbrev T : Tables
  T = Y.tables

  keep : Keep program_rules T
  keep = (program-accepted T).0 (accepted-sound Y a).accepted

  module _ (n i : ℕ) (w : Watches T F (readings Y F lents) n i) where
    row : i < switch_count T
    row = w.of-mode.in_table

    -- from the unit that tick n begins, the switch is taken at its next turn
    leaves-from : (k : ℕ) → BeginsUnit T F (readings Y F lents) n (switch_mode T i) k → SuitedFor Y F lents n (waiting_from T i k)
        → FindsAfter T F (readings Y F lents) i n (waiting_from T i k)
        → (n < n + waiting_from T i k) × Leaves Y F lents n (n + waiting_from T i k) i
    leaves-from k b f g = go (left T keep i row k)
      where
        wait : ℕ
        wait = waiting_from T i k

        go : (e : ℕ) × (k % (units T (switch_mode T i) / switch_frequency T i) + suc e ≡ units T (switch_mode T i) / switch_frequency T i)
            × (suc e * unit_ticks T (switch_mode T i) ≡ wait)
            → (n < n + wait) × Leaves Y F lents n (n + wait) i
        go (e, o, s) =
            let ticks = unit_ticks T (switch_mode T i) in
            let some : 1 ≤ ticks = some-ticks T keep F (readings Y F lents) n (switch_mode T i) k b in
            let later : n < n + wait = omega (arith, s, suc-mul e ticks, some) in
            let through : Waited T keep i row F (readings Y F lents) w.interval w.sensor n wait =
            subst (Waited T keep i row F (readings Y F lents) w.interval w.sensor n) s
            (waited T keep i row F (readings Y F lents) w.interval w.sensor n k e b o
            (subst (FindsAfter T F (readings Y F lents) i n) (sym s) g)) in (
              later,
              record {
                instant = through.due-then.instant;
                takes =
                    due-taken Y a F lents (n + wait) f i (guard_port T (switch_driver T i)) w.sensor
                    (found-holds T keep i row F (readings Y F lents) w.interval w.sensor (n + wait)
                    (g (n + wait) (omega (arith, later)) (omega arith) through.due-then.instant))
                    through.due-then;
                stays = λ l x y. through.stays l x y ∙ w.of-mode.of-mode;
              },
            )

    -- and so within period / frequency
    leaves-within : SuitedFor Y F lents n (waiting T i) → FindsAfter T F (readings Y F lents) i n (waiting T i)
        → LeavesWithin Y F lents n (waiting T i) i
    leaves-within f g =
        let (k, l, b) = instant-begins T keep F (readings Y F lents) n w.instant in
        let short : waiting_from T i k ≤ waiting T i = (longest-from-start T keep i row).longest k in
        let found =
        leaves-from k (subst (λ (m : ℕ). BeginsUnit T F (readings Y F lents) n m k) (sym w.of-mode.of-mode) b)
        (λ j x. f j (omega (arith, x, short))) (λ j x y. g j x (omega (arith, y, short))) in
        record { tick = n + waiting_from T i k; later = found.0; in-time = omega (arith, short); leaves = found.1 }

  -- a tick that lies at the start of unit k begins it
  pub begins-there : (n k : ℕ) → InRound (program_of T) n (configuration_at Y F lents (suc n)) k 0
      → BeginsUnit T F (readings Y F lents) n (configuration_at Y F lents (suc n)).mode k
  begins-there n k r =
      record {
        declared = declared;
        mode = refl;
        unit = r.next ∙ next-around (mode (program_of T) C.mode) k r.unit ∙ ap (λ (M : Mode). suc k % M.units) here;
        stamp = omega (arith, r.stamp, ap ticks_of here);
      }
    where
      C : Configuration
      C = configuration_at Y F lents (suc n)

      declared : C.mode < mode_count T
      declared = (execution-keeps T keep F (readings Y F lents) (suc n)).mode

      here : mode (program_of T) C.mode ≡ mode_row T C.mode
      here = mode-row T C.mode declared

-- the response time is period / switch frequency
pub response-time : ResponseTime
response-time Y a F lents n i f w g = leaves-within Y a F lents n i w f g

-- and from the start of a unit it is exactly what is left of the turn
pub response-exact : ResponseExact
response-exact Y a F lents n k i f r w g =
    (leaves-from Y a F lents n i w k
    (subst (λ (m : ℕ). BeginsUnit Y.tables F (readings Y F lents) n m k) (sym w.of-mode.of-mode) (begins-there Y a F lents n k r))
    f g).1

-- a sensor that stays missing leads out of every mode that looks at it
pub missing-leads-out : MissingLeadsOut
missing-leads-out Y a F lents n p s f e h w g = go (gap (mode_at n) p s h w.of-mode w.looks)
  where
    T : Tables
    T = Y.tables

    mode_at : ℕ → ℕ
    mode_at n = (configuration_at Y F lents (suc n)).mode

    gap : NoGap T
    gap = ((program-accepted T).0 (accepted-sound Y a).accepted).1.1.1.1.1.1.1.1.1.1.0

    go : (j : ℕ) × SwitchOf T (mode_at n) j × ForMissing T j p → (i : ℕ) × ForMissing T i p × LeavesWithin Y F lents n (waiting T s) i
    go (j, o, q) =
        let short : waiting T j ≤ waiting T s = omega (arith, w.no-slower j o q.looks) in
        let watches : Watches T F (readings Y F lents) n j =
        record { instant = e; of-mode = o; interval = q.looks.guard; sensor = subst (Sensor T) (sym q.looks.port) h } in
        let found : FindsAfter T F (readings Y F lents) j n (waiting T j) =
        λ k x y z. missing-inside T j p q (value_of (lents k).readings) (g k (omega (arith, x)) (omega (arith, y, short)) z) in
        let r = response-time Y a F lents n j (λ k x. f k (omega (arith, x, short))) watches found in
        (j, q, record { tick = r.tick; later = r.later; in-time = omega (arith, r.in-time, short); leaves = r.leaves })

-- the test that a switch row is one of a mode and looks at a port
looks-there : (T : Tables) (m p j : ℕ) → Dec ((switch_mode T j ≡ m) × LooksAt T j p)
looks-there T m p j =
    go (ℕ_discrete (switch_mode T j) m) (ℕ_discrete (guard_kind T (switch_driver T j)) kind_interval)
    (ℕ_discrete (guard_port T (switch_driver T j)) p)
  where
    go : Dec (switch_mode T j ≡ m) → Dec (guard_kind T (switch_driver T j) ≡ kind_interval) → Dec (guard_port T (switch_driver T j) ≡ p)
        → Dec ((switch_mode T j ≡ m) × LooksAt T j p)
    go (no x) y z = no (λ (e, w). x e)
    go (yes x) (no y) z = no (λ (e, w). y w.guard)
    go (yes x) (yes y) (no z) = no (λ (e, w). z w.port)
    go (yes x) (yes y) (yes z) = yes (x, record { guard = y; port = z })

-- among the switches of a mode that look at a port one is the slowest: row by row, the slower of the next and the slowest so far
pub slowest-some : SlowestSome
slowest-some T m p i s k = let (r, w, most) = slowest-below (switch_count T) (omega arith) in (
  r,
  record {
    of-mode = record { in_table = w.0; of-mode = w.1.0 };
    looks = w.1.1;
    no-slower = λ j o q. most j o.in_table (o.of-mode, q);
  },
)
  where
    Looks : ℕ → Type 0
    Looks j = (switch_mode T j ≡ m) × LooksAt T j p

    -- a switch that looks, and is no faster than those below row c that do
    Slow : ℕ → Type 0
    Slow c = (r : ℕ) × ((r < switch_count T) × Looks r) × ((j : ℕ) → j < c → Looks j → waiting T j ≤ waiting T r)

    slower : (c : ℕ) → c < switch_count T → Slow c → Dec (Looks c) → Slow (suc c)
    slower c l (r, w, most) (no o) =
        (r, w, λ j x y. let other : j ≡ c → ⊥ = λ e. o (subst Looks e y) in most j (omega (arith, x, other)) y)
    slower c l (r, w, most) (yes h) = choose (dec_le (waiting T c) (waiting T r))
      where
        one_more : (t : ℕ) → waiting T c ≤ t → waiting T r ≤ t → (j : ℕ) → j < suc c → Looks j → waiting T j ≤ t
        one_more t x y j z q = go (ℕ_discrete j c)
          where
            go : Dec (j ≡ c) → waiting T j ≤ t
            go (yes e) = rw e x
            go (no o) = omega (arith, most j (omega (arith, z, o)) q, y)

        choose : Dec (waiting T c ≤ waiting T r) → Slow (suc c)
        choose (yes x) = (r, w, one_more (waiting T r) x (omega arith))
        choose (no x) = (c, (l, h), one_more (waiting T c) (omega arith) (omega (arith, x)))

    slowest-below : (c : ℕ) → c ≤ switch_count T → Slow c
    slowest-below zero l = (i, (s.in_table, (s.of-mode, k)), λ j x. absurd (omega (arith, x)))
    slowest-below (suc c) l = slower c (omega arith) (slowest-below c (omega arith)) (looks-there T m p c)
