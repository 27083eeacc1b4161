-- Number 24 is exact: its test bars its claim. Where rules 2 and 8 hold, the claim is that a missing reading satisfies the guard of exactly
-- one switch of every mode that looks at its sensor, no more and no less.
use Prim.Native.Nat.{ℕ, ◌<◌}
use mathlib.Core.Path.{◌≡◌, refl, sym, ap, subst, ◌∙◌}
use mathlib.Core.Bool.{Bool, true, false}
use mathlib.Core.Logic.{⊎_elim}
use native.Mathlib.Omega.{arith}
use lib.Dec.{eqb}
use lib.IntN.{ℤ}
use borrow.Author.Tests.{eqb-true, eqb-false, ne_eqb, not-false}
use Rattle.theory.specs.Claim.{Says, Bars}
use Rattle.theory.proofs.Bools.{clash, neither, is_true, is_false, bars-and, bars-not, bars-as, says-as, says_eq, ◌and◌}
use Rattle.theory.proofs.Order.{le_refl}
use Rattle.theory.proofs.Search.{any-says, bars-any}
use Rattle.readings.specs.Reading.{no_reading, Inside}
use Rattle.readings.proofs.Readings.{inside-says, missing-says, missing-only-its-own}
use Rattle.program.specs.Tables.{Tables, driver_count, guard_kind, guard_port, guard_low, guard_high, kind_always, kind_interval}
use Rattle.program.specs.Tables.{switch_count, switch_mode, switch_driver}
use Rattle.program.specs.Guard.{guard_of, holds, meet}
use Rattle.program.specs.Sets.{Sensor}
use Rattle.program.proofs.Sets.{kind-says}
use Rattle.program.proofs.Guards.{meet-says, holds-interval, always-meets, intervals-meet}
use Rattle.rules.specs.Fields.{Fields}
use Rattle.rules.specs.Modes.{Switches}
use Rattle.rules.specs.Missing.{for_missing, gap_at, gap_bad, SwitchOf, LooksAt, ForMissing, NoGap, Satisfies, OneSwitch, MissingMet}
use Rattle.rules.proofs.Modes.{switch-sound, switch-once}

module _ (T : Tables) where
  -- the test of a switch for a missing reading says that it is one of the mode for that reading alone
  for-missing-says : (m p j : ℕ) → Says (for_missing T m p j) ((switch_mode T j ≡ m) × ForMissing T j p)
  unfolding for_missing
  for-missing-says m p j =
      let d = switch_driver T j in
      says-as
      (says_eq (switch_mode T j) m
      and (says_eq (guard_kind T d) kind_interval and says_eq (guard_port T d) p)
      and (missing-says (guard_low T d) and missing-says (guard_high T d)))
      (λ ((e, (k, q)), (l, h)). (e, record { looks = record { guard = k; port = q }; low = l; high = h }))
      (λ (e, w). ((e, (w.looks.guard, w.looks.port)), (w.low, w.high)))

  -- the test of a switch row bars that it leaves a gap
  gap-at-bars : (i : ℕ)
      → Bars (gap_at T i)
      ((guard_kind T (switch_driver T i) ≡ kind_interval) × Sensor T (guard_port T (switch_driver T i))
      → (j : ℕ) × (j < switch_count T) × ((switch_mode T j ≡ switch_mode T i) × ForMissing T j (guard_port T (switch_driver T i))))
  unfolding gap_at
  gap-at-bars i =
      let d = switch_driver T i in
      bars-and (says_eq (guard_kind T d) kind_interval and kind-says T _ (guard_port T d))
      (bars-not (any-says _ _ (for-missing-says (switch_mode T i) (guard_port T d)) (switch_count T)))

  -- number 24 bars rule 24
  pub gap-bars : Bars (gap_bad T) (NoGap T)
  unfolding gap_bad
  gap-bars =
      bars-as (bars-any _ _ gap-at-bars (switch_count T))
      (λ g m p i s w k.
      let (j, l, (e, q)) = g i w.in_table (k.guard, subst (Sensor T) (sym k.port) s) in
      (j, record { in_table = l; of-mode = e ∙ w.of-mode }, subst (ForMissing T j) k.port q))
      (λ g i l (k, s).
      let (j, w, q) = g (switch_mode T i) _ i s (record { in_table = l; of-mode = refl }) (record { guard = k; port = refl }) in
      (j, w.in_table, (w.of-mode, q)))

  -- an interval guard is not always
  not-always : (d : ℕ) → guard_kind T d ≡ kind_interval → eqb (guard_kind T d) kind_always ≡ false
  not-always d e = ne_eqb (guard_kind T d) kind_always (λ o. omega (arith, o, e))

  -- an interval guard holds for a value inside
  pub holds-inside : (d : ℕ) (v : ℕ → ℤ) → guard_kind T d ≡ kind_interval → Inside (guard_low T d) (v (guard_port T d)) (guard_high T d)
      → holds (guard_of T d) v ≡ true
  holds-inside d v k w =
      holds-interval T d v (not-always d k) ∙ is_true (inside-says (guard_low T d) (v (guard_port T d)) (guard_high T d)) w

  -- a missing reading is inside where the guard is for it alone
  pub missing-inside : (j p : ℕ) → ForMissing T j p → (v : ℕ → ℤ) → v p ≡ no_reading
      → Inside (guard_low T (switch_driver T j)) (v (guard_port T (switch_driver T j))) (guard_high T (switch_driver T j))
  missing-inside j p w v e = rw (w.low, ap v w.looks.port ∙ e, w.high) (le_refl no_reading, le_refl no_reading)

  -- so a guard of the no-reading value alone holds for a missing reading
  pub holds-missing : (j p : ℕ) → ForMissing T j p → Satisfies T p j
  holds-missing j p w v e = holds-inside (switch_driver T j) v w.looks.guard (missing-inside j p w v e)

  module _ (f : Fields T) where
    -- rule 2: an interval with the no-reading value in it has that value alone
    pub missing-alone : (d : ℕ) → d < driver_count T → guard_kind T d ≡ kind_interval → Inside (guard_low T d) no_reading (guard_high T d)
        → (guard_low T d ≡ no_reading) × (guard_high T d ≡ no_reading)
    missing-alone d l k w =
        ⊎_elim (λ o. absurd (omega (arith, o.kind)))
        (λ i. let e = missing-only-its-own (guard_low T d) (guard_high T d) i.low.0 w in (e, i.missing e)) (f.drivers d l)

  module _ (f : Fields T) (s : Switches T) where
    -- the guards of two switches of one mode do not meet
    unmet : (m i j : ℕ) → SwitchOf T m i → SwitchOf T m j → (i ≡ j → ⊥) → meet (guard_of T (switch_driver T i)) (guard_of T (switch_driver T j)) ≡ false
    unmet m i j h l n =
        is_false
        (meet-says (guard_of T (switch_driver T i)) (guard_of T (switch_driver T j)) (switch-sound T f i h.in_table) (switch-sound T f j l.in_table))
        (λ w. n (switch-once T f s w.valuation i j h.in_table l.in_table (h.of-mode ∙ sym l.of-mode) w.one_holds w.other-holds))

    -- where a switch of a mode looks at a port, every switch of the mode does
    all-look : (m p i r : ℕ) → SwitchOf T m i → LooksAt T i p → SwitchOf T m r → LooksAt T r p
    all-look m p i r h k l = same (eqb r i) refl
      where
        apart : (r ≡ i → ⊥) → (b : Bool) → eqb (guard_kind T (switch_driver T r)) kind_always ≡ b → LooksAt T r p
        apart n true e = clash (always-meets T (switch_driver T r) (switch_driver T i) e) (unmet m r i l h n)
        apart n false e =
            let q = intervals-meet T (switch_driver T r) (switch_driver T i) e (not-always (switch_driver T i) k.guard) in
            let u = neither _ _ (sym q ∙ unmet m r i l h n) in
            record {
              guard = ⊎_elim (λ o. absurd (eqb-false _ _ e o.kind)) (λ o. o.kind) (f.drivers (switch_driver T r) (f.switches r l.in_table).driver);
              port = eqb-true _ _ (not-false _ u.0) ∙ k.port;
            }

        same : (b : Bool) → eqb r i ≡ b → LooksAt T r p
        same true e = subst (λ (j : ℕ). LooksAt T j p) (sym (eqb-true r i e)) k
        same false e = apart (eqb-false r i e) (eqb (guard_kind T (switch_driver T r)) kind_always) refl

    -- rule 24: a missing reading satisfies the guard of exactly one switch of every mode that looks at its sensor
    pub gap-met : NoGap T → MissingMet T
    gap-met g m p i h w k =
        let (j, o, q) = g m p i h w k in
        record {
          row = j;
          of-mode = o;
          satisfied = holds-missing j p q;
          only = λ v e r u a.
              switch-once T f s v r j u.in_table o.in_table (u.of-mode ∙ sym o.of-mode) a (holds-missing j p q v e);
        }

    -- where a missing reading satisfies the guard of one switch of every mode that looks at its sensor, rule 24 holds
    pub met-gap : MissingMet T → NoGap T
    met-gap g m p i h w k =
        let o : OneSwitch T m p = g m p i h w k in
        let d = switch_driver T o.row in
        let a = all-look m p i o.row w k o.of-mode in
        let holding = sym (holds-interval T d (λ q. no_reading) (not-always d a.guard)) ∙ o.satisfied (λ q. no_reading) refl in
        let within = (inside-says (guard_low T d) no_reading (guard_high T d)).yes holding in
        let alone = missing-alone f d (f.switches o.row o.of-mode.in_table).driver a.guard within in
        (o.row, o.of-mode, record { looks = a; low = alone.0; high = alone.1 })
