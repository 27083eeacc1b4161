-- One tick of two runs of one block, as the jobs that are asked about (`Own`) go: the shorter run is at least as far, owes at most as
-- much, and runs only when the longer does. Assumes that every dispatch of the block is of such a job, and of both runs that the rows
-- passed so far are passed at this tick too: position ≤ passed block elapsed left.
use Prim.Native.Nat.{ℕ, zero, suc, ◌+◌, ◌-◌, ◌≤◌, zero-le, suc-le-suc}
use mathlib.Core.Path.{◌≡◌, refl, sym, ap, subst, ◌∙◌}
use mathlib.Core.Bool.{Bool, true, false, ◌||◌}
use mathlib.Core.List.{List, [], ◌∷◌}
use native.Mathlib.Omega.{arith}
use native.Mathlib.Decide.{ℕ_discrete}
use lib.ListN.{length, set, drop}
use lib.Seq.{get_or-set_other, drop-drop}
use borrow.Author.Tests.{leb-true, leb-false, le-leb}
use Rattle.theory.proofs.Bools.{clash, neither}
use Rattle.runs.specs.Tick.{Kind, dispatch, idle, Row, left_of, nothing_to_do, reached, skipped, passed, Act, rest, work, does, act}
use Rattle.runs.specs.Tick.{runs, left_after, Place, moved, doing, runs_in, tick}
use Rattle.runs.specs.Dominated.{Settled, OwnRows, AtMost, Dominated}

-- where one of two tests passes, so does one of two tests that follow from them
or-more : (a b c d : Bool) → (a ≡ true → c ≡ true) → (b ≡ true → d ≡ true) → (a || b) ≡ true → (c || d) ≡ true
or-more true b c d f g h = rw (f refl)
or-more false b true d f g h = refl
or-more false b false d f g h = g h

-- the second of two tests passes, where with another in its place neither does
or_right : (a b c : Bool) → (a || b) ≡ true → (a || c) ≡ false → b ≡ true
or_right true b c h n = clash {b = true} refl n
or_right false b c h n = h

-- a row that is done with some time left is done with less
done_more : (k : Kind) (m n : ℕ) → (k ≡ dispatch → n ≤ m) → nothing_to_do k m ≡ true → nothing_to_do k n ≡ true
done_more dispatch m n h t = le-leb n 0 (omega (arith, h refl, leb-true m 0 t))
done_more idle m n h t = t

-- no more rows are passed than there are
pub passed-few : (block : List Row) (e : ℕ) (r : List ℕ) → passed block e r ≤ length block
passed-few [] e r = zero-le
passed-few (x ∷ xs) e r = go (skipped e r x) (passed-few xs e r)
  where
    go : (b : Bool) → passed xs e r ≤ length xs → elim b [ true ↦ suc (passed xs e r) | false ↦ 0 ] ≤ suc (length xs)
    go true i = suc-le-suc i
    go false i = zero-le

-- the position counted on from an earlier one is the position counted from the block's start
settled : (p : ℕ) (block : List Row) (e : ℕ) (r : List ℕ) → p ≤ passed block e r → p + passed (drop p block) e r ≡ passed block e r
settled zero block e r h = omega arith
settled (suc p) [] e r h = omega arith
settled (suc p) (x ∷ xs) e r h = go (skipped e r x) (settled p xs e r) h
  where
    go : (b : Bool) → (p ≤ passed xs e r → p + passed (drop p xs) e r ≡ passed xs e r)
        → suc p ≤ elim b [ true ↦ suc (passed xs e r) | false ↦ 0 ]
        → suc p + passed (drop p xs) e r ≡ elim b [ true ↦ suc (passed xs e r) | false ↦ 0 ]
    go true i h = omega (arith, i (omega arith))
    go false i h = omega arith

-- where the rows passed so far are passed at this tick too, the position after the tick's start is a function of elapsed and remaining
-- times alone
pub moved-settled : (block : List Row) (e : ℕ) (s : Place) → Settled block e s → moved block e s ≡ passed block e s.left
moved-settled block e s h = settled s.position block e s.left h

-- a job that runs has a tick less left
pub one_less : (r : List ℕ) (j : ℕ) → left_of (set r j (left_of r j - 1)) j ≡ left_of r j - 1
one_less [] j = refl
one_less (n ∷ r) zero = refl
one_less (n ∷ r) (suc j) = one_less r j

-- a tick adds to no remaining time
pub after_less : (a : Act) (r : List ℕ) (j : ℕ) → left_of (left_after a r) j ≤ left_of r j
after_less rest r j = omega arith
after_less (work t) r j = go (ℕ_discrete j t)
  where
    go : Dec (j ≡ t) → left_of (set r t (left_of r t - 1)) j ≤ left_of r j
    go (yes q) = rw q (omega (arith, one_less r t))
    go (no q) = rw (get_or-set_other r t j (left_of r t - 1) 0 q) (omega arith)

-- who does not run leaves the remaining times as they are
pub rests : (a : Act) (left : List ℕ) → runs a ≡ false → left ≡ left_after a left
rests rest left e = refl
rests (work t) left e = clash {b = true} refl e

-- a row that runs a job is a dispatch of it
does-run : (k : Kind) (j t : ℕ) → does k j ≡ work t → (k ≡ dispatch) × (j ≡ t)
does-run dispatch j t h = (refl, cc h)
does-run idle j t h = absurd (let z : ◌≡◌ {A = ℕ} 0 1 = cc h in omega arith)

-- the row at which a block is held runs a job that has time left
busy : (block : List Row) (e : ℕ) (r : List ℕ) (t : ℕ) → act (drop (passed block e r) block) ≡ work t → 1 ≤ left_of r t
busy [] e r t h = absurd (let z : ◌≡◌ {A = ℕ} 0 1 = cc h in omega arith)
busy (x ∷ xs) e r t h = go (skipped e r x) refl (busy xs e r t) h
  where
    go : (b : Bool) → skipped e r x ≡ b → (act (drop (passed xs e r) xs) ≡ work t → 1 ≤ left_of r t)
        → act (drop (elim b [ true ↦ suc (passed xs e r) | false ↦ 0 ]) (x ∷ xs)) ≡ work t → 1 ≤ left_of r t
    go true p i h = i h
    go false p i h =
        let w = does-run x.kind x.job t h in
        let n = (neither (reached x.timeout e) (nothing_to_do x.kind (left_of r x.job)) p).1 in
        let m : nothing_to_do dispatch (left_of r t) ≡ false = sym (λ i. nothing_to_do (w.0 i) (left_of r (w.1 i))) ∙ n in
        omega (arith, leb-false (left_of r t) 0 m)

-- a job runs only while it has time left
pub tick-busy : (block : List Row) (e : ℕ) (s : Place) (t : ℕ) → doing block e s ≡ work t → 1 ≤ left_of s.left t
tick-busy block e s t h =
    busy (drop s.position block) e s.left t
    (ap act (drop-drop (passed (drop s.position block) e s.left) s.position block) ∙ h)

-- a timeout that is reached is reached later too
reached-later : (timeout e f : ℕ) → e ≤ f → reached timeout e ≡ true → reached timeout f ≡ true
reached-later timeout e f l h = le-leb timeout f (omega (arith, leb-true timeout e h))

-- `Own` says which jobs are asked about
module _ (Own : ℕ → Type 0) where
  -- a row that is skipped is skipped later too, and by a run that owes less
  skipped-more : (e f : ℕ) (q r : List ℕ) → e ≤ f → AtMost Own r q → (x : Row) → (x.kind ≡ dispatch → Own x.job)
      → skipped e q x ≡ true → skipped f r x ≡ true
  skipped-more e f q r l b x o =
      or-more (reached x.timeout e) (nothing_to_do x.kind (left_of q x.job)) (reached x.timeout f) (nothing_to_do x.kind (left_of r x.job))
      (reached-later x.timeout e f l)
      (done_more x.kind (left_of q x.job) (left_of r x.job) (λ k. b x.job (o k)))

  -- at least as many rows are passed later, and by a run that owes less
  pub passed-more : (block : List Row) (e f : ℕ) (q r : List ℕ) → OwnRows Own block → e ≤ f → AtMost Own r q → passed block e q ≤ passed block f r
  passed-more [] e f q r o l b = zero-le
  passed-more (x ∷ xs) e f q r o l b =
      go (skipped e q x) (skipped f r x) (skipped-more e f q r l b x o.0) (passed-more xs e f q r o.1 l b)
    where
      go : (a b : Bool) → (a ≡ true → b ≡ true) → passed xs e q ≤ passed xs f r
          → elim a [ true ↦ suc (passed xs e q) | false ↦ 0 ] ≤ elim b [ true ↦ suc (passed xs f r) | false ↦ 0 ]
      go true true f i = suc-le-suc i
      go true false f i = clash {b = false} (f refl) refl
      go false b f i = zero-le

  -- what a row of the block runs is a job that is asked about
  own-act : (n : ℕ) (block : List Row) (t : ℕ) → OwnRows Own block → act (drop n block) ≡ work t → Own t
  own-act zero [] t o h = absurd (let z : ◌≡◌ {A = ℕ} 0 1 = cc h in omega arith)
  own-act (suc n) [] t o h = absurd (let z : ◌≡◌ {A = ℕ} 0 1 = cc h in omega arith)
  own-act zero (x ∷ xs) t o h = let w = does-run x.kind x.job t h in subst Own w.1 (o.0 w.0)
  own-act (suc n) (x ∷ xs) t o h = own-act n xs t o.1 h

  -- what runs in a tick is a job that is asked about
  pub tick-job : (block : List Row) (e : ℕ) (s : Place) (t : ℕ) → OwnRows Own block → doing block e s ≡ work t → Own t
  tick-job block e s t o h = own-act (moved block e s) block t o h

  -- what acts a and b of one tick hand on, where a is of the shorter run: if a runs, so does b, and a leaves at most as much to run
  record Fit (a b : Act) (r q : List ℕ) : Type 0 where
    runs-too : runs a ≡ true → runs b ≡ true
    owes : AtMost Own (left_after a r) (left_after b q)

  -- acts of two runs that stand at one row fit
  fit_same : (k : Kind) (t : ℕ) (r q : List ℕ) → AtMost Own r q → Fit (does k t) (does k t) r q
  fit_same dispatch t r q b = record { runs-too = λ h. h; owes = λ j o. go j o (ℕ_discrete j t) }
    where
      go : (j : ℕ) → Own j → Dec (j ≡ t) → left_of (set r t (left_of r t - 1)) j ≤ left_of (set q t (left_of q t - 1)) j
      go j o (yes e) = rw e (omega (arith, one_less r t, one_less q t, b t (subst Own e o)))
      go j o (no e) = rw (get_or-set_other r t j (left_of r t - 1) 0 e, get_or-set_other q t j (left_of q t - 1) 0 e) (b j o)
  fit_same idle t r q b = record { runs-too = λ h. h; owes = b }

  -- acts of two runs fit where the longer is held at a row that the shorter has passed
  fit-ahead : (k : Kind) (t : ℕ) (r q : List ℕ) (a : Act) → AtMost Own r q → nothing_to_do k (left_of r t) ≡ true → Fit a (does k t) r q
  fit-ahead dispatch t r q a b h = record { runs-too = λ _. refl; owes = λ j o. go j o (ℕ_discrete j t) }
    where
      go : (j : ℕ) → Own j → Dec (j ≡ t) → left_of (left_after a r) j ≤ left_of (set q t (left_of q t - 1)) j
      go j o (yes e) = rw e (omega (arith, after_less a r t, leb-true (left_of r t) 0 h))
      go j o (no e) = rw (get_or-set_other q t j (left_of q t - 1) 0 e) (omega (arith, after_less a r j, b j o))
  fit-ahead idle t r q a b h = clash {b = false} h refl

  -- the acts of one tick fit, with both positions counted from the block's start
  fit : (block : List Row) (e : ℕ) (r q : List ℕ) → OwnRows Own block → AtMost Own r q
      → Fit (act (drop (passed block e r) block)) (act (drop (passed block e q) block)) r q
  fit [] e r q o b = record { runs-too = λ h. h; owes = b }
  fit (x ∷ xs) e r q o b = go (skipped e r x) refl (skipped e q x) refl (fit xs e r q o.1 b)
    where
      go : (m : Bool) → skipped e r x ≡ m → (n : Bool) → skipped e q x ≡ n
          → Fit (act (drop (passed xs e r) xs)) (act (drop (passed xs e q) xs)) r q
          → Fit (act (drop (elim m [ true ↦ suc (passed xs e r) | false ↦ 0 ]) (x ∷ xs)))
          (act (drop (elim n [ true ↦ suc (passed xs e q) | false ↦ 0 ]) (x ∷ xs))) r q
      go true p true n i = i
      go true p false n i =
          fit-ahead x.kind x.job r q _ b
          (or_right (reached x.timeout e) (nothing_to_do x.kind (left_of r x.job)) (nothing_to_do x.kind (left_of q x.job)) p n)
      go false p true n i = clash (skipped-more e e q r (omega arith) b x o.0 n) p
      go false p false n i = fit_same x.kind x.job r q b

  -- the acts of one tick of a place and of the place that dominates it fit
  tick-fit : (block : List Row) (e : ℕ) (s d : Place) → OwnRows Own block → Dominated Own block e s d
      → Fit (doing block e s) (doing block e d) s.left d.left
  tick-fit block e s d o h =
      rw (moved-settled block e s h.settled-s, moved-settled block e d h.settled-d) (fit block e s.left d.left o h.owes)

  -- whenever the dominated place runs, the other runs too
  pub tick-runs : (block : List Row) (e : ℕ) (s d : Place) → OwnRows Own block → Dominated Own block e s d
      → runs_in block e s ≡ true → runs_in block e d ≡ true
  tick-runs block e s d o h = (tick-fit block e s d o h).runs-too

  -- the rows passed at a tick are passed at the next, by what owes at most as much
  still-passed : (block : List Row) (e : ℕ) (s : Place) (r : List ℕ) → OwnRows Own block → Settled block e s → AtMost Own r s.left
      → moved block e s ≤ passed block (suc e) r
  still-passed block e s r o h b = omega (arith, moved-settled block e s h, passed-more block e (suc e) s.left r o (omega arith) b)

  -- a tick keeps a place dominated, where after it at most as much is owed as it leaves
  pub tick-among : (block : List Row) (e : ℕ) (s d : Place) (r : List ℕ) → OwnRows Own block → Dominated Own block e s d
      → AtMost Own r (left_after (doing block e s) s.left) → Dominated Own block (suc e) (record { position = moved block e s; left = r }) (tick block e d)
  tick-among block e s d r o h b = record {
    further = omega (
      arith,
      moved-settled block e s h.settled-s,
      moved-settled block e d h.settled-d,
      passed-more block e e d.left s.left o (omega arith) h.owes,
    );
    owes = λ j w. omega (arith, b j w, (tick-fit block e s d o h).owes j w);
    settled-s = still-passed block e s r o h.settled-s (λ j w. omega (arith, b j w, after_less (doing block e s) s.left j));
    settled-d = still-passed block e d (left_after (doing block e d) d.left) o h.settled-d (λ j w. after_less (doing block e d) d.left j);
  }

  -- a tick keeps a place dominated
  pub tick-dominated : (block : List Row) (e : ℕ) (s d : Place) → OwnRows Own block → Dominated Own block e s d
      → Dominated Own block (suc e) (tick block e s) (tick block e d)
  tick-dominated block e s d o h = tick-among block e s d (left_after (doing block e s) s.left) o h (λ j w. omega arith)
