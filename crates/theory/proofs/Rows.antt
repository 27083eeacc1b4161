-- The tests of rows and what a rule asks of them: where each test bars what is asked of its row, some row is bad exactly where not every
-- row fits, and the place that is given is that of the lowest row that breaks the rule, and of no other.
-- Assumes that tests and rule speak of the same tables, in ascending order (`RowsJoined`).
use Prim.Native.Nat.{ℕ, zero, suc, ◌≤◌, ◌<◌}
use mathlib.Core.Path.{◌≡◌, refl, sym, ap, subst, ◌∙◌}
use mathlib.Core.Bool.{Bool, true, false, ◌||◌, cond}
use mathlib.Core.List.{List, [], ◌∷◌}
use mathlib.Core.Logic.{inl, inr, ◌↔◌, ⊎_elim}
use native.Mathlib.Nat.{le_of_suc-le-suc, eq-or-lt_of_le}
use native.Mathlib.Omega.{arith}
use Rattle.theory.specs.Search.{any, first}
use Rattle.theory.specs.Claim.{Bars}
use Rattle.theory.specs.declared.Answer.{Answer}
use Rattle.theory.specs.Rows.{RowTests, testing, RowRules, asking, at_row, some_bad, lowest_bad, Every, Breaks, LowestRow}
use Rattle.theory.proofs.Bools.{clash, neither, ◌or◌}
use Rattle.theory.proofs.Conditions.{cond_same, cond_of}
use Rattle.theory.proofs.Search.{Lowest, lowest, first-lowest}

-- all tables of a rule come behind this one
abbrev pub TablesBehind : ℕ → List RowRules → Type 0
TablesBehind t [] = Unit {0}
TablesBehind t (g ∷ gs) = (t < g.table) × TablesBehind t gs

-- the test of each of n rows bars what is asked of it, where the rows before it fit
abbrev pub Exact : (ℕ → Bool) → (ℕ → Type 0) → ℕ → Type 0
Exact bad fits n = (r : ℕ) → r < n → ((k : ℕ) → k < r → fits k) → Bars (bad r) (fits r)

-- tests and a rule of the same rows: the same tables in ascending order, as many rows in each, and the test of a row bars what is asked
-- of it where the rows before it in its table fit
abbrev pub RowsJoined : List RowTests → List RowRules → Type 0
RowsJoined [] [] = Unit {0}
RowsJoined [] (g ∷ gs) = ⊥
RowsJoined (t ∷ ts) [] = ⊥
RowsJoined (t ∷ ts) (g ∷ gs) =
    (t.table ≡ g.table) × (t.count ≡ g.count) × Exact t.bad g.fits g.count × TablesBehind g.table gs × RowsJoined ts gs

-- tests and a rule of the rows of one table
pub one_table : {n : ℕ} {bad : ℕ → Bool} {fits : ℕ → Type 0} (t : ℕ) → Exact bad fits n
    → RowsJoined (testing t n bad ∷ []) (asking t n fits ∷ [])
one_table t s = (refl, refl, s, tt, tt)

-- where none of the first m rows is bad, each of them fits
all_fit : {bad : ℕ → Bool} {fits : ℕ → Type 0} {n : ℕ} → Exact bad fits n → (m : ℕ) → m ≤ n → any bad m ≡ false → (r : ℕ) → r < m → fits r
unfolding any
all_fit s zero l e r h = absurd (omega arith)
all_fit {bad} {fits} {n} s (suc m) l e r h =
    let (few, last) = neither (any bad m) (bad m) e in
    let before : (k : ℕ) → k < m → fits k = all_fit s m (omega arith) few in
    ⊎_elim (λ q. subst fits (sym q) ((s m (omega arith) before).ok last)) (λ q. before r q) (eq-or-lt_of_le (le_of_suc-le-suc h))

-- the lowest row that is bad does not fit
low-breaks : {bad : ℕ → Bool} {fits : ℕ → Type 0} {n i : ℕ} → Exact bad fits n → Lowest bad n i → fits i → ⊥
low-breaks {i} s w = (s i w.below (all_fit s i (omega (arith, w.below)) w.clear)).bad w.has

-- that some row of a table is bad bars that every row of it fits
table-bars : {bad : ℕ → Bool} {fits : ℕ → Type 0} {n : ℕ} → Exact bad fits n → Bars (any bad n) ((r : ℕ) → r < n → fits r)
table-bars {bad} {n} s =
    record {
      ok = λ e. all_fit s n (omega arith) e;
      bad = λ e every. let (i, w) = lowest bad n e in low-breaks s w (every i w.below);
    }

-- that some row is bad bars that every row fits
pub rows-bar : (ts : List RowTests) (gs : List RowRules) → RowsJoined ts gs → Bars (some_bad ts) (Every gs)
rows-bar [] [] w = record { ok = λ e. tt; bad = λ e. clash {b = false} e refl }
rows-bar [] (g ∷ gs) w = absurd w
rows-bar (t ∷ ts) [] w = absurd w
rows-bar (t ∷ ts) (g ∷ gs) w =
    subst (λ (n : ℕ). Bars (any t.bad n) ((r : ℕ) → r < g.count → g.fits r)) (sym w.1) (table-bars w.2) or rows-bar ts gs w.4

-- a row that breaks a rule whose tables all come behind a table is of a later one
later : (t u k : ℕ) (gs : List RowRules) → TablesBehind t gs → Breaks gs u k → t < u
later t u k [] w b = absurd b
later t u k (g ∷ gs) w (inl b) = omega (arith, w.0, b.0)
later t u k (g ∷ gs) w (inr b) = later t u k gs w.1 b

-- a row breaks the rule only where not every row fits
broken : (gs : List RowRules) (t r : ℕ) → Every gs → Breaks gs t r → ⊥
broken [] t r w b = b
broken (g ∷ gs) t r w (inl b) = b.2 (w.0 r b.1)
broken (g ∷ gs) t r w (inr b) = broken gs t r w.1 b

-- any two lowest rows that break a rule are one
pub lowest-one : (gs : List RowRules) (t r u k : ℕ) → LowestRow gs t r → LowestRow gs u k → (t ≡ u) × (r ≡ k)
lowest-one gs t r u k x y =
    let up : t < u → ⊥ = λ l. y.no-earlier-table t r l x.breaks in
    let down : u < t → ⊥ = λ l. x.no-earlier-table u k l y.breaks in
    let same : t ≡ u = omega (arith, up, down) in
    let low : r < k → ⊥ = λ l. y.no-lower-row r l (subst (λ (v : ℕ). Breaks gs v r) same x.breaks) in
    let high : k < r → ⊥ = λ l. x.no-lower-row k l (subst (λ (v : ℕ). Breaks gs v k) (sym same) y.breaks) in
    (same, omega (arith, low, high))

-- an answer that is placed by rows has its number
pub placed-number : (n : ℕ) (ts : List RowTests) → (lowest_bad n ts).number ≡ n
placed-number n [] = refl
placed-number n (t ∷ ts) =
    let some = any t.bad t.count in
    cond_of (λ (x : Answer). x.number) some _ (lowest_bad n ts) ∙ ap (cond some n) (placed-number n ts) ∙ cond_same some n

-- the answer that is placed by rows of which some is bad stands at the lowest row that breaks the rule
pub placed-lowest : (n : ℕ) (ts : List RowTests) (gs : List RowRules) → RowsJoined ts gs → some_bad ts ≡ true
    → LowestRow gs (lowest_bad n ts).outer (lowest_bad n ts).inner
placed-lowest n [] [] w e = clash {b = false} e refl
placed-lowest n [] (g ∷ gs) w e = absurd w
placed-lowest n (t ∷ ts) [] w e = absurd w
placed-lowest n (t ∷ ts) (g ∷ gs) w e = go (any t.bad t.count) refl e (placed-lowest n ts gs w.4)
  where
    counted : any t.bad t.count ≡ any t.bad g.count
    counted = ap (any t.bad) w.1

    go : (b : Bool) → any t.bad t.count ≡ b → (b || some_bad ts) ≡ true
        → (some_bad ts ≡ true → LowestRow gs (lowest_bad n ts).outer (lowest_bad n ts).inner)
        → let x = cond b (at_row n t.table (first t.bad t.count)) (lowest_bad n ts) in LowestRow (g ∷ gs) x.outer x.inner
    go true q f ih = subst (LowestRow (g ∷ gs) t.table) (sym (ap (first t.bad) w.1 ∙ first-lowest t.bad g.count i low)) here
      where
        found : (i : ℕ) × Lowest t.bad g.count i
        found = lowest t.bad g.count (sym counted ∙ q)

        i : ℕ
        i = found.0

        low : Lowest t.bad g.count i
        low = found.1

        here : LowestRow (g ∷ gs) t.table i
        here =
            record {
              breaks = inl (w.0, low.below, low-breaks w.2 low);
              no-lower-row = λ k l.
                  ⊎_elim (λ b. b.2 (all_fit w.2 i (omega (arith, low.below)) low.clear k l))
                  (λ b. omega (arith, w.0, later g.table t.table k gs w.3 b));
              no-earlier-table = λ u k l.
                  ⊎_elim (λ b. omega (arith, b.0, w.0)) (λ b. omega (arith, w.0, later g.table u k gs w.3 b));
            }
    go false q f ih =
        let low = ih f in
        record {
          breaks = inr low.breaks;
          no-lower-row = λ k l. ⊎_elim (own k) (low.no-lower-row k l);
          no-earlier-table = λ u k l. ⊎_elim (own k) (low.no-earlier-table u k l);
        }
      where
        own : {u : ℕ} (k : ℕ) → (u ≡ g.table) × (k < g.count) × (g.fits k → ⊥) → ⊥
        own k b = b.2 (all_fit w.2 g.count (omega arith) (sym counted ∙ q) k b.1)

-- every row fits exactly where no row breaks the rule
pub every-unbroken : (ts : List RowTests) (gs : List RowRules) → RowsJoined ts gs → Every gs ↔ ((t r : ℕ) → Breaks gs t r → ⊥)
every-unbroken ts gs w = (λ every t r. broken gs t r every, λ none. go (some_bad ts) refl none)
  where
    go : (b : Bool) → some_bad ts ≡ b → ((t r : ℕ) → Breaks gs t r → ⊥) → Every gs
    go true e none = let low = placed-lowest 0 ts gs w e in absurd (none _ _ low.breaks)
    go false e none = (rows-bar ts gs w).ok e
