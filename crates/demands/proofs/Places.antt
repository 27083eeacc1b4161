-- A refusal says which row: the answer of the first broken rule with its place (`FirstAt`) names row r of table t exactly where that is the
-- row to name (`NamesRow`). Assumes of a list of rules that no number stands in it twice, and that none is 0.
use Prim.Native.Nat.{ℕ}
use mathlib.Core.Path.{◌≡◌, sym, subst, ◌∙◌}
use mathlib.Core.List.{List, [], ◌∷◌}
use mathlib.Core.Logic.Iff
use mathlib.Core.Logic.{inl, inr, ⊎_elim, ◌↔◌}
use native.Mathlib.Omega.{arith}
use Rattle.theory.specs.Rows.{RowRules, at_row, Breaks, LowestRow, PlacedAt}
use Rattle.theory.specs.Verdict.{accepted_number, Rule, OneOf, First, FirstAt}
use Rattle.theory.proofs.Verdict.{Numbered, first-number}
use Rattle.rules.specs.Verdict.{program_rules}
use Rattle.code.specs.Compile.{compile_rules}
use Rattle.suppliers.specs.Windows.{windows_verdict_rules}
use Rattle.suppliers.specs.Supplier.{part_rules}
use Rattle.machine.specs.Advance.{advance_rules}
use Rattle.demands.specs.Places.{SomeRows, HasRows, RowBreaks, NamesRow, PlacesExact}
use Rattle.demands.proofs.Verdict.{verdict-exact}
use Rattle.demands.proofs.Calls.{compile-exact, windows-exact, fresh-exact, advance-exact}
use Rattle.demands.proofs.Supplier.{supplier-exact}

-- of a rule that asks of rows the lowest row is the place
lowest-placed : (qs : List RowRules) (t r : ℕ) → SomeRows qs → PlacedAt qs t r ↔ LowestRow qs t r
lowest-placed [] t r s = absurd s
lowest-placed (q ∷ qs) t r s = (λ w. w, λ w. w)

module _ {A : Type 0} where
  -- no rule of a list has this number
  abbrev Absent : ℕ → List (Rule A) → Type 0
  Absent n [] = Unit {0}
  Absent n (g ∷ gs) = (n ≡ g.number → ⊥) × Absent n gs

  -- no number stands twice in a list of rules
  abbrev pub Once : List (Rule A) → Type 0
  Once [] = Unit {0}
  Once (g ∷ gs) = Absent g.number gs × Once gs

  -- a number that no rule has has no rows
  no_rows : (gs : List (Rule A)) (a : A) (n : ℕ) → Absent n gs → HasRows gs a n → ⊥
  no_rows [] a n w h = h
  no_rows (g ∷ gs) a n w (inl h) = w.0 h.0
  no_rows (g ∷ gs) a n w (inr h) = no_rows gs a n w.1 h

  -- no row breaks a rule of a number that no rule has
  no-breaks : (gs : List (Rule A)) (a : A) (n t r : ℕ) → Absent n gs → RowBreaks gs a n t r → ⊥
  no-breaks [] a n t r w h = h
  no-breaks (g ∷ gs) a n t r w (inl h) = w.0 h.0
  no-breaks (g ∷ gs) a n t r w (inr h) = no-breaks gs a n t r w.1 h

  -- a number that no rule has is not the first
  no-first : (gs : List (Rule A)) (a : A) (n : ℕ) → Absent n gs → (n ≡ accepted_number → ⊥) → First gs a n → ⊥
  no-first [] a n w z h = z h
  no-first (g ∷ gs) a n w z (inl h) = w.0 h.1
  no-first (g ∷ gs) a n w z (inr h) = no-first gs a n w.1 z h.1

  -- the first broken rule with its place names a row exactly where that is the row to name
  pub names-row : (gs : List (Rule A)) (a : A) (n t r : ℕ) → Once gs → Numbered gs → HasRows gs a n
      → FirstAt gs a (at_row n t r) ↔ NamesRow gs a n t r
  names-row [] a n t r w z h = absurd h
  names-row (g ∷ gs) a n t r w z (inl (e, s)) = (there, back)
    where
      none : Absent n gs
      none = subst (λ (m : ℕ). Absent m gs) (sym e) w.0

      some : n ≡ accepted_number → ⊥
      some q = z.0 (sym e ∙ q)

      own : (u k : ℕ) → RowBreaks (g ∷ gs) a n u k → Breaks (g.rows a) u k
      own u k (inl b) = b.1
      own u k (inr b) = absurd (no-breaks gs a n u k none b)

      there : FirstAt (g ∷ gs) a (at_row n t r) → NamesRow (g ∷ gs) a n t r
      there (inl (b, q, p)) =
          let low = (lowest-placed (g.rows a) t r s).0 p in
          record {
            first-broken = inl (b, e);
            breaks = inl (e, low.breaks);
            no-lower-row = λ k l v. low.no-lower-row k l (own t k v);
            no-earlier-table = λ u k l v. low.no-earlier-table u k l (own u k v);
          }
      there (inr f) = absurd (no-first gs a n none some (first-number gs a (at_row n t r) f.1))

      lowest : NamesRow (g ∷ gs) a n t r → LowestRow (g.rows a) t r
      lowest v =
          record {
            breaks = own t r v.breaks;
            no-lower-row = λ k l b. v.no-lower-row k l (inl (e, b));
            no-earlier-table = λ u k l b. v.no-earlier-table u k l (inl (e, b));
          }

      back : NamesRow (g ∷ gs) a n t r → FirstAt (g ∷ gs) a (at_row n t r)
      back v =
          ⊎_elim (λ b. inl (b.0, e, (lowest-placed (g.rows a) t r s).1 (lowest v)))
          (λ f. absurd (no-first gs a n none some f.1)) v.first-broken
  names-row (g ∷ gs) a n t r w z (inr h) = (there (names-row gs a n t r w.1 z.1 h).0, back (names-row gs a n t r w.1 z.1 h).1)
    where
      other : n ≡ g.number → ⊥
      other e = no_rows gs a n (subst (λ (m : ℕ). Absent m gs) (sym e) w.0) h

      there : (FirstAt gs a (at_row n t r) → NamesRow gs a n t r) → FirstAt (g ∷ gs) a (at_row n t r) → NamesRow (g ∷ gs) a n t r
      there ih (inl f) = absurd (other f.1)
      there ih (inr f) =
          let v = ih f.1 in
          record {
            first-broken = inr (f.0, v.first-broken);
            breaks = inr v.breaks;
            no-lower-row = λ k l. ⊎_elim (λ b. other b.0) (v.no-lower-row k l);
            no-earlier-table = λ u k l. ⊎_elim (λ b. other b.0) (v.no-earlier-table u k l);
          }

      rest : NamesRow (g ∷ gs) a n t r → First gs a n → NamesRow gs a n t r
      rest v f =
          record {
            first-broken = f;
            breaks = ⊎_elim (λ b. absurd (other b.0)) (λ b. b) v.breaks;
            no-lower-row = λ k l b. v.no-lower-row k l (inr b);
            no-earlier-table = λ u k l b. v.no-earlier-table u k l (inr b);
          }

      back : (NamesRow gs a n t r → FirstAt gs a (at_row n t r)) → NamesRow (g ∷ gs) a n t r → FirstAt (g ∷ gs) a (at_row n t r)
      back ih v = ⊎_elim (λ b. absurd (other b.1)) (λ f. inr (f.0, ih (rest v f.1))) v.first-broken

  -- a number that has rows is that of one of the rules
  rows-one : (gs : List (Rule A)) (a : A) (n : ℕ) → HasRows gs a n → OneOf gs n
  rows-one [] a n h = h
  rows-one (g ∷ gs) a n (inl h) = inl h.0
  rows-one (g ∷ gs) a n (inr h) = inr (rows-one gs a n h)

-- no number stands twice in the rules of a call
program-once : Once program_rules
program-once = (omega arith, (omega arith, (omega arith, (omega arith, (omega arith, (omega arith, (omega arith, (omega arith, (omega arith, (omega arith, (omega arith, tt)))))))))))

compile-once : Once compile_rules
compile-once = (omega arith, (omega arith, (omega arith, (omega arith, (omega arith, (omega arith, (omega arith, (omega arith, (omega arith, (omega arith, (omega arith, (omega arith, tt))))))))))))

windows-once : Once windows_verdict_rules
windows-once = (omega arith, (omega arith, (omega arith, (omega arith, (omega arith, (omega arith, (omega arith, (omega arith, (omega arith, (omega arith, (omega arith, (omega arith, (omega arith, tt)))))))))))))

part-once : Once part_rules
part-once = (omega arith, (omega arith, (omega arith, (omega arith, (omega arith, (omega arith, (omega arith, (omega arith, (omega arith, (omega arith, (omega arith, (omega arith, (omega arith, (omega arith, tt))))))))))))))

advance-once : Once advance_rules
advance-once = (omega arith, (omega arith, (omega arith, (omega arith, (omega arith, (omega arith, (omega arith, (omega arith, (omega arith, (omega arith, (omega arith, (omega arith, (omega arith, (omega arith, tt))))))))))))))

-- in each call the row that is named is the row to name
pub places-exact : PlacesExact
places-exact = record {
  program = λ T n t r h. Iff.trans (verdict-exact T (at_row n t r)) (names-row program_rules T n t r program-once (omega arith) h);
  compiling = λ L n t r h. Iff.trans (compile-exact L (at_row n t r)) (names-row compile_rules L n t r compile-once (omega arith) h);
  windows = λ L n t r h. Iff.trans (windows-exact L (at_row n t r)) (names-row windows_verdict_rules L n t r windows-once (omega arith) h);
  supplier = λ L n t r h.
      Iff.trans ((supplier-exact L).refused (at_row n t r) (rows-one part_rules L n h)) (names-row part_rules L n t r part-once (omega arith) h);
  fresh = λ T n t r h. Iff.trans ((fresh-exact T).answer (at_row n t r)) (names-row program_rules T n t r program-once (omega arith) h);
  advance = λ L n t r h.
      Iff.trans ((advance-exact L).judged (at_row n t r) (rows-one advance_rules L n h)) (names-row advance_rules L n t r advance-once (omega arith) h);
}
