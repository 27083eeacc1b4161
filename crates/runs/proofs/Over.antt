-- A tick of a block does what 003's words say: the rows in front that are over are passed, and the first that is not runs or waits.
use Prim.Native.Nat.{ℕ, suc, ◌+◌, ◌-◌}
use mathlib.Core.Path.{◌≡◌, refl, sym, ap, subst, ◌∙◌}
use mathlib.Core.Bool.{Bool, true, false, ◌||◌}
use mathlib.Core.List.{List, [], ◌∷◌, ◌++◌, append-nil}
use mathlib.Core.Logic.{◌⊎◌, inl, inr, ⊎_elim, ◌↔◌}
use native.Mathlib.Omega.{arith}
use lib.ListN.{length, drop}
use lib.Seq.{get_or-set_other, drop-drop, drop_at}
use Rattle.theory.specs.Claim.{Says}
use Rattle.theory.specs.Lists.{Every}
use Rattle.theory.proofs.Bools.{clash, says-le, says-or, says-as, is_true, is_false}
use Rattle.runs.specs.Tick.{Kind, dispatch, idle, Row, left_of, nothing_to_do, reached, skipped, passed, Act, rest, work, does, act}
use Rattle.runs.specs.Tick.{runs, Place, moved, doing, left_after}
use Rattle.runs.proofs.Tick.{one_less}
use Rattle.runs.specs.Over.{OverBy, Over, Open, PassedTo, ahead, Runs, Waits, TickSays}

module _ (e : ℕ) (left : List ℕ) where
  -- the test whether a row is skipped says whether it is over
  pub over-says : (x : Row) → Says (skipped e left x) (Over e left x)
  over-says x = go x.kind
    where
      go : (k : Kind) → Says (reached x.timeout e || nothing_to_do k (left_of left x.job)) (OverBy k x.timeout (left_of left x.job) e)
      go dispatch =
          says-as (says-or (says-le x.timeout e) (says-le (left_of left x.job) 0))
          (⊎_elim inl (λ h. inr (omega (arith, h)))) (⊎_elim inl (λ h. inr (omega (arith, h))))
      go idle = says-as (says-or (says-le x.timeout e) (record { yes = λ f. clash {b = false} f refl; no = λ _ b. b })) (⊎_elim (λ h. h) absurd) inl

  -- every list of rows has rows in front that are over, and behind them a first row that is not
  pub split : (rows : List Row) → (behind : List Row) × PassedTo e left rows behind
  split [] = ([], record { before = []; in_order = refl; all-over = tt; not-over = tt })
  split (x ∷ xs) = go (skipped e left x) refl (split xs)
    where
      go : (b : Bool) → skipped e left x ≡ b → (behind : List Row) × PassedTo e left xs behind → (behind : List Row) × PassedTo e left (x ∷ xs) behind
      go true h (behind, p) = (
        behind,
        record {
          before = x ∷ p.before;
          in_order = ap (λ (ys : List Row). x ∷ ys) p.in_order;
          all-over = ((over-says x).yes h, p.all-over);
          not-over = p.not-over;
        },
      )
      go false h w = (x ∷ xs, record { before = []; in_order = refl; all-over = tt; not-over = (over-says x).no h })

  -- the rows in front that are over are as many as the definition counts
  counted : (before behind : List Row) → Every (Over e left) before → Open e left behind → passed (before ++ behind) e left ≡ length before
  counted [] [] a o = refl
  counted [] (x ∷ xs) a o = rw (is_false (over-says x) o, passed)
  counted (y ∷ ys) behind (h, a) o = rw (is_true (over-says y) h, passed) (ap suc (counted ys behind a o))

-- a row at which job j runs is a dispatch of j, and one at which nothing runs is an idle
does-run : (k : Kind) (i j : ℕ) → does k i ≡ work j → (k ≡ dispatch) × (i ≡ j)
does-run dispatch i j e = (refl, ap number e)
  where
    number : Act → ℕ
    number rest = i
    number (work n) = n
does-run idle i j e = clash {b = true} refl (ap runs (sym e))

does-rest : (k : Kind) (i : ℕ) → does k i ≡ rest → k ≡ idle
does-rest dispatch i e = clash {b = true} refl (ap runs e)
does-rest idle i e = refl

module _ (block : List Row) (e : ℕ) (s : Place) where
  -- where the rows up to those behind are passed, the position is after them, and what runs is what the first of those behind says
  position : (behind : List Row) (p : PassedTo e s.left (ahead block e s) behind) → moved block e s ≡ s.position + length p.before
  position behind p =
      ap (λ (rows : List Row). s.position + passed rows e s.left) p.in_order
      ∙ ap (λ (n : ℕ). s.position + n) (counted e s.left p.before behind p.all-over p.not-over)

  acts : (behind : List Row) → PassedTo e s.left (ahead block e s) behind → doing block e s ≡ act behind
  acts behind p =
      ap (λ (n : ℕ). act (drop n block)) (position behind p)
      ∙ ap act (sym (drop-drop (length p.before) s.position block))
      ∙ ap (λ (rows : List Row). act (drop (length p.before) rows)) p.in_order
      ∙ ap act (drop_at p.before behind (length p.before) refl)

  runs-exactly : (j : ℕ) → (doing block e s ≡ work j) ↔ Runs block e s j
  runs-exactly j = (λ h. there (split e s.left (ahead block e s)) h, λ w. acts (w.row ∷ w.behind) w.first ∙ back w)
    where
      there : (behind : List Row) × PassedTo e s.left (ahead block e s) behind → doing block e s ≡ work j → Runs block e s j
      there ([], p) h = clash {b = true} refl (ap runs (sym h ∙ acts [] p))
      there (x ∷ xs, p) h =
          let d = does-run x.kind x.job j (sym (acts (x ∷ xs) p) ∙ h) in
          record { row = x; behind = xs; first = p; dispatches = d.0; of-job = d.1 }

      back : (w : Runs block e s j) → does w.row.kind w.row.job ≡ work j
      back w = rw (w.dispatches, w.of-job)

  rests-exactly : (doing block e s ≡ rest) ↔ (Waits block e s ⊎ Every (Over e s.left) (ahead block e s))
  rests-exactly = (λ h. there (split e s.left (ahead block e s)) h, ⊎_elim waits none)
    where
      there : (behind : List Row) × PassedTo e s.left (ahead block e s) behind → doing block e s ≡ rest
          → Waits block e s ⊎ Every (Over e s.left) (ahead block e s)
      there ([], p) h = inr (subst (Every (Over e s.left)) (sym (p.in_order ∙ append-nil p.before)) p.all-over)
      there (x ∷ xs, p) h = inl (record { row = x; behind = xs; first = p; idles = does-rest x.kind x.job (sym (acts (x ∷ xs) p) ∙ h) })

      waits : Waits block e s → doing block e s ≡ rest
      waits w = acts (w.row ∷ w.behind) w.first ∙ ap (λ (k : Kind). does k w.row.job) w.idles

      none : Every (Over e s.left) (ahead block e s) → doing block e s ≡ rest
      none h = acts [] (record { before = ahead block e s; in_order = sym (append-nil (ahead block e s)); all-over = h; not-over = tt })

  -- the job that ran has a tick less to run, and every other as much as before
  worked : (a : Act) (j : ℕ) → a ≡ work j → left_of (left_after a s.left) j ≡ left_of s.left j - 1
  worked rest j h = clash {b = true} refl (ap runs (sym h))
  worked (work i) j h = rw (does-run dispatch i j h).1 (one_less s.left j)

  others : (a : Act) (j : ℕ) → (a ≡ work j → ⊥) → left_of (left_after a s.left) j ≡ left_of s.left j
  others rest j h = refl
  others (work i) j h = get_or-set_other s.left i j (left_of s.left i - 1) 0 (λ q. h (ap work (sym q)))

  -- a tick does what 003's words say
  pub tick-says : TickSays block e s
  tick-says = record {
    runs = runs-exactly;
    rests = rests-exactly;
    passes = position;
    worked = worked (doing block e s);
    others = others (doing block e s);
  }
