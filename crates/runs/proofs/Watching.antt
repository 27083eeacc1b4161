-- A loop over the ticks of a unit that hands on turns, and asks a window's end once, comes to what the ticks come to.
use Prim.Native.Nat.{ℕ, suc, ◌+◌, ◌-◌, ◌<◌}
use mathlib.Core.Path.{◌≡◌, sym, ap, subst, ◌∙◌}
use mathlib.Core.Bool.{Bool, true, false, not, ◌&&◌}
use mathlib.Core.List.{List}
use native.Mathlib.Omega.{arith}
use lib.Dec.{leb}
use lib.IntN.{ℤ}
use Rattle.std.specs.Prelude.{is_some}
use Rattle.runs.specs.declared.turn.Turn.{Turn}
use Rattle.runs.specs.Tick.{Row, Place, doing, runs_in, tick, turn, after_turn}
use Rattle.runs.specs.Windows.{in_window, open_until}
use Rattle.runs.specs.Round.{Ticked, left_at, watched, told_ticks}
use Rattle.runs.proofs.Turns.{turn-after, turn-runs}
use Rattle.runs.proofs.Ends.{Open, Told, until-tells}

-- ticks of which the first is outside the windows come to that tick
watched-out : (window : ℕ → Bool) (rows : List Row) (n e t : ℕ) (p : Place)
    → (runs_in rows e p && not (window t)) ≡ true → watched window rows (suc n) e t p ≡ left_at t
watched-out window rows n e t p h = rw (h, watched)

-- ticks of which the first is inside the windows come to what the others come to
watched-in : (window : ℕ → Bool) (rows : List Row) (n e t : ℕ) (p : Place)
    → (runs_in rows e p && not (window t)) ≡ false → watched window rows (suc n) e t p ≡ watched window rows n (suc e) (suc t) (tick rows e p)
watched-in window rows n e t p h = rw (h, watched)

-- a unit of so many ticks of supplier s in mode m, from tick `start` of the round with remaining times `left`
module _ (W : List ℤ) (s m : ℕ) (rows : List Row) (ticks start : ℕ) (left : List ℕ) where
  -- what all ticks of the unit come to
  abbrev pub whole : Ticked
  whole = watched (in_window W s m) rows ticks 0 start (record { position = 0; left = left })

  -- after e ticks of the unit, those left come to what all come to, and the windows are open up to `until`
  pub record Watching (rest : List ℕ) (position until e : ℕ) : Type 0 where
    pub same : watched (in_window W s m) rows (ticks - e) e (start + e) (record { position = position; left = rest }) ≡ whole
    pub still : Open W s m (start + e) until

  -- the code's turn t of tick e, with `next` up to which the windows are open
  module _ (rest : List ℕ) (position until e : ℕ) (t : Turn) (running : Bool) (next : ℕ) (l : e < ticks) (h : Watching rest position until e)
      (is-turn : t ≡ turn rows e (record { position = position; left = rest })) (is-running : running ≡ is_some t.job)
      (is-next : next ≡ open_until W s m (start + e) until running) where
    here : Place
    here = record { position = position; left = rest }

    told : Told W s m (start + e) running next
    told = subst (Told W s m (start + e) running) (sym is-next) (until-tells W s m (start + e) until running h.still)

    -- the supplier runs outside its windows exactly where the code's test says so
    outside : (runs_in rows e here && not (in_window W s m (start + e))) ≡ (running && leb next (start + e))
    unfolding here
    outside =
        let r : runs_in rows e here ≡ running = sym (is-running ∙ ap (λ (t : Turn). is_some t.job) is-turn ∙ turn-runs (doing rows e here)) in
        ap (λ (b : Bool). b && not (in_window W s m (start + e))) r ∙ sym told.outside

    one_less : watched (in_window W s m) rows (suc (ticks - (e + 1))) e (start + e) here ≡ whole
    unfolding here
    one_less =
        let z : suc (ticks - (e + 1)) ≡ ticks - e = omega arith in
        ap (λ n. watched (in_window W s m) rows n e (start + e) (record { position = position; left = rest })) z ∙ h.same

    -- where the supplier runs outside its windows, the answer is this tick
    pub watch-outside : (running && leb next (start + e)) ≡ true → told_ticks (left_at (start + e)) ≡ told_ticks whole
    watch-outside o =
        ap told_ticks (sym (watched-out (in_window W s m) rows (ticks - (e + 1)) e (start + e) here (outside ∙ o)) ∙ one_less)

    -- where the supplier does not run outside its windows, the loop goes on with the remaining times after the turn
    pub watch-more : (running && leb next (start + e)) ≡ false → (after : List ℕ) → after ≡ after_turn t.job rest → Watching after t.position next (e + 1)
    unfolding here
    watch-more o after is-after =
        let p : t.position ≡ (tick rows e here).position = ap (λ (t : Turn). t.position) is-turn in
        let r : after ≡ (tick rows e here).left = is-after ∙ ap (λ (t : Turn). after_turn t.job rest) is-turn ∙ turn-after (doing rows e here) rest in
        let a : e + 1 ≡ suc e = omega arith in
        let b : start + (e + 1) ≡ suc (start + e) = omega arith in
        let c : ◌≡◌ {A = Ticked} (watched (in_window W s m) rows (ticks - (e + 1)) (e + 1) (start + (e + 1)) (record { position = t.position; left = after }))
        (watched (in_window W s m) rows (ticks - (e + 1)) (suc e) (suc (start + e)) (tick rows e here)) =
        λ i. watched (in_window W s m) rows (ticks - (e + 1)) (a i) (b i) (record { position = p i; left = r i }) in
        record {
          same = c ∙ sym (watched-in (in_window W s m) rows (ticks - (e + 1)) e (start + e) here (outside ∙ o)) ∙ one_less;
          still = λ u l o. told.still u (omega arith) o;
        }
