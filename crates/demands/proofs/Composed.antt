-- The composed run is Giotto's: the relation holds in the fresh state, every suited tick is accepted and keeps it, and it has the ports
-- equal. The statement's premises are that the system is accepted and that the ticks are suited.
use Prim.Native.Nat.{ℕ, zero, suc, ◌≤◌, ◌<◌}
use mathlib.Core.Path.{◌≡◌, refl, sym, ap, subst, ◌∙◌}
use mathlib.Core.List.{List}
use mathlib.Core.Logic.{inl, inr}
use native.Mathlib.Omega.{arith}
use Rattle.theory.specs.Verdict.{accepted_number}
use Rattle.program.specs.Program.{program_of}
use Rattle.code.specs.Op.{emit}
use Rattle.code.specs.Compile.{listing_of}
use Rattle.code.proofs.Words.{words_are}
use Rattle.code.proofs.Answers.{compile-passes}
use Rattle.giotto.specs.Instant.{Configuration, Function}
use Rattle.giotto.specs.Execution.{pass, ports_in_tick}
use Rattle.machine.specs.Advance.{Lent, advance_answer}
use Rattle.machine.specs.declared.State.{State}
use Rattle.machine.specs.declared.Handed.{Handed}
use Rattle.machine.proofs.Answered.{fresh-accepted}
use Rattle.machine.proofs.Fresh.{fresh-number}
use Rattle.composed.specs.Sound.{Sound}
use Rattle.composed.specs.Suited.{Suited}
use Rattle.composed.specs.Related.{Related}
use Rattle.composed.proofs.Run.{related-tick}
use Rattle.demands.specs.Composed.{System, compiling, Accepted, joined, code, advanced, state_at, configuration_at}
use Rattle.demands.specs.Composed.{SuitedAt, Right, ComposedRun, SameValues}
use Rattle.demands.specs.Relation.{RelationKept, RelatedAlways}
use Rattle.demands.proofs.Sound.{accepted-sound}

-- one tick keeps the relation
pub relation-kept : RelationKept
relation-kept T W S h F n C s X x r = related-tick T W S F n C s X h x r

module _ (Y : System) (a : Accepted Y) (F : Function) (lents : ℕ → Lent) where
  -- the system is sound, and its code is the compiled one
  sound : Sound Y.tables Y.windows (joined Y)
  sound = accepted-sound Y a

  pub is-compiled : code Y ≡ emit (listing_of Y.tables)
  is-compiled = words_are (compiling Y) (compile-passes (compiling Y) a.compiled)

  -- a suited tick is accepted and keeps the relation
  one-tick : (n : ℕ) (C : Configuration) (s : State) (X : Lent) → Suited Y.tables (code Y) (joined Y) F n C s X
      → Related Y.tables Y.windows (joined Y) F n C s
      → ((advanced Y X s).answer.number ≡ accepted_number)
      × Related Y.tables Y.windows (joined Y) F (suc n) (pass (program_of Y.tables) F n X.readings C) (advanced Y X s).state
  one-tick n C s X x r =
      subst (λ (ws : List ℕ).
      let b = advance_answer (record { tables = Y.tables; code = ws; schedule = joined Y; state = s; lent = X }) in
      (b.answer.number ≡ accepted_number)
      × Related Y.tables Y.windows (joined Y) F (suc n) (pass (program_of Y.tables) F n X.readings C) b.state)
      (sym is-compiled)
      (relation-kept Y.tables Y.windows (joined Y) sound F n C s X (subst (λ (ws : List ℕ). Suited Y.tables ws (joined Y) F n C s X) is-compiled x) r)

  -- before every tick the relation holds, where those before it are suited
  related : (n : ℕ) → ((k : ℕ) → k < n → SuitedAt Y F lents k)
      → Related Y.tables Y.windows (joined Y) F n (configuration_at Y F lents n) (state_at Y lents n)
  related zero f =
      inl (record { no-tick = refl; initially = refl; is-fresh = ap (λ (b : Handed). b.state) (sym (fresh-accepted Y.tables sound.accepted)) })
  related (suc n) f =
      (one-tick n (configuration_at Y F lents n) (state_at Y lents n) (lents n) (f n (omega arith)) (related n (λ k l. f k (omega arith)))).1

  -- related configurations and states have the same ports
  pub same-ports : (n : ℕ) (C : Configuration) (s : State) → Related Y.tables Y.windows (joined Y) F n C s → s.ports ≡ C.ports
  same-ports n C s (inl f) = ap (λ (u : State). u.ports) f.is-fresh ∙ sym (ap (λ (D : Configuration). D.ports) f.initially)
  same-ports n C s (inr (k, g)) = g.ports

  -- every tick is right as long as all are suited
  right : (n : ℕ) → ((k : ℕ) → k ≤ n → SuitedAt Y F lents k) → Right Y F lents n
  right n f =
      record {
        accepted = (one-tick n (configuration_at Y F lents n) (state_at Y lents n) (lents n) (f n (omega arith)) (related n (λ k l. f k (omega arith)))).0;
        ports = same-ports (suc n) (configuration_at Y F lents (suc n)) (state_at Y lents (suc n)) (related (suc n) (λ k l. f k (omega arith)));
      }

-- the relation holds before every tick
pub related-always : RelatedAlways
related-always Y a F lents n f = related Y a F lents n f

-- the composed run is Giotto's
pub composed-run : ComposedRun
composed-run Y a =
    (fresh-number Y.tables ∙ (accepted-sound Y a).accepted, λ F lents n f. right Y a F lents n f)

-- values do not hang on who computes when
pub same-values : SameValues
same-values Y Z a b e F lents others r n f g =
    (right Y a F lents n f).ports
    ∙ (λ i. ports_in_tick (program_of (e i)) F (λ k. r k i) n)
    ∙ sym (right Z b F others n g).ports
