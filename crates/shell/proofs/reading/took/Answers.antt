-- `shell::reading::took` meets its contract: what came is fed, none of it where the read failed or the input has ended.
use Prim.Native.Nat.{ℕ}
use mathlib.Core.Path.{◌≡◌, sym, ap, ◌∙◌}
use mathlib.Core.Bool.{Bool, true, false, not}
use mathlib.Core.List.{List}
use lib.ListN.{length, take}
use Rattle.std.specs.Prelude.{Option, is_some}
use Rattle.streams.specs.Counts.{clamp_len}
use Rattle.intake.specs.Line.{Fed, fed, is_decided}
use Rattle.intake.specs.Bytes.{fed_all, ended_of}
use Rattle.intake.specs.declared.state.Intake.{Intake}
use Rattle.shell.specs.Reading.{piece_of, brought, hearing, after_read}
use Rattle.shell.proofs.Hearing.{brought-failure, brought-bytes, some_bytes}
use Rattle.shell.proofs.reading.took.Goals as goal

-- a read that has not failed
module _ (f : Fed) (got : Option ℕ) (buffer : List ℕ) (n : ℕ) (came : is_some got ≡ true) (h : n ≡ clamp_len got (length buffer)) where
  ending : n ≡ 0 → hearing (ended_of f) false ≡ after_read f (brought got buffer)
  unfolding after_read
  ending z = ap (after_read f) (sym (brought-bytes got buffer n came h ∙ ap (λ (j : ℕ). piece_of j buffer) z))

  going : (n ≡ 0 → ⊥) → (d : Bool) → is_decided (fed_all f (take n buffer)).intake ≡ d
      → hearing (fed_all f (take n buffer)) (not d) ≡ after_read f (brought got buffer)
  unfolding after_read
  going some d e =
      ap (λ (b : Bool). hearing (fed_all f (take n buffer)) (not b)) (sym e)
      ∙ ap (after_read f) (sym (brought-bytes got buffer n came h ∙ some_bytes n buffer some))

pub returns-then-is_none : goal.returns-then-is_none
unfolding after_read
returns-then-is_none c =
    let f = fed c.args.i c.args.room.now in
    ap (λ (i : Intake). hearing (fed i f.room) false) c.as_bad.ensures
    ∙ ap (after_read f) (sym (brought-failure c.args.got c.args.buffer.now (c.is_none.ensures ∙ ap not c.if-is_none.true)))

pub returns-then-n-eq0 : goal.returns-then-n-eq0
returns-then-n-eq0 c =
    let f = fed c.args.i c.args.room.now in
    ap (λ (g : Fed). hearing g false) c.ended-last.ensures
    ∙ ending f c.args.got c.args.buffer.now c.count-n.result (c.is_none.ensures ∙ ap not c.if-is_none.false) c.count-n.ensures.value c.if-n-eq0.true

pub returns-then-decided : goal.returns-then-decided
returns-then-decided c =
    let f = fed c.args.i c.args.room.now in
    let e = c.feed_all-intake.ensures in
    ap (λ (g : Fed). hearing g false) e
    ∙ going f c.args.got c.args.buffer.now c.count-n.result (c.is_none.ensures ∙ ap not c.if-is_none.false) c.count-n.ensures.value c.if-n-eq0.false
    true (ap (λ (g : Fed). is_decided g.intake) (sym e) ∙ sym c.decided.ensures ∙ c.if-decided.true)

pub returns : goal.returns
returns c =
    let f = fed c.args.i c.args.room.now in
    let e = c.feed_all-intake.ensures in
    ap (λ (g : Fed). hearing g true) e
    ∙ going f c.args.got c.args.buffer.now c.count-n.result (c.is_none.ensures ∙ ap not c.if-is_none.false) c.count-n.ensures.value c.if-n-eq0.false
    false (ap (λ (g : Fed). is_decided g.intake) (sym e) ∙ sym c.decided.ensures ∙ c.if-decided.false)
