-- `text::decimal::Digits::of` meets its contract: the digits are written from the last to the first.
use Prim.Native.Nat.{ℕ}
use mathlib.Core.Path.{◌≡◌, subst}
use native.Mathlib.Omega.{arith}
use lib.ListN.{length-set}
use Rattle.text.specs.Digits.{digits_in, Spelled}
use Rattle.text.proofs.Decimals.{digits-place, front_kept, writing_more, writing-last, writing-full}
use Rattle.text.proofs.decimal.Digits.of.Goals as goal

pub returns-then-rest-lt10 : goal.returns-then-rest-lt10
unfolding digits_in
returns-then-rest-lt10 c =
    let s = c.loop-from in
    let l = c.loop-from-test.true in
    let digits = writing-last _ s.bytes s.from s.rest l s.invariant c.if-rest-lt10.true in
    record {
      digits = digits;
      front = front_kept _ s.bytes s.from s.rest l s.invariant;
      place = digits-place c.args.n _ _ (omega (arith, s.invariant.within)) (simp length-set s.invariant.whole) digits;
      whole = simp length-set s.invariant.whole;
    }

pub loop-from-preserved : goal.loop-from-preserved
loop-from-preserved c =
    let s = c.loop-from in
    writing_more _ s.bytes s.from s.rest c.loop-from-test.true s.invariant c.if-rest-lt10.false

pub returns : goal.returns
unfolding digits_in
returns c =
    let s = c.loop-from in
    let digits = writing-full _ s.bytes s.from s.rest c.loop-from-test.false s.invariant in
    let e : s.from ≡ 0 = omega arith in
    subst (λ (k : ℕ). Spelled c.args.n (record { bytes = s.bytes; from = k })) e
    (record {
      digits = digits;
      front = s.invariant.front;
      place = digits-place c.args.n _ _ s.invariant.within s.invariant.whole digits;
      whole = s.invariant.whole;
    })
