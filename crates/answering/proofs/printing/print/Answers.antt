-- `answering::printing::print` meets its contract: in each turn what some writes have come to, up to a page of which nothing is left.
use mathlib.Core.Path.{subst}
use borrow.Author.Rules.{rules}
use Rattle.std.proofs.lemmas.Result.{err_from_is_err_and}
use Rattle.answering.specs.Answer.{answered}
use Rattle.answering.specs.Writing.{Spread, spread, AfterWrites}
use Rattle.answering.proofs.Handing.{writes_more, pending-less, written-yes, written-no}
use Rattle.answering.proofs.printing.print.Goals as goal

pub returns-then-n-eq0 : goal.returns-then-n-eq0
returns-then-n-eq0 g c =
    let l = c.loop-shown in
    let a = answered c.args.shown c.args.code.now in
    record {
      sheet = l.sheet;
      writes = subst (λ (f : Spread). AfterWrites a f (spread l.sheet l.buffer)) (c.first-sheet.ensures c.args.code.now 0) l.invariant.1;
      whole = written-no (spread l.sheet l.buffer) _ c.rest.ensures c.loop-shown-test.true;
    }

pub returns-in_err-n : goal.returns-in_err-n
returns-in_err-n g c =
    let l = c.loop-shown in
    let a = answered c.args.shown c.args.code.now in
    record {
      sheet = l.sheet;
      writes = subst (λ (f : Spread). AfterWrites a f (spread l.sheet l.buffer)) (c.first-sheet.ensures c.args.code.now 0) l.invariant.1;
      whole = let p = err_from_is_err_and c.from_residual.result c.from_residual.ensures.1 in rw p.1 (written-no (spread l.sheet l.buffer) _ c.rest.ensures c.loop-shown-test.true);
    }

pub loop-shown-smaller : goal.loop-shown-smaller
loop-shown-smaller g c =
    let l = c.loop-shown in
    pending-less _ (spread l.sheet l.buffer) _ _ c.wrote-sheet.ensures c.if-n-eq0.false c.in_ok-n.ensures

pub loop-shown-preserved : goal.loop-shown-preserved
loop-shown-preserved g c =
    let l = c.loop-shown in
    (search rules, writes_more _ _ (spread l.sheet l.buffer) _ _ l.invariant.1 c.wrote-sheet.ensures)

pub returns : goal.returns
returns g c =
    let l = c.loop-shown in
    let a = answered c.args.shown c.args.code.now in
    record {
      sheet = l.sheet;
      writes = subst (λ (f : Spread). AfterWrites a f (spread l.sheet l.buffer)) (c.first-sheet.ensures c.args.code.now 0) l.invariant.1;
      whole = written-yes (spread l.sheet l.buffer) _ c.rest.ensures c.loop-shown-test.false;
    }
