-- `text::listing::named` meets its contract: the mnemonic, then one argument after the other.
use mathlib.Core.Path.{sym, ap, subst}
use native.Mathlib.Omega.{arith}
use lib.Seq.{take_all}
use Rattle.text.specs.Line.{Appended}
use Rattle.text.specs.Listing.{spaced}
use Rattle.text.proofs.Lines.{appended-none, appended-both}
use Rattle.text.proofs.Said.{said-yes, said-no, spaced-next}
use Rattle.text.proofs.listing.named.Goals as goal

pub returns-then-unused-ne0 : goal.returns-then-unused-ne0
returns-then-unused-ne0 c = subst (Appended _ _) (said-no c.args.unused _ c.if-unused-ne0.true) (appended-none _)

pub loop-n-preserved : goal.loop-n-preserved
loop-n-preserved c =
    subst (Appended _ _) (sym (spaced-next c.args.arguments.now c.loop-n.n-index c.loop-n-test.true))
    (appended-both _ _ c.loop-n.invariant c.argument-line.ensures)

pub returns : goal.returns
returns c =
    let a = c.args in
    let all = ap spaced (take_all c.loop-n.n-index a.arguments.now c.loop-n-test.false) in
    subst (Appended _ _) (said-yes a.unused _ (omega (arith, c.if-unused-ne0.false)))
    (appended-both a.mnemonic.now (spaced a.arguments.now) c.word-line.ensures (subst (Appended _ _) all c.loop-n.invariant))
