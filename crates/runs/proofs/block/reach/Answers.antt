-- `runs::block::reach` meets its contract: each row asked leaves at most half of the rows, and the row sought is among them.
use Prim.Native.Nat.{◌-◌}
use mathlib.Core.Path.{sym, ◌∙◌}
use native.Mathlib.Omega.{arith}
use borrow.Author.Rules.{rules}
use Rattle.runs.proofs.Halving.{halved-down, halved-up, halvings-less}
use Rattle.runs.proofs.Blocks.{sorted-reaches, halved-reach}
use Rattle.runs.proofs.block.reach.Goals as goal

pub loop-low-smaller-then-reaches : goal.loop-low-smaller-then-reaches
loop-low-smaller-then-reaches c =
    let l = c.loop-low in
    halvings-less (l.high - l.low) _ (search rules) (omega arith)

pub loop-low-preserved-then-reaches : goal.loop-low-preserved-then-reaches
loop-low-preserved-then-reaches c =
    let r = c.reaches in
    let l = c.loop-low in (
      l.invariant.0,
      omega arith,
      omega (arith, l.invariant.2),
      λ o. halved-down _ _ _ l.low l.high _ (sorted-reaches _ _ _ o) (l.invariant.3 o) (sym r.ensures ∙ c.if-reaches.true),
    )

pub loop-low-smaller : goal.loop-low-smaller
loop-low-smaller c =
    let l = c.loop-low in
    halvings-less (l.high - l.low) _ (search rules) (omega arith)

pub loop-low-preserved : goal.loop-low-preserved
loop-low-preserved c =
    let r = c.reaches in
    let l = c.loop-low in (
      omega (arith, l.invariant.0),
      omega (arith, c.loop-low-test.true),
      l.invariant.2,
      λ o. halved-up _ _ _ l.low l.high _ (sorted-reaches _ _ _ o) (l.invariant.3 o) (omega arith) (sym r.ensures ∙ c.if-reaches.false),
    )

pub returns : goal.returns
returns c =
    let l = c.loop-low in record { lower_bound = (l.invariant.0, omega (arith, l.invariant.1, l.invariant.2)); value = λ o. halved-reach _ _ _ _ l.low l.high l.invariant.0 (omega (arith, l.invariant.1, l.invariant.2)) c.loop-low-test.false (l.invariant.3 o) }
