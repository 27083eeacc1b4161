-- `instants::instructions::branch` meets its contract: on at its address, as a jump, where the driver's guard holds.
use mathlib.Core.Path.{ap, ◌∙◌}
use Rattle.std.specs.Prelude.{Ok}
use Rattle.instants.specs.declared.instructions.Stepping.{Stepping}
use Rattle.instants.specs.Step.{stepped_of}
use Rattle.instants.proofs.Executed.{branch-faulty, branch-jumps, branch-moves}
use Rattle.instants.proofs.instructions.branch.Goals as goal

pub returns-then-declared-count : goal.returns-then-declared-count
returns-then-declared-count c T e readings times =
    branch-faulty T readings times c.args.count c.args.at c.args.d c.args.to _ _ e c.requires.drivers_bound
    c.of-own.ensures c.declared.ensures c.if-declared-count.true

pub returns-then-guard_holds : goal.returns-then-guard_holds
returns-then-guard_holds c T e readings times =
    branch-jumps T readings times c.args.count c.args.at c.args.d c.args.to _ _ e c.requires.drivers_bound
    c.of-own.ensures c.declared.ensures c.if-declared-count.false
    _ _ (c.guard_holds.ensures T e) c.if-guard_holds.true (c.jump.ensures T readings times)

pub returns : goal.returns
returns c T e readings times =
    ap (λ (m : Stepping). stepped_of c.args.at (Ok m)) c.moved.ensures
    ∙ branch-moves T readings times c.args.count c.args.at c.args.d c.args.to _ _ e c.requires.drivers_bound
    c.of-own.ensures c.declared.ensures c.if-declared-count.false _ (c.guard_holds.ensures T e) c.if-guard_holds.false
