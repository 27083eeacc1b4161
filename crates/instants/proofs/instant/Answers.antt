-- `instants::instant` meets its contract: what is left to run from each instruction on is what was to run from the start.
use mathlib.Core.Path.{◌≡◌, refl, sym, ap, subst, ◌∙◌}
use Rattle.std.proofs.Common.{rules, arith, ℕ, Ok, Err}
use Rattle.cells.proofs.Numbers.{number-some}
use Rattle.code.specs.Op.{instructions}
use Rattle.machine.specs.Instant.{start_at}
use Rattle.machine.specs.Told.{advanced_of}
use Rattle.instants.specs.declared.instructions.Stepping.{Stepping}
use Rattle.instants.specs.declared.instructions.Stepping.TheVariants.{On, Over}
use Rattle.instants.specs.Step.{stepped_of}
use Rattle.instants.proofs.Declared.{program_in}
use Rattle.instants.proofs.Running.{Left, left-all, left-none, left-refused, left_over, left_less}
use Rattle.instants.proofs.instant.Goals as goal

pub loop-done-init : goal.loop-done-init
loop-done-init c start =
    let s = c.args in
    let P = program_in s.tables.now start in
    subst (λ (k : ℕ). Left P s.readings.now s.times.now s.code.now s.s k (start_at P s.readings.now s.times.now (instructions s.code.now) s.s))
    (omega arith) (left-all P s.readings.now s.times.now s.code.now s.s)

pub returns-in_err-next : goal.returns-in_err-next
returns-in_err-next c start =
    let s = c.args in
    let l = c.loop-done in
    let e = c.in_err-next.field-0.0 in
    let same : c.from_residual.result ≡ Err e = search rules in
    ap (advanced_of s.s) same
    ∙ left-refused (program_in s.tables.now start) s.readings.now s.times.now s.code.now s.s _ l.at (l.invariant start)
    (omega arith) (stepped_of l.at (Err e)) (c.in_err-next.ensures start) (number-some e)

pub returns-in-Over : goal.returns-in-Over
returns-in-Over c start =
    let s = c.args in
    let l = c.loop-done in
    left_over (program_in s.tables.now start) s.readings.now s.times.now s.code.now s.s _ l.at (l.invariant start)
    (omega arith) (stepped_of l.at (Ok (Over c.in-Over.last)))
    (ap (λ (m : Stepping). stepped_of l.at (Ok m)) (sym c.in-Over.is) ∙ c.in_ok-next.ensures start) (omega arith) refl

pub loop-done-preserved : goal.loop-done-preserved
loop-done-preserved c start =
    let s = c.args in
    let l = c.loop-done in
    let P = program_in s.tables.now start in
    subst (λ (k : ℕ). Left P s.readings.now s.times.now s.code.now s.s k c.in-On.next) (omega arith)
    (left_less P s.readings.now s.times.now s.code.now s.s _ l.at (l.invariant start)
    (omega arith) (stepped_of l.at (Ok (On c.in-On.next)))
    (ap (λ (m : Stepping). stepped_of l.at (Ok m)) (sym c.in-On.is) ∙ c.in_ok-next.ensures start) (omega arith) refl)

pub returns : goal.returns
returns c start =
    let s = c.args in
    let l = c.loop-done in
    left-none (program_in s.tables.now start) s.readings.now s.times.now s.code.now s.s _ l.at (l.invariant start)
    (advanced_of s.s c.spent.result) (omega arith) c.spent.ensures
