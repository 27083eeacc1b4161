-- `text::listing::said` meets its contract: an arm for each instruction, nothing for the numbers that none has.
use Prim.Native.Nat.{ℕ, ◌+◌}
use mathlib.Core.Path.{◌≡◌, sym, ap, subst, ◌∙◌}
use native.Mathlib.Omega.{arith}
use Rattle.code.specs.Op.{call, schedule, jump, return, decode}
use Rattle.code.specs.Opcodes.{opcode_number}
use Rattle.code.specs.declared.opcode.Opcode.{Opcode}
use Rattle.code.specs.declared.opcode.Opcode.TheVariants.{Call, Schedule, If, Jump, Future, Return}
use Rattle.text.specs.Line.{Appended}
use Rattle.text.specs.Said.{said_of, said_where}
use Rattle.text.proofs.Lines.{appended-none}
use Rattle.text.proofs.Said.{said-both, said-unused, said-unknown}
use Rattle.text.proofs.listing.said.Goals as goal

-- what is said of the instruction that a number names is what is said of the number
known : (o named : Opcode) (number first second : ℕ) → named ≡ o → opcode_number named ≡ number
    → said_of (decode (opcode_number o) first second) ≡ said_of (decode number first second)
known o named number first second e h = ap (λ (k : ℕ). said_of (decode k first second)) (ap opcode_number (sym e) ∙ h)

pub returns-in-Ok-Call : goal.returns-in-Ok-Call
returns-in-Ok-Call c =
    let a = c.args in
    let arm = c.in-Ok-Call in
    subst (Appended _ _) (said-unused a.second (call a.first) ∙ known Call arm.field-0 a.number a.first a.second arm.field-0-is arm.ensures)
    c.named.ensures

pub returns-in-Ok-Schedule : goal.returns-in-Ok-Schedule
returns-in-Ok-Schedule c =
    let a = c.args in
    let arm = c.in-Ok-Schedule in
    subst (Appended _ _)
    (said-unused a.second (schedule a.first) ∙ known Schedule arm.field-0 a.number a.first a.second arm.field-0-is arm.ensures)
    c.named-in-Ok-Schedule.ensures

pub returns-in-Ok-If : goal.returns-in-Ok-If
unfolding said_of said_where
returns-in-Ok-If c =
    let a = c.args in
    let arm = c.in-Ok-If in
    subst (Appended _ _) (known If arm.field-0 a.number a.first a.second arm.field-0-is arm.ensures) c.named-in-Ok-If.ensures

pub returns-in-Ok-Jump : goal.returns-in-Ok-Jump
returns-in-Ok-Jump c =
    let a = c.args in
    let arm = c.in-Ok-Jump in
    subst (Appended _ _) (said-unused a.second (jump a.first) ∙ known Jump arm.field-0 a.number a.first a.second arm.field-0-is arm.ensures)
    c.named-in-Ok-Jump.ensures

pub returns-in-Ok-Future : goal.returns-in-Ok-Future
unfolding said_of said_where
returns-in-Ok-Future c =
    let a = c.args in
    let arm = c.in-Ok-Future in
    subst (Appended _ _) (known Future arm.field-0 a.number a.first a.second arm.field-0-is arm.ensures) c.named-in-Ok-Future.ensures

pub returns-in-Ok-Return : goal.returns-in-Ok-Return
returns-in-Ok-Return c =
    let a = c.args in
    let arm = c.in-Ok-Return in
    subst (Appended _ _)
    (ap (λ (n : ℕ). said_where n _) c.max.ensures
    ∙ said-both a.first a.second _
    ∙ said-unused (a.first + a.second) return
    ∙ known Return arm.field-0 a.number a.first a.second arm.field-0-is arm.ensures)
    c.named-in-Ok-Return.ensures

pub returns-in-Err : goal.returns-in-Err
returns-in-Err c =
    let a = c.args in
    let past = c.in-Err.ensures in
    subst (Appended _ _)
    (said-unknown a.number a.first a.second (λ e. omega arith) (λ e. omega arith) (λ e. omega arith) (λ e. omega arith) (λ e. omega arith)
    (λ e. omega arith)) (appended-none _)
