-- `instants::instructions::step` meets its contract: past the end stands nothing; else the number, the first of the three words at
-- the address, says which instruction is executed.
use Prim.Native.Nat.{◌/◌}
use mathlib.Core.Path.{refl, sym, ap, ◌∙◌}
use native.Mathlib.Omega.{arith}
use lib.ListN.{length}
use Rattle.cells.specs.Limits.{words_each}
use Rattle.program.specs.Tables.{tables_in}
use Rattle.code.specs.Op.{call_number, schedule_number, if_number, jump_number, future_number, return_number}
use Rattle.code.specs.Opcodes.{opcode_number}
use Rattle.instants.proofs.Declared.{program_in, few-tasks, few-drivers}
use Rattle.instants.proofs.Fetched.{fetched-none, fetched, fetched-unknown}
use Rattle.instants.proofs.instructions.step.Goals as goal

pub returns-then-count-at : goal.returns-then-count-at
returns-then-count-at c z =
    let s = c.args in
    fetched-none (program_in s.tables.now z) s.readings.now s.times.now s.code.now s.at c.if-count-at.true

pub schedule-requires : goal.schedule-requires
schedule-requires c =
    record { tasks_bound = few-tasks c.args.tables.now c.requires; address_lt_address_end = omega (arith, c.if-count-at.false) }

pub branch-tables-requires : goal.branch-tables-requires
branch-tables-requires c =
    record { drivers_bound = few-drivers c.args.tables.now c.requires; address_lt_address_end = omega (arith, c.if-count-at.false) }

pub returns-in-Ok-Call : goal.returns-in-Ok-Call
returns-in-Ok-Call c z =
    let s = c.args in
    fetched (program_in s.tables.now z) s.readings.now s.times.now s.code.now s.at c.word-number.result c.word-first.result c.word-second.result
    c.if-count-at.false c.word-number.ensures c.word-first.ensures c.word-second.ensures _ call_number
    (sym c.in-Ok-Call.ensures ∙ ap opcode_number c.in-Ok-Call.field-0-is)
    (c.call.ensures z s.times.now (length s.code.now / words_each))

pub returns-in-Ok-Schedule : goal.returns-in-Ok-Schedule
returns-in-Ok-Schedule c z =
    let s = c.args in
    fetched (program_in s.tables.now z) s.readings.now s.times.now s.code.now s.at c.word-number.result c.word-first.result c.word-second.result
    c.if-count-at.false c.word-number.ensures c.word-first.ensures c.word-second.ensures _ schedule_number
    (sym c.in-Ok-Schedule.ensures ∙ ap opcode_number c.in-Ok-Schedule.field-0-is)
    (c.schedule.ensures (tables_in s.tables.now z) refl s.readings.now (length s.code.now / words_each))

pub returns-in-Ok-If : goal.returns-in-Ok-If
returns-in-Ok-If c z =
    let s = c.args in
    fetched (program_in s.tables.now z) s.readings.now s.times.now s.code.now s.at c.word-number.result c.word-first.result c.word-second.result
    c.if-count-at.false c.word-number.ensures c.word-first.ensures c.word-second.ensures _ if_number
    (sym c.in-Ok-If.ensures ∙ ap opcode_number c.in-Ok-If.field-0-is)
    (c.branch-tables.ensures (tables_in s.tables.now z) refl s.readings.now s.times.now)

pub returns-in-Ok-Jump : goal.returns-in-Ok-Jump
returns-in-Ok-Jump c z =
    let s = c.args in
    fetched (program_in s.tables.now z) s.readings.now s.times.now s.code.now s.at c.word-number.result c.word-first.result c.word-second.result
    c.if-count-at.false c.word-number.ensures c.word-first.ensures c.word-second.ensures _ jump_number
    (sym c.in-Ok-Jump.ensures ∙ ap opcode_number c.in-Ok-Jump.field-0-is)
    (c.jump.ensures (tables_in s.tables.now z) s.readings.now s.times.now)

pub returns-in-Ok-Future : goal.returns-in-Ok-Future
returns-in-Ok-Future c z =
    let s = c.args in
    fetched (program_in s.tables.now z) s.readings.now s.times.now s.code.now s.at c.word-number.result c.word-first.result c.word-second.result
    c.if-count-at.false c.word-number.ensures c.word-first.ensures c.word-second.ensures _ future_number
    (sym c.in-Ok-Future.ensures ∙ ap opcode_number c.in-Ok-Future.field-0-is)
    (c.future.ensures (tables_in s.tables.now z) s.readings.now s.times.now)

pub returns-in-Ok-Return : goal.returns-in-Ok-Return
returns-in-Ok-Return c z =
    let s = c.args in
    fetched (program_in s.tables.now z) s.readings.now s.times.now s.code.now s.at c.word-number.result c.word-first.result c.word-second.result
    c.if-count-at.false c.word-number.ensures c.word-first.ensures c.word-second.ensures _ return_number
    (sym c.in-Ok-Return.ensures ∙ ap opcode_number c.in-Ok-Return.field-0-is)
    (c.finish.ensures (tables_in s.tables.now z) s.readings.now s.times.now (length s.code.now / words_each))

pub returns-in-Err : goal.returns-in-Err
returns-in-Err c z =
    let s = c.args in
    fetched-unknown (program_in s.tables.now z) s.readings.now s.times.now s.code.now s.at _ _ _ c.if-count-at.false
    c.word-number.ensures c.word-first.ensures c.word-second.ensures c.in-Err.ensures
