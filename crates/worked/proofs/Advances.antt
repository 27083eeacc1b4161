-- F's first advance meets the premises of what is said of an accepted advance. (Refused ones: Refused.antt.)
use Prim.Native.Nat.{◌<◌, ◌+◌, ◌/◌, ◌%◌, ◌^◌}
use mathlib.Core.Path.{◌≡◌, refl}
use mathlib.Core.Bool.{false}
use lib.ListN.{length}
use Rattle.theory.specs.Rows.{placeless}
use Rattle.theory.specs.Verdict.{Keep}
use Rattle.cells.specs.Limits.{words_each}
use Rattle.program.specs.Tables.{task_count}
use Rattle.suppliers.specs.Schedule.{joined_bad}
use Rattle.suppliers.proofs.Schedule.{joined-bars}
use Rattle.machine.specs.declared.State.{State}
use Rattle.machine.specs.Advance.{advance_rules, advance_answer}
use Rattle.machine.specs.Schedules.{one, running}
use Rattle.machine.specs.Comes.{Returns, TickPasses}
use Rattle.machine.specs.Moves.{Advances}
use Rattle.machine.proofs.Declared.{running-declared}
use Rattle.demands.specs.Composed.{joined, code}
use Rattle.demands.proofs.Calls.{advance-exact}
use Rattle.demands.proofs.Machine.{advance-moves, time-moves, instant-counted}
use Rattle.worked.specs.Computed.{computed}
use Rattle.worked.specs.Programs.{program_f}
use Rattle.worked.specs.Systems.{F-system, F-fresh, F-first}

accepted : (advance_answer F-first).answer.number ≡ 0
unfolding computed
accepted = refl

fresh-ends : F-fresh.remaining ≡ 0
unfolding computed
fresh-ends = refl

pub F-advances : Advances F-first (advance_answer F-first).state
F-advances = advance-moves F-first accepted

pub F-time : (advance_answer F-first).state.time ≡ (F-fresh.time + 1) % 2 ^ 32
F-time = time-moves F-first accepted

pub F-counted : (u : State) × (w : Returns F-first u) × (w.reaches.before < length (code F-system) / words_each)
F-counted = instant-counted F-first accepted fresh-ends

accepted-whole : (advance_answer F-first).answer ≡ placeless 0
unfolding computed
accepted-whole = refl

pub F-passes : Keep advance_rules F-first × TickPasses F-first
F-passes = (advance-exact F-first).accepted.0 accepted-whole

-- the schedule's rows are right, and in the second tick task 1 runs: it is declared
rows_right : joined_bad (program_f 6 2) (joined F-system) ≡ false
unfolding computed
rows_right = refl

one-runs : running (joined F-system) (advance_answer F-first).state ≡ one 1
unfolding computed
one-runs = refl

pub F-declared : 1 < task_count (program_f 6 2)
F-declared =
    running-declared (program_f 6 2) (joined F-system) (advance_answer F-first).state 1 ((joined-bars (program_f 6 2) (joined F-system)).ok rows_right).rows one-runs
