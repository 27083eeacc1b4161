-- One advance for each number that arises in execution, 16 to 20, and where two of them would apply at one instruction; one that is refused
-- before anything runs.
use Prim.Native.Nat.{ℕ}
use mathlib.Core.Path.{◌≡◌, refl}
use mathlib.Core.List.{List, [], ◌∷◌}
use native.Mathlib.Omega.{arith}
use lib.ListN.{replicate}
use Rattle.theory.specs.Rows.{placeless}
use Rattle.theory.specs.Verdict.{FirstAt, Keep}
use Rattle.theory.proofs.Verdict.{listed-one}
use Rattle.machine.specs.declared.State.{State}
use Rattle.machine.specs.Change.{with_left}
use Rattle.machine.specs.Advance.{Advance, advance_rules, advance_answer}
use Rattle.machine.specs.Comes.{Faults, TimeWrong, Overruns, RunsOn, Collides}
use Rattle.demands.specs.Composed.{code}
use Rattle.demands.specs.Supplied.{lent_to}
use Rattle.demands.proofs.Calls.{advance-exact}
use Rattle.demands.proofs.Machine.{faulty-exact, time-exact, overrun-exact, count-exact, collision-exact}
use Rattle.worked.specs.Computed.{computed}
use Rattle.worked.specs.Programs.{numbers}
use Rattle.worked.specs.Systems.{F-system, monitor, monitor-system, mix, readings, times, F-fresh, F-first}

-- F's first advance with other code, another state, other times
abbrev running : List ℕ → Advance
running words = record { tables = F-first.tables; code = words; schedule = F-first.schedule; state = F-fresh; lent = F-first.lent }

abbrev from : State → Advance
from s = record { tables = F-first.tables; code = F-first.code; schedule = F-first.schedule; state = s; lent = F-first.lent }

-- 16: task 0 is released with a time above its worst case
abbrev slow : Advance
slow = record {
  tables = F-first.tables;
  code = F-first.code;
  schedule = F-first.schedule;
  state = F-fresh;
  lent = lent_to F-system mix readings (times (7 ∷ 2 ∷ [])) 0 F-fresh;
}

slow-refused : (advance_answer slow).answer.number ≡ 16
unfolding computed
slow-refused = refl

pub F-time-wrong : Keep advance_rules slow × TimeWrong slow
F-time-wrong = (time-exact slow).0 slow-refused

-- 17: with a tick of task 0 left its output copy, the instant's second instruction, is refused
abbrev late : Advance
late = from (with_left F-fresh (1 ∷ replicate 31 0))

late-refused : (advance_answer late).answer.number ≡ 17
unfolding computed
late-refused = refl

pub F-overruns : Keep advance_rules late × Overruns late
F-overruns = (overrun-exact late).0 late-refused

-- 18: the monitor in its first unit, tasks of both suppliers with time left, and both suppliers' blocks there dispatch them
abbrev both : Advance
both = record {
  tables = monitor 2;
  code = code monitor-system;
  schedule = numbers (0 ∷ 7 ∷ 0 ∷ 0 ∷ 2 ∷ 1 ∷ 7 ∷ 0 ∷ 1 ∷ 2 ∷ []);
  state = record {
    ports = F-fresh.ports;
    outputs = F-fresh.outputs;
    time = 0;
    pending = 9;
    current = 7;
    elapsed = 0;
    remaining = 2;
    left = 1 ∷ 1 ∷ replicate 30 0;
    positions = replicate 8 0;
  };
  lent = F-first.lent;
}

both-refused : (advance_answer both).answer.number ≡ 18
unfolding computed
both-refused = refl

pub monitor-collides : Keep advance_rules both × Collides both
monitor-collides = (collision-exact both).0 both-refused

-- 19: an unknown instruction number, a word that is not used and not 0, and running off the end with the last instruction
abbrev unknown : Advance
unknown = running (6 ∷ 0 ∷ 0 ∷ [])

unknown-refused : (advance_answer unknown).answer.number ≡ 19
unfolding computed
unknown-refused = refl

pub F-unknown : Keep advance_rules unknown × Faults unknown
F-unknown = (faulty-exact unknown).0 unknown-refused

unused-refused : (advance_answer (running (4 ∷ 5 ∷ 0 ∷ 5 ∷ 0 ∷ 1 ∷ []))).answer.number ≡ 19
unfolding computed
unused-refused = refl

abbrev open-ended : Advance
open-ended = running (0 ∷ 0 ∷ 0 ∷ [])

open-ended-refused : (advance_answer open-ended).answer.number ≡ 19
unfolding computed
open-ended-refused = refl

pub F-open-ended : Keep advance_rules open-ended × Faults open-ended
F-open-ended = (faulty-exact open-ended).0 open-ended-refused

-- 19 before 16: a task that is not declared is released, and no time is in its range
abbrev undeclared : Advance
undeclared = running (1 ∷ 5 ∷ 0 ∷ [])

undeclared-refused : (advance_answer undeclared).answer.number ≡ 19
unfolding computed
undeclared-refused = refl

pub F-undeclared : Keep advance_rules undeclared × Faults undeclared
F-undeclared = (faulty-exact undeclared).0 undeclared-refused

-- 16 before 17: task 0 has time left, and is released with a bad time
abbrev slow-late : Advance
slow-late = record {
  tables = F-first.tables;
  code = 1 ∷ 0 ∷ 0 ∷ [];
  schedule = F-first.schedule;
  state = with_left F-fresh (1 ∷ replicate 31 0);
  lent = slow.lent;
}

slow-late-refused : (advance_answer slow-late).answer.number ≡ 16
unfolding computed
slow-late-refused = refl

pub F-slow-late : Keep advance_rules slow-late × TimeWrong slow-late
F-slow-late = (time-exact slow-late).0 slow-late-refused

-- 20: a jump to itself
abbrev circling : Advance
circling = running (3 ∷ 0 ∷ 0 ∷ [])

circling-refused : (advance_answer circling).answer.number ≡ 20
unfolding computed
circling-refused = refl

pub F-runs-on : Keep advance_rules circling × RunsOn circling
F-runs-on = (count-exact circling).0 circling-refused

-- 20 before 19: after both instructions the next one is a second `future`
abbrev again : Advance
again = running (4 ∷ 5 ∷ 0 ∷ 3 ∷ 0 ∷ 0 ∷ [])

again-refused : (advance_answer again).answer.number ≡ 20
unfolding computed
again-refused = refl

pub F-again : Keep advance_rules again × RunsOn again
F-again = (count-exact again).0 again-refused

-- 21, before anything runs: a pending address that is not inside the code; the state comes back as it was
abbrev lost : Advance
lost = from (record {
  ports = F-fresh.ports;
  outputs = F-fresh.outputs;
  time = 0;
  pending = 17;
  current = 0;
  elapsed = 0;
  remaining = 0;
  left = replicate 32 0;
  positions = replicate 8 0;
})

lost-refused : (advance_answer lost).answer.number ≡ 21
unfolding computed
lost-refused = refl

pub F-lost-kept : (advance_answer lost).state ≡ lost.state
F-lost-kept = (advance-exact lost).kept (λ e. omega (arith, e, lost-refused))

lost-placeless : (advance_answer lost).answer ≡ placeless 21
unfolding computed
lost-placeless = refl

pub F-lost : FirstAt advance_rules lost (placeless 21)
F-lost = ((advance-exact lost).judged (placeless 21) (listed-one advance_rules 21 refl)).0 lost-placeless
