-- The two calls of the machine: a fresh state, and an advance of one tick. "A refusal returns its number, and the state is as
-- before".
use Rattle.std.specs.Prelude.{ℕ, zero, suc, ◌/◌, ◌≤◌, ◌<◌, ◌≡◌, Bool, ◌||◌, List, [], ◌∷◌, ltb, leb, ℤ, pos, length, get_or, replicate}
use Rattle.theory.specs.Search.{any}
use Rattle.theory.specs.Rows.{placeless}
use Rattle.theory.specs.Verdict.{accepted_number, Refusal, unplaced, verdict, first_refusal, Rule, unplaced_rule}
use Rattle.cells.specs.Limits.{suppliers, max_ports, max_tasks, max_schedule, max_code, words_each, max_elapsed, max_remaining, max_left}
use Rattle.cells.specs.Refusals.{schedule_refused, state_refused}
use Rattle.program.specs.Tables.{Tables}
use Rattle.program.specs.Program.{Program, program_of}
use Rattle.rules.specs.Shape.{bad_slice, bad_length, shape_bad, WholeRows, Shaped}
use Rattle.rules.specs.Verdict.{program_verdict, program_answer}
use Rattle.runs.specs.Tick.{left_of}
use Rattle.runs.specs.Schedule.{schedule_width, schedule_count}
use Rattle.code.specs.Op.{Op, instructions}
use Rattle.code.specs.Compile.{call_refusals, call_rules}
use Rattle.suppliers.specs.Schedule.{joined_tests, joined_bad, Joined, joined_row_rules}
use Rattle.machine.specs.declared.State.{State}
use Rattle.machine.specs.declared.Handed.{Handed}
use Rattle.machine.specs.Instant.{Outcome, ok, stop, run_instant}
use Rattle.machine.specs.Schedules.{tick_all}

abbrev pub state_of : List ℤ → State
state_of v = record {
  ports = v;
  outputs = v;
  time = 0;
  pending = 0;
  current = 0;
  elapsed = 0;
  remaining = 0;
  left = replicate max_tasks 0;
  positions = replicate suppliers 0;
}

-- "a fresh state has the ports' first values in the first two and 0 elsewhere"; refused, it is all 0
unfoldable pub fresh_answer : Tables → Handed
fresh_answer T = elim (program_verdict T) [
  | zero ↦ record { answer = placeless accepted_number; state = state_of (program_of T).first }
  | suc n ↦ record { answer = program_answer T; state = state_of (replicate max_ports (pos 0)) }
]

-- what is lent to a tick: by port readings and results, by task times
pub record Lent : Type 0 where
  pub readings : List ℤ
  pub results : List ℤ
  pub times : List ℤ

-- what an advance is lent: tables, E code, joined schedule, state, and what is lent to its tick
pub record Advance : Type 0 where
  pub tables : Tables
  pub code : List ℕ
  pub schedule : List ℤ
  pub state : State
  pub lent : Lent

unfoldable pub advance_shape_bad : Advance → Bool
advance_shape_bad L =
    shape_bad L.tables
    || bad_slice words_each max_code L.code
    || bad_slice schedule_width max_schedule L.schedule
    || bad_length max_ports L.lent.readings
    || bad_length max_ports L.lent.results
    || bad_length max_tasks L.lent.times

pub record AdvanceShaped (L : Advance) : Type 0 where
  pub tables : Shaped L.tables
  pub code : WholeRows words_each max_code L.code
  pub schedule : WholeRows schedule_width max_schedule L.schedule
  pub readings : length L.lent.readings ≡ max_ports
  pub results : length L.lent.results ≡ max_ports
  pub times : length L.lent.times ≡ max_tasks

-- 21: an address is not inside the E code, elapsed, remaining or a task's remaining time exceeds 4,096, or a position exceeds
-- the schedule's rows; where there are so many instructions and rows
unfoldable pub state_out : ℕ → ℕ → State → Bool
state_out instructions rows s =
    (leb instructions s.pending || leb instructions s.current)
    || (ltb max_elapsed s.elapsed || ltb max_remaining s.remaining)
    || any (λ t. ltb max_left (left_of s.left t)) max_tasks
    || any (λ j. ltb rows (get_or s.positions j 0)) suppliers

abbrev pub state_bad : Advance → Bool
state_bad L = state_out (length L.code / words_each) (schedule_count L.schedule) L.state

pub record StateFits (L : Advance) : Type 0 where
  pub pending : L.state.pending < length L.code / words_each
  pub current : L.state.current < length L.code / words_each
  pub elapsed : L.state.elapsed ≤ max_elapsed
  pub remaining : L.state.remaining ≤ max_remaining
  pub left : (t : ℕ) → t < max_tasks → left_of L.state.left t ≤ max_left
  pub positions : (j : ℕ) → j < suppliers → get_or L.state.positions j 0 ≤ schedule_count L.schedule

-- the refusal of number 13, of the joined schedule
abbrev pub joined_refusal : Refusal Advance
joined_refusal = record {
  number = schedule_refused;
  applies = λ L. joined_bad L.tables L.schedule;
  rows = λ L. joined_tests L.tables L.schedule;
}

-- the static verdict of an advance: numbers 1 to 11, 24, 13 and 21
abbrev pub run_refusals : List (Refusal Advance)
run_refusals =
    joined_refusal ∷ unplaced state_refused state_bad
    ∷ []

abbrev pub advance_refusals : List (Refusal Advance)
advance_refusals = call_refusals (λ L. L.tables) advance_shape_bad run_refusals

unfoldable pub advance_verdict : Advance → ℕ
advance_verdict L = verdict advance_refusals L

-- rule 13, of the joined schedule
abbrev pub joined_rule : Rule Advance
joined_rule = record {
  number = schedule_refused;
  holds = λ L. Joined L.tables L.schedule;
  rows = λ L. joined_row_rules L.tables L.schedule;
}

abbrev pub run_rules : List (Rule Advance)
run_rules =
    joined_rule ∷ unplaced_rule state_refused StateFits
    ∷ []

abbrev pub advance_rules : List (Rule Advance)
advance_rules = call_rules (λ L. L.tables) AdvanceShaped run_rules

-- the step of an advance: E code if no tick of the unit remains, then one tick of the schedules
abbrev pub ready : Program → List Op → List ℤ → List ℤ → State → Outcome
ready P code readings times s = elim s.remaining [ zero ↦ run_instant P readings times code s | suc n ↦ ok s ]

abbrev pub step : Program → List Op → List ℤ → Lent → State → Outcome
step P code S X s = elim (ready P code X.readings X.times s) [ ok u ↦ tick_all P S X.results u | stop n ↦ stop n ]

-- what an instant, a tick or a step of the state s comes to, in numbers: 0 and the state after it, or its number and s as it was
pub record Advanced : Type 0 where
  pub number : ℕ
  pub state : State

abbrev pub answer : State → Outcome → Advanced
answer s (ok u) = record { number = accepted_number; state = u }
answer s (stop n) = record { number = n; state = s }

-- what an advance hands back whose step came to this: 16 to 20 have no place
abbrev pub handed : Advanced → Handed
handed a = record { answer = placeless a.number; state = a.state }

unfoldable pub advance_answer : Advance → Handed
advance_answer L = elim (advance_verdict L) [
  | zero ↦ handed (answer L.state (step (program_of L.tables) (instructions L.code) L.schedule L.lent L.state))
  | suc n ↦ record { answer = first_refusal advance_refusals L; state = L.state }
]
