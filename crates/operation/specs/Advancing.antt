-- What an advance is lent, in the order of its parameters, and what is answered before anything runs.
use Rattle.std.specs.Prelude.{ℕ, List, ℤ}
use Rattle.theory.specs.Verdict.{first_refusal}
use Rattle.theory.specs.declared.Answer.{Answer}
use Rattle.program.specs.Tables.{Tables}
use Rattle.machine.specs.Advance.{Lent, Advance, advance_refusals}
use Rattle.machine.specs.declared.State.{State}

-- what is lent to a tick: readings and results by port, times by task
abbrev pub lent_of : List ℤ → List ℤ → List ℤ → Lent
lent_of readings results times = record { readings = readings; results = results; times = times }

-- what is lent to an advance: tables, E code, joined schedule and state too
abbrev pub advancing : Tables → List ℕ → List ℤ → State → Lent → Advance
advancing T code schedule s X = record { tables = T; code = code; schedule = schedule; state = s; lent = X }

-- the answer of an advance before anything runs: the first of numbers 1 to 11, 24, 13 and 21 that applies, with its place
unfoldable pub judged_answer : Advance → Answer
judged_answer L = first_refusal advance_refusals L
