-- What one unit of a run comes to: its break, with number and tick, or the remaining times after it; and what a round comes to.
use Rattle.std.specs.Prelude.{ℕ, suc, ◌*◌, true, false, List, Result, Ok, Err}
use Rattle.cells.specs.declared.refusals.Refusal.TheVariants.{Outside, Late}
use Rattle.runs.specs.Round.{Course, unit_start, worst_case, Break, none, outside, late, ended, left_at, watched, unfinished}
use Rattle.rounds.specs.declared.round.Reached.{Reached}
use Rattle.rounds.specs.declared.units.Broken.{Broken}

-- a break outside the windows, and at a termination, as the code hands them on
abbrev pub outside_at : ℕ → Broken
outside_at t = record { refusal = Outside; tick = t }

abbrev pub late_at : ℕ → Broken
late_at t = record { refusal = Late; tick = t }

-- what unit k of a course comes to with all worst-case times, from these remaining times: 15 is found before 14 at one tick
unfoldable pub unit_end : Course → ℕ → List ℕ → Result (List ℕ) Broken
unit_end C k left = elim (watched C.window (C.block k) C.ticks 0 (k * C.ticks) (unit_start C (worst_case C) k left)) [
  | left_at t ↦ Err (outside_at t)
  | ended r ↦ elim (unfinished (C.ending k) r) [ true ↦ Err (late_at (suc k * C.ticks)) | false ↦ Ok r ]
]

-- what a round comes to: its first break; or where it does not break, this address and this row of the schedule
unfoldable pub rounded : Break → ℕ → ℕ → Result Reached Broken
rounded none at row = Ok (record { at = at; row = row })
rounded (outside t) at row = Err (outside_at t)
rounded (late t) at row = Err (late_at t)
