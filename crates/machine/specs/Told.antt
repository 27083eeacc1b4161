-- What the code hands on of an instant, a tick or a step: the state after it, or the refusal that stops it. In numbers.
use Rattle.std.specs.Prelude.{Result, Ok, Err}
use Rattle.theory.specs.Verdict.{accepted_number}
use Rattle.cells.specs.declared.refusals.Refusal.{Refusal}
use Rattle.cells.specs.Refusals.{number_of}
use Rattle.machine.specs.declared.State.{State}
use Rattle.machine.specs.Advance.{Advanced}

-- of the state s, which stays where it is refused
abbrev pub advanced_of : State → Result State Refusal → Advanced
advanced_of s (Ok u) = record { number = accepted_number; state = u }
advanced_of s (Err r) = record { number = number_of r; state = s }
