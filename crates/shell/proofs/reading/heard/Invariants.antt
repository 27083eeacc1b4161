-- `shell::reading::heard` meets its contract: in each turn what some reads have come to, and the program reads on.
use mathlib.Core.Bool.{true}
use Rattle.intake.specs.Line.{fed}
use Rattle.shell.specs.Reading.{hearing, AfterSome}
use Rattle.shell.proofs.reading.heard.Given as goal

abbrev pub invariant-loop : goal.invariant-loop
invariant-loop g l = AfterSome l.initial.room (hearing (fed l.intake l.room) true)
