-- `instants::calls::sensor_call` meets its contract: a number is that of a sensor exactly where its name is.
use mathlib.Core.Path.{sym, ◌∙◌}
use Rattle.instants.proofs.Answered.{sensor-nothing, sensor-done}
use Rattle.instants.proofs.calls.sensor_call.Goals as goal

pub returns-then-not-is_kind : goal.returns-then-not-is_kind
returns-then-not-is_kind c T e times =
    sensor-nothing T _ times c.args.s _ _ e c.requires c.of-own.ensures (sym (c.is_kind.ensures T e) ∙ c.if-not-is_kind.true)

pub returns : goal.returns
returns c T e times =
    sensor-done T _ times c.args.s _ _ e c.requires c.of-own.ensures _
    (sym (c.is_kind.ensures T e) ∙ c.if-not-is_kind.false) c.reading_taken-values.ensures
