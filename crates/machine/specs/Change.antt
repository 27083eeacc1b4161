-- The state with one of its fields changed.
use Rattle.std.specs.Prelude.{ℕ, List, ℤ}
use Rattle.machine.specs.declared.State.{State}

abbrev pub with_ports : State → List ℤ → State
with_ports s v = record {
  ports = v;
  outputs = s.outputs;
  time = s.time;
  pending = s.pending;
  current = s.current;
  elapsed = s.elapsed;
  remaining = s.remaining;
  left = s.left;
  positions = s.positions;
}

abbrev pub with_left : State → List ℕ → State
with_left s r = record {
  ports = s.ports;
  outputs = s.outputs;
  time = s.time;
  pending = s.pending;
  current = s.current;
  elapsed = s.elapsed;
  remaining = s.remaining;
  left = r;
  positions = s.positions;
}
