-- The numbers of the kinds that document 01's tables name: of a port, a guard, a schedule row.
use Rattle.std.specs.Prelude.{ℕ}
use Rattle.cells.specs.declared.codes.PortKind.{PortKind}
use Rattle.cells.specs.declared.codes.PortKind.TheVariants.{Sensor, Actuator, Input, Output, Private}
use Rattle.cells.specs.declared.codes.GuardKind.{GuardKind}
use Rattle.cells.specs.declared.codes.GuardKind.TheVariants.{Always, Interval}
use Rattle.cells.specs.declared.codes.RowKind.{RowKind}
use Rattle.cells.specs.declared.codes.RowKind.TheVariants.{Dispatch, Idle}

abbrev pub port_kind_number : PortKind → ℕ
port_kind_number Sensor = 0
port_kind_number Actuator = 1
port_kind_number Input = 2
port_kind_number Output = 3
port_kind_number Private = 4

abbrev pub guard_kind_number : GuardKind → ℕ
guard_kind_number Always = 0
guard_kind_number Interval = 1

abbrev pub row_kind_number : RowKind → ℕ
row_kind_number Dispatch = 0
row_kind_number Idle = 1
