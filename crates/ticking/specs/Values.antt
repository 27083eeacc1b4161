-- Port values row by row: what one row of the copies or of the task ports puts among them.
use Rattle.std.specs.Prelude.{ℕ, Bool, true, false, ◌&&◌, List, ℤ, ◌==◌, slice_set}
use Rattle.theory.specs.Lists.{Put, puts}
use Rattle.program.specs.Tables.{Tables, task_port_task, task_port_port, copy_source, copy_destination}
use Rattle.program.specs.Sets.{may_give}
use Rattle.program.specs.Program.{driver_row}
use Rattle.program.specs.Ports.{value_of, copy_puts}

-- the values after a row's assignment, which is made if the row is one of those asked for
abbrev pub put_row : Bool → Put → List ℤ → List ℤ
put_row b a v = elim b [ true ↦ slice_set v a.place a.value | false ↦ v ]

-- row c of the copies assigns what its source has among the old values to its destination
abbrev pub copy_put : Tables → List ℤ → ℕ → Put
copy_put T old c = record { place = copy_destination T c; value = value_of old (copy_source T c) }

-- the values after a driver whose guard holds
abbrev pub copied : Tables → ℕ → List ℤ → List ℤ
copied T d v = puts (copy_puts v (driver_row T d)) v

-- row k of the task ports is a port that task t gives
unfoldable pub gives_row : Tables → ℕ → ℕ → Bool
gives_row T t k = task_port_task T k == t && may_give T (task_port_port T k)

-- row k of the task ports assigns what its port has among the given values to that port
abbrev pub gives_put : Tables → List ℤ → ℕ → Put
gives_put T given k = record { place = task_port_port T k; value = value_of given (task_port_port T k) }
