-- What is asked of the tables, the entries and the number of sensors from which a listing is written.
use Rattle.std.specs.Prelude.{◌≡◌, length}
use Rattle.program.specs.Tables.{table_at, ports_at}
use Rattle.program.specs.Sets.{sensor_rows}
use Rattle.rules.specs.Shape.{InShape}
use Rattle.writing.specs.Switches.{Addresses}
use Rattle.compiler.specs.declared.rounds.Source.{Source}

-- number 1 passes the tables, each entry fits a word, and the sensors are those that the tables declare
pub record Sourced (source : Source) : Type 0 where
  pub in_shape : InShape source.tables.now
  pub addresses : Addresses source.entries.now
  pub sensors : source.sensors ≡ length (sensor_rows (table_at source.tables.now ports_at) (λ p. p))
