-- `layout::counts::unit_size` meets its contract: of few rows few are due.
use Rattle.layout.proofs.Limits.{told-sized}
use Rattle.layout.proofs.counts.unit_size.Goals as goal

pub block_size-requires : goal.block_size-requires
block_size-requires c =
    told-sized _ _ _ _ _ _ c.requires.few c.requires.sensors_le_max_ports c.args.when.unit c.count.ensures
