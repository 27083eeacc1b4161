-- `verdict_2_11::code_long` meets its contract: the last mode ends where the listing does.
use Prim.Native.Nat.{ℕ}
use mathlib.Core.Path.{sym, ap, ◌∙◌}
use lib.Dec.{ltb}
use lib.IntN.{pos}
use lib.ListN.{length}
use Rattle.cells.specs.Limits.{max_code}
use Rattle.program.specs.Tables.{tables_in}
use Rattle.program.proofs.Decoded.{sensors-rows}
use Rattle.code.specs.Compile.{code_long}
use Rattle.layout.proofs.Limits.{told-most, few-ports, few-sensors}
use Rattle.verdict_2_11.proofs.code_long.Goals as goal

pub sensors-sensors-requires : goal.sensors-sensors-requires
sensors-sensors-requires c = few-ports (tables_in c.args.tables.now (pos 0)) (c.requires (pos 0))

pub lay_out-requires : goal.lay_out-requires
lay_out-requires c =
    let n = c.sensors-sensors in
    record { in_shape = c.requires; sensors_le_max_ports = told-most n.ensures (few-sensors (tables_in c.args.tables.now (pos 0)) (c.requires (pos 0))) }

pub returns : goal.returns
unfolding code_long
returns c start =
    let T = tables_in c.args.tables.now start in
    let own = c.sensors-sensors.ensures ∙ ap length (sym (sensors-rows T)) in
    ap (λ (n : ℕ). ltb max_code n) (c.lay_out.ensures.laid start own).length
