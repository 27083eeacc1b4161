-- `compiler::accepted::listed` meets its contract: number 11 is told by the listing's length, and what is written is the listing.
use mathlib.Core.Path.{◌≡◌, sym, ap, ◌∙◌}
use native.Mathlib.Omega.{arith}
use lib.IntN.{pos}
use lib.ListN.{length}
use borrow.Author.Rules.{rules}
use Rattle.theory.specs.Rows.{at_row}
use Rattle.cells.specs.Limits.{max_modes}
use Rattle.cells.specs.Refusals.{number_of}
use Rattle.answers.specs.declared.Refused.{Refused}
use Rattle.program.specs.Tables.{tables_in}
use Rattle.program.proofs.Decoded.{sensors-rows}
use Rattle.layout.proofs.Limits.{told-most, few-ports, few-modes, few-sensors}
use Rattle.compiler.specs.Listed.{compiling, refused}
use Rattle.compiler.proofs.Outcomes.{listed-refused, long-told, zeros-small, all-written}
use Rattle.compiler.proofs.accepted.listed.Goals as goal

pub sensors-sensors-requires : goal.sensors-sensors-requires
sensors-sensors-requires c = few-ports (tables_in c.args.tables.now (pos 0)) (c.requires.in_shape (pos 0))

pub lay_out-n-requires-clause-sensors_le_max_ports : goal.lay_out-n-requires-clause-sensors_le_max_ports
lay_out-n-requires-clause-sensors_le_max_ports c =
    told-most c.sensors-sensors.ensures (few-sensors (tables_in c.args.tables.now (pos 0)) (c.requires.in_shape (pos 0)))

pub returns-then-n-code : goal.returns-then-n-code
returns-then-n-code c start q a =
    let T = tables_in c.args.tables.now start in
    let L = compiling T c.args.code.now in
    let n = c.lay_out-n in
    let laid = n.ensures.laid start (c.sensors-sensors.ensures ∙ sym (ap length (sensors-rows T))) in
    ap (λ (r : Refused). refused L (at_row (number_of r.refusal) r.outer r.inner)) c.from.ensures
    ∙ listed-refused L (sym (long-told L n.result laid.length) ∙ c.if-n-code.true)

pub all-requires-clause-sourced : goal.all-requires-clause-sourced
all-requires-clause-sourced c =
    record {
      in_shape = c.requires.in_shape;
      addresses = λ m. omega (arith, c.lay_out-n.ensures.small.1 (zeros-small max_modes) m);
      sensors = c.sensors-sensors.ensures;
    }

pub all-requires-clause-addresses : goal.all-requires-clause-addresses
all-requires-clause-addresses c m = omega (arith, c.lay_out-n.ensures.small.0 (zeros-small max_modes) m)

pub returns : goal.returns
returns c start q a =
    let T = tables_in c.args.tables.now start in
    let few = few-modes T (c.requires.in_shape start) in
    let n = c.lay_out-n in
    let laid = n.ensures.laid start (c.sensors-sensors.ensures ∙ sym (ap length (sensors-rows T))) in
    let starts : length n.new.starts ≡ max_modes = search rules in
    let entries : length n.new.entries ≡ max_modes = search rules in
    all-written T a laid (omega (arith, few, starts)) (omega (arith, few, entries)) q c.args.code.now _ _ (c.all.ensures start) c.if-n-code.false
