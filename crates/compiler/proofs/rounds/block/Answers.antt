-- `compiler::rounds::block` meets its contract: its numbers are those that the counts say.
use mathlib.Core.Path.{sym, ap, subst, ◌∙◌}
use lib.IntN.{pos}
use Rattle.program.specs.Tables.{tables_in}
use Rattle.layout.specs.Few.{Sized}
use Rattle.words.specs.Written.{written, writes}
use Rattle.writing.specs.declared.blocks.Aim.{Aim}
use Rattle.writing.specs.Block.{Aimed, parts_in, counts_at}
use Rattle.writing.proofs.Parts.{sized}
use Rattle.compiler.specs.Rounds.{unit_of, aim_in}
use Rattle.compiler.proofs.Aims.{counted_at, aimed}
use Rattle.compiler.proofs.rounds.block.Goals as goal

pub aims-aim-requires-clause-sized : goal.aims-aim-requires-clause-sized
aims-aim-requires-clause-sized c =
    let T = tables_in c.args.source.tables.now (pos 0) in
    let w = unit_of c.args.round c.args.unit in
    subst Sized (sym (counted_at T w c.count-due.ensures c.requires.sourced.sensors)) (sized T w (c.requires.sourced.in_shape (pos 0)))

pub parts-requires-clause-aimed : goal.parts-requires-clause-aimed
parts-requires-clause-aimed c =
    let a = c.args in
    let r = c.requires in
    let T = tables_in a.source.tables.now (pos 0) in
    let w = unit_of a.round a.unit in
    let told = c.aims-aim.ensures ∙ ap (aim_in a.round a.unit a.at) (counted_at T w c.count-due.ensures r.sourced.sensors) in
    subst Aimed (sym told)
    (aimed a.round a.unit a.at (counts_at T w) r.ticks_le_greatest_word r.first_le_greatest_word r.most_block_bound (sized T w (r.sourced.in_shape (pos 0))))

pub returns : goal.returns
returns c start =
    let a = c.args in
    let T = tables_in a.source.tables.now start in
    let w = unit_of a.round a.unit in
    let told = c.aims-aim.ensures ∙ ap (aim_in a.round a.unit a.at) (counted_at T w c.count-due.ensures c.requires.sourced.sensors) in
    c.parts.ensures start ∙ ap (λ (aim : Aim). writes (parts_in T a.source.entries.now w aim) (written a.code.now a.at)) told
