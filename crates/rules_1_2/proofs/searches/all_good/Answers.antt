-- `rules_1_2::searches::all_good` meets its contract: the search asks the test of each row, and what it found is told.
use mathlib.Core.Path.{ap, ◌∙◌}
use native.Mathlib.Omega.{arith}
use lib.IntN.{pos}
use Rattle.theory.specs.Search.{lowest_passing}
use Rattle.theory.specs.Rows.{testing}
use Rattle.cells.specs.declared.refusals.Refusal.TheVariants.{Fields}
use Rattle.answers.proofs.Told.{told-rows}
use Rattle.program.specs.Tables.{tables_in, rows_at}
use Rattle.rules_1_2.proofs.searches.all_good.Goals as goal

pub first-row-requires : goal.first-row-requires
first-row-requires g c = λ k l. c.requires (pos 0) k (omega (arith, l, c.count.ensures (pos 0)))

pub returns : goal.returns
returns g c start p t =
    let n = rows_at (tables_in c.args.tables.now start) c.args.table in
    let found = c.first-row.ensures.row p (λ k l b r. t k (omega (arith, l, c.count.ensures start)) b r) in
    c.refused_at.ensures ∙ told-rows Fields (testing c.args.table n p) (found ∙ ap (lowest_passing p) (c.count.ensures start))
