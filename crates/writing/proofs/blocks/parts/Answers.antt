-- `writing::blocks::parts` meets its contract: each part stands behind the one before, where the counts say.
use native.Mathlib.Omega.{arith}
use lib.IntN.{pos}
use Rattle.program.specs.Tables.{tables_in}
use Rattle.layout.proofs.Limits.{few-rows, few-ports}
use Rattle.words.specs.Written.{written}
use Rattle.writing.proofs.Parts.{tests-at, entry-at, future-at, stubs-at, parts-written, sized}
use Rattle.writing.proofs.blocks.parts.Goals as goal

pub head-tests_at-requires-clause-ports_bound : goal.head-tests_at-requires-clause-ports_bound
head-tests_at-requires-clause-ports_bound c = few-ports (tables_in c.args.tables.now (pos 0)) (c.requires.in_shape (pos 0))

pub head-tests_at-requires-clause-invocations_bound : goal.head-tests_at-requires-clause-invocations_bound
head-tests_at-requires-clause-invocations_bound c =
    (few-rows (tables_in c.args.tables.now (pos 0)) (c.requires.in_shape (pos 0))).invocations

pub head-tests_at-requires-clause-updates_bound : goal.head-tests_at-requires-clause-updates_bound
head-tests_at-requires-clause-updates_bound c =
    (few-rows (tables_in c.args.tables.now (pos 0)) (c.requires.in_shape (pos 0))).updates

pub tests-body_at-requires-clause-switches_bound : goal.tests-body_at-requires-clause-switches_bound
tests-body_at-requires-clause-switches_bound c =
    let a = c.args in
    let T = tables_in a.tables.now (pos 0) in
    let e = c.requires.in_shape (pos 0) in
    let h = c.head-tests_at in
    omega (
      arith,
      tests-at T a.when (written a.code.now a.at) (written h.new.code h.result) h.ensures,
      sized T a.when e,
      few-rows T e,
      c.requires.most_block_bound,
    )

pub tests-body_at-requires-clause-switches_bound_2 : goal.tests-body_at-requires-clause-switches_bound_2
tests-body_at-requires-clause-switches_bound_2 c =
    omega (arith, few-rows (tables_in c.args.tables.now (pos 0)) (c.requires.in_shape (pos 0)), c.requires.aimed)

pub body-end_at-requires-clause-max_invocations_bound : goal.body-end_at-requires-clause-max_invocations_bound
body-end_at-requires-clause-max_invocations_bound c =
    let a = c.args in
    let T = tables_in a.tables.now (pos 0) in
    let h = c.head-tests_at in
    let t = c.tests-body_at in
    omega (
      arith,
      entry-at T a.when (written a.code.now a.at) (written h.new.code h.result) h.ensures a.aim (written t.new.code t.result) t.ensures,
      sized T a.when (c.requires.in_shape (pos 0)),
      c.requires.most_block_bound,
    )

pub body-end_at-requires-clause-invocations_bound : goal.body-end_at-requires-clause-invocations_bound
body-end_at-requires-clause-invocations_bound c =
    (few-rows (tables_in c.args.tables.now (pos 0)) (c.requires.in_shape (pos 0))).invocations

pub end-stubs_at-requires-clause-at_lt_greatest_word : goal.end-stubs_at-requires-clause-at_lt_greatest_word
end-stubs_at-requires-clause-at_lt_greatest_word c =
    let a = c.args in
    let T = tables_in a.tables.now (pos 0) in
    let h = c.head-tests_at in
    let t = c.tests-body_at in
    let b = c.body-end_at in
    omega (
      arith,
      future-at T a.when (written a.code.now a.at) (written h.new.code h.result) h.ensures a.aim (written t.new.code t.result) t.ensures
          (written b.new.code b.result) b.ensures,
      sized T a.when (c.requires.in_shape (pos 0)),
      c.requires.most_block_bound,
    )

pub stubs-requires-clause-switches_bound : goal.stubs-requires-clause-switches_bound
stubs-requires-clause-switches_bound c =
    let a = c.args in
    let T = tables_in a.tables.now (pos 0) in
    let shape = c.requires.in_shape (pos 0) in
    let h = c.head-tests_at in
    let t = c.tests-body_at in
    let b = c.body-end_at in
    let e = c.end-stubs_at in
    omega (
      arith,
      stubs-at T a.when (written a.code.now a.at) (written h.new.code h.result) h.ensures a.aim (written t.new.code t.result) t.ensures
          (written b.new.code b.result) b.ensures (written e.new.code e.result) e.ensures,
      sized T a.when shape,
      few-rows T shape,
      c.requires.most_block_bound,
    )

pub returns : goal.returns
returns c start =
    let a = c.args in
    let T = tables_in a.tables.now start in
    let h = c.head-tests_at in
    let t = c.tests-body_at in
    let b = c.body-end_at in
    let e = c.end-stubs_at in
    let s = c.stubs in
    parts-written T a.when (written a.code.now a.at) (written h.new.code h.result) h.ensures a.aim (written t.new.code t.result) t.ensures
    (written b.new.code b.result) b.ensures (written e.new.code e.result) e.ensures a.entries.now (written s.new.code s.result) s.ensures
