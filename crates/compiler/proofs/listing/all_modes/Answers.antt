-- `compiler::listing::all_modes` meets its contract: after so many modes their blocks are written.
use Prim.Native.Nat.{ℕ, ◌<◌}
use mathlib.Core.Path.{sym, ap, subst, ◌∙◌}
use native.Mathlib.Omega.{arith}
use lib.IntN.{pos}
use Rattle.program.specs.Tables.{tables_in, mode_count}
use Rattle.layout.proofs.Limits.{few-sensors, mode-named}
use Rattle.layout.proofs.Laid.{mode-near}
use Rattle.words.specs.Written.{written, writes}
use Rattle.compiler.specs.Modes.{mode_in}
use Rattle.compiler.proofs.Grown.{grown-more}
use Rattle.compiler.proofs.Modes.{modes_at}
use Rattle.compiler.proofs.listing.all_modes.Goals as goal

pub one_mode-at-requires-clause-m_bound : goal.one_mode-at-requires-clause-m_bound
one_mode-at-requires-clause-m_bound c =
    let T = tables_in c.args.source.tables.now (pos 0) in
    let named = mode-named T (c.requires.sourced.in_shape (pos 0)) c.loop-k-test.true c.of.ensures in
    subst (λ (m : ℕ). m < mode_count T) (sym named) c.loop-k-test.true

pub one_mode-at-requires-clause-most_mode_bound : goal.one_mode-at-requires-clause-most_mode_bound
one_mode-at-requires-clause-most_mode_bound c =
    let T = tables_in c.args.source.tables.now (pos 0) in
    let e = c.requires.sourced.in_shape (pos 0) in
    let l = c.loop-k in
    omega (arith, mode-near T _ e (few-sensors T e) l.k c.loop-k-test.true (modes_at T c.args.source.entries.now (l.invariant (pos 0))))

pub loop-k-preserved : goal.loop-k-preserved
loop-k-preserved c start =
    let a = c.args in
    let T = tables_in a.source.tables.now start in
    let l = c.loop-k in
    let named = mode-named T (c.requires.sourced.in_shape start) c.loop-k-test.true c.of.ensures in
    grown-more (l.invariant start) c.loop-k-test.true
    (c.one_mode-at.ensures start
    ∙ ap (λ (m : ℕ). writes (mode_in T a.source.entries.now m l.at) (written l.code l.at)) named
    ∙ ap (λ (at : ℕ). writes (mode_in T a.source.entries.now l.k at) (written l.code l.at)) (modes_at T a.source.entries.now (l.invariant start)))
