-- `rounds::every_mode::answer` meets its contract: what is left of the modes answers for all, and the walk has come to the next.
use Prim.Native.Nat.{ℕ, ◌+◌, ◌<◌}
use mathlib.Core.Path.{◌≡◌, refl, sym, ap, subst, subst₂, ◌∙◌}
use native.Mathlib.Nat.{add_assoc}
use native.Mathlib.Numerals.{add-one}
use native.Mathlib.Omega.{arith}
use borrow.Author.Rules.{rules}
use lib.IntN.{ℤ, pos}
use Rattle.std.specs.Prelude.{List, Result, Err}
use Rattle.std.proofs.lemmas.Result.{err_from_is_err_and}
use Rattle.theory.specs.Lists.{sum}
use Rattle.answers.specs.Answers.{answer_of}
use Rattle.program.specs.Tables.{Tables, tables_in, mode_count}
use Rattle.program.specs.Units.{units}
use Rattle.layout.specs.Layout.{unit_counts, size_in, start_in}
use Rattle.layout.proofs.Limits.{mode-named}
use Rattle.layout.proofs.Laid.{mode-near}
use Rattle.runs.specs.Round.{Break}
use Rattle.runs.proofs.Blocks.{behind-none}
use Rattle.suppliers.specs.Supplier.{answer_of as on_mode}
use Rattle.rounds.specs.declared.round.Reached.{Reached}
use Rattle.rounds.specs.declared.units.Broken.{Broken}
use Rattle.rounds.specs.Course.{row_before, Come}
use Rattle.rounds.specs.Breaks.{rounded}
use Rattle.rounds.proofs.Stops.{err_mapped, map_err-mapped}
use Rattle.rounds.proofs.Going.{come-walk, refused_in, round-accepted, round-refused}
use Rattle.rounds.proofs.Answers.{answering-none, answering-more, answering-found, answering-all}
use Rattle.rounds.proofs.every_mode.answer.Invariants.{break_at}
use Rattle.rounds.proofs.every_mode.answer.Goals as goal

-- what the round of mode m comes to, whose first block the walk has come to
abbrev round_of : Tables → List ℤ → List ℤ → ℕ → ℕ → ℕ → Reached → Result Reached Broken
round_of T windows part supplier sensors m begin =
    rounded (break_at T windows part supplier sensors m begin.at) (begin.at + size_in T sensors m)
    (row_before part supplier (unit_counts T sensors m) begin.at begin.row (units T m))

-- the next mode begins where this one ends
start-next : (T : Tables) (sensors m : ℕ) {n at end : ℕ} → n ≡ m → end ≡ at + size_in T sensors n → at ≡ start_in T sensors m
    → end ≡ start_in T sensors (m + 1)
start-next T sensors m d e h =
    e ∙ (λ j. h j + size_in T sensors (d j))
    ∙ add_assoc 1 (sum (size_in T sensors) m) (size_in T sensors m)
    ∙ ap (start_in T sensors) (sym (add-one m))

pub loop-k-init : goal.loop-k-init
loop-k-init c =
    let a = c.args in
    (record { within = omega arith; behind = behind-none a.part.now a.supplier 1 }, λ start. (refl, answering-none _ _))

pub one_mode-requires : goal.one_mode-requires
one_mode-requires c =
    let l = c.loop-k in
    let T = tables_in c.args.tables.now (pos 0) in
    let r = c.requires in
    let named = mode-named T (r.in_shape (pos 0)) c.loop-k-test.true c.of.ensures in
    record {
      in_shape = r.in_shape;
      sensors_le_max_ports = r.sensors_le_max_ports;
      periods = r.periods;
      m_bound = subst (λ (m : ℕ). m < mode_count T) (sym named) c.loop-k-test.true;
      most_mode_bound = mode-near T c.args.sensors (r.in_shape (pos 0)) r.sensors_le_max_ports l.k c.loop-k-test.true (l.invariant.1 (pos 0)).0;
      sorted = r.sorted;
      come = l.invariant.0;
    }

pub returns-in_err-reached : goal.returns-in_err-reached
returns-in_err-reached c start =
    let a = c.args in
    let l = c.loop-k in
    let T = tables_in a.tables.now start in
    let w = l.invariant.1 start in
    let p = err_from_is_err_and c.from_residual.result c.from_residual.ensures.1 in
    let named = mode-named T (c.requires.in_shape start) c.loop-k-test.true c.of.ensures in
    let break : ℕ → ℕ → Break = break_at T a.windows.now a.part.now a.supplier a.sensors in
    let m = map_err-mapped (refused_in l.k) _ c.map_err.ensures.cases (λ b q. search rules) in
    let told = round-refused _ _ _ l.k (sym c.in_err-reached.was ∙ m ∙ ap (err_mapped (refused_in l.k)) {y = round_of T a.windows.now a.part.now a.supplier a.sensors c.of.result.0 l.reached} (c.one_mode.ensures start)) in
    let is : break c.of.result.0 l.reached.at ≡ break l.k (start_in T a.sensors l.k) = λ j. break (named j) (w.0 j) in
    ap answer_of (p.1 ∙ ap Err p.2)
    ∙ told.1
    ∙ ap (on_mode l.k) is
    ∙ answering-found _ _ l.k c.loop-k-test.true w.1 (λ z. told.0 (is ∙ z))

pub loop-k-preserved : goal.loop-k-preserved
loop-k-preserved c =
    let a = c.args in
    let l = c.loop-k in
    let m = map_err-mapped (refused_in l.k) _ c.map_err.ensures.cases (λ b q. search rules) in
    let went = λ (start : ℤ).
    let T = tables_in a.tables.now start in
    round-accepted _ _ _ l.k
    (sym c.in_ok-reached.was ∙ m ∙ ap (err_mapped (refused_in l.k)) {y = round_of T a.windows.now a.part.now a.supplier a.sensors c.of.result.0 l.reached} (c.one_mode.ensures start)) in
    let T = tables_in a.tables.now (pos 0) in (
      subst₂ (Come a.part.now a.supplier) (sym (went (pos 0)).1) (sym (went (pos 0)).2)
          (come-walk a.part.now a.supplier (unit_counts T a.sensors c.of.result.0) l.reached.at l.reached.row l.invariant.0 (units T c.of.result.0)),
      λ start.
          let T = tables_in a.tables.now start in
          let w = l.invariant.1 start in
          let named = mode-named T (c.requires.in_shape start) c.loop-k-test.true c.of.ensures in
          let break : ℕ → ℕ → Break = break_at T a.windows.now a.part.now a.supplier a.sensors in
          let is : break c.of.result.0 l.reached.at ≡ break l.k (start_in T a.sensors l.k) = λ j. break (named j) (w.0 j) in (
            start-next T a.sensors l.k named (went start).1 w.0,
            answering-more _ _ l.k c.loop-k-test.true w.1 (sym is ∙ (went start).0),
          ),
    )

pub returns : goal.returns
returns c start = answering-all _ _ c.loop-k.k c.loop-k-test.false (c.loop-k.invariant.1 start).1
