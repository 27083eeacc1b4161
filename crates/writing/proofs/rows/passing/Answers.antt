-- `writing::rows::passing` meets its contract: a row that passes is written behind those before it.
use Rattle.std.proofs.Common.{arith, ◌+◌}
use mathlib.Core.Path.{sym, ap₂, subst, ◌∙◌}
use mathlib.Core.List.{[], ◌∷◌}
use Rattle.words.specs.Written.{words_in, written}
use Rattle.words.proofs.Written.{written_at}
use Rattle.writing.proofs.Passing.{Passing, passing-yes, passing-no}
use Rattle.writing.proofs.rows.passing.Goals as goal
use Rattle.writing.proofs.rows.passing.Goals.{then-test, else-test}

pub loop-k-preserved : goal.loop-k-preserved
loop-k-preserved g c =
    let l = c.loop-k-test.true in
    let h = c.loop-k.invariant in
    let k = c.loop-k.k in
    let start = written c.args.code.now c.args.at in
    elim c.if-test.branch [
      | then-test w ↦ (
        omega (arith, h.0, w.next-is, written_at (written c.loop-k.code c.loop-k.next) (words_in w.row.result ∷ []) w.write-next.ensures),
        λ p words t m. subst (Passing p words (k + 1) start) (sym (ap₂ written w.code-is w.next-is))
            (passing-yes (h.1 p words t m) (sym (t k l _ c.test.ensures) ∙ w.if-test.true) (m k l _ w.row.ensures) w.write-next.ensures),
      )
      | else-test w ↦ (
        omega (arith, h.0, w.next-is),
        λ p words t m. subst (Passing p words (k + 1) start) (sym (ap₂ written w.code-is w.next-is))
            (passing-no (h.1 p words t m) (sym (t k l _ c.test.ensures) ∙ w.if-test.false)),
      )
    ]
