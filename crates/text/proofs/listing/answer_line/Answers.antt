-- `text::listing::answer_line` meets its contract: the number, behind a number of 2 to 10 the place, then the line's end.
use mathlib.Core.Path.{sym, ap, subst, ◌∙◌}
use mathlib.Core.List.{[], ◌∷◌, ◌++◌}
use native.Mathlib.Omega.{arith}
use Rattle.text.specs.Decimal.{newline, decimal}
use Rattle.text.specs.Line.{Holds}
use Rattle.text.specs.Listing.{spaced}
use Rattle.text.specs.declared.line.Line.{Line}
use Rattle.text.proofs.Answers.{line-placed, line-alone}
use Rattle.text.proofs.Decimals.{decimal-few}
use Rattle.text.proofs.Lines.{holds_more}
use Rattle.text.proofs.Said.{argument-few}
use Rattle.text.proofs.listing.answer_line.Goals as goal
use Rattle.text.proofs.listing.answer_line.Goals.{then-has_place, else-has_place}

pub push-requires : goal.push-requires
push-requires c =
    let x = c.args.x in
    let n = c.number-line.ensures.len in
    elim c.if-has_place.branch [
      | then-has_place w ↦ omega
          (arith, decimal-few x.number, c.new.ensures.len, n, argument-few x.outer, argument-few x.inner, w.argument.ensures.len, w.argument-line.ensures.len, ap (λ (l : Line). l.len) w.line-is)
      | else-has_place w ↦ omega (arith, decimal-few x.number, c.new.ensures.len, n, ap (λ (l : Line). l.len) w.line-is)
    ]

pub returns : goal.returns
returns c =
    let x = c.args.x in
    let n = decimal x.number in
    let h1 = holds_more [] n c.new.ensures c.number-line.ensures in
    elim c.if-has_place.branch [
      | then-has_place w ↦
          let h2 = holds_more n (spaced (x.outer ∷ [])) h1 w.argument.ensures in
          let h3 = holds_more (n ++ spaced (x.outer ∷ [])) (spaced (x.inner ∷ [])) h2 w.argument-line.ensures in
          let h4 = subst (λ (l : Line). Holds l _) (sym w.line-is) h3 in
          subst (Holds _) (line-placed x (sym c.has_place.ensures ∙ w.if-has_place.true))
          (holds_more (n ++ spaced (x.outer ∷ []) ++ spaced (x.inner ∷ [])) (newline ∷ []) h4 c.push.ensures)
      | else-has_place w ↦
          let h2 = subst (λ (l : Line). Holds l n) (sym w.line-is) h1 in
          subst (Holds _) (line-alone x (sym c.has_place.ensures ∙ w.if-has_place.false)) (holds_more n (newline ∷ []) h2 c.push.ensures)
    ]
