-- `text::listing::line` meets its contract: the pieces of a line, one after the other.
use mathlib.Core.Path.{subst}
use mathlib.Core.List.{[], ◌∷◌, ◌++◌}
use native.Mathlib.Omega.{arith}
use Rattle.code.specs.Op.{decode}
use Rattle.text.specs.Decimal.{space, newline, decimal}
use Rattle.text.specs.Line.{Holds}
use Rattle.text.specs.Said.{said_of}
use Rattle.text.proofs.Decimals.{decimal-few}
use Rattle.text.proofs.Lines.{holds_more}
use Rattle.text.proofs.Said.{said-few, line-said}
use Rattle.text.proofs.listing.line.Goals as goal

pub push-requires : goal.push-requires
push-requires c =
    let a = c.args in
    let few = said-few (decode a.number a.first a.second) in
    omega (arith, decimal-few a.address, c.new.ensures.len, c.number.ensures.len, c.push-start.ensures.len, c.said.ensures.len)

pub returns : goal.returns
returns c =
    let a = c.args in
    let o = decode a.number a.first a.second in
    let x = decimal a.address in
    let h1 = holds_more [] x c.new.ensures c.number.ensures in
    let h2 = holds_more x (space ∷ []) h1 c.push-start.ensures in
    let h3 = holds_more (x ++ (space ∷ [])) (said_of o) h2 c.said.ensures in
    subst (Holds _) (line-said a.address o) (holds_more (x ++ (space ∷ []) ++ said_of o) (newline ∷ []) h3 c.push.ensures)
