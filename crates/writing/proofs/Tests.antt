-- What a loop over the rows of the switches has written of the tests and of the stubs of those that are due.
use Prim.Native.Nat.{ℕ, suc, ◌+◌, ◌-◌, ◌*◌, ◌≤◌}
use mathlib.Core.Path.{◌≡◌, refl, sym, ap, ◌∙◌}
use mathlib.Core.Bool.{Bool}
use mathlib.Core.List.{List, [], ◌∷◌, ◌++◌, map, map-append}
use native.Mathlib.Omega.{arith}
use lib.ListN.{length, get_or, length-map}
use Rattle.theory.specs.Lists.{those}
use Rattle.theory.proofs.Lists.{those-few}
use Rattle.program.specs.Program.{Switch}
use Rattle.code.specs.Op.{Op, branch, jump}
use Rattle.code.specs.Listing.{call_driver, tests_of}
use Rattle.code.proofs.Length.{tests-length}
use Rattle.words.specs.Written.{Words, three, Written, writes}
use Rattle.words.proofs.Written.{writes_then, written_at}
use Rattle.writing.specs.Switches.{stubs_in}
use Rattle.writing.proofs.Passing.{those-more}

-- the tests of two lists of switches are those of the first and then those of the second, whose stubs stand behind
tests-append : (a b : List Switch) (s : ℕ) → tests_of (a ++ b) s ≡ tests_of a s ++ tests_of b (s + 2 * length a)
tests-append [] b s = ap (tests_of b) (omega arith)
tests-append (w ∷ a) b s =
    let z : 2 + s + 2 * length a ≡ s + 2 * suc (length a) = omega arith in
    ap (λ (os : List Op). branch w.driver s ∷ os) (tests-append a b (2 + s) ∙ ap (λ (n : ℕ). tests_of a (2 + s) ++ tests_of b n) z)

-- the stubs of two lists of switches are those of the first and then those of the second
stubs-append : (entries : List ℕ) (a b : List Switch) → stubs_in entries (a ++ b) ≡ stubs_in entries a ++ stubs_in entries b
stubs-append entries [] b = refl
stubs-append entries (w ∷ a) b =
    ap (λ (os : List Op). call_driver w.driver ∷ jump (get_or entries w.target 0) ∷ os) (stubs-append entries a b)

-- the stubs are two instructions for each switch
pub stubs-count : (entries : List ℕ) (ws : List Switch) → length (stubs_in entries ws) ≡ 2 * length ws
stubs-count entries [] = refl
stubs-count entries (w ∷ ws) = omega (arith, stubs-count entries ws)

-- after k rows the loop is at `here`: it has written the tests of those that passed
pub record Tested (p : ℕ → Bool) (row : ℕ → Switch) (stub k : ℕ) (start here : Written) : Type 0 where
  pub same : here ≡ writes (map three (tests_of (those p row k 0) stub)) start

module _ {p : ℕ → Bool} {row : ℕ → Switch} {stub k : ℕ} {start here : Written} (h : Tested p row stub k start here) where
  -- a test was written for each row that passed
  pub tests-at : here.at ≡ start.at + length (those p row k 0)
  tests-at =
      let ws = those p row k 0 in
      omega (arith, written_at start (map three (tests_of ws stub)) h.same, length-map (tests_of ws stub) three, tests-length ws stub)

  -- no more tests were written than there are rows
  pub tests-near : here.at ≤ start.at + k
  tests-near = omega (arith, tests-at, those-few p row k 0)

  -- the test of one row more is written, if it passes; its stub stands behind those of the tests before it
  pub tests-more : {there : Written} → there ≡ writes (map three (tests_of (those p row 1 k) (stub + 2 * (here.at - start.at)))) here
      → Tested p row stub (k + 1) start there
  tests-more e =
      let ws = those p row k 0 in
      let one = those p row 1 k in
      let z : stub + 2 * (here.at - start.at) ≡ stub + 2 * length ws = omega (arith, tests-at) in
      let more =
      ap (λ (s : ℕ). map three (tests_of ws stub) ++ map three (tests_of one s)) z
      ∙ sym (map-append three (tests_of ws stub) (tests_of one (stub + 2 * length ws)))
      ∙ ap (map three) (sym (tests-append ws one stub))
      ∙ ap (λ (l : List Switch). map three (tests_of l stub)) (sym (those-more p row k)) in
      record {
        same =
            writes_then start (map three (tests_of ws stub)) (map three (tests_of one (stub + 2 * (here.at - start.at)))) h.same e
            ∙ ap (λ (l : List Words). writes l start) more;
      }

-- after k rows the loop is at `here`: it has written the stubs of those that passed
pub record Stubbed (p : ℕ → Bool) (row : ℕ → Switch) (entries : List ℕ) (k : ℕ) (start here : Written) : Type 0 where
  pub same : here ≡ writes (map three (stubs_in entries (those p row k 0))) start

module _ {p : ℕ → Bool} {row : ℕ → Switch} {entries : List ℕ} {k : ℕ} {start here : Written} (h : Stubbed p row entries k start here) where
  -- no more stub instructions were written than twice the rows
  pub stubs-near : here.at ≤ start.at + 2 * k
  stubs-near =
      let ws = those p row k 0 in
      omega (
        arith,
        written_at start (map three (stubs_in entries ws)) h.same,
        length-map (stubs_in entries ws) three,
        stubs-count entries ws,
        those-few p row k 0,
      )

  -- the stub of one row more is written, if it passes
  pub stubs-more : {there : Written} → there ≡ writes (map three (stubs_in entries (those p row 1 k))) here
      → Stubbed p row entries (k + 1) start there
  stubs-more e =
      let ws = those p row k 0 in
      let one = those p row 1 k in
      let more =
      sym (map-append three (stubs_in entries ws) (stubs_in entries one))
      ∙ ap (map three) (sym (stubs-append entries ws one))
      ∙ ap (λ (l : List Switch). map three (stubs_in entries l)) (sym (those-more p row k)) in
      record {
        same =
            writes_then start (map three (stubs_in entries ws)) (map three (stubs_in entries one)) h.same e
            ∙ ap (λ (l : List Words). writes l start) more;
      }
