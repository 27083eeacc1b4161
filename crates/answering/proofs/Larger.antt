-- A listing that is larger than is held: number 11 says that the tables have their shape, and its line stands in front of that one.
use Prim.Native.Nat.{ℕ}
use mathlib.Core.Path.{◌≡◌, refl, sym, ap, ◌∙◌}
use mathlib.Core.Bool.{Bool, true, false, cond}
use mathlib.Core.List.{List, [], ◌++◌, append-nil}
use native.Mathlib.Omega.{arith}
use lib.ListN.{length}
use Rattle.theory.specs.Claim.{Says}
use Rattle.theory.specs.Rows.{placeless}
use Rattle.theory.specs.Verdict.{or_else}
use Rattle.theory.specs.declared.Answer.{Answer}
use Rattle.theory.proofs.Bools.{says-and, says_eq, says-bars, bars-lt}
use Rattle.cells.specs.Limits.{max_code}
use Rattle.cells.specs.Refusals.{shape_refused, code_refused, number_of}
use Rattle.cells.specs.declared.refusals.Refusal.{Refusal}
use Rattle.cells.specs.declared.refusals.Refusal.TheVariants.{Shape, Fields, TaskPorts, Copies, ModePorts, Invocations, Updates, Switches, Units, Whole, Code}
use Rattle.cells.specs.declared.refusals.Refusal.TheVariants.{Windows, Schedule, Outside, Late, Time, Overrun, Collision, Faulty, Count, State, Gap}
use Rattle.program.specs.Tables.{Tables}
use Rattle.rules.specs.Shape.{shape_bad}
use Rattle.code.specs.Compile.{Compiling, listing_of, code_long, CodeFits, compile_verdict, compile_answer, compile_slice}
use Rattle.code.specs.declared.Compiled.{Compiled}
use Rattle.code.proofs.Answers.{compile-number}
use Rattle.compiler.specs.Listed.{compiling}
use Rattle.text.specs.Shipped.{larger_listing, has_place, answer_line, is_larger}
use Rattle.text.proofs.Answers.{line-placeless}
use Rattle.answering.specs.Answer.{answered, shown_of, compiled_of}
use Rattle.answering.specs.declared.answer.Shown.{Shown}

-- where compiling answers 11, the tables have their shape: number 1 has passed
pub eleven-shaped : (L : Compiling) → (compile_answer L).answer.number ≡ code_refused → shape_bad L.tables ≡ false
unfolding compile_verdict
eleven-shaped L e = go (shape_bad L.tables) _ (sym (compile-number L) ∙ e)
  where
    go : (b : Bool) (rest : ℕ) → or_else b shape_refused rest ≡ code_refused → b ≡ false
    go true rest z = absurd (omega (arith, z))
    go false rest z = refl

-- the number is that of a listing larger than is held: it is 11, and the listing is within the limit
pub larger-says : (T : Tables) (n : ℕ) → Says (is_larger T n) ((n ≡ code_refused) × CodeFits T)
unfolding is_larger code_long
larger-says T n = says-and (says_eq n code_refused) (says-bars (bars-lt max_code (length (listing_of T))))

-- the line of 11, whatever place stands beside it
eleven-line : (x : Answer) → x.number ≡ code_refused → answer_line x ≡ answer_line (placeless code_refused)
eleven-line x e = line-placeless x (ap has_place e) ∙ ap (λ (n : ℕ). answer_line (placeless n)) e

-- what an answer begins with is its line, and behind 11 of a listing within the limit that it is larger than is held
pub number-lines : (T : Tables) (x : Answer)
    → cond (is_larger T x.number) (answer_line (placeless code_refused) ++ larger_listing) (answer_line x)
    ≡ answer_line x ++ cond (is_larger T x.number) larger_listing []
number-lines T x = go (is_larger T x.number) refl
  where
    go : (b : Bool) → is_larger T x.number ≡ b
        → cond b (answer_line (placeless code_refused) ++ larger_listing) (answer_line x) ≡ answer_line x ++ cond b larger_listing []
    go true e = ap (λ (l : List ℕ). l ++ larger_listing) (sym (eleven-line x ((larger-says T x.number).yes e).0))
    go false e = sym (append-nil (answer_line x))

-- what compiling answers and leaves, and whether its 11 is that of a listing larger than is held, are the answer to a program
pub compiled-shown : (T : Tables) (code exit : List ℕ) (c : Compiled) (b : Bool) (s : Shown) → c ≡ compile_answer (compiling T code)
    → exit ≡ compile_slice (compiling T code) → b ≡ is_larger T c.answer.number → s ≡ shown_of c b
    → answered s exit ≡ compiled_of T code
compiled-shown T code exit c b s e f g h =
    let q = g ∙ ap (λ (d : Compiled). is_larger T d.answer.number) e in
    ap (λ (s : Shown). answered s exit) h ∙ (λ i. answered (shown_of (e i) (q i)) (f i))

-- 11 is the number of one refusal
pub eleven-only : (r : Refusal) → number_of r ≡ code_refused → r ≡ Code
eleven-only Shape e = absurd (omega (arith, e))
eleven-only Fields e = absurd (omega (arith, e))
eleven-only TaskPorts e = absurd (omega (arith, e))
eleven-only Copies e = absurd (omega (arith, e))
eleven-only ModePorts e = absurd (omega (arith, e))
eleven-only Invocations e = absurd (omega (arith, e))
eleven-only Updates e = absurd (omega (arith, e))
eleven-only Switches e = absurd (omega (arith, e))
eleven-only Units e = absurd (omega (arith, e))
eleven-only Whole e = absurd (omega (arith, e))
eleven-only Code e = refl
eleven-only Windows e = absurd (omega (arith, e))
eleven-only Schedule e = absurd (omega (arith, e))
eleven-only Outside e = absurd (omega (arith, e))
eleven-only Late e = absurd (omega (arith, e))
eleven-only Time e = absurd (omega (arith, e))
eleven-only Overrun e = absurd (omega (arith, e))
eleven-only Collision e = absurd (omega (arith, e))
eleven-only Faulty e = absurd (omega (arith, e))
eleven-only Count e = absurd (omega (arith, e))
eleven-only State e = absurd (omega (arith, e))
eleven-only Gap e = absurd (omega (arith, e))
