-- What the shipped program prints of an accepted program, by how long its listing is. Assumes that the verdict on the tables is 0.
use Prim.Native.Nat.{ℕ, ◌*◌, ◌≤◌, ◌<◌}
use mathlib.Core.Path.{◌≡◌, refl, sym, ap, subst, ◌∙◌}
use mathlib.Core.Bool.{Bool, true, false, not, cond, ◌||◌}
use mathlib.Core.List.{[], ◌++◌, append-nil}
use native.Mathlib.Omega.{arith}
use lib.ListN.{length, length-replicate}
use borrow.Author.Tests.{lt-ltb, le-ltb}
use Rattle.theory.specs.Rows.{placeless}
use Rattle.theory.specs.Verdict.{accepted_number}
use Rattle.cells.specs.Limits.{max_code, max_held, words_each}
use Rattle.cells.specs.Refusals.{code_refused}
use Rattle.program.specs.Tables.{Tables}
use Rattle.rules.specs.Verdict.{program_verdict}
use Rattle.code.specs.Compile.{Compiling, listing_of, code_long, slice_short, compile_answer}
use Rattle.compiler.specs.Listed.{compiling, Compilation, refused, accepted, compiled}
use Rattle.compiler.proofs.Outcomes.{listed-refused, listed-accepted, compiled-listed}
use Rattle.text.specs.Input.{Read}
use Rattle.text.specs.Shipped.{larger_listing, answer_line, is_larger, printed_for, printed, shipped, ByLength, PrintsByLength}
use Rattle.answering.specs.Answer.{blank}

-- there is room for as many instructions as are held
blank-length : length blank ≡ words_each * max_held
blank-length = length-replicate {A = ℕ} (words_each * max_held) 0

-- an accepted program that is compiled into the slice that is held
module _ (T : Tables) (v : program_verdict T ≡ accepted_number) where
  L : Compiling
  L = compiling T blank

  -- what is printed where compiling comes to this
  shows : (o : Compilation) → o ≡ compiled L → printed_for T (compile_answer L) ≡ printed_for T o.answer
  shows o e = ap (λ (p : Compilation). printed_for T p.answer) (sym e)

  -- within the limit number 11 is that of the slice alone
  within-limit : length (listing_of T) ≤ max_code → code_long T ≡ false
  unfolding code_long
  within-limit h = le-ltb max_code (length (listing_of T)) h

  fits : length (listing_of T) ≤ max_held → slice_short L ≡ false
  unfolding slice_short L
  fits h = le-ltb (length blank) (words_each * length (listing_of T)) (omega (arith, blank-length))

  exceeds : max_held < length (listing_of T) → slice_short L ≡ true
  unfolding slice_short L
  exceeds h = lt-ltb (length blank) (words_each * length (listing_of T)) (omega (arith, blank-length))

  -- what is printed where number 11 applies: its line, and of a listing within the limit that it is larger than is held
  eleven : (b : Bool) → code_long T ≡ b → (b || slice_short L) ≡ true
      → printed_for T (compile_answer L) ≡ answer_line (placeless code_refused) ++ cond (not b) larger_listing []
  unfolding is_larger L
  eleven b q e =
      shows (refused L (placeless code_refused)) (listed-refused L (ap (λ (b : Bool). b || slice_short L) q ∙ e) ∙ compiled-listed L v)
      ∙ ap (λ (b : Bool). answer_line (placeless code_refused) ++ cond (not b) larger_listing []) q

  by_length : ByLength T (printed_for T (compile_answer L))
  unfolding code_long L
  by_length =
      record {
        held = λ h.
            let few : (code_long T || slice_short L) ≡ false =
            ap (λ (b : Bool). b || slice_short L) (within-limit (omega arith)) ∙ fits h in
            shows (accepted L) (listed-accepted L few ∙ compiled-listed L v);
        larger = λ h l. eleven false (within-limit l) (exceeds h);
        long = λ h. eleven true (lt-ltb max_code (length (listing_of T)) h) refl ∙ append-nil (answer_line (placeless code_refused));
      }

-- what the shipped program prints for the text of an accepted program goes by how long its listing is
pub prints-by-length : PrintsByLength
unfolding shipped L
prints-by-length text T e v = subst (λ (r : Read Tables). ByLength T (printed r)) (sym e) (by_length T v)
