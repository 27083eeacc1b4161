-- What is printed of the answer to what was read is what document 01 has the program print.
use Prim.Native.Nat.{ℕ, zero, suc, ◌*◌}
use mathlib.Core.Path.{◌≡◌, refl, sym, ap, ◌∙◌}
use mathlib.Core.Bool.{Bool, true, false, cond}
use mathlib.Core.List.{List, [], ◌++◌, append-nil}
use mathlib.Core.Option.{Option}
use native.Mathlib.Omega.{arith}
use lib.IntN.{ℤ}
use lib.ListN.{take}
use Rattle.theory.specs.Rows.{placeless}
use Rattle.theory.specs.declared.Answer.{Answer}
use Rattle.cells.specs.Limits.{words_each}
use Rattle.cells.specs.Refusals.{shape_refused}
use Rattle.program.specs.Tables.{Tables}
use Rattle.code.specs.Op.{instructions}
use Rattle.code.specs.Compile.{Compiling, listing_of, compile_verdict, compile_answer, compile_slice, words_of}
use Rattle.code.proofs.Answers.{compile-number, compile-refused}
use Rattle.code.proofs.Words.{emit-instructions, words_are}
use Rattle.compiler.specs.Listed.{compiling}
use Rattle.text.specs.Listing.{listing_text}
use Rattle.text.specs.Input.{Read, bad, too_many, got, program_read}
use Rattle.text.specs.Shipped.{larger_listing, answer_line, is_larger, behind_number, printed_for, printed, shipped}
use Rattle.answering.specs.Answer.{answer_shown, blank, larger_lines, text_shown, text_of_answer}
use Rattle.answering.specs.declared.answer.Shown.TheVariants.{Larger, Said}
use Rattle.answering.proofs.Larger.{larger-says, number-lines}

-- what is printed of what compiling answered: what it begins with, and then as much of the code as it is long
shown-text : (larger : Bool) (x : Answer) (n : ℕ) (code : List ℕ) → (larger ≡ true → n ≡ 0)
    → text_shown (cond larger Larger (Said x n)) code ≡ cond larger larger_lines (answer_line x) ++ listing_text (instructions (take (words_each * n) code))
shown-text true x n code h =
    sym (append-nil larger_lines)
    ∙ ap (λ (k : ℕ). larger_lines ++ listing_text (instructions (take (words_each * k) code))) (sym (h refl))
shown-text false x n code h = refl

-- what is printed of the answer to a program that was read is what the definition says
compiled-text : (T : Tables) (rest : List (Option ℤ)) → text_of_answer (answer_shown (got T rest) blank) ≡ printed (got T rest)
unfolding answer_shown text_of_answer is_larger
compiled-text T rest =
    shown-text (is_larger T x.number) x (compile_answer L).length (compile_slice L) none ∙ go (compile_verdict L) refl
  where
    L : Compiling
    L = compiling T blank

    x : Answer
    x = (compile_answer L).answer

    -- of a listing larger than is held nothing is listed
    none : is_larger T x.number ≡ true → (compile_answer L).length ≡ 0
    none e =
        let y = ((larger-says T x.number).yes e).0 in
        (compile-refused L (λ z. omega (arith, z, y, compile-number L))).1

    -- what the answer begins with, where it has this number
    lines : ℕ → List ℕ
    lines n = cond (is_larger T n) larger_lines (answer_line x)

    go : (n : ℕ) → compile_verdict L ≡ n → lines x.number ++ listing_text (instructions (words_of L)) ≡ printed_for T (compile_answer L)
    go zero e =
        let z : x.number ≡ zero = compile-number L ∙ e in
        ap (λ (l : List ℕ). lines x.number ++ listing_text (instructions l)) (words_are L e)
        ∙ ap (λ l. lines x.number ++ listing_text l) (emit-instructions (listing_of T))
        ∙ ap (λ (n : ℕ). lines n ++ listing_text (listing_of T)) z
        ∙ ap (λ (n : ℕ). answer_line x ++ behind_number T n) (sym z)
    go (suc n) e =
        let z : x.number ≡ suc n = compile-number L ∙ e in
        ap (λ (n : ℕ). lines x.number ++ listing_text (instructions (take (words_each * n) (compile_slice L)))) (compile-refused L (λ y. omega (arith, z, y))).1
        ∙ append-nil (lines x.number)
        ∙ number-lines T x
        ∙ ap (λ (n : ℕ). answer_line x ++ cond (is_larger T n) larger_listing []) z
        ∙ ap (λ (n : ℕ). answer_line x ++ behind_number T n) (sym z)

-- what is printed of what is answered is what the definition says, whatever was read
pub read-text : (r : Read Tables) → text_of_answer (answer_shown r blank) ≡ printed r
unfolding answer_shown text_of_answer
read-text bad = refl
read-text too_many = append-nil (answer_line (placeless shape_refused))
read-text (got T rest) = compiled-text T rest

-- what is printed of the answer to a text is what the shipped program prints for it
pub shipped-text : (text : List ℕ) → text_of_answer (answer_shown (program_read text) blank) ≡ shipped text
unfolding shipped
shipped-text text = read-text (program_read text)
