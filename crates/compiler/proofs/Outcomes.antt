-- What compiling answers, by the answer on the program: its refusal with its place, or what number 11 leaves.
use Prim.Native.Nat.{ℕ, zero, suc, ◌*◌, ◌≤◌}
use mathlib.Core.Path.{◌≡◌, refl, sym, ap, ap₂, ◌∙◌}
use mathlib.Core.Bool.{Bool, true, false, ◌||◌, cond}
use mathlib.Core.List.{List, ◌∷◌, map}
use native.Mathlib.Omega.{arith}
use lib.Dec.{ltb}
use lib.ListN.{length, get_or, replicate}
use borrow.Author.Tests.{ltb-false}
use Rattle.theory.specs.Rows.{placeless}
use Rattle.theory.specs.Verdict.{accepted_number, or_else, within, first_refusal, or_next}
use Rattle.theory.specs.declared.Answer.{Answer}
use Rattle.theory.proofs.Bools.{neither}
use Rattle.theory.proofs.Filled.{zeros-at}
use Rattle.theory.proofs.Verdict.{next-given, next-none, answer-number, answer-append, answer-within}
use Rattle.cells.specs.Limits.{max_code, words_each}
use Rattle.cells.specs.Refusals.{code_refused}
use Rattle.program.specs.Tables.{Tables, start_mode, mode_count}
use Rattle.program.specs.Program.{program_of}
use Rattle.rules.specs.Verdict.{shape_refusal, table_refusals, program_verdict, program_answer}
use Rattle.rules.proofs.Accepted.{accepted-fields}
use Rattle.rules.proofs.Verdict.{program-number}
use Rattle.code.specs.Listing.{block_address}
use Rattle.code.specs.Compile.{Compiling, listing_of, code_long, slice_short, slice_refusals, compile_refusals, compile_verdict}
use Rattle.code.specs.declared.Compiled.{Compiled}
use Rattle.layout.specs.Layout.{LaidOut, Small}
use Rattle.words.specs.Written.{Words, three, Written, written, writes}
use Rattle.compiler.specs.Modes.{all_in}
use Rattle.answers.specs.declared.Refused.{Refused}
use Rattle.answers.specs.Answers.{answer_of}
use Rattle.answers.proofs.Told.{refusal-some}
use Rattle.std.specs.Prelude.{Result, Ok, Err}
use Rattle.compiler.specs.Listed.{compiled_of, compiling, Compilation, outcome, compiled, refused, accepted, listed}
use Rattle.words.proofs.Written.{writes-emit}
use Rattle.compiler.proofs.Listed.{all_same}

module _ (L : Compiling) where
  -- where number 11 applies, the outcome is its refusal
  pub listed-refused : (code_long L.tables || slice_short L) ≡ true → refused L (placeless code_refused) ≡ listed L
  listed-refused e = ap (λ (b : Bool). elim b as (λ b. Compilation) [ true ↦ refused L (placeless code_refused) | false ↦ accepted L ]) (sym e)

  -- where number 11 does not apply, the outcome is the listing
  pub listed-accepted : (code_long L.tables || slice_short L) ≡ false → accepted L ≡ listed L
  listed-accepted e = ap (λ (b : Bool). elim b as (λ b. Compilation) [ true ↦ refused L (placeless code_refused) | false ↦ accepted L ]) (sym e)

  -- number 11 is told from the listing's length
  pub long-told : (n : ℕ) → n ≡ length (listing_of L.tables)
      → (ltb max_code n || ltb (length L.slice) (words_each * n)) ≡ (code_long L.tables || slice_short L)
  unfolding code_long slice_short
  long-told n e = ap (λ (k : ℕ). ltb max_code k || ltb (length L.slice) (words_each * k)) e

  -- the answer of compiling is that on the program, then that of number 11
  refusal-first : first_refusal compile_refusals L ≡ or_next (program_answer L.tables) (first_refusal slice_refusals L)
  unfolding program_answer
  refusal-first =
      answer-append (map (within (λ (L : Compiling). L.tables)) (shape_refusal ∷ table_refusals)) slice_refusals L (omega arith)
      ∙ ap (λ (x : Answer). or_next x (first_refusal slice_refusals L)) (answer-within (λ (L : Compiling). L.tables) (shape_refusal ∷ table_refusals) L)

  -- the verdict of compiling is the number of its first refusal
  refusal-number : {x : Answer} → first_refusal compile_refusals L ≡ x → compile_verdict L ≡ x.number
  unfolding compile_verdict
  refusal-number e = sym (answer-number compile_refusals L) ∙ ap (λ (x : Answer). x.number) e

  -- the outcome of compiling with this number and this first refusal
  abbrev by : ℕ → Answer → Compilation
  by v x =
      outcome (elim v as (λ v. Compiled) [ zero ↦ (accepted L).answer | suc n ↦ (refused L x).answer ])
      (elim v as (λ v. List ℕ) [ zero ↦ (accepted L).slice | suc n ↦ L.slice ])

  -- where a number up to 10 applies, the outcome is its refusal
  pub compiled-refused : (x : Answer) → x ≡ program_answer L.tables → (x.number ≡ accepted_number → ⊥) → refused L x ≡ compiled L
  compiled-refused x e d = go x.number refl ∙ ap₂ by (sym (refusal-number first)) (sym first)
    where
      first : first_refusal compile_refusals L ≡ x
      first =
          refusal-first
          ∙ ap (λ (y : Answer). or_next y (first_refusal slice_refusals L)) (sym e)
          ∙ next-given x (first_refusal slice_refusals L) d

      go : (n : ℕ) → x.number ≡ n → refused L x ≡ by n x
      go zero z = absurd (d z)
      go (suc n) z = refl

  -- where no number up to 10 applies, the outcome is what number 11 leaves
  pub compiled-listed : program_verdict L.tables ≡ accepted_number → listed L ≡ compiled L
  compiled-listed e =
      go (code_long L.tables || slice_short L)
      ∙ ap₂ by (sym (refusal-number first ∙ answer-number slice_refusals L)) (sym first)
    where
      first : first_refusal compile_refusals L ≡ first_refusal slice_refusals L
      first = refusal-first ∙ next-none (program_answer L.tables) (first_refusal slice_refusals L) (program-number L.tables ∙ e)

      go : (b : Bool)
          → elim b as (λ b. Compilation) [ true ↦ refused L (placeless code_refused) | false ↦ accepted L ]
          ≡ by (or_else b code_refused accepted_number) (cond b (placeless code_refused) (placeless accepted_number))
      go true = refl
      go false = refl

-- where the verdict on the program is a refusal, the outcome is that refusal
pub verdict-refused : (T : Tables) (slice : List ℕ) {r : Result (Unit {0}) Refused} {told : Result ℕ Refused} {e : Refused}
    → answer_of r ≡ program_answer T → r ≡ Err e → told ≡ Err e → outcome (compiled_of told) slice ≡ compiled (compiling T slice)
verdict-refused T slice {e = e} h f g =
    ap (λ (r : Result ℕ Refused). outcome (compiled_of r) slice) g
    ∙ compiled-refused (compiling T slice) (answer_of {A = Unit {0}} (Err e)) (sym (ap answer_of f) ∙ h) (refusal-some e.refusal)

-- where it is none, the program is accepted
pub verdict-passed : (T : Tables) {r : Result (Unit {0}) Refused} {v : Unit {0}} → answer_of r ≡ program_answer T → r ≡ Ok v
    → program_verdict T ≡ accepted_number
verdict-passed T h f = sym (program-number T) ∙ ap (λ (x : Answer). x.number) (sym h ∙ ap answer_of f)

-- a list of zeros has no number beyond the longest code
pub zeros-small : (n : ℕ) → Small (replicate n 0)
zeros-small n m = omega (arith, zeros-at n m)

-- where what was written is the listing, the outcome is that of a program that number 11 passes
pub all-written : (T : Tables) (a : program_verdict T ≡ accepted_number) {starts entries : List ℕ} {n : ℕ} → LaidOut T starts entries n
    → mode_count T ≤ length starts → mode_count T ≤ length entries → {start : ℕ} → start ≡ start_mode T → (slice exit : List ℕ) (next : ℕ)
    → written exit next ≡ writes (all_in T entries (get_or starts start 0)) (written slice 0)
    → (ltb max_code n || ltb (length slice) (words_each * n)) ≡ false
    → outcome (record { answer = placeless accepted_number; length = n }) exit ≡ listed (compiling T slice)
all-written T a {starts} {entries} {n} laid s r {start} q slice exit next w b =
    ap₂ (λ (n : ℕ) (s : List ℕ). outcome (record { answer = placeless accepted_number; length = n }) s) laid.length
    (ap (λ (v : Written). v.code) (w ∙ ap (λ (os : List Words). writes os (written slice 0)) same ∙ writes-emit (listing_of T) slice fits))
    ∙ listed-accepted (compiling T slice) (sym (long-told (compiling T slice) n laid.length) ∙ b)
  where
    first : get_or starts start 0 ≡ block_address (program_of T) (start_mode T) 0
    first = ap (λ (m : ℕ). get_or starts m 0) q ∙ laid.starts s (start_mode T) (accepted-fields T a).start

    same : all_in T entries (get_or starts start 0) ≡ map three (listing_of T)
    same = all_same T a entries (laid.entries r) (get_or starts start 0) first

    fits : words_each * length (listing_of T) ≤ length slice
    fits = omega (arith, laid.length, ltb-false (length slice) (words_each * n) (neither (ltb max_code n) _ b).1)
