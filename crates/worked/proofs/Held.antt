-- The edges of number 11 and of what the shipped program holds: programs of 4,096 and 4,097, of 16,384 and 16,385 instructions, which are
-- within all other limits, and what is printed for their texts.
use Prim.Native.Nat.{ℕ, zero, suc, ◌*◌}
use mathlib.Core.Path.{◌≡◌, refl, ◌∙◌}
use mathlib.Core.List.{List, [], ◌∷◌, ◌++◌}
use native.Mathlib.Omega.{arith}
use lib.ListN.{length}
use Rattle.theory.specs.Rows.{placeless}
use Rattle.program.specs.Tables.{Tables}
use Rattle.program.specs.Program.{program_of}
use Rattle.rules.specs.Verdict.{program_verdict}
use Rattle.code.specs.Listing.{length_rule}
use Rattle.code.specs.Compile.{listing_of, CodeFits}
use Rattle.code.proofs.Accepted.{accepted-length}
use Rattle.text.specs.Listing.{listing_text}
use Rattle.text.specs.Input.{got, program_read}
use Rattle.text.specs.Shipped.{larger_listing, answer_line, shipped}
use Rattle.answering.proofs.ByLength.{prints-by-length}
use Rattle.worked.specs.Computed.{computed}
use Rattle.worked.specs.Programs.{text_of, sampling}

-- 4,096 instructions, all that is held, and one more; 16,384 instructions, the limit, and one more
abbrev held : Tables
held = sampling 13 (51 ∷ 51 ∷ 51 ∷ 51 ∷ 17 ∷ 17 ∷ [])

abbrev larger : Tables
larger = sampling 13 (51 ∷ 51 ∷ 51 ∷ 51 ∷ 17 ∷ 17 ∷ 1 ∷ [])

abbrev longest : Tables
longest = sampling 62 (15 ∷ 15 ∷ 1 ∷ [])

abbrev long : Tables
long = sampling 62 (15 ∷ 15 ∷ 1 ∷ 1 ∷ [])

-- a program that 1 to 10 and 24 pass, of so many instructions by the length rule
abbrev Accepted : Tables → ℕ → Type 0
Accepted T n = (program_verdict T ≡ 0) × (length_rule (program_of T) ≡ n)

held-accepted : Accepted held 4096
unfolding computed
held-accepted = (refl, refl)

larger-accepted : Accepted larger 4097
unfolding computed
larger-accepted = (refl, refl)

longest-accepted : Accepted longest 16384
unfolding computed
longest-accepted = (refl, refl)

long-accepted : Accepted long 16385
unfolding computed
long-accepted = (refl, refl)

-- such a program has a listing of so many instructions
has-length : (T : Tables) {n : ℕ} → Accepted T n → length (listing_of T) ≡ n
has-length T a = accepted-length T a.0 ∙ a.1

-- the limit passes 11, one more does not
limit-fits : (CodeFits longest) × (CodeFits long → ⊥)
limit-fits = (omega (arith, has-length longest longest-accepted), λ l. omega (arith, has-length long long-accepted))

-- the text of a program of sensors: the start mode, and each table behind its row count
abbrev zeros : ℕ → List ℕ → List ℕ
zeros zero rest = rest
zeros (suc n) rest = 0 ∷ zeros n rest

abbrev updates : List ℕ → List ℕ → List ℕ
updates [] rest = rest
updates (f ∷ fs) rest = 0 ∷ f ∷ 0 ∷ updates fs rest

abbrev text_of_sampling : ℕ → List ℕ → List ℕ
text_of_sampling n frequencies =
    let all : List ℕ = 15 ∷ 17 ∷ frequencies in
    text_of (0 ∷ n ∷ zeros (2 * n) (0 ∷ 0 ∷ 1 ∷ zeros 4 (0 ∷ 1 ∷ 255 ∷ 0 ∷ 0 ∷ length all ∷ updates all (0 ∷ []))))

abbrev text_held : List ℕ
text_held = text_of_sampling 13 (51 ∷ 51 ∷ 51 ∷ 51 ∷ 17 ∷ 17 ∷ [])

abbrev text_larger : List ℕ
text_larger = text_of_sampling 13 (51 ∷ 51 ∷ 51 ∷ 51 ∷ 17 ∷ 17 ∷ 1 ∷ [])

abbrev text_longest : List ℕ
text_longest = text_of_sampling 62 (15 ∷ 15 ∷ 1 ∷ [])

abbrev text_long : List ℕ
text_long = text_of_sampling 62 (15 ∷ 15 ∷ 1 ∷ 1 ∷ [])

-- the texts say these programs
texts-read :
    (program_read text_held ≡ got held [])
    × (program_read text_larger ≡ got larger [])
    × (program_read text_longest ≡ got longest [])
    × (program_read text_long ≡ got long [])
unfolding computed
texts-read = (refl, refl, refl, refl)

-- all that is held is printed; one instruction more is larger than is held, and so is the limit; above the limit 11 stands alone
held-printed : shipped text_held ≡ answer_line (placeless 0) ++ listing_text (listing_of held)
held-printed = (prints-by-length text_held held texts-read.0 held-accepted.0).held (omega (arith, has-length held held-accepted))

larger-printed : shipped text_larger ≡ answer_line (placeless 11) ++ larger_listing
larger-printed =
    let n = has-length larger larger-accepted in
    (prints-by-length text_larger larger texts-read.1 larger-accepted.0).larger (omega arith) (omega arith)

longest-printed : shipped text_longest ≡ answer_line (placeless 11) ++ larger_listing
longest-printed =
    let n = has-length longest longest-accepted in
    (prints-by-length text_longest longest texts-read.2 longest-accepted.0).larger (omega arith) (omega arith)

long-printed : shipped text_long ≡ answer_line (placeless 11)
long-printed = (prints-by-length text_long long texts-read.3 long-accepted.0).long (omega (arith, has-length long long-accepted))
