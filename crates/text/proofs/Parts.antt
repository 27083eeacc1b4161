-- The parts of a text between separators: of words with a separator between them, these words.
use Prim.Native.Nat.{ℕ, zero, suc, ◌/◌, ◌<◌}
use mathlib.Core.Path.{◌≡◌, refl, ap, ◌∙◌}
use mathlib.Core.Bool.{Bool, true, false, ◌||◌}
use mathlib.Core.List.{List, [], ◌∷◌, ◌++◌, map, append-nil}
use native.Mathlib.Omega.{arith}
use lib.Dec.{eqb, ltb}
use borrow.Author.Tests.{ltb-false, eq-eqb, ne_eqb, le-ltb}
use Rattle.theory.specs.Lists.{some, member}
use Rattle.theory.proofs.Bools.{neither}
use Rattle.code.specs.Op.{Op, call, schedule, branch, jump, future, return, faulty}
use Rattle.text.specs.Decimal.{digit_zero, space, newline, digits_before, decimal}
use Rattle.text.specs.Input.{in_front}
use Rattle.text.specs.Listing.{mnemonic, spaced}
use Rattle.text.specs.ReadBack.{parts}
use Rattle.text.proofs.Decimals.{last_digit}

module _ (s : ℕ) where
  -- a byte that is no separator belongs to the first part
  parts-skip : (b : ℕ) (bs first : List ℕ) (rest : List (List ℕ)) → eqb s b ≡ false → parts s bs ≡ first ∷ rest → parts s (b ∷ bs) ≡ (b ∷ first) ∷ rest
  parts-skip b bs first rest e h = ap (λ (t : Bool). elim t [ true ↦ [] ∷ parts s bs | false ↦ in_front b (parts s bs) ]) e ∙ ap (in_front b) h

  -- a word without a separator is the one part of itself
  pub parts-one : (word : List ℕ) → member s word ≡ false → parts s word ≡ word ∷ []
  parts-one [] h = refl
  parts-one (b ∷ bs) h =
      let n = neither (eqb s b) (member s bs) h in parts-skip b bs bs [] n.0 (parts-one bs n.1)

  -- a word in front of a separator is the first part
  pub parts_more : (word more : List ℕ) → member s word ≡ false → parts s (word ++ (s ∷ more)) ≡ word ∷ parts s more
  parts_more [] more h = ap (λ (t : Bool). elim t [ true ↦ [] ∷ parts s more | false ↦ in_front s (parts s more) ]) (eq-eqb s s refl)
  parts_more (b ∷ bs) more h =
      let n = neither (eqb s b) (member s bs) h in
      parts-skip b (bs ++ (s ∷ more)) bs (parts s more) n.0 (parts_more bs more n.1)

  -- a byte that is in neither of two texts is not in the two together
  pub member-append : (x y : List ℕ) → member s x ≡ false → member s y ≡ false → member s (x ++ y) ≡ false
  member-append [] y h g = g
  member-append (b ∷ bs) y h g =
      let n = neither (eqb s b) (member s bs) h in
      ap (λ (t : Bool). t || member s (bs ++ y)) n.0 ∙ member-append bs y n.1 g

-- some byte stands below the digits, as separators do
abbrev low : List ℕ → Bool
low text = some (λ b. ltb b digit_zero) text

-- a text with no byte below the digits has no separator
not_low : (s : ℕ) → s < digit_zero → (text : List ℕ) → low text ≡ false → member s text ≡ false
not_low s l [] h = refl
not_low s l (b ∷ bs) h =
    let n = neither (ltb b digit_zero) (low bs) h in
    let far = ltb-false b digit_zero n.0 in
    ap (λ (t : Bool). t || member s bs) (ne_eqb s b (λ e. omega arith)) ∙ not_low s l bs n.1

-- digits have no byte below the digits
digits_low : (most n : ℕ) (text : List ℕ) → low text ≡ false → low (digits_before most n text) ≡ false
digits_low zero n text h = h
digits_low (suc most) n text h = go (ltb n 10) here (digits_low most (n / 10) (last_digit n ∷ text) here)
  where
    here : low (last_digit n ∷ text) ≡ false
    here = ap (λ (t : Bool). t || low text) (le-ltb (last_digit n) digit_zero (omega arith)) ∙ h

    go : (t : Bool) → low (last_digit n ∷ text) ≡ false → low (digits_before most (n / 10) (last_digit n ∷ text)) ≡ false
        → low (elim t [ true ↦ last_digit n ∷ text | false ↦ digits_before most (n / 10) (last_digit n ∷ text) ]) ≡ false
    go true e g = e
    go false e g = g

-- a printed number has no separator
pub decimal-free : (s n : ℕ) → s < digit_zero → member s (decimal n) ≡ false
decimal-free s n l = not_low s l (decimal n) (digits_low 10 n [] refl)

-- the letters of a mnemonic have no byte below the digits
mnemonic-low : (o : Op) → low (mnemonic o) ≡ false
mnemonic-low (call n) = refl
mnemonic-low (schedule t) = refl
mnemonic-low (branch d a) = refl
mnemonic-low (jump a) = refl
mnemonic-low (future d a) = refl
mnemonic-low return = refl
mnemonic-low faulty = refl

-- a mnemonic has no separator
pub mnemonic-free : (s : ℕ) (o : Op) → s < digit_zero → member s (mnemonic o) ≡ false
mnemonic-free s o l = not_low s l (mnemonic o) (mnemonic-low o)

-- the parts of a word and its arguments are the word and the arguments
pub parts-spaced : (word : List ℕ) (ns : List ℕ) → member space word ≡ false → parts space (word ++ spaced ns) ≡ word ∷ map decimal ns
parts-spaced word [] h = ap (parts space) (append-nil word) ∙ parts-one space word h
parts-spaced word (n ∷ ns) h =
    parts_more space word (decimal n ++ spaced ns) h
    ∙ ap (λ (l : List (List ℕ)). word ∷ l) (parts-spaced (decimal n) ns (decimal-free space n (omega arith)))

-- arguments have no line end
pub spaced-free : (ns : List ℕ) → member newline (spaced ns) ≡ false
spaced-free [] = refl
spaced-free (n ∷ ns) = member-append newline (decimal n) (spaced ns) (decimal-free newline n (omega arith)) (spaced-free ns)
