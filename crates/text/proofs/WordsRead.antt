-- Words that are read are printed ones: a number is its own decimal digits, a mnemonic with its arguments that of an instruction.
use Prim.Native.Nat.{ℕ}
use mathlib.Core.Path.{◌≡◌, refl, sym, ap, subst, ◌∙◌}
use mathlib.Core.Bool.{Bool, true, false}
use mathlib.Core.List.{List, [], ◌∷◌, map}
use mathlib.Core.Option.{Option, none, some, some-injective, none-ne-some}
use Rattle.theory.proofs.Bools.{clash, says-and, says_eq, says-itself}
use Rattle.code.specs.Op.{Op, call, schedule, branch, jump, future, return}
use Rattle.text.specs.Decimal.{decimal, word_of}
use Rattle.text.specs.Listing.{mnemonic, arguments}
use Rattle.text.specs.ReadBack.{same, as_printed, numeral, number_before, numerals, with_none, with_one, with_two, named}
use Rattle.text.proofs.Magnitude.{taken}

-- texts that are the same are equal
same-says : (x y : List ℕ) → same x y ≡ true → x ≡ y
same-says [] [] e = refl
same-says [] (c ∷ cs) e = clash {b = false} e refl
same-says (b ∷ bs) [] e = clash {b = false} e refl
same-says (b ∷ bs) (c ∷ cs) e =
    let h = (says-and (says_eq b c) (says-itself (same bs cs))).yes e in λ j. h.0 j ∷ same-says bs cs h.1 j

-- a word that is a number is that number's digits
pub numeral-prints : (word : List ℕ) (n : ℕ) → numeral word ≡ some n → word ≡ decimal n
numeral-prints word n e = go (word_of word) e
  where
    chosen : (m : ℕ) (t : Bool) → same (decimal m) word ≡ t → taken t (some m) ≡ some n → word ≡ decimal n
    chosen m true s e = sym (same-says (decimal m) word s) ∙ ap decimal (some-injective m n e)
    chosen m false s e = absurd (none-ne-some n e)

    go : (v : Option ℕ) → as_printed v word ≡ some n → word ≡ decimal n
    go none e = absurd (none-ne-some n e)
    go (some m) e = chosen m (same (decimal m) word) refl e

-- words that are numbers are those numbers' digits
pub numerals-print : (ws : List (List ℕ)) (ns : List ℕ) → numerals ws ≡ some ns → ws ≡ map decimal ns
numerals-print [] ns e = ap (map decimal) (some-injective [] ns e)
numerals-print (w ∷ ws) ns e = go (numeral w) refl (numerals ws) refl (numerals-print ws) e
  where
    go : (v : Option ℕ) → numeral w ≡ v → (vs : Option (List ℕ)) → numerals ws ≡ vs
        → ((ms : List ℕ) → numerals ws ≡ some ms → ws ≡ map decimal ms) → number_before v vs ≡ some ns → w ∷ ws ≡ map decimal ns
    go none f vs g ih e = absurd (none-ne-some ns e)
    go (some n) f none g ih e = absurd (none-ne-some ns e)
    go (some n) f (some ms) g ih e =
        (λ j. numeral-prints w n f j ∷ ih ms g j) ∙ ap (map decimal) (some-injective (n ∷ ms) ns e)

-- a mnemonic and numbers are those of an instruction
abbrev pub Prints : List ℕ → List ℕ → Op → Type 0
Prints name ns o = (name ≡ mnemonic o) × (ns ≡ arguments o)

-- a mnemonic that is read without arguments is that of the instruction
none-prints : (name : List ℕ) (q : Op) → name ≡ mnemonic q → arguments q ≡ [] → (ns : List ℕ) (o : Op) → with_none q ns ≡ some o → Prints name ns o
none-prints name q i k [] o e = subst (Prints name []) (some-injective q o e) (i, sym k)
none-prints name q i k (n ∷ ns) o e = absurd (none-ne-some o e)

-- a mnemonic that is read with one argument is that of the instruction
one-prints : (name : List ℕ) (f : ℕ → Op) → ((n : ℕ) → name ≡ mnemonic (f n)) → ((n : ℕ) → arguments (f n) ≡ n ∷ [])
    → (ns : List ℕ) (o : Op) → with_one f ns ≡ some o → Prints name ns o
one-prints name f i k [] o e = absurd (none-ne-some o e)
one-prints name f i k (n ∷ []) o e = subst (Prints name (n ∷ [])) (some-injective (f n) o e) (i n, sym (k n))
one-prints name f i k (n ∷ m ∷ ns) o e = absurd (none-ne-some o e)

-- a mnemonic that is read with two arguments is that of the instruction
two-print : (name : List ℕ) (f : ℕ → ℕ → Op) → ((n m : ℕ) → name ≡ mnemonic (f n m)) → ((n m : ℕ) → arguments (f n m) ≡ n ∷ m ∷ [])
    → (ns : List ℕ) (o : Op) → with_two f ns ≡ some o → Prints name ns o
two-print name f i k [] o e = absurd (none-ne-some o e)
two-print name f i k (n ∷ []) o e = absurd (none-ne-some o e)
two-print name f i k (n ∷ m ∷ []) o e = subst (Prints name (n ∷ m ∷ [])) (some-injective (f n m) o e) (i n m, sym (k n m))
two-print name f i k (n ∷ m ∷ l ∷ ns) o e = absurd (none-ne-some o e)

-- a mnemonic that is the same as a known one, or read as another, is that of the instruction
either-prints : (name known ns : List ℕ) (x y : Option Op) (o : Op) → (name ≡ known → x ≡ some o → Prints name ns o) → (y ≡ some o → Prints name ns o)
    → elim (same name known) [ true ↦ x | false ↦ y ] ≡ some o → Prints name ns o
either-prints name known ns x y o f g e = go (same name known) refl e
  where
    go : (t : Bool) → same name known ≡ t → elim t [ true ↦ x | false ↦ y ] ≡ some o → Prints name ns o
    go true s e = f (same-says name known s) e
    go false s e = g e

-- a mnemonic and numbers that are read are those of the instruction
pub named-prints : (name ns : List ℕ) (o : Op) → named name ns ≡ some o → Prints name ns o
named-prints name ns o e =
    either-prints name (mnemonic (call 0)) ns _ _ o (λ i. one-prints name call (λ n. i) (λ n. refl) ns o)
    (either-prints name (mnemonic (schedule 0)) ns _ _ o (λ i. one-prints name schedule (λ n. i) (λ n. refl) ns o)
    (either-prints name (mnemonic (branch 0 0)) ns _ _ o (λ i. two-print name branch (λ n m. i) (λ n m. refl) ns o)
    (either-prints name (mnemonic (jump 0)) ns _ _ o (λ i. one-prints name jump (λ n. i) (λ n. refl) ns o)
    (either-prints name (mnemonic (future 0 0)) ns _ _ o (λ i. two-print name future (λ n m. i) (λ n m. refl) ns o)
    (either-prints name (mnemonic return) ns _ _ o (λ i. none-prints name return i refl ns o) (λ n. absurd (none-ne-some o n)))))))
    e
