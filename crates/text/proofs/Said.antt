-- What is said of an instruction behind its address: argument by argument, how long it is at most, and which numbers say none.
use Prim.Native.Nat.{ℕ, zero, suc, ◌+◌, ◌≤◌, ◌<◌, max}
use mathlib.Core.Path.{◌≡◌, refl, sym, ap, ◌∙◌}
use mathlib.Core.Bool.{Bool, true, false}
use mathlib.Core.List.{List, [], ◌∷◌, ◌++◌, append_assoc, append-nil}
use native.Mathlib.Omega.{arith}
use native.Mathlib.Numerals.{add-one}
use lib.ListN.{length, take, get_or, length-append}
use lib.Seq.{take-suc}
use lib.Dec.{eqb}
use borrow.Author.Tests.{eq-eqb, ne_eqb, eqb-true, eqb-false}
use Rattle.theory.proofs.Conditions.{cond_yes, cond_no}
use Rattle.code.specs.Op.{Op, call, schedule, branch, jump, future, return, faulty, call_number, schedule_number, if_number, jump_number}
use Rattle.code.specs.Op.{future_number, return_number, unused, decode}
use Rattle.code.proofs.Fetch.{decode-unknown}
use Rattle.text.specs.Decimal.{space, newline, decimal}
use Rattle.text.specs.Line.{room, most_argument}
use Rattle.text.specs.Listing.{mnemonic, arguments, spaced, line_of}
use Rattle.text.specs.Said.{most_said, said_of, said_where}
use Rattle.text.proofs.Decimals.{decimal-few}

-- a space and the digits of a number are one argument
pub spaced-one : (n : ℕ) → (space ∷ []) ++ decimal n ≡ spaced (n ∷ [])
spaced-one n = ap (λ (l : List ℕ). space ∷ l) (sym (append-nil (decimal n)))

-- one argument and one more are two arguments
pub spaced-two : (n m : ℕ) → spaced (n ∷ []) ++ spaced (m ∷ []) ≡ spaced (n ∷ m ∷ [])
spaced-two n m = ap (λ (l : List ℕ). space ∷ (l ++ spaced (m ∷ []))) (append-nil (decimal n))

-- one argument more behind arguments
spaced-append : (ns ms : List ℕ) → spaced (ns ++ ms) ≡ spaced ns ++ spaced ms
spaced-append [] ms = refl
spaced-append (n ∷ ns) ms =
    ap (λ (l : List ℕ). space ∷ (decimal n ++ l)) (spaced-append ns ms)
    ∙ ap (λ (l : List ℕ). space ∷ l) (sym (append_assoc (decimal n) (spaced ns) (spaced ms)))

pub spaced-next : (ns : List ℕ) (i : ℕ) → i < length ns → spaced (take (i + 1) ns) ≡ spaced (take i ns) ++ spaced (get_or ns i 0 ∷ [])
spaced-next ns i h = ap spaced (rw add-one (take-suc ns i 0 h)) ∙ spaced-append (take i ns) (get_or ns i 0 ∷ [])

-- how long one argument is at most
pub argument-few : (n : ℕ) → length (spaced (n ∷ [])) ≤ most_argument
argument-few n = omega (arith, decimal-few n, ap length (sym (spaced-one n)))

-- how long two arguments are at most
pub arguments-few : (n m : ℕ) → length (spaced (n ∷ m ∷ [])) ≤ most_argument + most_argument
arguments-few n m =
    omega (arith, argument-few n, argument-few m, length-append (spaced (n ∷ [])) (spaced (m ∷ [])), ap length (spaced-two n m))

-- how long what is said of an instruction is at most
pub said-few : (o : Op) → length (said_of o) ≤ most_said
unfolding said_of
said-few (call n) = omega (arith, argument-few n)
said-few (schedule t) = omega (arith, argument-few t)
said-few (branch d a) = omega (arith, arguments-few d a)
said-few (jump a) = omega (arith, argument-few a)
said-few (future d a) = omega (arith, arguments-few d a)
said-few return = omega arith
said-few faulty = omega arith

-- a text is said where the unused word is 0
pub said-yes : (n : ℕ) (said : List ℕ) → n ≡ 0 → said ≡ said_where n said
unfolding said_where
said-yes n said e = sym (cond_yes said [] (eq-eqb n 0 e))

-- nothing is said where the unused word is not 0
pub said-no : (n : ℕ) (said : List ℕ) → (n ≡ 0 → ⊥) → [] ≡ said_where n said
unfolding said_where
said-no n said e = sym (cond_no said [] (ne_eqb n 0 e))

-- two words are 0 where the larger is, as where their sum is
pub said-both : (a b : ℕ) (said : List ℕ) → said_where (max a b) said ≡ said_where (a + b) said
said-both a b said = go (eqb (a + b) 0) refl
  where
    go : (t : Bool) → eqb (a + b) 0 ≡ t → said_where (max a b) said ≡ said_where (a + b) said
    go true e =
        let z = eqb-true (a + b) 0 e in sym (said-yes (max a b) said (omega (arith, z))) ∙ said-yes (a + b) said z
    go false e =
        let n = eqb-false (a + b) 0 e in
        sym (said-no (max a b) said (λ z. n (omega (arith, z)))) ∙ said-no (a + b) said n

-- what is said where the unused word is 0 is what is said of the instruction with that unused word
pub said-unused : (n : ℕ) (o : Op) → said_where n (mnemonic o ++ spaced (arguments o)) ≡ said_of (unused n o)
unfolding said_of
said-unused zero o = sym (said-yes zero (mnemonic o ++ spaced (arguments o)) refl)
said-unused (suc n) o = sym (said-no (suc n) (mnemonic o ++ spaced (arguments o)) (λ e. omega arith))

-- a number that is none of the six says no instruction
pub said-unknown : (n a b : ℕ) → (n ≡ call_number → ⊥) → (n ≡ schedule_number → ⊥) → (n ≡ if_number → ⊥) → (n ≡ jump_number → ⊥)
    → (n ≡ future_number → ⊥) → (n ≡ return_number → ⊥) → [] ≡ said_of (decode n a b)
unfolding said_of
said-unknown n a b c s i j f r = ap said_of (sym (decode-unknown n a b c s i j f r))

-- the pieces of a line, however they are joined
joined : (address mnemonic arguments : List ℕ)
    → address ++ (space ∷ []) ++ (mnemonic ++ arguments) ++ (newline ∷ []) ≡ address ++ (space ∷ (mnemonic ++ (arguments ++ (newline ∷ []))))
joined address mnemonic arguments = simp append_assoc

-- the pieces of a line are the line of the instruction
pub line-said : (address : ℕ) (o : Op) → decimal address ++ (space ∷ []) ++ said_of o ++ (newline ∷ []) ≡ line_of address o
unfolding said_of
line-said address o = joined (decimal address) (mnemonic o) (spaced (arguments o))

-- a line has room for every line of a listing
pub line-few : (address : ℕ) (o : Op) → length (line_of address o) ≤ room
line-few address o =
    let x = decimal address in
    let y = said_of o in
    omega
    (arith, decimal-few address, said-few o, length-append x (space ∷ []), length-append (x ++ (space ∷ [])) y, length-append (x ++ (space ∷ []) ++ y) (newline ∷ []), ap length (line-said address o))
