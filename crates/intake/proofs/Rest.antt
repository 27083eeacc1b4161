-- What the definition says of the lines that are left, in the middle of a table, and how one line more shortens it.
use Prim.Native.Nat.{ℕ, zero, suc, ◌*◌, ◌≤◌, ◌<◌}
use mathlib.Core.Path.{◌≡◌, refl, sym, ap, ◌∙◌}
use mathlib.Core.Bool.{Bool, true, false}
use mathlib.Core.List.{List, [], ◌∷◌, ◌++◌, append_assoc}
use mathlib.Core.Option.{Option, none, some}
use lib.IntN.{ℤ, pos}
use lib.ListN.{length}
use borrow.Author.Tests.{le-leb, lt-leb}
use Rattle.program.specs.Tables.{Tables}
use Rattle.text.specs.Input.{Read, bad, too_many, got, then, several, table, Shape, all_of, placed, ended}

-- reading on twice is reading on once with both
then-after : {A B C : Type 0} (r : Read A) (g : A → List (Option ℤ) → Read B) (h : B → List (Option ℤ) → Read C)
    → then (then r g) h ≡ then r (λ a rest. then (g a rest) h)
then-after bad g h = refl
then-after too_many g h = refl
then-after (got a rest) g h = refl

-- reading on in two ways that say the same comes to the same
then_same : {A B : Type 0} (r : Read A) (g h : A → List (Option ℤ) → Read B)
    → ((a : A) (rest : List (Option ℤ)) → g a rest ≡ h a rest) → then r g ≡ then r h
then_same bad g h e = refl
then_same too_many g h e = refl
then_same (got a rest) g h e = e a rest

-- after n numbers two ways of reading on need say the same for n numbers only
several-same : {B : Type 0} (n : ℕ) (rest : List (Option ℤ)) (g h : List ℤ → List (Option ℤ) → Read B)
    → ((zs : List ℤ) → length zs ≡ n → (more : List (Option ℤ)) → g zs more ≡ h zs more)
    → then (several n rest) g ≡ then (several n rest) h
several-same zero rest g h e = e [] refl rest
several-same (suc n) [] g h e = refl
several-same (suc n) (none ∷ rest) g h e = refl
several-same (suc n) (some z ∷ rest) g h e =
    then-after (several n rest) (λ zs last. got (z ∷ zs) last) g
    ∙ several-same n rest (λ zs last. g (z ∷ zs) last) (λ zs last. h (z ∷ zs) last) (λ zs l more. e (z ∷ zs) (ap suc l) more)
    ∙ sym (then-after (several n rest) (λ zs last. got (z ∷ zs) last) h)

-- reading the tables of these shapes after those that are done, and then nothing
abbrev pub finish : List Shape → ℤ → List (List ℤ) → List (Option ℤ) → Read Tables
finish ss start done more = then (all_of ss more) (λ ts last. ended (placed start (done ++ ts)) last)

-- reading so many numbers of the latest table first: `done` are the tables up to it, by the numbers still to come
abbrev pub going : ℕ → List Shape → (List ℤ → List (List ℤ)) → ℤ → List (Option ℤ) → Read Tables
going left ss done start rest = then (several left rest) (λ zs more. finish ss start (done zs) more)

module _ (start : ℤ) (rest : List (Option ℤ)) where
  -- a line that is no number leaves the text bad
  pub going-none : (left : ℕ) (ss : List Shape) (done : List ℤ → List (List ℤ)) → going left ss done start (none ∷ rest) ≡ bad
  going-none zero [] done = refl
  going-none zero (s ∷ ss) done = refl
  going-none (suc left) ss done = refl

  -- a number of the latest table is one less to come
  pub going-number : (left : ℕ) (ss : List Shape) (done : List ℤ → List (List ℤ)) (z : ℤ)
      → going (suc left) ss done start (some z ∷ rest) ≡ going left ss (λ zs. done (z ∷ zs)) start rest
  going-number left ss done z =
      then-after (several left rest) (λ zs last. got (z ∷ zs) last) (λ zs more. finish ss start (done zs) more)

  -- the tables up to the latest need be the same for so many numbers only
  pub going-same : (left : ℕ) (ss : List Shape) (done other : List ℤ → List (List ℤ))
      → ((zs : List ℤ) → length zs ≡ left → done zs ≡ other zs) → going left ss done start rest ≡ going left ss other start rest
  going-same left ss done other e =
      several-same left rest (λ zs more. finish ss start (done zs) more) (λ zs more. finish ss start (other zs) more)
      (λ zs l more. ap (λ (d : List (List ℤ)). finish ss start d more) (e zs l))

  -- a row count within the limit is followed by so many rows
  within : (width limit n : ℕ) → n ≤ limit → table width limit (some (pos n) ∷ rest) ≡ several (n * width) rest
  within width limit n h =
      ap (λ (b : Bool). elim b [ true ↦ several (n * width) rest | false ↦ too_many ]) (le-leb n limit h)

  -- a row count past the limit decides
  past : (width limit n : ℕ) → limit < n → table width limit (some (pos n) ∷ rest) ≡ too_many
  past width limit n h =
      ap (λ (b : Bool). elim b [ true ↦ several (n * width) rest | false ↦ too_many ]) (lt-leb n limit h)

  module _ (s : Shape) (ss : List Shape) (done : List ℤ → List (List ℤ)) (n : ℕ) where
    -- reading the tables after a table, and putting it in front of them
    abbrev others : List ℤ → List (Option ℤ) → Read (List (List ℤ))
    others t more = then (all_of ss more) (λ ts last. got (t ∷ ts) last)

    -- what is read after all tables
    abbrev after : List (List ℤ) → List (Option ℤ) → Read Tables
    after ts last = ended (placed start (done [] ++ ts)) last

    -- a table that was read is one more of those that are done
    one_more : (t : List ℤ) (more : List (Option ℤ)) → then (others t more) after ≡ finish ss start (done [] ++ (t ∷ [])) more
    one_more t more =
        then-after (all_of ss more) (λ ts last. got (t ∷ ts) last) after
        ∙ then_same (all_of ss more) (λ ts last. after (t ∷ ts) last) (λ ts last. ended (placed start ((done [] ++ (t ∷ [])) ++ ts)) last)
        (λ ts last. ap (λ (l : List (List ℤ)). ended (placed start l) last) (sym (append_assoc (done []) (t ∷ []) ts)))

    -- a row count within the limit begins the next table
    pub going-within : n ≤ s.limit
        → going 0 (s ∷ ss) done start (some (pos n) ∷ rest) ≡ going (n * s.width) ss (λ zs. done [] ++ (zs ∷ [])) start rest
    going-within h =
        let rows = several (n * s.width) rest in
        ap (λ (r : Read (List ℤ)). then (then r others) after) (within s.width s.limit n h)
        ∙ then-after rows others after
        ∙ then_same rows (λ t more. then (others t more) after) (λ t more. finish ss start (done [] ++ (t ∷ [])) more) one_more

    -- a row count past the limit decides, with a table to come
    pub going-past : s.limit < n → going 0 (s ∷ ss) done start (some (pos n) ∷ rest) ≡ too_many
    going-past h = ap (λ (r : Read (List ℤ)). then (then r others) after) (past s.width s.limit n h)
