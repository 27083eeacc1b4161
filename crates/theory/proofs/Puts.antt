-- Assignments made one after the other: at a place that gets one value only, that value; elsewhere, the old one.
-- So a list of assignments makes what a claim of writes says, where each place has one value and lies inside (`Assigns`).
-- Nothing else is assumed.
use Prim.Native.Nat.{ℕ, ◌<◌}
use mathlib.Core.Path.{◌≡◌, refl, sym, ap, ◌∙◌}
use mathlib.Core.List.{List, [], ◌∷◌, ◌++◌}
use mathlib.Core.Logic.{inl, inr, ◌↔◌}
use native.Mathlib.Omega.{arith}
use native.Mathlib.Decide.{ℕ_discrete}
use lib.IntN.{ℤ}
use lib.ListN.{length, get_or, set, length-set}
use lib.Seq.{get_or-set_same, get_or-set_other, set-get_or}
use Rattle.theory.specs.Lists.{Every, Put, puts}
use Rattle.theory.proofs.Members.{Has}

-- one of the assignments of a list gives place p the value x
abbrev pub Wrote : List Put → ℕ → ℤ → Type 0
Wrote l p x = Has (λ a. (a.place ≡ p) × (x ≡ a.value)) l

-- assignments leave the length of the values as it was
pub puts-length : (l : List Put) (v : List ℤ) → length (puts l v) ≡ length v
puts-length [] v = refl
puts-length (a ∷ l) v = puts-length l (set v a.place a.value) ∙ length-set v a.place a.value

-- the assignments of two lists are those of the one and then those of the other
pub puts-append : (a b : List Put) (v : List ℤ) → puts (a ++ b) v ≡ puts b (puts a v)
puts-append [] b v = refl
puts-append (x ∷ a) b v = puts-append a b (set v x.place x.value)

-- what a claim of writes has to be for a list of assignments to make it, among n places
pub record Assigns (Writes : ℕ → ℤ → Type 0) (l : List Put) (n : ℕ) : Type 0 where
  pub wrote : (p : ℕ) (x : ℤ) → Wrote l p x ↔ Writes p x
  pub one : (p : ℕ) (x y : ℤ) → Writes p x → Writes p y → x ≡ y
  pub inside : (p : ℕ) (x : ℤ) → Writes p x → p < n

-- d is what stands past the end of the values
module _ (d : ℤ) where
  -- assignments that give each place the value that it has change nothing
  pub puts-own : (l : List Put) (v : List ℤ) → Every (λ a. a.value ≡ get_or v a.place d) l → puts l v ≡ v
  puts-own [] v h = refl
  puts-own (a ∷ l) v h = ap (puts l) (ap (set v a.place) h.0 ∙ set-get_or v a.place d) ∙ puts-own l v h.1

  -- after one assignment its value stands at its place
  set_at : (a : Put) (v : List ℤ) (p : ℕ) (x : ℤ) → p < length v → a.place ≡ p → x ≡ a.value → get_or (set v a.place a.value) p d ≡ x
  set_at a v p x b e f = rw (← e) (get_or-set_same v a.place a.value d (omega arith) ∙ sym f)

  -- a place that has x, and gets no other value, has x after the assignments
  puts-hold : (l : List Put) (v : List ℤ) (p : ℕ) (x : ℤ) → p < length v → get_or v p d ≡ x → ((y : ℤ) → Wrote l p y → y ≡ x) → get_or (puts l v) p d ≡ x
  puts-hold [] v p x b h one = h
  puts-hold (a ∷ more) v p x b h one =
      puts-hold more (set v a.place a.value) p x (simp length-set b) (go (ℕ_discrete a.place p)) (λ y w. one y (inr w))
    where
      go : Dec (a.place ≡ p) → get_or (set v a.place a.value) p d ≡ x
      go (yes e) = set_at a v p x b e (sym (one a.value (inl (e, refl))))
      go (no e) = get_or-set_other v a.place p a.value d (λ q. e (sym q)) ∙ h

  -- a place inside that gets x, and no other value, has x after the assignments
  pub puts-at : (l : List Put) (v : List ℤ) (p : ℕ) (x : ℤ) → p < length v → Wrote l p x → ((y : ℤ) → Wrote l p y → y ≡ x) → get_or (puts l v) p d ≡ x
  puts-at [] v p x b w one = absurd w
  puts-at (a ∷ more) v p x b (inl w) one =
      puts-hold more (set v a.place a.value) p x (simp length-set b) (set_at a v p x b w.0 w.1) (λ y h. one y (inr h))
  puts-at (a ∷ more) v p x b (inr w) one =
      puts-at more (set v a.place a.value) p x (simp length-set b) w (λ y h. one y (inr h))

  -- a place that gets no value has its old one after the assignments
  pub puts-other : (l : List Put) (v : List ℤ) (p : ℕ) → ((y : ℤ) → Wrote l p y → ⊥) → get_or (puts l v) p d ≡ get_or v p d
  puts-other [] v p none = refl
  puts-other (a ∷ more) v p none =
      puts-other more (set v a.place a.value) p (λ y h. none y (inr h))
      ∙ get_or-set_other v a.place p a.value d (λ e. none a.value (inl (sym e, refl)))

  module _ {Writes : ℕ → ℤ → Type 0} {l : List Put} {n : ℕ} (v : List ℤ) (a : Assigns Writes l n) where
    -- what a claim of writes says is written stands there after the assignments
    pub puts-written : length v ≡ n → (p : ℕ) (x : ℤ) → Writes p x → get_or (puts l v) p d ≡ x
    puts-written e p x w =
        puts-at l v p x (rw e (a.inside p x w)) ((a.wrote p x).1 w) (λ y h. a.one p y x ((a.wrote p y).0 h) w)

    -- what no write concerns is as it was after the assignments
    pub puts-kept : (p : ℕ) → ((x : ℤ) → Writes p x → ⊥) → get_or (puts l v) p d ≡ get_or v p d
    puts-kept p none = puts-other l v p (λ y h. none y ((a.wrote p y).0 h))
