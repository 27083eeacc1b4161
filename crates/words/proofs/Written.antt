-- Instructions written one after the other: the next address, the slice's length, and the whole slice afterwards.
-- Assumes of the whole slice that the instructions fit it.
use Prim.Native.Nat.{ℕ, suc, ◌+◌, ◌*◌, ◌≤◌}
use mathlib.Core.Path.{◌≡◌, refl, ap, ap₂, sym, ◌∙◌}
use mathlib.Core.List.{List, [], ◌∷◌, ◌++◌, map, append_assoc}
use native.Mathlib.Omega.{arith}
use lib.ListN.{length, drop, length-append, length-drop}
use lib.Seq.{sets, length-sets, sets-eq, take_at, drop-append-add, drop-drop}
use Rattle.cells.specs.Limits.{words_each}
use Rattle.code.specs.Op.{Op, call, schedule, branch, jump, future, return, faulty, words, emit}
use Rattle.code.proofs.Words.{words-length}
use Rattle.words.specs.Written.{Words, three, Written, written, writes}

-- the words that are put into the slice
abbrev listed : Words → List ℕ
listed o = o.number ∷ o.first ∷ o.second ∷ []

-- two lists of instructions are written one after the other
pub writes-append : (a b : List Words) (w : Written) → writes (a ++ b) w ≡ writes b (writes a w)
writes-append [] b w = refl
writes-append (o ∷ a) b w = writes-append a b _

-- what is written behind what was written is the two together
pub writes_then : (v : Written) (a b : List Words) {w u : Written} → w ≡ writes a v → u ≡ writes b w → u ≡ writes (a ++ b) v
writes_then v a b p q = q ∙ ap (writes b) p ∙ sym (writes-append a b v)

-- the next address is as many instructions further as were written
pub writes_at : (os : List Words) (w : Written) → (writes os w).at ≡ w.at + length os
writes_at [] w = omega arith
writes_at (o ∷ os) w = omega (arith, writes_at os (written (sets w.code (w.at * words_each) (listed o)) (w.at + 1)))

pub written_at : (v : Written) (os : List Words) {w : Written} → w ≡ writes os v → w.at ≡ v.at + length os
written_at v os e = ap (λ (w : Written). w.at) e ∙ writes_at os v

-- the slice keeps its length, whatever is written
pub writes-length : (os : List Words) (w : Written) → length (writes os w).code ≡ length w.code
writes-length [] w = refl
writes-length (o ∷ os) w =
    writes-length os (written (sets w.code (w.at * words_each) (listed o)) (w.at + 1)) ∙ length-sets w.code (w.at * words_each) (listed o)

-- the words that are written are the instruction's
three-words : (o : Op) → listed (three o) ≡ words o
three-words (call n) = refl
three-words (schedule t) = refl
three-words (branch d a) = refl
three-words (jump a) = refl
three-words (future d a) = refl
three-words return = refl
three-words faulty = refl

-- one instruction behind a front of a instructions takes the place of three words
one_more : (o : Op) (p q : List ℕ) (a : ℕ) → length p ≡ a * words_each → words_each ≤ length q
    → sets (p ++ q) (a * words_each) (listed (three o)) ≡ (p ++ words o) ++ drop words_each q
one_more o p q a e h =
    sets-eq (listed (three o)) (p ++ q) (a * words_each) (omega (arith, length-append p q))
    ∙ rw (three-words o, take_at p q (a * words_each) e, ← e, drop-append-add p q words_each)

-- instructions behind a front of a instructions take the place of as many words
from-seam : (os : List Op) (p q : List ℕ) (a : ℕ) → length p ≡ a * words_each → words_each * length os ≤ length q
    → writes (map three os) (written (p ++ q) a) ≡ written (p ++ (emit os ++ drop (words_each * length os) q)) (a + length os)
from-seam [] p q a e h = ap (written (p ++ q)) (omega arith)
from-seam (o ∷ os) p q a e h =
    ap (λ (l : List ℕ). writes (map three os) (written l (a + 1))) (one_more o p q a e (omega arith))
    ∙ from-seam os (p ++ words o) (drop words_each q) (a + 1) (omega (arith, length-append p (words o), words-length o)) (omega (arith, length-drop words_each q))
    ∙ ap₂ written (rest (omega arith)) (omega arith)
  where
    rest : words_each + words_each * length os ≡ words_each * suc (length os)
        → (p ++ words o) ++ (emit os ++ drop (words_each * length os) (drop words_each q)) ≡ p ++ (emit (o ∷ os) ++ drop (words_each * suc (length os)) q)
    rest z = ap (λ (l : List ℕ). (p ++ words o) ++ (emit os ++ l)) (drop-drop (words_each * length os) words_each q ∙ ap (λ (n : ℕ). drop n q) z) ∙ simp append_assoc

-- instructions written from the start of a slice leave their words, and the rest of the slice as it was
pub writes-emit : (os : List Op) (l : List ℕ) → words_each * length os ≤ length l
    → writes (map three os) (written l 0) ≡ written (emit os ++ drop (words_each * length os) l) (length os)
writes-emit os l h = from-seam os [] l 0 refl h ∙ ap (written _) (omega arith)
