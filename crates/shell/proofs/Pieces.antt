-- Pieces of a text that reads bring one after the other: what is heard of them is what is heard of the text.
use Prim.Native.Nat.{ℕ}
use mathlib.Core.Path.{◌≡◌, refl, sym, ap, ◌∙◌}
use mathlib.Core.Bool.{Bool, true, false, not}
use mathlib.Core.List.{List, [], ◌∷◌, ◌++◌, append_assoc}
use Rattle.theory.proofs.Bools.{clash}
use Rattle.intake.specs.Line.{Fed, is_decided}
use Rattle.intake.specs.Bytes.{fed_all, ended_of}
use Rattle.intake.specs.Heard.{heard}
use Rattle.intake.proofs.Cut.{cut-anywhere}
use Rattle.intake.proofs.Decided.{decided-stays}
use Rattle.shell.specs.Reading.{Brought, end, Hearing, hearing, after_read, hears}
use Rattle.shell.specs.Exact.{pieces, pieces_text}
use Rattle.shell.proofs.Hearing.{hears-still}

-- a piece and what follows it are heard as one text
cut-heard : (f : Fed) (p rest : List ℕ) → heard (ended_of (fed_all (fed_all f p) rest)) ≡ heard (ended_of (fed_all f (p ++ rest)))
cut-heard f p rest = ap (λ (g : Fed). heard (ended_of g)) (cut-anywhere f p rest)

-- a text that is decided stays so, whatever reads would bring
still-heard : (f : Fed) → is_decided f.intake ≡ true → (reads : List Brought) (rest : List ℕ)
    → heard (hears (hearing f false) reads).fed ≡ heard (ended_of (fed_all f rest))
still-heard f d reads rest = ap (λ (h : Hearing). heard h.fed) (hears-still f reads) ∙ sym (decided-stays f d rest)

-- what is heard of all pieces and then the end is what is heard of the text
pub pieces-heard : (f : Fed) (ps : List (List ℕ))
    → heard (hears (hearing f true) (pieces ps ++ (end ∷ []))).fed ≡ heard (ended_of (fed_all f (pieces_text ps)))
unfolding after_read
pieces-heard f [] = refl
pieces-heard f (p ∷ ps) = go (is_decided (fed_all f p).intake) refl (pieces-heard (fed_all f p) ps) ∙ cut-heard f p (pieces_text ps)
  where
    g : Fed
    g = fed_all f p

    go : (b : Bool) → is_decided g.intake ≡ b
        → heard (hears (hearing g true) (pieces ps ++ (end ∷ []))).fed ≡ heard (ended_of (fed_all g (pieces_text ps)))
        → heard (hears (hearing g (not b)) (pieces ps ++ (end ∷ []))).fed ≡ heard (ended_of (fed_all g (pieces_text ps)))
    go true d more = still-heard g d (pieces ps ++ (end ∷ [])) (pieces_text ps)
    go false d more = more

-- what is heard of pieces after which the program reads no more is heard of the text, whatever would have followed
pub stopped-heard : (f : Fed) (ps : List (List ℕ)) (rest : List ℕ) → (hears (hearing f true) (pieces ps)).more ≡ false
    → heard (hears (hearing f true) (pieces ps)).fed ≡ heard (ended_of (fed_all f (pieces_text ps ++ rest)))
unfolding after_read
stopped-heard f [] rest e = clash {b = true} refl e
stopped-heard f (p ∷ ps) rest e =
    go (is_decided (fed_all f p).intake) refl e (stopped-heard (fed_all f p) ps rest)
    ∙ cut-heard f p (pieces_text ps ++ rest)
    ∙ ap (λ (l : List ℕ). heard (ended_of (fed_all f l))) (sym (append_assoc p (pieces_text ps) rest))
  where
    g : Fed
    g = fed_all f p

    go : (b : Bool) → is_decided g.intake ≡ b → (hears (hearing g (not b)) (pieces ps)).more ≡ false
        → ((hears (hearing g true) (pieces ps)).more ≡ false → heard (hears (hearing g true) (pieces ps)).fed ≡ heard (ended_of (fed_all g (pieces_text ps ++ rest))))
        → heard (hears (hearing g (not b)) (pieces ps)).fed ≡ heard (ended_of (fed_all g (pieces_text ps ++ rest)))
    go true d e more = still-heard g d (pieces ps) (pieces_text ps ++ rest)
    go false d e more = more e

-- after pieces after which the program reads on, the text so far is known and not decided
pub record Going (f : Fed) (ps : List (List ℕ)) : Type 0 where
  pub comes : hears (hearing f true) (pieces ps) ≡ hearing (fed_all f (pieces_text ps)) true
  pub undecided : is_decided (fed_all f (pieces_text ps)).intake ≡ false

pub going-heard : (f : Fed) (ps : List (List ℕ)) → is_decided f.intake ≡ false → (hears (hearing f true) (pieces ps)).more ≡ true → Going f ps
unfolding after_read
going-heard f [] d e = record { comes = refl; undecided = d }
going-heard f (p ∷ ps) d e = go (is_decided (fed_all f p).intake) refl e (going-heard (fed_all f p) ps)
  where
    g : Fed
    g = fed_all f p

    joins : fed_all g (pieces_text ps) ≡ fed_all f (p ++ pieces_text ps)
    joins = cut-anywhere f p (pieces_text ps)

    go : (b : Bool) → is_decided g.intake ≡ b → (hears (hearing g (not b)) (pieces ps)).more ≡ true
        → (is_decided g.intake ≡ false → (hears (hearing g true) (pieces ps)).more ≡ true → Going g ps) → Going f (p ∷ ps)
    go true d e more = clash {b = false} (ap (λ (h : Hearing). h.more) (sym (hears-still g (pieces ps))) ∙ e) refl
    go false d e more =
        let m = more d e in
        record {
          comes = (λ j. hears (hearing g (not (d j))) (pieces ps)) ∙ m.comes ∙ ap (λ (h : Fed). hearing h true) joins;
          undecided = ap (λ (h : Fed). is_decided h.intake) (sym joins) ∙ m.undecided;
        }
