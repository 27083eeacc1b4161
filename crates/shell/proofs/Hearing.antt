-- What reads come to: what one of them has brought, one read more, and no read more.
use mathlib.Core.Path.{◌≡◌, refl, sym, ap, ◌∙◌}
use mathlib.Core.Bool.{Bool, true, false}
use mathlib.Core.List.{List, [], ◌∷◌, ◌++◌}
use Prim.Native.Nat.{ℕ, zero, suc}
use lib.IntN.{ℤ}
use lib.ListN.{length, take}
use Rattle.std.specs.Prelude.{Option, Some, None, is_some}
use Rattle.streams.specs.Counts.{clamp_len}
use Rattle.theory.proofs.Bools.{clash}
use Rattle.intake.specs.Line.{Fed}
use Rattle.shell.specs.Reading.{Brought, piece, failure, piece_of, brought, Hearing, hearing, after_read, hears, silent, AfterSome}

-- a read that has failed brought nothing
pub brought-failure : (got : Option ℕ) (buffer : List ℕ) → is_some got ≡ false → brought got buffer ≡ failure
unfolding brought
brought-failure None buffer e = refl
brought-failure (Some n) buffer e = clash {b = true} refl e

-- a read that has not failed has brought so many bytes, as many as the buffer holds
pub brought-bytes : (got : Option ℕ) (buffer : List ℕ) (n : ℕ) → is_some got ≡ true → n ≡ clamp_len got (length buffer)
    → brought got buffer ≡ piece_of n buffer
unfolding brought
brought-bytes None buffer n e h = clash {b = false} e refl
brought-bytes (Some k) buffer n e h = ap (λ (m : ℕ). piece_of m buffer) (sym h)

-- a read of some bytes has brought a piece
pub some_bytes : (n : ℕ) (buffer : List ℕ) → (n ≡ 0 → ⊥) → piece_of n buffer ≡ piece (take n buffer)
some_bytes zero buffer h = absurd (h refl)
some_bytes (suc n) buffer h = refl

-- what is known after one read more
pub hears-one : (f : Fed) (more : Bool) (reads : List Brought) (g : Fed) (b : Brought)
    → hears (hearing f more) reads ≡ hearing g true → hears (hearing f more) (reads ++ (b ∷ [])) ≡ after_read g b
hears-one f more [] g b e = ap (λ (h : Hearing). hears h (b ∷ [])) e
hears-one f true (x ∷ xs) g b e = hears-one (after_read f x).fed (after_read f x).more xs g b e
hears-one f false (x ∷ xs) g b e = clash {b = false} (ap (λ (h : Hearing). h.more) e) refl

-- before the first read what is known is what some reads have come to
pub some-none : (room : List ℤ) → AfterSome room (silent room)
some-none room = record { reads = []; comes = refl }

-- after one read more, whatever it brought, what is known is what some reads have come to
pub some_more : (room : List ℤ) (f g : Fed) (more m : Bool) (b : Brought)
    → AfterSome room (hearing f true) → hearing g more ≡ after_read f b → more ≡ m → AfterSome room (hearing g m)
some_more room f g more m b s e h =
    record {
      reads = s.reads ++ (b ∷ []);
      comes = hears-one (silent room).fed true s.reads f b s.comes ∙ sym e ∙ ap (hearing g) h;
    }

-- a program that does not read on stays as it is
pub hears-still : (f : Fed) (reads : List Brought) → hears (hearing f false) reads ≡ hearing f false
hears-still f [] = refl
hears-still f (b ∷ bs) = refl
