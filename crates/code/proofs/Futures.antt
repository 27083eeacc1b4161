-- The `future`s of the listing: each is that of a unit of a declared mode, stands at that unit's address and waits its ticks.
-- That it is that of no other unit is `future-once`.
use Prim.Native.Nat.{ℕ, zero, suc, ◌+◌, ◌<◌}
use mathlib.Core.Path.{◌≡◌, refl, sym, subst, ◌∙◌}
use mathlib.Core.List.{List, [], ◌∷◌, ◌++◌, map}
use mathlib.Core.Option.{Option, none, some}
use native.Mathlib.Nat.{add-zero, zero-add}
use native.Mathlib.Omega.{arith}
use lib.ListN.{length}
use Rattle.theory.specs.Lists.{Every, cat}
use Rattle.theory.proofs.Lists.{every-all, every-image, every_append, cat-length}
use Rattle.program.specs.Program.{Program, Mode, Switch, mode, ticks_of, due_invocations, due_updates, due_switches, due_tasks}
use Rattle.code.specs.Op.{Op, schedule}
use Rattle.code.specs.Listing.{block_size, mode_size, mode_address, block_address, future_address, call_driver, call_output, call_sensor}
use Rattle.code.specs.Listing.{head_of, tests_of, body_of, end_of, stubs_of, block_code, mode_code, listing}
use Rattle.code.specs.Compile.{future_delay, delay_at}
use Rattle.code.proofs.Length.{tests-length, head-length, body-length, block-length, mode-length}

-- the instruction is no `future`
abbrev pub Plain : Op → Type 0
Plain o = future_delay o ≡ none

-- none is no delay
no-delay : {R : Type 0} (d : ℕ) → ◌≡◌ {A = Option ℕ} none (some d) → R
no-delay d e = let z : ◌≡◌ {A = ℕ} 0 1 = cc in absurd (omega arith)

-- instructions that are made by a function that makes no `future` are no `future`s
plain : {A : Type 0} (f : A → Op) (xs : List A) → ((x : A) → Plain (f x)) → Every Plain (map f xs)
plain f xs h = every-image Plain f xs (every-all (λ x. Plain (f x)) xs h)

-- no `future` stands before the switch tests of a block
pub head_plain : (P : Program) (M : Mode) (k : ℕ) → Every Plain (head_of P M k)
head_plain P M k =
    every_append Plain (map call_output (due_tasks M k)) _ (plain call_output (due_tasks M k) (λ t. refl))
    (every_append Plain (map (λ r. call_driver r.driver) (due_updates M k)) _ (plain _ (due_updates M k) (λ r. refl))
    (plain call_sensor P.sensors (λ p. refl)))

-- no `future` stands among the switch tests
pub tests_plain : (ws : List Switch) (a : ℕ) → Every Plain (tests_of ws a)
tests_plain [] a = tt
tests_plain (w ∷ ws) a = (refl, tests_plain ws (2 + a))

-- no `future` stands between the entry of a block and its `future`
pub body-plain : (M : Mode) (k : ℕ) → Every Plain (body_of M k)
body-plain M k =
    every_append Plain (map (λ r. call_driver r.driver) (due_invocations M k)) _ (plain _ (due_invocations M k) (λ r. refl))
    (plain schedule (due_tasks M k) (λ t. refl))

-- no `future` stands among the stubs
pub stubs-plain : (P : Program) (k : ℕ) (ws : List Switch) → Every Plain (stubs_of P k ws)
stubs-plain P k [] = tt
stubs-plain P k (w ∷ ws) = (refl, (refl, stubs-plain P k ws))

module _ (Q : ℕ → ℕ → Type 0) where
  -- of the instructions from address a on, each `future` has Q, of its address and its delay
  abbrev pub Futures : ℕ → List Op → Type 0
  Futures a [] = Unit {0}
  Futures a (o ∷ os) = ((d : ℕ) → future_delay o ≡ some d → Q a d) × Futures (suc a) os

  -- where there is no `future`, each has Q
  futures-none : (os : List Op) (a : ℕ) → Every Plain os → Futures a os
  futures-none [] a h = tt
  futures-none (o ∷ os) a h = (λ d e. no-delay d (sym h.0 ∙ e), futures-none os (suc a) h.1)

  -- where each `future` of two pieces has Q, each of the two together has it
  futures-append : (xs ys : List Op) (a : ℕ) → Futures a xs → Futures (a + length xs) ys → Futures a (xs ++ ys)
  futures-append [] ys a h g = subst (λ (n : ℕ). Futures n ys) (add-zero a) g
  futures-append (x ∷ xs) ys a h g =
      let e : a + suc (length xs) ≡ suc a + length xs = omega arith in
      (h.0, futures-append xs ys (suc a) h.1 (subst (λ (n : ℕ). Futures n ys) e g))

  -- where each `future` of every piece has Q, each of all together has it; piece k stands at address at k
  futures-cat : (f : ℕ → List Op) (at : ℕ → ℕ) (n a : ℕ) → ((k : ℕ) → k < n → at k ≡ a + length (cat f k))
      → ((k : ℕ) → k < n → Futures (at k) (f k)) → Futures a (cat f n)
  futures-cat f at zero a e h = tt
  futures-cat f at (suc n) a e h =
      futures-append (cat f n) (f n) a (futures-cat f at n a (λ k l. e k (omega arith)) (λ k l. h k (omega arith)))
      (subst (λ (m : ℕ). Futures m (f n)) (e n (omega arith)) (h n (omega arith)))

  -- where each `future` has Q, the one at an address has it
  futures-at : (os : List Op) (a i d : ℕ) → Futures a os → delay_at os i ≡ some d → Q (a + i) d
  futures-at [] a i d h e = no-delay d e
  futures-at (o ∷ os) a zero d h e = subst (λ (n : ℕ). Q n d) (sym (add-zero a)) (h.0 d e)
  futures-at (o ∷ os) a (suc i) d h e =
      let q : suc a + i ≡ a + suc i = omega arith in subst (λ (n : ℕ). Q n d) q (futures-at os (suc a) i d h.1 e)

-- a is the address of the `future` of a unit of a declared mode, and d its ticks
pub record FutureOf (P : Program) (a d : ℕ) : Type 0 where
  pub own : ℕ
  pub unit : ℕ
  pub declared : own < length P.modes
  pub within : unit < (mode P own).units
  pub address : a ≡ future_address P own unit
  pub delay : d ≡ ticks_of (mode P own)

-- the only `future` of a block is that of its unit
block-futures : (P : Program) (m k : ℕ) → m < length P.modes → k < (mode P m).units → Futures (FutureOf P) (block_address P m k) (block_code P m k)
block-futures P m k h l =
    futures-append Q hd _ a (futures-none Q hd a (head_plain P (mode P m) k))
    (futures-append Q ts _ (a + length hd) (futures-none Q ts (a + length hd) (tests_plain ws (2 + future_address P m k)))
    (futures-append Q bd _ (a + length hd + length ts) (futures-none Q bd (a + length hd + length ts) (body-plain (mode P m) k))
    (futures-append Q (end_of P m k) (stubs_of P k ws) (a + length hd + length ts + length bd)
    (λ d e. record { own = m; unit = k; declared = h; within = l; address = there; delay = cc }, (λ d e. no-delay d e, tt))
    (futures-none Q (stubs_of P k ws) (a + length hd + length ts + length bd + 2) (stubs-plain P k ws)))))
  where
    Q : ℕ → ℕ → Type 0
    Q = FutureOf P

    a : ℕ
    a = block_address P m k

    ws : List Switch
    ws = due_switches (mode P m) k

    hd : List Op
    hd = head_of P (mode P m) k

    ts : List Op
    ts = tests_of ws (2 + future_address P m k)

    bd : List Op
    bd = body_of (mode P m) k

    there : a + length hd + length ts + length bd ≡ future_address P m k
    there = omega (arith, head-length P (mode P m) k, tests-length ws (2 + future_address P m k), body-length (mode P m) k)

-- a `future` of the listing is that of a unit of a declared mode
pub future-of : (P : Program) (a d : ℕ) → delay_at (listing P) a ≡ some d → FutureOf P a d
unfolding listing
future-of P a d e =
    subst (λ (n : ℕ). FutureOf P n d) (zero-add a) (futures-at (FutureOf P) (listing P) 0 a d (λ d q. no-delay d q, modes) e)
  where
    units : (m : ℕ) → m < length P.modes → Futures (FutureOf P) (mode_address P m) (mode_code P m)
    units m h =
        futures-cat (FutureOf P) (block_code P m) (block_address P m) (mode P m).units (mode_address P m)
        (λ k l. omega (arith, cat-length (block_code P m) (block_size P (mode P m)) k (λ j q. block-length P m j)))
        (λ k l. block-futures P m k h l)

    modes : Futures (FutureOf P) 1 (cat (mode_code P) (length P.modes))
    modes =
        futures-cat (FutureOf P) (mode_code P) (mode_address P) (length P.modes) 1
        (λ m l. omega (arith, cat-length (mode_code P) (λ i. mode_size P (mode P i)) m (λ i q. mode-length P i)))
        units
