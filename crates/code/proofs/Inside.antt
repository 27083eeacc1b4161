-- Every address that the listing names lies inside it.
-- Assumes that the start mode and every switch target are declared, and that every mode has a unit (`Aims`).
use Prim.Native.Nat.{ℕ, ◌+◌, ◌*◌, ◌≤◌, ◌<◌}
use mathlib.Core.List.{List, [], ◌∷◌, map}
use native.Mathlib.Omega.{arith}
use lib.ListN.{length, get_or}
use Rattle.theory.specs.Lists.{Every}
use Rattle.theory.proofs.Lists.{every-keep, every-all, every-image, every_append, every-cat, every-at}
use Rattle.program.specs.Program.{Program, Mode, Switch, mode, next_unit, entered_unit, due_invocations, due_updates, due_switches, due_tasks}
use Rattle.program.proofs.Decoded.{next-below}
use Rattle.code.specs.Op.{Op, call, schedule, branch, jump, future, return, faulty}
use Rattle.code.specs.Listing.{block_address, entry_address, future_address, call_driver, call_output, call_sensor, head_of, tests_of}
use Rattle.code.specs.Listing.{body_of, end_of, stubs_of, block_code, mode_code, listing}
use Rattle.code.proofs.Place.{block_within}

-- what a program's names aim at is there
pub record Aims (P : Program) : Type 0 where
  pub start : P.start < length P.modes
  pub units : (m : ℕ) → m < length P.modes → 1 ≤ (mode P m).units
  pub targets : (m : ℕ) → m < length P.modes → Every (λ w. w.target < length P.modes) (mode P m).switches

-- the address that an instruction names, if any, is below n
abbrev pub Below : ℕ → Op → Type 0
Below n (call c) = Unit {0}
Below n (schedule t) = Unit {0}
Below n (branch d a) = a < n
Below n (jump a) = a < n
Below n (future d a) = a < n
Below n return = Unit {0}
Below n faulty = Unit {0}

-- the stubs that the tests name stand inside
tests-inside : (n : ℕ) (ws : List Switch) (a : ℕ) → a + 2 * length ws ≤ n → Every (Below n) (tests_of ws a)
tests-inside n [] a h = tt
tests-inside n (w ∷ ws) a h = (omega arith, tests-inside n ws (2 + a) (omega arith))

-- calls and schedules name no address
mapped : {A : Type 0} (n : ℕ) (f : A → Op) (xs : List A) → ((x : A) → Below n (f x)) → Every (Below n) (map f xs)
mapped n f xs h = every-image (Below n) f xs (every-all (λ x. Below n (f x)) xs h)

-- what stands before the switch tests of a block names no address
head-inside : (P : Program) (M : Mode) (k n : ℕ) → Every (Below n) (head_of P M k)
head-inside P M k n =
    every_append (Below n) (map call_output (due_tasks M k)) _ (mapped n call_output (due_tasks M k) (λ t. tt))
    (every_append (Below n) (map (λ r. call_driver r.driver) (due_updates M k)) _ (mapped n _ (due_updates M k) (λ r. tt))
    (mapped n call_sensor P.sensors (λ p. tt)))

-- what stands between the entry of a block and its `future` names no address
body-inside : (M : Mode) (k n : ℕ) → Every (Below n) (body_of M k)
body-inside M k n =
    every_append (Below n) (map (λ r. call_driver r.driver) (due_invocations M k)) _ (mapped n _ (due_invocations M k) (λ r. tt))
    (mapped n schedule (due_tasks M k) (λ t. tt))

-- a block of a declared mode begins inside
pub block_inside : (P : Program) (m k : ℕ) → m < length P.modes → k < (mode P m).units → block_address P m k < length (listing P)
block_inside P m k h l = omega (arith, block_within P m k h l)

-- the entry of a block of a declared mode stands inside
pub entry-inside : (P : Program) (m k : ℕ) → m < length P.modes → k < (mode P m).units → entry_address P m k < length (listing P)
entry-inside P m k h l = omega (arith, block_within P m k h l)

module _ (P : Program) (o : Aims P) where
  -- the entries to which the stubs jump stand inside
  stubs-inside : (k : ℕ) (ws : List Switch) → Every (λ w. w.target < length P.modes) ws → Every (Below (length (listing P))) (stubs_of P k ws)
  stubs-inside k [] h = tt
  stubs-inside k (w ∷ ws) h =
      (tt, (entry-inside P w.target (entered_unit k w) h.0 (o.units w.target h.0), stubs-inside k ws h.1))

  -- every address that a block of a declared mode names lies inside the listing
  all-inside : (m k : ℕ) → m < length P.modes → k < (mode P m).units → Every (Below (length (listing P))) (block_code P m k)
  all-inside m k h l =
      every_append _ (head_of P M k) _ (head-inside P M k n)
      (every_append _ (tests_of ws (2 + future_address P m k)) _ (tests-inside n ws (2 + future_address P m k) (omega (arith, block_within P m k h l)))
      (every_append _ (body_of M k) _ (body-inside M k n)
      (every_append _ (end_of P m k) (stubs_of P k ws) (block_inside P m (next_unit M k) h (next-below M k l), (tt, tt))
      (stubs-inside k ws (every-keep _ _ M.switches (o.targets m h))))))
    where
      n : ℕ
      n = length (listing P)

      M : Mode
      M = mode P m

      ws : List Switch
      ws = due_switches (mode P m) k

  -- every address that the listing names lies inside it
  pub listing-inside : Every (Below (length (listing P))) (listing P)
  unfolding listing
  listing-inside = (
    block_inside P P.start 0 o.start (o.units P.start o.start),
    every-cat (Below (length (listing P))) (mode_code P) (length P.modes)
        (λ m h. every-cat (Below (length (listing P))) (block_code P m) (mode P m).units (λ k l. all-inside m k h l)),
  )

  -- the address that the instruction at any place of the listing names lies inside it
  pub inside-at : (i : ℕ) → Below (length (listing P)) (get_or (listing P) i faulty)
  inside-at i = every-at (Below (length (listing P))) (listing P) faulty tt listing-inside i
