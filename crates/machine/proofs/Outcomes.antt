-- The cases of an outcome, and of who runs, are told apart.
use Prim.Native.Nat.{ℕ}
use mathlib.Core.Path.{◌≡◌}
use native.Mathlib.Omega.{arith}
use Rattle.machine.specs.declared.State.{State}
use Rattle.machine.specs.Instant.{ok, stop}
use Rattle.machine.specs.Schedules.{nobody, one, several}

pub ok-not-stop : {s : State} {n : ℕ} → ok s ≡ stop n → ⊥
ok-not-stop e = let z : ◌≡◌ {A = ℕ} 0 1 = cc in omega arith

pub stopped : {n m : ℕ} → stop n ≡ stop m → n ≡ m
stopped e = cc

pub finished : {s u : State} → ok s ≡ ok u → s ≡ u
finished e = cc

pub not-nobody : nobody ≡ several → ⊥
not-nobody e = let z : ◌≡◌ {A = ℕ} 0 1 = cc in omega arith

pub not-one : {t : ℕ} → one t ≡ several → ⊥
not-one e = let z : ◌≡◌ {A = ℕ} 0 1 = cc in omega arith
