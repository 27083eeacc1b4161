-- The state says the configuration: a state is related to no more than one at a tick. The address of the `future` that was executed says
-- the mode and the unit, and the rest follows. Assumes that both are related.
use Prim.Native.Nat.{ℕ}
use mathlib.Core.Path.{◌≡◌, sym, ap, ◌∙◌, fun_ext}
use mathlib.Core.List.{List}
use mathlib.Core.Logic.{inl, inr}
use native.Mathlib.Omega.{arith}
use lib.IntN.{ℤ}
use Rattle.theory.specs.Lists.{member}
use Rattle.program.specs.Tables.{Tables}
use Rattle.program.specs.Program.{Program, program_of, mode, next_unit}
use Rattle.code.specs.Listing.{future_address}
use Rattle.code.proofs.Place.{future-once}
use Rattle.giotto.specs.Instant.{Configuration, Function}
use Rattle.machine.specs.declared.State.{State}
use Rattle.composed.specs.Related.{tasks_of, NotBegun, Going, Related}

module _ (T : Tables) (W S : List ℤ) (F : Function) (n : ℕ) (s : State) where
  abbrev P : Program
  P = program_of T

  -- where a unit goes on with a state, it does with one configuration only
  going-one : (k j : ℕ) (C D : Configuration) → Going T W S F k n C s → Going T W S F j n D s → C ≡ D
  going-one k j C D g h = λ i. record {
    time = time i;
    mode = of-mode i;
    unit = unit i;
    ports = ports i;
    active = active i;
  }
    where
      same : (C.mode ≡ D.mode) × (k ≡ j)
      same = future-once P C.mode k D.mode j g.in-round h.in-round (sym g.current ∙ h.current)

      of-mode : C.mode ≡ D.mode
      of-mode = same.0

      time : C.time ≡ D.time
      time = g.stamp ∙ sym h.stamp

      unit : C.unit ≡ D.unit
      unit = g.next ∙ (λ i. next_unit (mode P (same.0 i)) (same.1 i)) ∙ sym h.next

      ports : C.ports ≡ D.ports
      ports = sym g.ports ∙ h.ports

      active : C.active ≡ D.active
      active = fun_ext (λ t. g.active t ∙ ap (λ (m : ℕ). member t (tasks_of P m)) of-mode ∙ sym (h.active t))

  -- no unit goes on with the fresh state: no `future` stands at address 0
  fresh-not-going : (k : ℕ) (C D : Configuration) → NotBegun P F n C s → Going T W S F k n D s → ⊥
  fresh-not-going k C D f g =
      let z : future_address P D.mode k ≡ 0 = sym g.current ∙ ap (λ (u : State). u.current) f.is-fresh in
      omega (arith, z)

  -- two configurations that are related to one state are one
  pub related-one : (C D : Configuration) → Related T W S F n C s → Related T W S F n D s → C ≡ D
  related-one C D (inl f) (inl g) = f.initially ∙ sym g.initially
  related-one C D (inl f) (inr (k, g)) = absurd (fresh-not-going k C D f g)
  related-one C D (inr (k, g)) (inl f) = absurd (fresh-not-going k D C f g)
  related-one C D (inr (k, g)) (inr (j, h)) = going-one k j C D g h
