-- The switch tests of a block and their stubs: without a switch that is taken the run goes on behind the tests, with one it goes on
-- at the entry of the switch's target, the switch's copies made. Assumes that tests and stubs stand in the code, and that each switch
-- names a declared driver and an entry inside the code (`Aimed`).
use Prim.Native.Nat.{ℕ, suc, ◌+◌, ◌≤◌, ◌<◌}
use mathlib.Core.Path.{◌≡◌, refl, subst, ap, ◌∙◌}
use mathlib.Core.Bool.{Bool, true, false, ◌||◌}
use mathlib.Core.List.{List, [], ◌∷◌}
use mathlib.Core.Option.{Option, none, some}
use native.Mathlib.Nat.{zero-add, suc-add}
use native.Mathlib.Omega.{arith}
use lib.IntN.{ℤ}
use lib.ListN.{length}
use borrow.Author.Tests.{lt-leb}
use Rattle.theory.specs.Lists.{Every}
use Rattle.cells.specs.Limits.{first_output_call}
use Rattle.program.specs.Guard.{holds}
use Rattle.program.specs.Program.{Program, Switch, driver, entered_unit}
use Rattle.program.specs.Ports.{value_of, drive}
use Rattle.code.specs.Op.{Op, call, branch, jump}
use Rattle.code.specs.Listing.{entry_address, tests_of, stubs_of}
use Rattle.code.proofs.At as place
use Rattle.giotto.specs.Instant.{taken}
use Rattle.machine.specs.declared.State.{State}
use Rattle.machine.specs.Change.{with_ports}
use Rattle.machine.specs.Instruction.{driver_call, call_of, names_nothing, still_called, called}
use Rattle.machine.proofs.Instructions.{driver-range}
use Rattle.compiled.specs.Block.{unless, switched}
use Rattle.compiled.proofs.Steps.{stepped}
use Rattle.compiled.proofs.Through.{from}

-- a switch of unit k names a declared driver, with the call number of one, and its entry stands among n instructions
pub record Aimed (P : Program) (n k : ℕ) (w : Switch) : Type 0 where
  pub declared : w.driver < length P.drivers
  pub number : w.driver < first_output_call
  pub entry : entry_address P w.target (entered_unit k w) < n

module _ (P : Program) (readings times : List ℤ) (code : List Op) where
  -- a switch test goes to its stub where the driver's guard holds, else to the next instruction
  test : (count a d stub : ℕ) (s : State) (more : List Op) → place.At code a (branch d stub ∷ more) → d < length P.drivers → stub < length code
      → from P readings times code (suc count) a s
      ≡ from P readings times code count (elim (holds (driver P d).guard (value_of s.ports)) [ true ↦ stub | false ↦ suc a ]) s
  test count a d stub s more h l b =
      stepped P readings times code count (record { address = a; planned = false; state = s }) (branch d stub) (place.fetch-at h)
      (λ i. lt-leb (length P.drivers) d l i || lt-leb (length code) stub b i) refl

  -- a call of a declared driver lets it copy
  driver-called : (count a d : ℕ) (s : State) (more : List Op) → place.At code a (call d ∷ more) → d < length P.drivers → d < first_output_call
      → from P readings times code (suc count) a s ≡ from P readings times code count (suc a) (with_ports s (drive (driver P d) s.ports))
  driver-called count a d s more h l n =
      let e : call_of d ≡ driver_call d = driver-range d n in
      stepped P readings times code count (record { address = a; planned = false; state = s }) (call d) (place.fetch-at h)
      (ap (names_nothing P) e ∙ lt-leb (length P.drivers) d l) refl
      ∙ (λ i. unless false (still_called s (e i)) (from P readings times code count (suc a) (called P readings times s (e i))))

  -- the stub of a switch calls its driver and jumps to the entry of its target
  stub-run : (k count a : ℕ) (w : Switch) (s : State) (more : List Op) → Aimed P (length code) k w
      → place.At code a (call w.driver ∷ jump (entry_address P w.target (entered_unit k w)) ∷ more)
      → from P readings times code (suc (suc count)) a s
      ≡ from P readings times code count (entry_address P w.target (entered_unit k w)) (switched P readings times (some w) s)
  stub-run k count a w s more g h =
      let to : ℕ = entry_address P w.target (entered_unit k w) in
      driver-called (suc count) a w.driver s (jump to ∷ more) h g.declared g.number
      ∙ stepped P readings times code count (record { address = suc a; planned = false; state = switched P readings times (some w) s })
      (jump to) (place.fetch-at (place.at_tail h)) (lt-leb (length code) to g.entry) refl

  -- where no switch is taken, the run goes on behind the switch tests
  pub tests-none : (k : ℕ) (ws : List Switch) (count a stub : ℕ) (s : State) → place.At code a (tests_of ws stub) → place.At code stub (stubs_of P k ws)
      → Every (Aimed P (length code) k) ws → taken P s.ports ws ≡ none
      → from P readings times code (length ws + count) a s ≡ from P readings times code count (a + length ws) s
  tests-none k [] count a stub s h g d e =
      let z : a ≡ a + 0 = omega arith in
      ap (λ (c : ℕ). from P readings times code c a s) (zero-add count) ∙ ap (λ (b : ℕ). from P readings times code count b s) z
  tests-none k (w ∷ ws) count a stub s h g d e =
      let y : suc (length ws) + count ≡ suc (length ws + count) = suc-add (length ws) count in
      let z : suc a + length ws ≡ a + suc (length ws) = omega arith in
      let b : stub < length code = omega (arith, place.at-within g) in
      ap (λ (c : ℕ). from P readings times code c a s) y
      ∙ test (length ws + count) a w.driver stub s (tests_of ws (2 + stub)) h d.0.declared b
      ∙ go (holds (driver P w.driver).guard (value_of s.ports)) e
      (tests-none k ws count (suc a) (2 + stub) s (place.at_tail h) (place.at-move (2 + stub) (omega arith) (place.at_tail (place.at_tail g))) d.1)
      ∙ ap (λ (b : ℕ). from P readings times code count b s) z
    where
      go : (b : Bool) → ◌≡◌ {A = Option Switch} (elim b [ true ↦ some w | false ↦ taken P s.ports ws ]) none
          → (taken P s.ports ws ≡ none → from P readings times code (length ws + count) (suc a) s ≡ from P readings times code count (suc a + length ws) s)
          → from P readings times code (length ws + count) (elim b [ true ↦ stub | false ↦ suc a ]) s ≡ from P readings times code count (suc a + length ws) s
      go true e ih = let z : ◌≡◌ {A = ℕ} 0 1 = cc in absurd (omega arith)
      go false e ih = ih e

  -- at most so many instructions lead from an address to the entry of the switch's target, the switch's copies made
  pub record Leads (k most a : ℕ) (s : State) (w : Switch) : Type 0 where
    pub before : ℕ
    pub few : before ≤ most
    pub leads : (count : ℕ)
        → from P readings times code (before + count) a s
        ≡ from P readings times code count (entry_address P w.target (entered_unit k w)) (switched P readings times (some w) s)

  -- where a switch is taken, the tests and its stub lead to the entry of its target, its copies made
  pub tests-some : (k : ℕ) (ws : List Switch) (a stub : ℕ) (s : State) (w : Switch) → place.At code a (tests_of ws stub) → place.At code stub (stubs_of P k ws)
      → Every (Aimed P (length code) k) ws → taken P s.ports ws ≡ some w → Leads k (length ws + 2) a s w
  tests-some k [] a stub s w h g d e = let z : ◌≡◌ {A = ℕ} 0 1 = cc in absurd (omega arith)
  tests-some k (v ∷ ws) a stub s w h g d e =
      go (holds (driver P v.driver).guard (value_of s.ports)) refl e
      (tests-some k ws (suc a) (2 + stub) s w (place.at_tail h) (place.at-move (2 + stub) (omega arith) (place.at_tail (place.at_tail g))) d.1)
    where
      b : stub < length code
      b = omega (arith, place.at-within g)

      tested : (c : Bool) → holds (driver P v.driver).guard (value_of s.ports) ≡ c → (count : ℕ)
          → from P readings times code (suc count) a s ≡ from P readings times code count (elim c [ true ↦ stub | false ↦ suc a ]) s
      tested c q count =
          test count a v.driver stub s (tests_of ws (2 + stub)) h d.0.declared b
          ∙ (λ i. from P readings times code count (elim (q i) [ true ↦ stub | false ↦ suc a ]) s)

      go : (c : Bool) → holds (driver P v.driver).guard (value_of s.ports) ≡ c
          → ◌≡◌ {A = Option Switch} (elim c [ true ↦ some v | false ↦ taken P s.ports ws ]) (some w)
          → (taken P s.ports ws ≡ some w → Leads k (length ws + 2) (suc a) s w) → Leads k (suc (length ws) + 2) a s w
      go true q e ih =
          let same : v ≡ w = cc in
          subst (Leads k (suc (length ws) + 2) a s) same
          (record {
            before = 3;
            few = omega arith;
            leads = λ count.
                let z : 3 + count ≡ suc (suc (suc count)) = omega arith in
                ap (λ (c : ℕ). from P readings times code c a s) z
                ∙ tested true q (suc (suc count))
                ∙ stub-run k count stub v s (stubs_of P k ws) d.0 g;
          })
      go false q e ih =
          let r : Leads k (length ws + 2) (suc a) s w = ih e in
          record {
            before = suc r.before;
            few = omega (arith, r.few);
            leads = λ count.
                ap (λ (c : ℕ). from P readings times code c a s) (suc-add r.before count) ∙ tested false q (r.before + count) ∙ r.leads count;
          }

-- where a switch of a list is taken, the list has one
pub taken-one : (P : Program) (v : List ℤ) (ws : List Switch) (w : Switch) → taken P v ws ≡ some w → 1 ≤ length ws
taken-one P v [] w e = let z : ◌≡◌ {A = ℕ} 0 1 = cc in absurd (omega arith)
taken-one P v (u ∷ ws) w e = omega arith
