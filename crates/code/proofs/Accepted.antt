-- The program of accepted tables: its modes are whole and what it names is there. So its listing is as long as the length rule says,
-- and names only addresses inside it. Assumes that the verdict on the tables is 0.
use Prim.Native.Nat.{ℕ, ◌<◌}
use mathlib.Core.Path.{◌≡◌, refl, sym, subst}
use mathlib.Core.Logic.{inl, inr}
use native.Mathlib.Nat.{div-mul_cancel}
use native.Mathlib.Omega.{arith}
use lib.ListN.{length}
use borrow.Author.Tests.{eqb-true}
use Rattle.theory.specs.Lists.{Every}
use Rattle.theory.specs.Verdict.{accepted_number}
use Rattle.theory.proofs.Lists.{every-those}
use Rattle.program.specs.Tables.{Tables, mode_count, invocation_count, update_count, switch_count}
use Rattle.program.specs.Units.{units, Multiple}
use Rattle.program.specs.Program.{Mode, program_of, mode, mode_row, invocation_row, update_row, switch_row}
use Rattle.program.proofs.Units.{units-some}
use Rattle.program.proofs.Decoded.{mode-count, mode-row}
use Rattle.rules.specs.Verdict.{program_verdict}
use Rattle.rules.proofs.Accepted.{accepted-fields, accepted-least}
use Rattle.code.specs.Listing.{length_rule}
use Rattle.code.specs.Compile.{listing_of}
use Rattle.code.proofs.Length.{WholeMode, WholeUnits, length-rule}
use Rattle.code.proofs.Inside.{Aims, Below, listing-inside}

-- a row of the modes is whole where its units are a multiple of each of its frequencies
whole_row : (T : Tables) (m : ℕ) → Multiple T m (units T m) → WholeMode (mode_row T m)
whole_row T m w =
    record {
      some = units-some T m;
      invocations = every-those _ _ (invocation_row T) (invocation_count T) 0 (λ i l h q. div-mul_cancel _ (w _ (inl (i, omega arith, (eqb-true _ _ q, refl)))));
      updates = every-those _ _ (update_row T) (update_count T) 0 (λ i l h q. div-mul_cancel _ (w _ (inr (inl (i, omega arith, (eqb-true _ _ q, refl))))));
      switches = every-those _ _ (switch_row T) (switch_count T) 0 (λ i l h q. div-mul_cancel _ (w _ (inr (inr (i, omega arith, (eqb-true _ _ q, refl))))));
    }

module _ (T : Tables) (a : program_verdict T ≡ accepted_number) where
  -- the modes of an accepted program are whole
  pub accepted-modes : WholeUnits (program_of T)
  accepted-modes m h =
      let l : m < mode_count T = omega (arith, mode-count T) in
      subst WholeMode (sym (mode-row T m l)) (whole_row T m (accepted-least T a m l).multiple)

  -- the listing of an accepted program is as long as the length rule says
  pub accepted-length : length (listing_of T) ≡ length_rule (program_of T)
  unfolding listing_of
  accepted-length = length-rule (program_of T) accepted-modes

  -- what an accepted program names is there
  pub accepted-aims : Aims (program_of T)
  accepted-aims =
      record {
        start = omega (arith, mode-count T, (accepted-fields T a).start);
        units = λ m h. (accepted-modes m h).some;
        targets = targets;
      }
    where
      targets : (m : ℕ) → m < length (program_of T).modes → Every (λ w. w.target < length (program_of T).modes) (mode (program_of T) m).switches
      targets m h =
          subst (λ (M : Mode). Every (λ w. w.target < length (program_of T).modes) M.switches) (sym (mode-row T m (omega (arith, mode-count T))))
          (every-those _ _ (switch_row T) (switch_count T) 0
          (λ i l q r. omega (arith, mode-count T, ((accepted-fields T a).switches i (omega arith)).target)))

  -- the listing of an accepted program names only addresses inside it
  pub accepted-inside : Every (Below (length (listing_of T))) (listing_of T)
  unfolding listing_of
  accepted-inside = listing-inside (program_of T) accepted-aims
