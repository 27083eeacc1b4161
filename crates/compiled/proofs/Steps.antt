-- One instruction of a run, by what stands at the address: 16, 17, or the machine one instruction further.
-- Assumes that the instruction is not faulty.
use Prim.Native.Nat.{ℕ, zero, suc}
use mathlib.Core.Path.{◌≡◌, refl, sym, subst, ap, ◌∙◌}
use mathlib.Core.Bool.{Bool, true, false, not}
use mathlib.Core.List.{List}
use lib.IntN.{ℤ}
use lib.ListN.{length}
use Rattle.theory.specs.Verdict.{accepted_number, or_else, verdict}
use Rattle.theory.proofs.Bools.{clash}
use Rattle.theory.proofs.Verdict.{clear-verdict}
use Rattle.cells.specs.Refusals.{time_refused, overrun_refused, faulty_refused}
use Rattle.program.specs.Program.{Program}
use Rattle.code.specs.Op.{Op, return}
use Rattle.machine.specs.declared.At.{At}
use Rattle.machine.specs.Instruction.{is_faulty, time_bad, still_running, instruction_refusals, executes}
use Rattle.machine.specs.Instant.{Outcome, ok, stop, is_return, fetch, run_from}
use Rattle.machine.proofs.Instants.{at_return}
use Rattle.compiled.specs.Block.{unless}

module _ (P : Program) (readings times : List ℤ) (code : List Op) where
  -- an instruction that is not faulty and no `return`: 16, 17, or what it does and then the rest
  pub stepped : (count : ℕ) (x : At) (o : Op) → fetch P readings times code x ≡ o → is_faulty P (length code) x.planned o ≡ false → is_return o ≡ false
      → run_from P readings times code (suc count) x
      ≡ unless (time_bad P times o) (still_running x.state o) (run_from P readings times code count (executes P readings times o x))
  stepped count x o e h r =
      (λ i.
      elim (verdict (instruction_refusals P readings times (length code) (e i)) x) [
        | zero ↦ elim (is_return (e i)) [ true ↦ ok x.state | false ↦ run_from P readings times code count (executes P readings times (e i) x) ]
        | suc n ↦ stop (suc n)
      ])
      ∙ go (is_faulty P (length code) x.planned o) (time_bad P times o) (still_running x.state o) (is_return o) h r
    where
      go : (f t s b : Bool) → f ≡ false → b ≡ false
          → ◌≡◌ {A = Outcome} (elim (or_else f faulty_refused (or_else t time_refused (or_else s overrun_refused accepted_number))) [
            | zero ↦ elim b [ true ↦ ok x.state | false ↦ run_from P readings times code count (executes P readings times o x) ]
            | suc n ↦ stop (suc n)
          ])
          (unless t s (run_from P readings times code count (executes P readings times o x)))
      go true t s b h r = clash {b = true} refl h
      go false t s true h r = clash {b = true} refl r
      go false true s false h r = refl
      go false false true false h r = refl
      go false false false false h r = refl

  -- a `return` after a `future` ends the run
  pub returned : (count : ℕ) (x : At) → fetch P readings times code x ≡ return → x.planned ≡ true → run_from P readings times code (suc count) x ≡ ok x.state
  returned count x e h =
      at_return P readings times code count x
      (subst (λ (q : Op). verdict (instruction_refusals P readings times (length code) q) x ≡ accepted_number) (sym e)
      (clear-verdict (instruction_refusals P readings times (length code) return) x (ap not h, (refl, (refl, tt)))))
      (ap is_return e)
