-- The insulation monitor of examples/ is accepted, and a missing reading is never silent in it: in each mode it satisfies the guard of one
-- switch, and in a composed run it enters the alarm mode, from the normal mode and from the alarm mode. Without that switch in the alarm
-- mode the program is refused with 24.
use Prim.Native.Nat.{ℕ, zero, suc, ◌<◌}
use mathlib.Core.Path.{◌≡◌, refl, sym, subst}
use mathlib.Core.Bool.{Bool, true, false}
use mathlib.Core.List.{List, [], ◌∷◌, ◌++◌}
use mathlib.Core.Logic.{◌⊎◌, inl, inr}
use native.Mathlib.Omega.{arith}
use lib.Dec.{ltb}
use lib.IntN.{ℤ, pos}
use lib.ListN.{length, replicate}
use Rattle.theory.specs.Rows.{placeless}
use Rattle.theory.specs.Verdict.{Keep}
use Rattle.theory.proofs.Bools.{clash}
use Rattle.cells.specs.Limits.{suppliers, max_ports}
use Rattle.cells.specs.Refusals.{gap_refused}
use Rattle.readings.specs.Reading.{no_reading}
use Rattle.program.specs.Tables.{task_count, task_supplier, switch_frequency, switch_driver}
use Rattle.program.specs.Guard.{guard_of, holds}
use Rattle.program.specs.Sets.{Sensor}
use Rattle.program.specs.Units.{units, due}
use Rattle.program.specs.Program.{program_of}
use Rattle.rules.specs.Missing.{SwitchOf, Satisfies, OneSwitch, MissingMet}
use Rattle.rules.specs.Verdict.{program_verdict, published_rules}
use Rattle.code.specs.Listing.{future_address}
use Rattle.code.specs.Compile.{listing_of, compile_answer}
use Rattle.text.specs.Input.{got, program_read}
use Rattle.text.specs.Listing.{listing_text}
use Rattle.text.specs.Shipped.{answer_line, shipped}
use Rattle.answering.proofs.ByLength.{prints-by-length}
use Rattle.suppliers.specs.Windows.{windows_verdict}
use Rattle.suppliers.specs.Supplier.{supplier_verdict}
use Rattle.giotto.specs.Instant.{Function}
use Rattle.giotto.specs.Execution.{execution}
use Rattle.demands.specs.Composed.{Accepted, compiling}
use Rattle.demands.specs.Idle.{Idle, asked_of}
use Rattle.demands.specs.Missing.{DueAt, Enters, TakesSwitch}
use Rattle.demands.proofs.Idle.{accepted-of}
use Rattle.demands.proofs.Supplied.{worst-case-suited}
use Rattle.demands.proofs.Missing.{missing-satisfies, gap-exact}
use Rattle.demands.proofs.Takes.{missing-takes}
use Rattle.worked.specs.Computed.{computed}
use Rattle.worked.specs.Systems.{mix}
use Rattle.worked.specs.Example.{insulation_text}
use Rattle.worked.specs.Insulation.{insulation, silent, insulation-system, insulation_lent, MissingAt, lost_from, lost}

-- the program is accepted
accepted : program_verdict insulation ≡ 0
unfolding computed
accepted = refl

-- it is what the shipped program reads of the example, and its listing is what is printed
text-read : program_read insulation_text ≡ got insulation []
unfolding computed
text-read = refl

instructions-45 : length (listing_of insulation) ≡ 45
unfolding computed
instructions-45 = refl

pub insulation-printed : shipped insulation_text ≡ answer_line (placeless 0) ++ listing_text (listing_of insulation)
insulation-printed = (prints-by-length insulation_text insulation text-read accepted).held (omega (arith, instructions-45))

-- the windows are accepted, the program is compiled, and each of the three suppliers is accepted alone; the others have nothing to do
windows-accepted : windows_verdict (record { tables = insulation-system.tables; windows = insulation-system.windows }) ≡ 0
unfolding computed
windows-accepted = refl

compiled : (compile_answer (compiling insulation-system)).answer.number ≡ 0
unfolding computed
compiled = refl

filter-accepted : (supplier_verdict (asked_of insulation-system 0)).number ≡ 0
unfolding computed
filter-accepted = refl

evaluation-accepted : (supplier_verdict (asked_of insulation-system 1)).number ≡ 0
unfolding computed
evaluation-accepted = refl

relay-accepted : (supplier_verdict (asked_of insulation-system 2)).number ≡ 0
unfolding computed
relay-accepted = refl

no-tasks : (s t : ℕ) → t < task_count insulation → task_supplier insulation t ≡ suc (suc (suc s)) → ⊥
unfolding computed
no-tasks s zero l e = omega (arith, e)
no-tasks s (suc zero) l e = omega (arith, e)
no-tasks s (suc (suc zero)) l e = omega (arith, e)
no-tasks s (suc (suc (suc zero))) l e = omega (arith, e)
no-tasks s (suc (suc (suc (suc t)))) l e = omega (arith, l)

each-accepted : (s : ℕ) → s < suppliers
    → Idle (asked_of insulation-system s) ⊎ ((supplier_verdict (asked_of insulation-system s)).number ≡ 0)
each-accepted zero l = inr filter-accepted
each-accepted (suc zero) l = inr evaluation-accepted
each-accepted (suc (suc zero)) l = inr relay-accepted
each-accepted (suc (suc (suc s))) l = inl (record { no_rows = refl; no-tasks = no-tasks s })

pub insulation-accepted : Accepted insulation-system
insulation-accepted = accepted-of insulation-system windows-accepted compiled each-accepted

-- the resistance is a sensor; switch row 0 is for its missing reading in the normal mode, row 3 in the alarm mode
pub resistance : Sensor insulation 0
unfolding computed
resistance = (omega arith, refl)

pub of-normal : SwitchOf insulation 0 0
unfolding computed
of-normal = record { in_table = omega arith; of-mode = refl }

pub of-alarm : SwitchOf insulation 1 3
unfolding computed
of-alarm = record { in_table = omega arith; of-mode = refl }

-- in each mode a missing reading satisfies the guard of just one switch, and it is that row
pub normal-missing : OneSwitch insulation 0 0
unfolding computed
normal-missing = missing-satisfies insulation accepted 0 0 0 resistance of-normal (record { guard = refl; port = refl })

pub alarm-missing : OneSwitch insulation 1 0
unfolding computed
alarm-missing = missing-satisfies insulation accepted 1 0 3 resistance of-alarm (record { guard = refl; port = refl })

pub normal-row : 0 ≡ normal-missing.row
unfolding computed
normal-row = normal-missing.only (λ p. no_reading) refl 0 of-normal refl

pub alarm-row : 3 ≡ alarm-missing.row
unfolding computed
alarm-row = alarm-missing.only (λ p. no_reading) refl 3 of-alarm refl

-- without the last switch the program meets Giotto's published rules, and a missing reading is silent in some mode
silent-refused : program_verdict silent ≡ gap_refused
unfolding computed
silent-refused = refl

pub silent-gap : Keep published_rules silent × (MissingMet silent → ⊥)
silent-gap = (gap-exact silent).0 silent-refused

-- it is the alarm mode: its only switch is for a good reading
pub silent-alarm : OneSwitch silent 1 0 → ⊥
unfolding computed
silent-alarm w = go w.row w.of-mode (w.satisfied (λ p. no_reading) refl)
  where
    go : (i : ℕ) → SwitchOf silent 1 i → holds (guard_of silent (switch_driver silent i)) (λ p. no_reading) ≡ true → ⊥
    go zero s e = omega (arith, s.of-mode)
    go (suc zero) s e = omega (arith, s.of-mode)
    go (suc (suc zero)) s e = clash {b = false} e refl
    go (suc (suc (suc i))) s e = omega (arith, s.in_table)

-- a missing reading satisfies the guards of these rows
normal-satisfied : Satisfies insulation 0 0
normal-satisfied = subst (λ (i : ℕ). Satisfies insulation 0 i) (sym normal-row) normal-missing.satisfied

alarm-satisfied : Satisfies insulation 0 3
alarm-satisfied = subst (λ (i : ℕ). Satisfies insulation 0 i) (sym alarm-row) alarm-missing.satisfied

-- they are due in unit 0 of their modes
abbrev Due : ℕ → ℕ → ℕ → Type 0
Due i m k = due (units insulation m) (switch_frequency insulation i) k ≡ true

normal-due : Due 0 0 0
unfolding computed
normal-due = refl

alarm-due : Due 3 1 0
unfolding computed
alarm-due = refl

-- whatever the task function and the readings
module _ (F : Function) (readings : ℕ → List ℤ) (whole : (n : ℕ) → length (readings n) ≡ max_ports) where
  due-then : (n m i : ℕ) → SwitchOf insulation m i → Due i m 0 → MissingAt F readings n m
      → DueAt insulation n (execution (program_of insulation) F readings n) i
  due-then n m i w d l =
      let due-here = subst (λ (m : ℕ). Due i m 0) (sym l.mode) d in
      record {
        instant = l.instant;
        of-mode = subst (λ (m : ℕ). SwitchOf insulation m i) (sym l.mode) w;
        is-due = subst (Due i (execution (program_of insulation) F readings n).mode) (sym l.unit) due-here;
      }

  takes : (n m i : ℕ) → SwitchOf insulation m i → Satisfies insulation 0 i → Due i m 0 → MissingAt F readings n m
      → TakesSwitch insulation-system F (insulation_lent F readings) n i
  takes n m i w s d l =
      missing-takes insulation-system insulation-accepted F (insulation_lent F readings) n
      (λ k h. worst-case-suited insulation-system windows-accepted F readings whole k)
      i 0 resistance s (due-then n m i w d l) l.missing

  -- a missing reading takes row 0 in the normal mode, and not row 1, which leads to the alarm mode too; in the alarm mode it takes row 3
  pub normal-takes : (n : ℕ) → MissingAt F readings n 0 → TakesSwitch insulation-system F (insulation_lent F readings) n 0
  normal-takes n l = takes n 0 0 of-normal normal-satisfied normal-due l

  pub alarm-takes : (n : ℕ) → MissingAt F readings n 1 → TakesSwitch insulation-system F (insulation_lent F readings) n 3
  alarm-takes n l = takes n 1 3 of-alarm alarm-satisfied alarm-due l

  -- both enter the alarm mode
  pub alarm-raised : (n : ℕ) → MissingAt F readings n 0 → Enters insulation-system F (insulation_lent F readings) n 1
  unfolding computed
  alarm-raised n l = (normal-takes n l).enters

  pub alarm-kept : (n : ℕ) → MissingAt F readings n 1 → Enters insulation-system F (insulation_lent F readings) n 1
  unfolding computed
  alarm-kept n l = (alarm-takes n l).enters

-- the machine is then at the address of the alarm mode's `future`
pub alarm-address : future_address (program_of insulation) 1 0 ≡ 39
unfolding computed
alarm-address = refl

-- readings that are missing from tick 5 on: the first round of the normal mode that starts then does so at tick 20, and ten ticks later one
-- of the alarm mode
pub lost-whole : (r n : ℕ) → length (lost_from r n) ≡ max_ports
lost-whole r n = go (ltb n r)
  where
    go : (b : Bool) → length {A = ℤ} (elim b [ true ↦ pos 80 ∷ replicate 63 (pos 0) | false ↦ no_reading ∷ replicate 63 (pos 0) ]) ≡ max_ports
    go true = refl
    go false = refl

at-20 : MissingAt mix lost 20 0
unfolding computed
at-20 = record { instant = refl; mode = refl; unit = refl; missing = refl }

at-30 : MissingAt mix lost 30 1
unfolding computed
at-30 = record { instant = refl; mode = refl; unit = refl; missing = refl }

pub alarm-at-20 : Enters insulation-system mix (insulation_lent mix lost) 20 1
alarm-at-20 = alarm-raised mix lost (lost-whole 5) 20 at-20

pub alarm-at-30 : Enters insulation-system mix (insulation_lent mix lost) 30 1
alarm-at-30 = alarm-kept mix lost (lost-whole 5) 30 at-30
