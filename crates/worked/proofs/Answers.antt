-- What the other calls answer, of programs and schedule code by name: document 01's rows of a supplier's verdict and one refused with 13, a
-- fresh state, accepted and refused, and compiling into a slice that is too short.
use Prim.Native.Nat.{ℕ, ◌<◌}
use mathlib.Core.Path.{◌≡◌, refl, ap}
use mathlib.Core.List.{List, [], ◌∷◌}
use native.Mathlib.Omega.{arith}
use lib.IntN.{pos}
use lib.ListN.{replicate}
use Rattle.theory.specs.Rows.{placeless, at_row}
use Rattle.theory.specs.Verdict.{FirstAt}
use Rattle.theory.specs.declared.Answer.{Answer}
use Rattle.theory.proofs.Verdict.{listed-one}
use Rattle.program.specs.Tables.{Tables, tables, sensor, mode_count}
use Rattle.program.specs.Ports.{value_of}
use Rattle.rules.specs.Verdict.{program_rules}
use Rattle.code.specs.Compile.{Compiling, compile_rules, compile_answer, compile_slice}
use Rattle.runs.specs.Round.{Choice, WithinWorst, Good, outside, late, nothing}
use Rattle.suppliers.specs.Supplier.{Asked, course_of, part_rules, supplier_verdict}
use Rattle.machine.specs.Advance.{fresh_answer}
use Rattle.machine.specs.Fresh.{Fresh, AllZero}
use Rattle.demands.specs.Supplier.{BreaksAt}
use Rattle.demands.proofs.Calls.{compile-exact, fresh-exact}
use Rattle.demands.proofs.Supplier.{supplier-exact}
use Rattle.demands.proofs.Verdict.{refusal-keeps}
use Rattle.worked.specs.Computed.{computed}
use Rattle.worked.specs.Programs.{program_f, numbers, window, asked}
use Rattle.worked.specs.Programs as programs
use Rattle.worked.proofs.Table.{t1-worst-6, t1-worst-7, window-to-9, t1-first}

-- a supplier's verdict: accepted, late at tick 10, outside its window at tick 9, late at tick 5
pub passes : (m : ℕ) → m < mode_count (program_f 6 2) → (c : Choice) → WithinWorst (course_of (asked 6 (window 0 10) (programs.schedule 1 0)) m) c
    → Good (course_of (asked 6 (window 0 10) (programs.schedule 1 0)) m) c nothing
passes = ((supplier-exact (asked 6 (window 0 10) (programs.schedule 1 0))).accepted.0 t1-worst-6).1

pub late-at-10 : BreaksAt (asked 7 (window 0 10) (programs.schedule 1 0)) 0 (late 10)
late-at-10 = (((supplier-exact (asked 7 (window 0 10) (programs.schedule 1 0))).late-at 0 10).0 t1-worst-7).1

pub outside-at-9 : BreaksAt (asked 6 (window 0 9) (programs.schedule 1 0)) 0 (outside 9)
outside-at-9 = (((supplier-exact (asked 6 (window 0 9) (programs.schedule 1 0))).outside-at 0 9).0 window-to-9).1

pub late-at-5 : BreaksAt (asked 4 (window 0 10) (programs.schedule 0 1)) 0 (late 5)
late-at-5 = (((supplier-exact (asked 4 (window 0 10) (programs.schedule 0 1))).late-at 0 5).0 t1-first).1

-- supplier 8 is none: 13, at the place of the supplier asked about where there is no row
abbrev stranger : Asked
stranger = record { tables = program_f 6 2; windows = window 0 10; part = []; supplier = pos 8 }

stranger-refused : supplier_verdict stranger ≡ at_row 13 13 0
unfolding computed
stranger-refused = refl

pub F-stranger : FirstAt part_rules stranger (at_row 13 13 0)
F-stranger = ((supplier-exact stranger).refused (at_row 13 13 0) (listed-one part_rules 13 refl)).0 stranger-refused

-- a sensor whose first value is 5, in a program of these modes
abbrev sensing : List ℕ → Tables
sensing periods = tables (pos sensor ∷ pos 5 ∷ []) [] [] [] [] (numbers periods) [] [] [] [] (pos 0)

-- where that program is accepted, the fresh state has its sensor's first value
sensing-accepted : (fresh_answer (sensing (10 ∷ []))).answer.number ≡ 0
unfolding computed
sensing-accepted = refl

pub sensing-fresh : Fresh (sensing (10 ∷ [])) (fresh_answer (sensing (10 ∷ []))).state
sensing-fresh = (fresh-exact (sensing (10 ∷ []))).accepted sensing-accepted

pub sensing-five : value_of (fresh_answer (sensing (10 ∷ []))).state.ports 0 ≡ pos 5
unfolding computed
sensing-five = refl

-- where that program is refused, since it has no mode, the fresh state is all 0
modeless-refused : (fresh_answer (sensing [])).answer ≡ placeless 1
unfolding computed
modeless-refused = refl

pub modeless-first : FirstAt program_rules (sensing []) (placeless 1)
modeless-first = ((fresh-exact (sensing [])).answer (placeless 1)).0 modeless-refused

pub modeless-zero : AllZero (fresh_answer (sensing [])).state
modeless-zero = (fresh-exact (sensing [])).refused (λ e. omega (arith, e, ap (λ (x : Answer). x.number) modeless-refused))

-- compiling F into 50 words: 17 instructions need 51
abbrev cramped : Compiling
cramped = record { tables = program_f 6 2; slice = replicate 50 7 }

cramped-refused : (compile_answer cramped).answer ≡ placeless 11
unfolding computed
cramped-refused = refl

pub F-cramped : FirstAt compile_rules cramped (placeless 11)
F-cramped = (compile-exact cramped (placeless 11)).0 cramped-refused

pub F-cramped-keeps : (compile_slice cramped ≡ replicate 50 7) × ((compile_answer cramped).length ≡ 0)
F-cramped-keeps = refusal-keeps cramped (λ e. omega (arith, e, ap (λ (x : Answer). x.number) cramped-refused))
