-- `rules_1_2::searches::bad_field` meets its contract: each table that has no bad row leaves the tables after it, and all leave the start mode.
use Rattle.std.specs.Prelude.{Err}
use Rattle.std.proofs.Common.{rules}
use Rattle.std.proofs.lemmas.Result.{err_from_is_err_and}
use Prim.Native.Nat.{ℕ}
use mathlib.Core.Path.{◌≡◌, refl, ap, ◌∙◌}
use mathlib.Core.Bool.{Bool, true, false}
use mathlib.Core.List.{[], ◌∷◌}
use native.Mathlib.Omega.{arith}
use lib.ListN.{drop}
use Rattle.std.specs.Bool.{then_some}
use Rattle.theory.specs.Search.{any, first, first_from, lowest_passing}
use Rattle.cells.specs.declared.refusals.Refusal.TheVariants.{Fields}
use Rattle.theory.specs.Rows.{testing}
use Rattle.theory.specs.Verdict.{rows_answer, or_next}
use Rattle.theory.specs.declared.Answer.{Answer}
use Rattle.theory.proofs.Placing.{rows-after}
use Rattle.cells.specs.Cell.{name_of}
use Rattle.cells.specs.Refusals.{fields_refused}
use Rattle.cells.proofs.Names.{name-small}
use Rattle.answers.specs.Answers.{answer_of}
use Rattle.answers.proofs.Told.{went-on, stopped, told-rows}
use Rattle.program.specs.Tables.{Tables, tables_in, rows_at}
use Rattle.program.specs.Tables.{ports_at, tasks_at, task_ports_at, drivers_at, copies_at, modes_at, mode_ports_at, invocations_at, updates_at, switches_at, start_at}
use Rattle.rules.specs.Fields.{field_tests, port_bad, task_bad, task_port_bad, driver_bad, copy_bad, mode_bad, mode_port_bad, invocation_bad, update_bad, switch_bad, start_bad}
use Rattle.rules.proofs.Shape.{ports-nameable, tasks-nameable, drivers-nameable, modes-nameable}
use Rattle.rules_1_2.proofs.searches.bad_field.Goals as goal
use Rattle.rules_1_2.proofs.searches.bad_field.Goals.{After-all_good, After-all_good-2, After-all_good-3, After-all_good-4, After-all_good-5, After-all_good-6, After-all_good-7, After-all_good-8, After-all_good-9, After-all_good-10}
use Rattle.rules_1_2.proofs.searches.bad_field.Goals.{In_ok-all_good, In_ok-all_good-2, In_ok-all_good-3, In_ok-all_good-4, In_ok-all_good-5, In_ok-all_good-6, In_ok-all_good-7, In_ok-all_good-8, In_ok-all_good-9, In_ok-all_good-10}

-- number 2 of the tables from place k on, and of the start mode
abbrev from : Tables → ℕ → Answer
from T k = rows_answer fields_refused (drop k (field_tests T))

-- the answer of the rows of one table
abbrev alone : Tables → ℕ → (ℕ → Bool) → Answer
alone T place bad = rows_answer fields_refused (testing place (rows_at T place) bad ∷ [])

-- the table at a place comes before those from place k on
in_order : (T : Tables) (place : ℕ) (bad : ℕ → Bool) (k : ℕ)
    → rows_answer fields_refused (testing place (rows_at T place) bad ∷ drop k (field_tests T)) ≡ or_next (alone T place bad) (from T k)
in_order T place bad k = rows-after fields_refused (testing place (rows_at T place) bad) (drop k (field_tests T)) (λ e. omega (arith, e))

-- what each table comes to by itself; and where it has no bad row, the answer is that of the tables behind it
told-0 : (c : After-all_good) → let T = tables_in c.args.tables.now c.args.program.start in answer_of c.all_good.result ≡ alone T ports_at (port_bad T)
told-0 c =
    let T = tables_in c.args.tables.now c.args.program.start in
    c.all_good.ensures c.args.program.start (port_bad T) (λ k l b r.
    let small : name_of k ≡ k = name-small k (omega (arith, l, ports-nameable T (c.requires c.args.program.start))) in
    search (rules, small))

after-0 : (c : In_ok-all_good) {x : Answer} → let T = tables_in c.args.tables.now c.args.program.start in x ≡ from T 1 → x ≡ from T 0
after-0 c h =
    let T = tables_in c.args.tables.now c.args.program.start in
    went-on (from T 1) (in_order T ports_at (port_bad T) 1) (told-0 c.before.before) (c.in_ok-all_good.was) h

pub returns-in_err-all_good : goal.returns-in_err-all_good
returns-in_err-all_good c =
    let T = tables_in c.args.tables.now c.args.program.start in
    let p = err_from_is_err_and c.from_residual.result c.from_residual.ensures.1 in
    ap answer_of (p.1 ∙ ap Err p.2) ∙ stopped (from T 1) (in_order T ports_at (port_bad T) 1) (told-0 c.before.before.before) (c.in_err-all_good.was)

told-1 : (c : After-all_good-2) → let T = tables_in c.args.tables.now c.args.program.start in answer_of c.all_good-2.result ≡ alone T tasks_at (task_bad T)
told-1 c =
    let T = tables_in c.args.tables.now c.args.program.start in
    c.all_good-2.ensures c.args.program.start (task_bad T) (λ k l b r.
    let small : name_of k ≡ k = name-small k (omega (arith, l, tasks-nameable T (c.requires c.args.program.start))) in
    search (rules, small))

after-1 : (c : In_ok-all_good-2) {x : Answer} → let T = tables_in c.args.tables.now c.args.program.start in x ≡ from T 2 → x ≡ from T 0
after-1 c h =
    let T = tables_in c.args.tables.now c.args.program.start in
    after-0 c.before.before.before.before (went-on (from T 2) (in_order T tasks_at (task_bad T) 2) (told-1 c.before.before) (c.in_ok-all_good-2.was) h)

pub returns-in_err-all_good-2 : goal.returns-in_err-all_good-2
returns-in_err-all_good-2 c =
    let T = tables_in c.args.tables.now c.args.program.start in
    let p = err_from_is_err_and c.from_residual-in_err-all_good-2.result c.from_residual-in_err-all_good-2.ensures.1 in
    ap answer_of (p.1 ∙ ap Err p.2) ∙ after-0 c.before.before.before.before.before (stopped (from T 2) (in_order T tasks_at (task_bad T) 2) (told-1 c.before.before.before) (c.in_err-all_good-2.was))

told-2 : (c : After-all_good-3) → let T = tables_in c.args.tables.now c.args.program.start in answer_of c.all_good-3.result ≡ alone T task_ports_at (task_port_bad T)
told-2 c =
    let T = tables_in c.args.tables.now c.args.program.start in
    c.all_good-3.ensures c.args.program.start (task_port_bad T) (λ k l b r. search rules)

after-2 : (c : In_ok-all_good-3) {x : Answer} → let T = tables_in c.args.tables.now c.args.program.start in x ≡ from T 3 → x ≡ from T 0
after-2 c h =
    let T = tables_in c.args.tables.now c.args.program.start in
    after-1 c.before.before.before (went-on (from T 3) (in_order T task_ports_at (task_port_bad T) 3) (told-2 c.before.before) (c.in_ok-all_good-3.was) h)

pub returns-in_err-all_good-3 : goal.returns-in_err-all_good-3
returns-in_err-all_good-3 c =
    let T = tables_in c.args.tables.now c.args.program.start in
    let p = err_from_is_err_and c.from_residual-in_err-all_good-3.result c.from_residual-in_err-all_good-3.ensures.1 in
    ap answer_of (p.1 ∙ ap Err p.2) ∙ after-1 c.before.before.before.before (stopped (from T 3) (in_order T task_ports_at (task_port_bad T) 3) (told-2 c.before.before.before) (c.in_err-all_good-3.was))

told-3 : (c : After-all_good-4) → let T = tables_in c.args.tables.now c.args.program.start in answer_of c.all_good-4.result ≡ alone T drivers_at (driver_bad T)
told-3 c =
    let T = tables_in c.args.tables.now c.args.program.start in
    c.all_good-4.ensures c.args.program.start (driver_bad T) (λ k l b r.
    let small : name_of k ≡ k = name-small k (omega (arith, l, drivers-nameable T (c.requires c.args.program.start))) in
    search (rules, small))

after-3 : (c : In_ok-all_good-4) {x : Answer} → let T = tables_in c.args.tables.now c.args.program.start in x ≡ from T 4 → x ≡ from T 0
after-3 c h =
    let T = tables_in c.args.tables.now c.args.program.start in
    after-2 c.before.before.before (went-on (from T 4) (in_order T drivers_at (driver_bad T) 4) (told-3 c.before.before) (c.in_ok-all_good-4.was) h)

pub returns-in_err-all_good-4 : goal.returns-in_err-all_good-4
returns-in_err-all_good-4 c =
    let T = tables_in c.args.tables.now c.args.program.start in
    let p = err_from_is_err_and c.from_residual-in_err-all_good-4.result c.from_residual-in_err-all_good-4.ensures.1 in
    ap answer_of (p.1 ∙ ap Err p.2) ∙ after-2 c.before.before.before.before (stopped (from T 4) (in_order T drivers_at (driver_bad T) 4) (told-3 c.before.before.before) (c.in_err-all_good-4.was))

told-4 : (c : After-all_good-5) → let T = tables_in c.args.tables.now c.args.program.start in answer_of c.all_good-5.result ≡ alone T copies_at (copy_bad T)
told-4 c =
    let T = tables_in c.args.tables.now c.args.program.start in
    c.all_good-5.ensures c.args.program.start (copy_bad T) (λ k l b r. search rules)

after-4 : (c : In_ok-all_good-5) {x : Answer} → let T = tables_in c.args.tables.now c.args.program.start in x ≡ from T 5 → x ≡ from T 0
after-4 c h =
    let T = tables_in c.args.tables.now c.args.program.start in
    after-3 c.before.before.before (went-on (from T 5) (in_order T copies_at (copy_bad T) 5) (told-4 c.before.before) (c.in_ok-all_good-5.was) h)

pub returns-in_err-all_good-5 : goal.returns-in_err-all_good-5
returns-in_err-all_good-5 c =
    let T = tables_in c.args.tables.now c.args.program.start in
    let p = err_from_is_err_and c.from_residual-in_err-all_good-5.result c.from_residual-in_err-all_good-5.ensures.1 in
    ap answer_of (p.1 ∙ ap Err p.2) ∙ after-3 c.before.before.before.before (stopped (from T 5) (in_order T copies_at (copy_bad T) 5) (told-4 c.before.before.before) (c.in_err-all_good-5.was))

told-5 : (c : After-all_good-6) → let T = tables_in c.args.tables.now c.args.program.start in answer_of c.all_good-6.result ≡ alone T modes_at (mode_bad T)
told-5 c =
    let T = tables_in c.args.tables.now c.args.program.start in
    c.all_good-6.ensures c.args.program.start (mode_bad T) (λ k l b r.
    let small : name_of k ≡ k = name-small k (omega (arith, l, modes-nameable T (c.requires c.args.program.start))) in
    search (rules, small))

after-5 : (c : In_ok-all_good-6) {x : Answer} → let T = tables_in c.args.tables.now c.args.program.start in x ≡ from T 6 → x ≡ from T 0
after-5 c h =
    let T = tables_in c.args.tables.now c.args.program.start in
    after-4 c.before.before.before.before (went-on (from T 6) (in_order T modes_at (mode_bad T) 6) (told-5 c.before.before) (c.in_ok-all_good-6.was) h)

pub returns-in_err-all_good-6 : goal.returns-in_err-all_good-6
returns-in_err-all_good-6 c =
    let T = tables_in c.args.tables.now c.args.program.start in
    let p = err_from_is_err_and c.from_residual-in_err-all_good-6.result c.from_residual-in_err-all_good-6.ensures.1 in
    ap answer_of (p.1 ∙ ap Err p.2) ∙ after-4 c.before.before.before.before.before (stopped (from T 6) (in_order T modes_at (mode_bad T) 6) (told-5 c.before.before.before) (c.in_err-all_good-6.was))

told-6 : (c : After-all_good-7) → let T = tables_in c.args.tables.now c.args.program.start in answer_of c.all_good-7.result ≡ alone T mode_ports_at (mode_port_bad T)
told-6 c =
    let T = tables_in c.args.tables.now c.args.program.start in
    c.all_good-7.ensures c.args.program.start (mode_port_bad T) (λ k l b r. search rules)

after-6 : (c : In_ok-all_good-7) {x : Answer} → let T = tables_in c.args.tables.now c.args.program.start in x ≡ from T 7 → x ≡ from T 0
after-6 c h =
    let T = tables_in c.args.tables.now c.args.program.start in
    after-5 c.before.before.before (went-on (from T 7) (in_order T mode_ports_at (mode_port_bad T) 7) (told-6 c.before.before) (c.in_ok-all_good-7.was) h)

pub returns-in_err-all_good-7 : goal.returns-in_err-all_good-7
returns-in_err-all_good-7 c =
    let T = tables_in c.args.tables.now c.args.program.start in
    let p = err_from_is_err_and c.from_residual-in_err-all_good-7.result c.from_residual-in_err-all_good-7.ensures.1 in
    ap answer_of (p.1 ∙ ap Err p.2) ∙ after-5 c.before.before.before.before (stopped (from T 7) (in_order T mode_ports_at (mode_port_bad T) 7) (told-6 c.before.before.before) (c.in_err-all_good-7.was))

told-7 : (c : After-all_good-8) → let T = tables_in c.args.tables.now c.args.program.start in answer_of c.all_good-8.result ≡ alone T invocations_at (invocation_bad T)
told-7 c =
    let T = tables_in c.args.tables.now c.args.program.start in
    c.all_good-8.ensures c.args.program.start (invocation_bad T) (λ k l b r. search rules)

after-7 : (c : In_ok-all_good-8) {x : Answer} → let T = tables_in c.args.tables.now c.args.program.start in x ≡ from T 8 → x ≡ from T 0
after-7 c h =
    let T = tables_in c.args.tables.now c.args.program.start in
    after-6 c.before.before.before (went-on (from T 8) (in_order T invocations_at (invocation_bad T) 8) (told-7 c.before.before) (c.in_ok-all_good-8.was) h)

pub returns-in_err-all_good-8 : goal.returns-in_err-all_good-8
returns-in_err-all_good-8 c =
    let T = tables_in c.args.tables.now c.args.program.start in
    let p = err_from_is_err_and c.from_residual-in_err-all_good-8.result c.from_residual-in_err-all_good-8.ensures.1 in
    ap answer_of (p.1 ∙ ap Err p.2) ∙ after-6 c.before.before.before.before (stopped (from T 8) (in_order T invocations_at (invocation_bad T) 8) (told-7 c.before.before.before) (c.in_err-all_good-8.was))

told-8 : (c : After-all_good-9) → let T = tables_in c.args.tables.now c.args.program.start in answer_of c.all_good-9.result ≡ alone T updates_at (update_bad T)
told-8 c =
    let T = tables_in c.args.tables.now c.args.program.start in
    c.all_good-9.ensures c.args.program.start (update_bad T) (λ k l b r. search rules)

after-8 : (c : In_ok-all_good-9) {x : Answer} → let T = tables_in c.args.tables.now c.args.program.start in x ≡ from T 9 → x ≡ from T 0
after-8 c h =
    let T = tables_in c.args.tables.now c.args.program.start in
    after-7 c.before.before.before (went-on (from T 9) (in_order T updates_at (update_bad T) 9) (told-8 c.before.before) (c.in_ok-all_good-9.was) h)

pub returns-in_err-all_good-9 : goal.returns-in_err-all_good-9
returns-in_err-all_good-9 c =
    let T = tables_in c.args.tables.now c.args.program.start in
    let p = err_from_is_err_and c.from_residual-in_err-all_good-9.result c.from_residual-in_err-all_good-9.ensures.1 in
    ap answer_of (p.1 ∙ ap Err p.2) ∙ after-7 c.before.before.before.before (stopped (from T 9) (in_order T updates_at (update_bad T) 9) (told-8 c.before.before.before) (c.in_err-all_good-9.was))

told-9 : (c : After-all_good-10) → let T = tables_in c.args.tables.now c.args.program.start in answer_of c.all_good-10.result ≡ alone T switches_at (switch_bad T)
told-9 c =
    let T = tables_in c.args.tables.now c.args.program.start in
    c.all_good-10.ensures c.args.program.start (switch_bad T) (λ k l b r. search rules)

after-9 : (c : In_ok-all_good-10) {x : Answer} → let T = tables_in c.args.tables.now c.args.program.start in x ≡ from T 10 → x ≡ from T 0
after-9 c h =
    let T = tables_in c.args.tables.now c.args.program.start in
    after-8 c.before.before.before (went-on (from T 10) (in_order T switches_at (switch_bad T) 10) (told-9 c.before.before) (c.in_ok-all_good-10.was) h)

pub returns-in_err-all_good-10 : goal.returns-in_err-all_good-10
returns-in_err-all_good-10 c =
    let T = tables_in c.args.tables.now c.args.program.start in
    let p = err_from_is_err_and c.from_residual-in_err-all_good-10.result c.from_residual-in_err-all_good-10.ensures.1 in
    ap answer_of (p.1 ∙ ap Err p.2) ∙ after-8 c.before.before.before.before (stopped (from T 10) (in_order T switches_at (switch_bad T) 10) (told-9 c.before.before.before) (c.in_err-all_good-10.was))

-- the start mode, as row 0 of its place
of-start : (b : Bool) → then_some b 0 ≡ lowest_passing (λ r. b) 1
unfolding any first first_from
of-start true = refl
of-start false = refl

pub returns : goal.returns
returns c =
    let T = tables_in c.args.tables.now c.args.program.start in
    let found = c.then_some-start.ensures ∙ ap (λ (b : Bool). then_some b 0) (c.start_bad.ensures T refl refl) ∙ of-start (start_bad T) in
    after-9 c.before.before.before.before (c.refused_at.ensures ∙ told-rows Fields (testing start_at 1 (λ r. start_bad T)) found)
