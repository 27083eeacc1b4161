-- Demand 1, as statements about what the calls return: a refusal carries the number that document 01 gives, under exactly the condition
-- given there, and the place of document 02, K3. For each call that judges, its answer has number n and place (t, r) exactly where rule n
-- of that call is the first that is broken, row r of table t breaks it, no lower row of that table does, and no row of an earlier table
-- does (`FirstAt`, `LowestRow` in theory/specs): a row that is made up is no answer. The rules that a call asks, each with what it asks of
-- each row of which table, are lists: `program_rules` (rules/specs/Verdict), `compile_rules`, `call_rules` (code/specs/Compile),
-- `windows_verdict_rules`, `part_rules` (suppliers/specs), `advance_rules` (machine/specs/Advance). What an advance and a fresh state hand back
-- beside it is stated too. (That a call ends, does nothing undefined and leaves lent memory as it says is what the check of its function
-- shows.) The program verdict and compiling's slice are in Verdict.antt, a supplier's verdict in Supplier.antt, 16 to 20 in Machine.antt.
-- Proved in proofs/Calls.antt.
use Rattle.std.specs.Prelude.{◌≡◌, ◌⊎◌, ◌↔◌}
use Rattle.theory.specs.Rows.{placeless}
use Rattle.theory.specs.Verdict.{accepted_number, Keep, FirstAt, ByRows}
use Rattle.theory.specs.declared.Answer.{Answer}
use Rattle.program.specs.Tables.{Tables}
use Rattle.rules.specs.Verdict.{program_rules}
use Rattle.code.specs.Compile.{Compiling, compile_rules, compile_answer}
use Rattle.suppliers.specs.Windows.{Windowed, windows_verdict, windows_answer, windows_verdict_rules}
use Rattle.suppliers.specs.Supplier.{Asked, part_rules}
use Rattle.machine.specs.Advance.{Advance, advance_rules, advance_answer, fresh_answer}
use Rattle.machine.specs.Fresh.{Fresh, AllZero}
use Rattle.machine.specs.Comes.{Static, Arising, TickPasses}

-- compiling gives each of 1 to 11 and 24, with its place, exactly where its rule is the first that is broken
abbrev pub CompileExact : Type 0
CompileExact = (L : Compiling) (x : Answer) → ((compile_answer L).answer ≡ x) ↔ FirstAt compile_rules L x

-- the windows verdict gives each of 1 to 12 and 24, with its place, exactly where its rule is the first that is broken
abbrev pub WindowsExact : Type 0
WindowsExact = (L : Windowed) (x : Answer) → (windows_answer L ≡ x) ↔ FirstAt windows_verdict_rules L x

-- the number alone, of which other statements speak
abbrev pub WindowsNumber : Type 0
WindowsNumber = (L : Windowed) → (windows_answer L).number ≡ windows_verdict L

-- an advance gives 1 to 11, 24, 13 and 21 before anything runs, with their place; then 16 to 20, each under its condition in Machine.antt
pub record AdvanceExact (L : Advance) : Type 0 where
  pub judged : (x : Answer) → Static x.number → ((advance_answer L).answer ≡ x) ↔ FirstAt advance_rules L x
  pub accepted : ((advance_answer L).answer ≡ placeless accepted_number) ↔ (Keep advance_rules L × TickPasses L)
  pub only-these : ((advance_answer L).answer.number ≡ accepted_number)
      ⊎ (Static (advance_answer L).answer.number ⊎ Arising (advance_answer L).answer.number)
  -- what arises in execution has no place
  pub arising : Arising (advance_answer L).answer.number → (advance_answer L).answer ≡ placeless (advance_answer L).answer.number
  -- a refused advance hands the state back as it was
  pub kept : ((advance_answer L).answer.number ≡ accepted_number → ⊥) → (advance_answer L).state ≡ L.state

-- a fresh state has number 1 to 10 or 24, with its place; "refused, it is all 0", else it "has the ports' first values in the first two and
-- 0 elsewhere"
pub record FreshExact (T : Tables) : Type 0 where
  pub answer : (x : Answer) → ((fresh_answer T).answer ≡ x) ↔ FirstAt program_rules T x
  pub refused : ((fresh_answer T).answer.number ≡ accepted_number → ⊥) → AllZero (fresh_answer T).state
  pub accepted : (fresh_answer T).answer.number ≡ accepted_number → Fresh T (fresh_answer T).state

-- in every call each rule that has a place holds exactly where no row breaks it, where the rules before it hold: so a row that is named
-- breaks its rule, and a rule that is broken has a row to name
pub record RulesByRows : Type 0 where
  pub compiling : (L : Compiling) → ByRows compile_rules L
  pub windows : (L : Windowed) → ByRows windows_verdict_rules L
  pub supplier : (L : Asked) → ByRows part_rules L
  pub advance : (L : Advance) → ByRows advance_rules L
