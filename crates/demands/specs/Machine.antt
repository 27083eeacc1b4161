-- Demand 1 for the machine, as statements about what an advance returns: each of 16 to 20 under exactly its condition, order included;
-- what an accepted advance changes, and how long its instant may be. (The numbers before anything runs, and that a refusal hands the
-- state back: `AdvanceExact` in Calls.antt.) Proved in proofs/Machine.antt.
use Rattle.std.specs.Prelude.{ℕ, ◌+◌, ◌*◌, ◌/◌, ◌%◌, ◌^◌, ◌<◌, ◌≡◌, List, [], ◌∷◌, ◌↔◌, length, get_or}
use Rattle.theory.specs.Verdict.{accepted_number, Keep}
use Rattle.cells.specs.Cell.{word_at}
use Rattle.cells.specs.Limits.{words_each}
use Rattle.cells.specs.Refusals.{time_refused, overrun_refused, collision_refused, faulty_refused, count_refused}
use Rattle.code.specs.Op.{Op, faulty, words, instructions}
use Rattle.machine.specs.declared.State.{State}
use Rattle.machine.specs.Advance.{Advance, advance_rules, advance_answer}
use Rattle.machine.specs.Comes.{Faults, TimeWrong, Overruns, RunsOn, Collides, Returns}
use Rattle.machine.specs.Moves.{Advances}

-- "One instruction is three unsigned 32-bit words, unused words 0": of lent code, instruction i is o exactly where its three words are
-- those of o. All else is faulty
abbrev pub WordsExact : Type 0
WordsExact =
    (code : List ℕ) (i : ℕ) → i < length code / words_each → (o : Op) → (o ≡ faulty → ⊥)
    → (get_or (instructions code) i faulty ≡ o)
    ↔ (words o ≡ word_at code (i * words_each) ∷ word_at code (i * words_each + 1) ∷ word_at code (i * words_each + 2) ∷ [])

-- 19: the instant comes to a faulty instruction, or runs off the end
abbrev pub FaultyExact : Type 0
FaultyExact = (L : Advance) → ((advance_answer L).answer.number ≡ faulty_refused) ↔ (Keep advance_rules L × Faults L)

-- 16: the instant comes to an instruction that is not faulty, and releases a task with a time outside 1..worst case
abbrev pub TimeExact : Type 0
TimeExact = (L : Advance) → ((advance_answer L).answer.number ≡ time_refused) ↔ (Keep advance_rules L × TimeWrong L)

-- 17: the instant comes to an instruction that neither 19 nor 16 refuses, and ends or releases a task that is still running
abbrev pub OverrunExact : Type 0
OverrunExact = (L : Advance) → ((advance_answer L).answer.number ≡ overrun_refused) ↔ (Keep advance_rules L × Overruns L)

-- 20: the instant runs more instructions than the code has
abbrev pub CountExact : Type 0
CountExact = (L : Advance) → ((advance_answer L).answer.number ≡ count_refused) ↔ (Keep advance_rules L × RunsOn L)

-- 18: two suppliers run in the tick of an advance
abbrev pub CollisionExact : Type 0
CollisionExact = (L : Advance) → ((advance_answer L).answer.number ≡ collision_refused) ↔ (Keep advance_rules L × Collides L)

-- the state handed back differs from the one before only where document 01 says
abbrev pub AdvanceMoves : Type 0
AdvanceMoves = (L : Advance) → (advance_answer L).answer.number ≡ accepted_number → Advances L (advance_answer L).state

-- "after 4294967295 comes 0": the time stamp moves by one
abbrev pub TimeMoves : Type 0
TimeMoves = (L : Advance) → (advance_answer L).answer.number ≡ accepted_number → (advance_answer L).state.time ≡ (L.state.time + 1) % 2 ^ 32

-- the instant of an accepted advance in which no tick of the unit remained came to a `return` that is not faulty, in no more
-- instructions than the lent code has
abbrev pub InstantCounted : Type 0
InstantCounted =
    (L : Advance) → (advance_answer L).answer.number ≡ accepted_number → L.state.remaining ≡ 0
    → (u : State) × (w : Returns L u) × (w.reaches.before < length L.code / words_each)
