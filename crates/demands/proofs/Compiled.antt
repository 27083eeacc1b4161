-- The compiled code does the instant. The statement's premises are that the program is compiled and that the machine
-- stands where a block begins.
use mathlib.Core.Path.{◌≡◌, sym, ap, ◌∙◌}
use mathlib.Core.List.{List}
use Prim.Native.Nat.{ℕ}
use lib.IntN.{ℤ}
use Rattle.theory.specs.Verdict.{accepted_number}
use Rattle.program.specs.Program.{program_of}
use Rattle.code.specs.Op.{instructions}
use Rattle.code.specs.Compile.{Compiling, compile_verdict}
use Rattle.code.proofs.Words.{words_are}
use Rattle.code.proofs.Answers.{compile-passes}
use Rattle.machine.specs.declared.State.{State}
use Rattle.machine.specs.Instant.{run_instant}
use Rattle.compiled.specs.Block.{block_instant}
use Rattle.compiled.specs.Done.{AtBlock}
use Rattle.compiled.proofs.Does.{words-do, only_two, only-late}
use Rattle.compiled.proofs.Leaves.{instant-done}
use Rattle.demands.specs.Compiled.{instant_of, CompiledInstant}
use Rattle.demands.proofs.Verdict.{compiled-accepted}

-- over the words that compiling leaves, an instant comes to what it does from the block
from_block : (L : Compiling) → compile_verdict L ≡ accepted_number → (readings times : List ℤ) (m k : ℕ) (s : State)
    → AtBlock L.tables m k s
    → instant_of L readings times m k s ≡ block_instant (program_of L.tables) readings times m k s
from_block L e readings times m k s b =
    ap (λ (ws : List ℕ). run_instant (program_of L.tables) readings times (instructions ws) s) (words_are L e)
    ∙ words-do L.tables (compiled-accepted L e) readings times m k s b

-- the compiled code does the instant
pub compiled-instant : CompiledInstant
compiled-instant L n readings times m k s b =
    let e = compile-passes L n in
    let a = compiled-accepted L e in
    let same = from_block L e readings times m k s b in
    record {
      only_two = λ n q. only_two (program_of L.tables) readings times m k s n (sym same ∙ q);
      only-late = λ h n q. only-late L.tables a readings times h m k s n b (sym same ∙ q);
      does = λ d r t. same ∙ instant-done L.tables a readings times m k s b.declared d r t;
    }
