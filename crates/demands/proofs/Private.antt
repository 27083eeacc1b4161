-- Private ports: their task's alone, taken and given by its function, written at its termination and never else. The statements' premises
-- are that the program, or the system, is accepted, and that the ticks are suited.
use Prim.Native.Nat.{ℕ, suc, ◌≤◌, ◌<◌}
use mathlib.Core.Path.{◌≡◌, sym, ap, subst, ◌∙◌}
use mathlib.Core.List.{List}
use mathlib.Core.Logic.{inl, inr}
use native.Mathlib.Omega.{arith}
use native.Mathlib.Decide.{ℕ_discrete}
use lib.IntN.{ℤ}
use Rattle.theory.specs.Verdict.{Keep}
use Rattle.theory.proofs.Bools.{is_true}
use Rattle.program.specs.Tables.{Tables, private, driver_count}
use Rattle.program.specs.Sets.{OfKind, Private, Source}
use Rattle.program.specs.Program.{program_of, task}
use Rattle.program.specs.Ports.{value_of, values_of}
use Rattle.program.proofs.Decoded.{takes-says, gives-says}
use Rattle.rules.specs.Declared.{Copies}
use Rattle.rules.specs.Verdict.{program_rules}
use Rattle.rules.proofs.Accepted.{accepted-task-ports, accepted-copies, accepted-mode-ports}
use Rattle.rules.proofs.Verdict.{program-accepted}
use Rattle.giotto.specs.Instant.{Configuration, Function, results}
use Rattle.giotto.proofs.Execution.{execution-succeeds, execution-waits}
use Rattle.giotto.proofs.Private.{private-enters, private-stays}
use Rattle.machine.specs.Advance.{Lent}
use Rattle.demands.specs.Composed.{System, Accepted, readings, state_at, configuration_at, SuitedAt}
use Rattle.demands.specs.Private.{PrivateOwn, FunctionExact, PrivateAfter, PrivateWritten, Ends, Remembers, PrivateRun}
use Rattle.demands.proofs.Sound.{accepted-sound}
use Rattle.demands.proofs.Composed.{related-always, same-ports}

-- no declared driver reads a private port, by a copy or by its guard
unread : (T : Tables) → Copies T → (p : ℕ) → OfKind T private p → (d : ℕ) → d < driver_count T → Source T d p → ⊥
unread T c p own d l (inl (k, h, (e, f))) = c.no-private-source k h (subst (OfKind T private) (sym f) own)
unread T c p own d l (inr (g, f)) = c.no-private-guard d l g (subst (OfKind T private) (sym f) own)

-- a private port is its task's alone
pub private-own : PrivateOwn
private-own T a p own =
    record {
      one-task = λ t u x y. (accepted-task-ports T a).privates-apart t u p (own, x) (own, y);
      unread = unread T (accepted-copies T a) p own;
      unwritten = λ d (k, h, (e, f)). (accepted-copies T a).no-private-destination k h (subst (OfKind T private) (sym f) own);
      no-mode-port = λ m (k, h, (e, f)).
          omega (arith, own.1, (subst (OfKind T _) f ((accepted-mode-ports T a).outputs k h)).1);
    }

-- a task's function takes and gives just these ports
pub function-exact : FunctionExact
function-exact T t l =
    record {
      takes = λ p. let s = takes-says T t p l in (s.yes, λ h. is_true s h);
      gives = λ p. let s = gives-says T t p l in (s.yes, λ h. is_true s h);
    }

-- by 001 only its task writes a private port
pub private-written : PrivateWritten
private-written T a result readings C C' S p own =
    let c = accepted-copies T a in
    record { enters = private-enters T c p own result readings C C' S; stays = private-stays T c p own result readings C C' S }

module _ (Y : System) (a : Accepted Y) (F : Function) (lents : ℕ → Lent) (n : ℕ) (f : (k : ℕ) → k ≤ n → SuitedAt Y F lents k) (p : ℕ)
    (own : OfKind Y.tables private p) where
  -- Giotto's configuration before the tick, and after it
  abbrev C : Configuration
  C = configuration_at Y F lents n

  abbrev C' : Configuration
  C' = configuration_at Y F lents (suc n)

  keep : Keep program_rules Y.tables
  keep = (program-accepted Y.tables).0 (accepted-sound Y a).accepted

  -- the machine's ports are Giotto's, before the tick and after it
  before : (state_at Y lents n).ports ≡ C.ports
  before = same-ports Y a F lents n C (state_at Y lents n) (related-always Y a F lents n (λ k l. f k (omega arith)))

  after : (state_at Y lents (suc n)).ports ≡ C'.ports
  after = same-ports Y a F lents (suc n) C' (state_at Y lents (suc n)) (related-always Y a F lents (suc n) (λ k l. f k (omega arith)))

  -- at an instant a private port goes on as 001 has it
  by-001 : C.time ≡ n → PrivateAfter Y.tables (results (program_of Y.tables) F C.ports) C C' p
  by-001 e =
      private-written Y.tables (accepted-sound Y a).accepted _ (value_of (lents n).readings) C C'
      (execution-succeeds Y.tables keep F (readings Y F lents) n e) p own

  -- at any other tick it stays
  waits : (C.time ≡ n → ⊥) → value_of C'.ports p ≡ value_of C.ports p
  waits d = ap (λ (D : Configuration). value_of D.ports p) (execution-waits Y.tables keep F (readings Y F lents) n d)

  remembers : Remembers Y F lents n p
  remembers =
      record {
        enters = λ t e q.
            ap (λ (v : List ℤ). value_of v p) after
            ∙ (by-001 e.instant).enters t e.completed q
            ∙ ap (λ (v : List ℤ). F t (values_of v (task (program_of Y.tables) t).takes) p) (sym before);
        stays = λ h.
            ap (λ (v : List ℤ). value_of v p) after ∙ kept h (ℕ_discrete C.time n) ∙ ap (λ (v : List ℤ). value_of v p) (sym before);
      }
    where
      kept : ((t : ℕ) → Ends Y F lents n t → Private Y.tables t p → ⊥) → Dec (C.time ≡ n) → value_of C'.ports p ≡ value_of C.ports p
      kept h (yes e) = (by-001 e).stays (λ t d. h t (record { instant = e; completed = d }))
      kept h (no d) = waits d

-- every private port of a composed run is its task's memory
pub private-run : PrivateRun
private-run Y a F lents n f p own = remembers Y a F lents n f p own
