-- Numbers 3, 4 and 5: each row against the rows before it, as a claim of any two rows.
use Prim.Native.Nat.{ℕ, ◌<◌}
use mathlib.Core.Path.{◌≡◌, refl, sym, ap, subst, ◌∙◌}
use mathlib.Core.Logic.{inl, inr}
use native.Mathlib.Omega.{arith}
use Rattle.theory.specs.Claim.{Bars}
use Rattle.theory.proofs.Bools.{says_eq, bars-not, bars-says, bars-and, bars-as, ◌or◌, ◌and◌}
use Rattle.theory.proofs.Search.{bars-any}
use Rattle.theory.proofs.Rows.{RowsJoined, one_table}
use Rattle.theory.proofs.Verdict.{Rowed, bars-rows}
use Rattle.program.specs.Tables.{Tables, sensor, actuator, input, output, private, task_port_count, task_port_task, task_port_port, guard_kind}
use Rattle.program.specs.Tables.{guard_port, kind_interval, copy_source, copy_destination, mode_port_port, task_ports_at, mode_ports_at}
use Rattle.program.specs.Sets.{is_task_port, mode_port_at, copies_to, OfKind, MayTake, TaskPort, Takes}
use Rattle.program.proofs.Sets.{kind-says, may-take-says}
use Rattle.rules.specs.Declared.{same_port, task_port_clash, task_port_tests, task_ports_bad, TaskPorts, TaskPortRow, task_port_rules}
use Rattle.rules.specs.Declared.{guard_wrong, copy_clash, copy_tests, copies_bad, Copies, GuardRow, CopyRow, copy_rules}
use Rattle.rules.specs.Declared.{mode_port_clash, mode_port_tests, mode_ports_bad, ModePorts, ModePortRow, mode_port_rules}

module _ (T : Tables) where
  -- an input or private port stands in one row of the task ports
  abbrev Once : Type 0
  Once = (k : ℕ) → k < task_port_count T → MayTake T (task_port_port T k) → (j : ℕ) → j < k → task_port_port T j ≡ task_port_port T k → ⊥

  -- a port of this kind, which a task takes, is of one task if it stands in one row
  one-task : Once → (kind : ℕ) → ((p : ℕ) → OfKind T kind p → MayTake T p) → {t u p : ℕ}
      → OfKind T kind p × TaskPort T t p → OfKind T kind p × TaskPort T u p → t ≡ u
  one-task once kind may {p} a b =
      let e : a.1.0 ≡ b.1.0 = omega (arith, later a b, later b a) in
      sym a.1.2.0 ∙ ap (task_port_task T) e ∙ b.1.2.0
    where
      later : {t u : ℕ} (a : OfKind T kind p × TaskPort T t p) (b : OfKind T kind p × TaskPort T u p) → a.1.0 < b.1.0 → ⊥
      later (q, (j, h, (s, e))) (r, (k, i, (t, f))) l = once k i (subst (MayTake T) (sym f) (may p r)) j l (e ∙ sym f)

  -- rule 3: two tasks take no port in common
  pub takes-apart : TaskPorts T → (t u p : ℕ) → Takes T t p → Takes T u p → t ≡ u
  takes-apart s t u p (inl a) (inl b) = s.inputs_apart t u p a b
  takes-apart s t u p (inl a) (inr b) = absurd (omega (arith, a.0.1, b.0.1))
  takes-apart s t u p (inr a) (inl b) = absurd (omega (arith, a.0.1, b.0.1))
  takes-apart s t u p (inr a) (inr b) = s.privates-apart t u p a b

  -- an input or private port that is of one task stands in one row, since a second would repeat the first
  one-row : TaskPorts T → Once
  one-row s k h q j l e = s.no-repeat j k l h (go q) e
    where
      first : TaskPort T (task_port_task T j) (task_port_port T k)
      first = (j, omega arith, (refl, e))

      second : TaskPort T (task_port_task T k) (task_port_port T k)
      second = (k, h, (refl, refl))

      go : MayTake T (task_port_port T k) → task_port_task T j ≡ task_port_task T k
      go (inl i) = s.inputs_apart (task_port_task T j) (task_port_task T k) (task_port_port T k) (i, first) (i, second)
      go (inr i) = s.privates-apart (task_port_task T j) (task_port_task T k) (task_port_port T k) (i, first) (i, second)

  -- the test of a task port row bars what rule 3 asks of it
  task-port-bars : (k : ℕ) → Bars (task_port_clash T k) (TaskPortRow T k)
  unfolding task_port_clash is_task_port same_port
  task-port-bars k =
      bars-as
      (bars-any _ _ (λ j. bars-says (says_eq _ _ and says_eq _ _)) k
      or bars-says (kind-says T sensor (task_port_port T k))
      or bars-says (kind-says T actuator (task_port_port T k))
      or bars-and (may-take-says T (task_port_port T k)) (bars-any _ _ (λ j. bars-says (says_eq _ _)) k))
      (λ (((r, s), a), o). record { no-repeat = λ j l e f. r j l (e, f); no-sensor = s; no-actuator = a; serves-one = o })
      (λ f. (((λ j l e. f.no-repeat j l e.0 e.1, f.no-sensor), f.no-actuator), f.serves-one))

  -- number 3 and rule 3 speak of the same rows
  pub task-ports-rowed : Rowed (task_ports_bad T) (task_port_tests T) (task_port_rules T)
  unfolding task_ports_bad
  task-ports-rowed = (one_table task_ports_at (λ k h w. task-port-bars k), refl)

  -- number 3 bars task ports that do not repeat, are no sensors or actuators, and inputs and private ports that no two tasks share
  pub task-ports-bar : Bars (task_ports_bad T) (TaskPorts T)
  task-ports-bar =
      bars-rows (task_port_tests T) (task_port_rules T) task-ports-rowed
      (λ (g, _).
      record {
        no-repeat = λ j k l h. (g k h).no-repeat j l;
        no-sensor = λ k h. (g k h).no-sensor;
        no-actuator = λ k h. (g k h).no-actuator;
        inputs_apart = λ t u p. one-task (λ k h. (g k h).serves-one) input (λ p. inl);
        privates-apart = λ t u p. one-task (λ k h. (g k h).serves-one) private (λ p. inr);
      })
      (λ s. (
        λ k h.
            record {
              no-repeat = λ j l. s.no-repeat j k l h;
              no-sensor = s.no-sensor k h;
              no-actuator = s.no-actuator k h;
              serves-one = one-row s k h;
            },
        tt,
      ))

  -- the test of a guard bars what rule 4 asks of it
  guard-bars : (d : ℕ) → Bars (guard_wrong T d) (GuardRow T d)
  unfolding guard_wrong
  guard-bars d = bars-and (says_eq (guard_kind T d) kind_interval) (bars-says (kind-says T private (guard_port T d)))

  -- the test of a copy row bars what rule 4 asks of it
  copy-bars : (c : ℕ) → Bars (copy_clash T c) (CopyRow T c)
  unfolding copy_clash copies_to
  copy-bars c =
      bars-as
      (bars-says (kind-says T private (copy_source T c))
      or bars-says (kind-says T private (copy_destination T c))
      or bars-any _ _ (λ b. bars-says (says_eq _ _ and says_eq _ _)) c)
      (λ ((s, d), g). record { no-private-source = s; no-private-destination = d; apart = λ b l e f. g b l (e, f) })
      (λ r. ((r.no-private-source, r.no-private-destination), λ b l e. r.apart b l e.0 e.1))

  -- number 4 and rule 4 speak of the same rows
  pub copies-rowed : Rowed (copies_bad T) (copy_tests T) (copy_rules T)
  unfolding copies_bad
  copies-rowed = (joined, refl)
    where
      joined : RowsJoined (copy_tests T) (copy_rules T)
      joined = (refl, refl, λ d h w. guard-bars d, (omega arith, tt), (refl, refl, λ c h w. copy-bars c, tt, tt))

  -- the test of a mode port row bars what rule 5 asks of it
  mode-port-bars : (k : ℕ) → Bars (mode_port_clash T k) (ModePortRow T k)
  unfolding mode_port_clash mode_port_at
  mode-port-bars k =
      bars-as
      (bars-any _ _ (λ j. bars-says (says_eq _ _ and says_eq _ _)) k or bars-not (kind-says T output (mode_port_port T k)))
      (λ (r, o). record { no-repeat = λ j l e f. r j l (e, f); output = o })
      (λ f. (λ j l e. f.no-repeat j l e.0 e.1, f.output))

  -- number 5 and rule 5 speak of the same rows
  pub mode-ports-rowed : Rowed (mode_ports_bad T) (mode_port_tests T) (mode_port_rules T)
  unfolding mode_ports_bad
  mode-ports-rowed = (one_table mode_ports_at (λ k h w. mode-port-bars k), refl)

  -- number 5 bars mode ports that do not repeat and are outputs
  pub mode-ports-bar : Bars (mode_ports_bad T) (ModePorts T)
  mode-ports-bar =
      bars-rows (mode_port_tests T) (mode_port_rules T) mode-ports-rowed
      (λ (g, _). record { no-repeat = λ j k l h. (g k h).no-repeat j l; outputs = λ k h. (g k h).output })
      (λ s. (λ k h. record { no-repeat = λ j l. s.no-repeat j k l h; output = s.outputs k h }, tt))
