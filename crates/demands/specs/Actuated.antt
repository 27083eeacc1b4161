-- From a mode to an actuator, as statements: from the start of a round a task first terminates period / task frequency ticks later, and an
-- update that is due whenever it terminates sets the actuator in that tick. So a reaction is the wait for a switch (Response: document 02,
-- K12), a termination, and an update. Proved of these definitions in proofs/Actuated.antt.
use Rattle.std.specs.Prelude.{ℕ, suc, ◌+◌, ◌/◌, ◌<◌, ◌≡◌}
use Rattle.std.specs.Int.{◌∣◌}
use Rattle.program.specs.Tables.{Tables, guard_kind, kind_always, copy_count, copy_driver, copy_source, copy_destination, mode_period}
use Rattle.program.specs.Tables.{invocation_count, invocation_mode, invocation_frequency, invocation_task, update_count, update_mode}
use Rattle.program.specs.Tables.{update_frequency, update_driver, switch_target}
use Rattle.program.specs.Sets.{Output}
use Rattle.program.specs.Program.{program_of, task}
use Rattle.program.specs.Ports.{value_of, values_of}
use Rattle.giotto.specs.Instant.{Function}
use Rattle.machine.specs.Advance.{Lent}
use Rattle.demands.specs.Composed.{System, Accepted, readings, state_at, configuration_at}
use Rattle.demands.specs.Kept.{InRound}
use Rattle.demands.specs.Private.{Ends}
use Rattle.demands.specs.Response.{waiting, Watches, FindsAfter, LeavesWithin, SuitedFor}

-- how many ticks after the start of a round the task of invocation row a first terminates: period / task frequency
abbrev pub terminating : Tables → ℕ → ℕ
terminating T a = mode_period T (invocation_mode T a) / invocation_frequency T a

-- update row u brings port p of the task of invocation row a to port q: in one mode, whenever the task terminates, and always
pub record Brings (T : Tables) (a u p q : ℕ) : Type 0 where
  pub invocation : a < invocation_count T
  pub update : u < update_count T
  pub one-mode : update_mode T u ≡ invocation_mode T a
  pub as-often : invocation_frequency T a ∣ update_frequency T u
  pub always : guard_kind T (update_driver T u) ≡ kind_always
  pub output : Output T (invocation_task T a) p
  pub copies : (c : ℕ) × (c < copy_count T) × (copy_driver T c ≡ update_driver T u) × (copy_source T c ≡ p) × (copy_destination T c ≡ q)

-- in tick k the task t ends, and port q has after it what the task's function gives for port p, of the values that it takes
pub record Acts (Y : System) (F : Function) (lents : ℕ → Lent) (k t p q : ℕ) : Type 0 where
  pub ends : Ends Y F lents k t
  pub value : value_of (state_at Y lents (suc k)).ports q
      ≡ F t (values_of (state_at Y lents k).ports (task (program_of Y.tables) t).takes) p

-- where tick n begins a round of the mode of an invocation, its task ends period / task frequency ticks later, and the actuator has what it
-- gives
abbrev pub ActsInTime : Type 0
ActsInTime =
    (Y : System) → Accepted Y → (F : Function) (lents : ℕ → Lent) (n a u p q : ℕ) → SuitedFor Y F lents n (terminating Y.tables a)
    → (configuration_at Y F lents (suc n)).mode ≡ invocation_mode Y.tables a
    → InRound (program_of Y.tables) n (configuration_at Y F lents (suc n)) 0 0 → Brings Y.tables a u p q
    → Acts Y F lents (n + terminating Y.tables a) (invocation_task Y.tables a) p q

-- from tick n on: a wait for the switch of row i, at most period / switch frequency ticks of the mode that is left; then period / task
-- frequency ticks of the mode that is entered, up to the first termination of the task of invocation row a; and in that tick the update
pub record Reacts (Y : System) (F : Function) (lents : ℕ → Lent) (n i a p q : ℕ) : Type 0 where
  pub wait : LeavesWithin Y F lents n (waiting Y.tables i) i
  pub acts : Acts Y F lents (wait.tick + terminating Y.tables a) (invocation_task Y.tables a) p q

-- The whole reaction: from an instant on, each later instant finds the guarded port of a switch in its interval, as for the response time;
-- an update of the switch's target mode brings an output of one of its tasks to an actuator. What the readings are after the switch is
-- taken does not matter.
abbrev pub ReactionTime : Type 0
ReactionTime =
    (Y : System) → Accepted Y → (F : Function) (lents : ℕ → Lent) (n i a u p q : ℕ)
    → SuitedFor Y F lents n (waiting Y.tables i + terminating Y.tables a)
    → Watches Y.tables F (readings Y F lents) n i → FindsAfter Y.tables F (readings Y F lents) i n (waiting Y.tables i)
    → switch_target Y.tables i ≡ invocation_mode Y.tables a → Brings Y.tables a u p q
    → Reacts Y F lents n i a p q
