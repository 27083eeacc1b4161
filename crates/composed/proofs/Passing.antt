-- A tick that leaves these remaining times and these local outputs keeps the relation.
-- Assumes that the system is sound, that a unit goes on and a tick of it remains; of the remaining times, that nothing is added and
-- that each supplier's tasks owe at most what they owe after the supplier's own act; of the local outputs, that they hold the results
-- of the tasks that have ended.
use Prim.Native.Nat.{ℕ, suc, ◌+◌, ◌%◌, ◌^◌, ◌≤◌, ◌<◌}
use mathlib.Core.Path.{◌≡◌, sym, ap, subst, ◌∙◌}
use mathlib.Core.Bool.{true}
use mathlib.Core.List.{List}
use native.Mathlib.Nat.{mod-add-mod}
use native.Mathlib.Numerals.{add-one}
use native.Mathlib.Omega.{arith}
use lib.IntN.{ℤ}
use lib.ListN.{length, get_or}
use Rattle.theory.specs.Lists.{member, each}
use Rattle.theory.proofs.Lists.{each_at}
use Rattle.cells.specs.Limits.{suppliers, max_ports, max_tasks}
use Rattle.program.specs.Tables.{Tables}
use Rattle.program.specs.Program.{Program, program_of, task}
use Rattle.program.specs.Ports.{value_of}
use Rattle.runs.specs.Tick.{left_of, left_after, tick}
use Rattle.runs.specs.Schedule.{block_of}
use Rattle.runs.specs.Dominated.{AtMost, Dominated}
use Rattle.runs.proofs.Tick.{tick-among}
use Rattle.suppliers.proofs.Dispatched.{own-rows}
use Rattle.giotto.specs.Instant.{Configuration, Function, results}
use Rattle.machine.specs.declared.State.{State}
use Rattle.machine.specs.Schedules.{place_of, act_of, moved_of, after_tick}
use Rattle.composed.specs.Sound.{Sound}
use Rattle.composed.specs.Related.{OwnedBy, tasks_of, worst_run, Going}

-- the machine's clock, one tick later, is the next tick's number modulo 2^32
clock-next : (time n : ℕ) → time ≡ n % 2 ^ 32 → (time + 1) % 2 ^ 32 ≡ suc n % 2 ^ 32
clock-next time n e =
    ap (λ (t : ℕ). (t + 1) % 2 ^ 32) e ∙ (mod-add-mod n (2 ^ 32) 1 ∙ ap (λ (m : ℕ). m % 2 ^ 32) (add-one n))

module _ (T : Tables) (W S : List ℤ) (F : Function) (sound : Sound T W S) (k n : ℕ) (C : Configuration) (u : State)
    (h : Going T W S F k n C u) (more : 1 ≤ u.remaining) where
  abbrev P : Program
  P = program_of T

  -- after a tick each supplier stays ahead of its worst-case run alone
  ahead-next : (r : List ℕ) (j : ℕ) → j < suppliers → AtMost (OwnedBy P j) r (left_after (act_of S u j) u.left)
      → Dominated (OwnedBy P j) (block_of S j u.current) (u.elapsed + 1)
      (record { position = get_or (each (moved_of S u) suppliers 0) j 0; left = r }) (worst_run T W S F j C.mode k (u.elapsed + 1))
  ahead-next r j l w =
      let e = u.elapsed in
      let block = block_of S j u.current in
      let d = worst_run T W S F j C.mode k e in
      let a = tick-among (OwnedBy P j) block e (place_of S u j) d r (own-rows T S sound.joined.rows j u.current) (h.ahead j l) w in
      let b : Dominated (OwnedBy P j) block (suc e) (record { position = moved_of S u j; left = r }) (worst_run T W S F j C.mode k (suc e)) =
      subst (λ (x : ℕ). Dominated (OwnedBy P j) block (suc e) (record { position = moved_of S u j; left = r }) (tick (block_of S j x) e d))
      h.current a in
      let c = subst (λ (x : ℕ). Dominated (OwnedBy P j) block (suc e) (record { position = x; left = r }) (worst_run T W S F j C.mode k (suc e)))
      (sym (each_at (moved_of S u) suppliers j 0 l)) b in
      subst (λ (x : ℕ).
      Dominated (OwnedBy P j) block x (record { position = get_or (each (moved_of S u) suppliers 0) j 0; left = r }) (worst_run T W S F j C.mode k x))
      (sym (add-one e)) c

  -- after a tick with these remaining times and local outputs the unit goes on
  pub passing : (r : List ℕ) (o : List ℤ) → length r ≡ max_tasks → length o ≡ max_ports
      → ((t : ℕ) → left_of r t ≤ left_of u.left t)
      → ((j : ℕ) → j < suppliers → AtMost (OwnedBy P j) r (left_after (act_of S u j) u.left))
      → ((t p : ℕ) → member t (tasks_of P C.mode) ≡ true → left_of r t ≡ 0 → member p (task P t).gives ≡ true
      → value_of o p ≡ results P F C.ports t p)
      → Going T W S F k (suc n) C (after_tick S u r o)
  passing r o a b less own holds = record {
    declared = h.declared;
    in-round = h.in-round;
    next = h.next;
    current = h.current;
    pending = h.pending;
    ticks = omega (arith, h.ticks);
    stamp = omega (arith, h.stamp);
    clock = clock-next u.time n h.clock;
    ports = h.ports;
    all-ports = h.all-ports;
    all-outputs = b;
    all_left = a;
    active = h.active;
    others = λ t q. omega (arith, less t, h.others t q);
    held = holds;
    most = λ t. omega (arith, less t, h.most t);
    ahead = λ j l. ahead-next r j l (own j l);
  }
