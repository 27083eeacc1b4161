-- In an accepted program the drivers of due updates write actuators and read outputs, and those of due invocations write inputs and
-- read outputs and sensors: so in each of the two steps no driver writes what one of them reads.
-- Assumes that the verdict on the tables is 0, and that the mode is declared.
use Prim.Native.Nat.{ℕ, ◌<◌}
use mathlib.Core.Path.{◌≡◌, refl, subst}
use mathlib.Core.Bool.{Bool, true, false}
use mathlib.Core.List.{map}
use mathlib.Core.Logic.{◌⊎◌, inl, inr, ⊎_elim}
use native.Mathlib.Omega.{arith}
use lib.Dec.{eqb}
use borrow.Author.Tests.{eqb-false}
use Rattle.theory.specs.Verdict.{accepted_number}
use Rattle.theory.proofs.Members.{has-map}
use Rattle.program.specs.Tables.{Tables, sensor, actuator, input, output, driver_count, guard_kind, guard_port, guard_low, guard_high}
use Rattle.program.specs.Tables.{kind_always, kind_interval, mode_count, invocation_driver, update_driver}
use Rattle.program.specs.Guard.{always, interval, guard_of}
use Rattle.program.specs.Sets.{OfKind, ModePort, Source, Destination}
use Rattle.program.specs.Program.{Driver, Invocation, Update, driver_row, program_of, driver, mode, due_invocations, due_updates}
use Rattle.program.proofs.Decoded.{driver-row, has-copies, has-invocations, has-updates}
use Rattle.rules.specs.Fields.{Fields}
use Rattle.rules.specs.Declared.{ModePorts}
use Rattle.rules.specs.Verdict.{program_verdict}
use Rattle.rules.proofs.Accepted.{accepted-fields, accepted-mode-ports, accepted-invocations, accepted-updates}
use Rattle.compiled.proofs.Sequence.{GuardReads, Reads, Writes, Unmixed}

module _ (T : Tables) where
  -- what a declared driver writes is a destination of it
  writes-row : (d p : ℕ) → d < driver_count T → Writes (driver (program_of T) d) p → Destination T d p
  writes-row d p l w =
      let h : Writes (driver_row T d) p = subst (λ (D : Driver). Writes D p) (driver-row T d l) w in
      let (c, b, e, q) = (has-copies T (λ c. c.destination ≡ p) d).0 h in (c, b, (e, q))

  module _ (f : Fields T) where
    -- the port that a declared driver's guard reads is that of an interval
    guard-row : (d p : ℕ) → d < driver_count T → GuardReads (guard_of T d) p → (guard_kind T d ≡ kind_interval) × (guard_port T d ≡ p)
    guard-row d p l = go (eqb (guard_kind T d) kind_always) refl
      where
        go : (b : Bool) → eqb (guard_kind T d) kind_always ≡ b
            → GuardReads (elim b [ true ↦ always | false ↦ interval (guard_port T d) (guard_low T d) (guard_high T d) ]) p
            → (guard_kind T d ≡ kind_interval) × (guard_port T d ≡ p)
        go true e r = absurd r
        go false e r = (⊎_elim (λ a. absurd (eqb-false (guard_kind T d) kind_always e a.kind)) (λ i. i.kind) (f.drivers d l), r)

    -- what a declared driver reads is a source of it
    reads-row : (d p : ℕ) → d < driver_count T → Reads (driver (program_of T) d) p → Source T d p
    reads-row d p l r = go (subst (λ (D : Driver). Reads D p) (driver-row T d l) r)
      where
        go : Reads (driver_row T d) p → Source T d p
        go (inl g) = inr (guard-row d p l g)
        go (inr h) = let (c, b, e, q) = (has-copies T (λ c. c.source ≡ p) d).0 h in inl (c, b, (e, q))

  -- a port has no two kinds
  one-kind : (j k p : ℕ) → OfKind T j p → OfKind T k p → j ≡ k
  one-kind j k p a b = omega (arith, a.1, b.1)

  -- a mode port is an output
  mode-output : ModePorts T → (m p : ℕ) → ModePort T m p → OfKind T output p
  mode-output o m p (k, l, (e, q)) = subst (OfKind T output) q (o.outputs k l)

  module _ (a : program_verdict T ≡ accepted_number) (m k : ℕ) (l : m < mode_count T) where
    -- no driver of a due update writes what the driver of one reads
    pub updates-unmixed : Unmixed (map (λ (r : Update). driver (program_of T) r.driver) (due_updates (mode (program_of T) m) k))
    updates-unmixed p w r = let z : actuator ≡ output = one-kind actuator output p written read in omega (arith, z)
      where
        f : Fields T
        f = accepted-fields T a

        written : OfKind T actuator p
        written =
            let h = (has-map (λ D. Writes D p) (λ (r : Update). driver (program_of T) r.driver) (due_updates (mode (program_of T) m) k)).0 w in
            let (i, b, o, d, q) = (has-updates T m k l (λ r. Writes (driver (program_of T) r.driver) p)).0 h in
            (accepted-updates T a).destinations i p b (writes-row (update_driver T i) p (f.updates i b).driver q)

        read : OfKind T output p
        read =
            let h = (has-map (λ D. Reads D p) (λ (r : Update). driver (program_of T) r.driver) (due_updates (mode (program_of T) m) k)).0 r in
            let (i, b, o, d, q) = (has-updates T m k l (λ r. Reads (driver (program_of T) r.driver) p)).0 h in
            mode-output (accepted-mode-ports T a) _ p ((accepted-updates T a).sources i p b (reads-row f (update_driver T i) p (f.updates i b).driver q))

    -- no driver of a due invocation writes what the driver of one reads
    pub invocations-unmixed : Unmixed (map (λ (r : Invocation). driver (program_of T) r.driver) (due_invocations (mode (program_of T) m) k))
    invocations-unmixed p w r =
        ⊎_elim (λ o. let z : input ≡ output = one-kind input output p written o in omega (arith, z))
        (λ o. let z : input ≡ sensor = one-kind input sensor p written o in omega (arith, z)) read
      where
        f : Fields T
        f = accepted-fields T a

        written : OfKind T input p
        written =
            let h = (has-map (λ D. Writes D p) (λ (r : Invocation). driver (program_of T) r.driver) (due_invocations (mode (program_of T) m) k)).0 w in
            let (i, b, o, d, q) = (has-invocations T m k l (λ r. Writes (driver (program_of T) r.driver) p)).0 h in
            ((((accepted-invocations T a).each i b).destinations p).0 (writes-row (invocation_driver T i) p (f.invocations i b).driver q)).0

        read : OfKind T output p ⊎ OfKind T sensor p
        read =
            let h = (has-map (λ D. Reads D p) (λ (r : Invocation). driver (program_of T) r.driver) (due_invocations (mode (program_of T) m) k)).0 r in
            let (i, b, o, d, q) = (has-invocations T m k l (λ r. Reads (driver (program_of T) r.driver) p)).0 h in
            ⊎_elim (λ s. inl (mode-output (accepted-mode-ports T a) _ p s)) (λ s. inr s)
            (((accepted-invocations T a).each i b).sources p (reads-row f (invocation_driver T i) p (f.invocations i b).driver q))
