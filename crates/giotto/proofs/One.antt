-- A configuration has one successor: any two agree in time, mode, unit, active tasks and every port.
-- Assumes rules 2 and 8.
use Prim.Native.Nat.{ℕ, suc, ◌+◌, ◌/◌, ◌%◌, ◌<◌}
use mathlib.Core.Path.{◌≡◌, refl, ap, ap₂, sym, subst, subst₂, subst₃, ◌∙◌, fun_ext}
use mathlib.Core.Bool.{Bool, true, false}
use mathlib.Core.List.{List}
use mathlib.Core.Logic.{◌⊎◌, inl, inr}
use lib.IntN.{ℤ}
use lib.ListN.{length}
use Rattle.theory.specs.Verdict.{Keep}
use Rattle.theory.proofs.Bools.{iff}
use Rattle.cells.specs.Cell.{eq_z}
use Rattle.cells.specs.Limits.{max_ports}
use Rattle.cells.proofs.Ints.{eq_z-says}
use Rattle.program.specs.Tables.{Tables, mode_count, mode_period, switch_target, switch_driver}
use Rattle.program.specs.Units.{units}
use Rattle.program.specs.Program.{program_of}
use Rattle.program.specs.Ports.{value_of}
use Rattle.rules.specs.Fields.{Fields}
use Rattle.rules.specs.Modes.{Switches}
use Rattle.rules.specs.Verdict.{program_rules}
use Rattle.rules.proofs.Modes.{switch-once}
use Rattle.giotto.specs.Instant.{Configuration, instant}
use Rattle.giotto.specs.Successor.{Valuation, Next, Drives, SwitchEnabled, Completed, Enabled, UpdateWrites, SensorWrites}
use Rattle.giotto.specs.Successor.{InputWrites, Stays, Changes, Successor, Same}
use Rattle.giotto.proofs.Succeeds.{instant-succeeds}

-- the same writes on the same values leave the same values
pub next_one : {Writes : ℕ → ℤ → Type 0} {v w w' : Valuation} → Next Writes v w → Next Writes v w' → w ≡ w'
next_one {Writes} {w} {w'} n n' = fun_ext (λ p. go p (eq_z (w p) (w' p)) refl)
  where
    go : (p : ℕ) (b : Bool) → eq_z (w p) (w' p) ≡ b → w p ≡ w' p
    go p true e = (eq_z-says (w p) (w' p)).yes e
    go p false e =
        let apart = (eq_z-says (w p) (w' p)).no e in
        let none : (x : ℤ) → Writes p x → ⊥ = λ x h. apart (n.written p x h ∙ sym (n'.written p x h)) in
        absurd (apart (n.kept p none ∙ sym (n'.kept p none)))

module _ (T : Tables) (f : Fields T) (s : Switches T) (C : Configuration) where
  -- two enabled switches of one configuration are one row
  pub switch-row : (v : Valuation) (i j : ℕ) → SwitchEnabled T C.mode C.unit v i → SwitchEnabled T C.mode C.unit v j → i ≡ j
  switch-row v i j a b = switch-once T f s v i j a.in_table b.in_table (a.of-mode ∙ sym b.of-mode) a.guard b.guard

  -- steps 4 to 6 lead to one mode, one unit and the same values
  switch-one : (v w w' : Valuation) (m m' u u' : ℕ) → Stays T C v w m u ⊎ Changes T C v w m u → Stays T C v w' m' u' ⊎ Changes T C v w' m' u'
      → (m ≡ m') × (u ≡ u') × (w ≡ w')
  switch-one v w w' m m' u u' (inl a) (inl b) =
      (a.same-mode ∙ sym b.same-mode, a.same-unit ∙ sym b.same-unit, fun_ext (λ p. a.same-ports p ∙ sym (b.same-ports p)))
  switch-one v w w' m m' u u' (inl a) (inr b) = absurd (a.none-enabled b.row b.enabled)
  switch-one v w w' m m' u u' (inr a) (inl b) = absurd (b.none-enabled a.row a.enabled)
  switch-one v w w' m m' u u' (inr a) (inr b) =
      let e = switch-row v a.row b.row a.enabled b.enabled in (
        a.to-target ∙ ap (switch_target T) e ∙ sym b.to-target,
        a.to-unit-0 ∙ sym b.to-unit-0,
        next_one a.mode-ports (subst (λ i. Next (Drives T (switch_driver T i) v) v w') (sym e) b.mode-ports),
      )

  module _ (result : ℕ → ℕ → ℤ) (readings : Valuation) (C' C'' : Configuration)
      (S : Successor T result readings C C') (S' : Successor T result readings C C'') where
    tasks : S.after-tasks ≡ S'.after-tasks
    tasks = next_one S.step-1 S'.step-1

    updates : S.after-updates ≡ S'.after-updates
    updates = next_one S.step-2 (subst (λ v. Next (UpdateWrites T C v) v S'.after-updates) (sym tasks) S'.step-2)

    sensors : S.after-sensors ≡ S'.after-sensors
    sensors = next_one S.step-3 (subst (λ v. Next (SensorWrites T readings) v S'.after-sensors) (sym updates) S'.step-3)

    entered : (C'.mode ≡ C''.mode) × (S.unit ≡ S'.unit) × (S.after-switch ≡ S'.after-switch)
    entered =
        switch-one S.after-sensors S.after-switch S'.after-switch C'.mode C''.mode S.unit S'.unit S.step-4-to-6
        (subst (λ v. Stays T C v S'.after-switch C''.mode S'.unit ⊎ Changes T C v S'.after-switch C''.mode S'.unit) (sym sensors) S'.step-4-to-6)

    inputs : value_of C'.ports ≡ value_of C''.ports
    inputs =
        next_one S.step-7
        (subst₃ (λ m u v. Next (InputWrites T m u v) v (value_of C''.ports)) (sym entered.0) (sym entered.1) (sym entered.2) S'.step-7)

    abbrev Active : ℕ → ℕ → ℕ → Type 0
    Active m u t = ((C.active t ≡ true) × (Completed T C t → ⊥)) ⊎ Enabled T m u t

    -- two successors of one configuration agree
    same : Same C' C''
    same =
        record {
          time = S.time-stamp ∙ ap (λ m. C.time + mode_period T m / units T m) entered.0 ∙ sym S'.time-stamp;
          mode = entered.0;
          unit = S.next-unit ∙ ap₂ (λ m u. suc u % units T m) entered.0 entered.1 ∙ sym S'.next-unit;
          ports = λ p. ap (λ v. v p) inputs;
          active = λ t.
              iff (C'.active t) (C''.active t)
              (λ h. (S'.step-8 t).1 (subst₂ (λ m u. Active m u t) entered.0 entered.1 ((S.step-8 t).0 h)))
              (λ h. (S.step-8 t).1 (subst₂ (λ m u. Active m u t) (sym entered.0) (sym entered.1) ((S'.step-8 t).0 h)));
        }

-- any two successors of one configuration agree
pub successor-one : (T : Tables) → Keep program_rules T
    → (result : ℕ → ℕ → ℤ) (readings : Valuation) (C C' C'' : Configuration)
    → Successor T result readings C C' → Successor T result readings C C'' → Same C' C''
successor-one T K result readings C C' C'' S S' = same T K.1.0 K.1.1.1.1.1.1.1.0 C result readings C' C'' S S'

-- every successor agrees with the executable instant
pub successor-instant : (T : Tables) → Keep program_rules T
    → (result : ℕ → ℕ → ℤ) (readings : List ℤ) (C C' : Configuration)
    → length C.ports ≡ max_ports → C.mode < mode_count T → C.unit < units T C.mode
    → Successor T result (value_of readings) C C' → Same C' (instant (program_of T) result readings C)
successor-instant T K result readings C C' l m u S =
    successor-one T K result (value_of readings) C C' (instant (program_of T) result readings C) S
    (instant-succeeds T K result readings C l m u)
