-- How many instructions the parts of a block are: what is due, counted. So a block stays within document 01's limits.
-- Assumes of the limits that number 1 passes the tables.
use Prim.Native.Nat.{ℕ, ◌+◌, ◌*◌, ◌≤◌}
use mathlib.Core.Path.{◌≡◌, ◌∙◌}
use mathlib.Core.Bool.{false}
use mathlib.Core.List.{List, ◌++◌, map}
use native.Mathlib.Omega.{arith}
use lib.IntN.{ℤ}
use lib.ListN.{length, length-append, length-map}
use Rattle.theory.proofs.Lists.{those-count, those-few}
use Rattle.cells.specs.Cell.{rows_in}
use Rattle.program.specs.Tables.{Tables, port_width, invocation_width, update_width, switch_width}
use Rattle.program.specs.Sets.{is_sensor, sensor_rows}
use Rattle.rules.specs.Shape.{shape_bad}
use Rattle.code.specs.Listing.{tests_of}
use Rattle.code.proofs.Length.{tests-length}
use Rattle.layout.specs.Counts.{before_tests, before_entry, before_future, size_of}
use Rattle.layout.specs.Few.{Sized}
use Rattle.layout.proofs.Limits.{counts-sized, few-rows, few-sensors}
use Rattle.words.specs.Written.{three, Written, writes}
use Rattle.words.proofs.Written.{writes_then, written_at}
use Rattle.writing.specs.Rows.{is_due, due_at, reading, output_in, update_in, driver_in, schedule_in}
use Rattle.writing.specs.Switches.{switch_in, switches_in, stubs_in}
use Rattle.writing.specs.Block.{head_in, body_in, end_in, parts_in, counts_at}
use Rattle.layout.specs.declared.counts.Instant.{Instant}
use Rattle.writing.specs.declared.blocks.Aim.{Aim}
use Rattle.writing.proofs.Tests.{stubs-count}

-- what stands in the due rows does not change how many they are
due-count : {A : Type 0} (width : ℕ) (t : List ℤ) (when : Instant) (row : ℕ → A)
    → length (due_at width t when row) ≡ length (due_at width t when (λ i. i))
due-count width t when row = those-count (is_due width t when) row (rows_in width t) 0

-- no more rows are due than there are
pub due-most : {A : Type 0} (width : ℕ) (t : List ℤ) (when : Instant) (row : ℕ → A) → length (due_at width t when row) ≤ rows_in width t
due-most width t when row = those-few (is_due width t when) row (rows_in width t) 0

-- what is written for the sensors does not change how many they are
sensors-count : {A : Type 0} (ports : List ℤ) (row : ℕ → A) → length (sensor_rows ports row) ≡ length (sensor_rows ports (λ p. p))
sensors-count ports row = those-count (is_sensor ports) row (rows_in port_width ports) 0

module _ (T : Tables) (when : Instant) where
  -- before the tests stand an output copy for each due task, the due updates, the sensors
  pub head-count : length (head_in T.ports T.invocations T.updates when) ≡ before_tests (counts_at T when)
  head-count =
      simp length-append
      (omega (
        arith,
        due-count invocation_width T.invocations when (output_in T.invocations),
        due-count update_width T.updates when (update_in T.updates),
        sensors-count T.ports reading,
      ))

  -- there is a test for each due switch
  pub tests-count : (stub : ℕ) → length (map three (tests_of (switches_in T.switches when) stub)) ≡ (counts_at T when).switches
  tests-count stub =
      length-map (tests_of (switches_in T.switches when) stub) three
      ∙ tests-length (switches_in T.switches when) stub
      ∙ due-count switch_width T.switches when (switch_in T.switches)

  -- from the entry to the `future` stand two instructions for each due task
  pub body-count : length (body_in T.invocations when) ≡ 2 * (counts_at T when).invocations
  body-count =
      simp length-append
      (omega (
        arith,
        due-count invocation_width T.invocations when (driver_in T.invocations),
        due-count invocation_width T.invocations when (schedule_in T.invocations),
      ))

  -- the stubs are two instructions for each due switch
  stubs-twice : (entries : List ℕ) → length (map three (stubs_in entries (switches_in T.switches when))) ≡ 2 * (counts_at T when).switches
  stubs-twice entries =
      omega (
        arith,
        length-map (stubs_in entries (switches_in T.switches when)) three,
        stubs-count entries (switches_in T.switches when),
        due-count switch_width T.switches when (switch_in T.switches),
      )

  module _ (w₀ w₁ : Written) (head : w₁ ≡ writes (head_in T.ports T.invocations T.updates when) w₀) where
    -- behind what stands before the tests the next address is where the counts have the first test
    pub tests-at : w₁.at ≡ w₀.at + before_tests (counts_at T when)
    tests-at = omega (arith, written_at w₀ (head_in T.ports T.invocations T.updates when) head, head-count)

    module _ (aim : Aim) (w₂ : Written) (tests : w₂ ≡ writes (map three (tests_of (switches_in T.switches when) aim.stub)) w₁) where
      -- behind the tests it is where they have the entry
      pub entry-at : w₂.at ≡ w₀.at + before_entry (counts_at T when)
      entry-at =
          omega (
            arith,
            tests-at,
            written_at w₁ (map three (tests_of (switches_in T.switches when) aim.stub)) tests,
            tests-count aim.stub,
          )

      module _ (w₃ : Written) (body : w₃ ≡ writes (body_in T.invocations when) w₂) where
        -- behind what the entry leads to it is where they have the `future`
        pub future-at : w₃.at ≡ w₀.at + before_future (counts_at T when)
        future-at = omega (arith, entry-at, written_at w₂ (body_in T.invocations when) body, body-count)

        module _ (w₄ : Written) (end : w₄ ≡ writes (end_in aim) w₃) where
          -- the stubs begin behind the `future` and the `return`
          pub stubs-at : w₄.at ≡ w₀.at + before_future (counts_at T when) + 2
          stubs-at = omega (arith, future-at, written_at w₃ (end_in aim) end)

          -- the parts one after the other are the block
          pub parts-written : (entries : List ℕ) (w₅ : Written) → w₅ ≡ writes (map three (stubs_in entries (switches_in T.switches when))) w₄
              → w₅ ≡ writes (parts_in T entries when aim) w₀
          parts-written entries w₅ stubs =
              let ws = switches_in T.switches when in
              let tests_in = map three (tests_of ws aim.stub) in
              let stubs_in' = map three (stubs_in entries ws) in
              let body_in' = body_in T.invocations when in
              writes_then w₀ (head_in T.ports T.invocations T.updates when) (tests_in ++ (body_in' ++ (end_in aim ++ stubs_in'))) head
              (writes_then w₁ tests_in (body_in' ++ (end_in aim ++ stubs_in')) tests
              (writes_then w₂ body_in' (end_in aim ++ stubs_in') body
              (writes_then w₃ (end_in aim) stubs_in' end stubs)))

  -- a block is as long as its size says
  pub parts-count : (entries : List ℕ) (aim : Aim) → length (parts_in T entries when aim) ≡ size_of (counts_at T when)
  parts-count entries aim =
      simp length-append
      (omega (arith, simp length-append at head-count, tests-count aim.stub, simp length-append at body-count, stubs-twice entries))

  -- the counts of a unit are within the limits
  pub sized : shape_bad T ≡ false → Sized (counts_at T when)
  sized e = counts-sized _ _ _ _ when.mode.0 when.units (few-rows T e) (few-sensors T e) when.unit
