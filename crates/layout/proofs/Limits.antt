-- Sizes within document 01's limits: of a block, of a mode, of the units; and tables that number 1 passes are within them.
-- Assumes of the tables that they have no more rows than the limits (`Few`), and no more sensors.
use Prim.Native.Nat.{ℕ, suc, ◌≤◌, ◌<◌}
use mathlib.Core.Path.{◌≡◌, sym, subst, ◌∙◌}
use mathlib.Core.Bool.{false}
use mathlib.Core.List.{List}
use native.Mathlib.Nat.{le_trans}
use native.Mathlib.Omega.{arith}
use lib.IntN.{ℤ, pos}
use lib.ListN.{length}
use Rattle.theory.specs.Lists.{sum}
use Rattle.theory.proofs.Lists.{sum-most, those-few}
use Rattle.cells.specs.Cell.{name_of}
use Rattle.cells.specs.Limits.{max_ports, max_modes, max_units}
use Rattle.cells.proofs.Names.{name-small}
use Rattle.cells.specs.declared.tables.ProgramTables.{ProgramTables}
use Rattle.program.specs.Tables.{Tables, port_count, mode_count, tables_in}
use Rattle.program.specs.Sets.{sensor_rows}
use Rattle.program.specs.Units.{units}
use Rattle.program.proofs.Units.{units-some, units-within}
use Rattle.rules.specs.Shape.{shape_bad}
use Rattle.rules.proofs.Shape.{shape-bars, whole-few, ports-few}
use Rattle.layout.specs.declared.counts.Counts.{Counts}
use Rattle.layout.specs.Few.{Few, Sized}
use Rattle.layout.specs.Counts.{counts_in, before_entry, size_of, most_block, most_mode}

-- a number that equals one within a bound is within it
pub told-most : {r x b : ℕ} → r ≡ x → x ≤ b → r ≤ b
told-most e l = omega arith

-- a block of few instructions of each kind is no longer than the most
pub block-most : (c : Counts) → Sized c → size_of c ≤ most_block
block-most c s = omega arith

-- the entry of a block of few instructions of each kind is no further from its beginning than the longest block
pub entry-most : (c : Counts) → Sized c → before_entry c ≤ most_block
entry-most c s = omega arith

module _ (invocations updates switches : List ℤ) (sensors m u : ℕ) (few : Few invocations updates switches) (s : sensors ≤ max_ports) where
  -- of tables with few rows few rows are due
  pub counts-sized : (k : ℕ) → Sized (counts_in invocations updates switches sensors m u k)
  counts-sized k = record {
    invocations = le_trans (those-few _ (λ i. i) _ 0) few.invocations;
    updates = le_trans (those-few _ (λ i. i) _ 0) few.updates;
    switches = le_trans (those-few _ (λ i. i) _ 0) few.switches;
    sensors = s;
  }

  -- what was counted there is within the limits
  pub told-sized : (k : ℕ) {c : Counts} → c ≡ counts_in invocations updates switches sensors m u k → Sized c
  told-sized k q = subst Sized (sym q) (counts-sized k)

  -- the block of a unit is no longer than the longest block
  pub unit-most : (k : ℕ) → size_of (counts_in invocations updates switches sensors m u k) ≤ most_block
  unit-most k = block-most _ (counts-sized k)

  -- a mode of n units is no longer than the longest mode
  pub mode-most : (n : ℕ) → n ≤ suc max_units → sum (λ k. size_of (counts_in invocations updates switches sensors m u k)) n ≤ most_mode
  mode-most n l = omega (arith, sum-most _ most_block n (λ k l. unit-most k))

-- a number that is the units of a mode, whatever the start mode, is at least 1, and at most one more than the limit
pub units-told : (lent : ProgramTables) (m : ℕ) {r : ℕ} → ((start : ℤ) → r ≡ units (tables_in lent start) m) → (1 ≤ r) × (r ≤ suc max_units)
units-told lent m told =
    let T = tables_in lent (pos 0) in
    let e = told (pos 0) in (omega (arith, units-some T m), omega (arith, units-within T m))

module _ (T : Tables) (e : shape_bad T ≡ false) where
  -- tables that number 1 passes have few invocations, updates and switches
  pub few-rows : Few T.invocations T.updates T.switches
  few-rows =
      let w = (shape-bars T).ok e in
      record {
        invocations = whole-few _ _ T.invocations w.invocations;
        updates = whole-few _ _ T.updates w.updates;
        switches = whole-few _ _ T.switches w.switches;
      }

  -- tables that number 1 passes declare no more ports than the limit
  pub few-ports : port_count T ≤ max_ports
  few-ports = ports-few T ((shape-bars T).ok e)

  -- tables that number 1 passes declare no more modes than the limit
  pub few-modes : mode_count T ≤ max_modes
  few-modes = whole-few _ _ T.modes ((shape-bars T).ok e).modes

  -- what has the name of a declared mode's number has that number
  pub mode-named : {m n : ℕ} → m < mode_count T → n ≡ name_of m → n ≡ m
  mode-named {m} h q = q ∙ name-small m (omega (arith, few-modes))

  -- tables that number 1 passes declare no more sensors than the limit
  pub few-sensors : length (sensor_rows T.ports (λ p. p)) ≤ max_ports
  few-sensors = le_trans (those-few _ (λ p. p) _ 0) few-ports
