-- Filters that remember (document 02, K7): a moving average as a task function, of the monitor and of the insulation monitor of examples/;
-- what it would be to give a function of the inputs alone. Readings for both.
use Rattle.std.specs.Prelude.{ℕ, zero, suc, ◌+◌, ◌/◌, ◌≡◌, true, false, List, [], ◌∷◌, eqb, ltb, ℤ, pos, nat_abs, replicate}
use Rattle.std.specs.Int.Signed.{le_z}
use Rattle.readings.specs.Reading.{is_missing, no_reading}
use Rattle.program.specs.Tables.{input}
use Rattle.program.specs.Sets.{is_kind}
use Rattle.program.specs.Program.{ports_of}
use Rattle.program.specs.Ports.{value_of, values_of}
use Rattle.giotto.specs.Instant.{Function}
use Rattle.machine.specs.Advance.{Lent}
use Rattle.demands.specs.Composed.{System, state_at}
use Rattle.demands.specs.Private.{Ends}

-- the mean of a reading and the one before; the reading alone where there is none before, and none where the reading is missing
abbrev pub mean : ℤ → ℤ → ℤ
mean x before = elim (is_missing x) [
  | true ↦ no_reading
  | false ↦ elim (is_missing before) [ true ↦ x | false ↦ pos ((nat_abs x + nat_abs before) / 2) ]
]

-- a moving average: of a reading and the one before, it gives the mean, and to its private port the reading. (A task that takes one value
-- gives that.)
abbrev pub smooth : ℕ → Function
smooth memory t [] p = pos 0
smooth memory t (x ∷ []) p = x
smooth memory t (x ∷ before ∷ vs) p = elim (eqb p memory) [ true ↦ x | false ↦ mean x before ]

-- In a run of a system, task t gives for port p some function g of the values of its inputs alone: whenever it ends, the port takes what g
-- says of them
pub record Forgets (Y : System) (F : Function) (lents : ℕ → Lent) (t p : ℕ) : Type 0 where
  pub g : List ℤ → ℤ
  pub always : (n : ℕ) → Ends Y F lents n t
      → value_of (state_at Y lents (suc n)).ports p
      ≡ g (values_of (state_at Y lents n).ports (ports_of Y.tables (is_kind Y.tables input) t))

-- readings of port 0, and of no other
abbrev pub reading : ℤ → List ℤ
reading x = x ∷ replicate 63 (pos 0)

-- for the monitor: 40, missing at tick 4, and 60 from then on
abbrev pub interrupted : ℕ → List ℤ
interrupted n = elim (ltb n 4) [
  | true ↦ reading (pos 40)
  | false ↦ elim (eqb n 4) [ true ↦ reading no_reading | false ↦ reading (pos 60) ]
]

-- what the tasks of the insulation monitor compute: the filter, with its memory in port 9; the evaluation, good from 50 on; the relay's
-- task, which follows what was judged; the signal, which releases the coil
abbrev pub judged : List ℤ → ℤ
judged [] = pos 0
judged (x ∷ xs) = elim (le_z (pos 50) x) [ true ↦ pos 1 | false ↦ pos 0 ]

abbrev pub insulation_tasks : Function
insulation_tasks zero values p = smooth 9 0 values p
insulation_tasks (suc zero) values p = judged values
insulation_tasks (suc (suc zero)) values p = smooth 9 2 values p
insulation_tasks (suc (suc (suc t))) values p = pos 0

-- what comes in to the insulation monitor in examples/insulation.ticks: 80; 100 from tick 10 on; none from 85 on; 120 from 125 on; 80 from
-- 140 on
abbrev pub measured : ℕ → List ℤ
measured n = elim (ltb n 10) [
  | true ↦ reading (pos 80)
  | false ↦ elim (ltb n 85) [
    | true ↦ reading (pos 100)
    | false ↦ elim (ltb n 125) [
      | true ↦ reading no_reading
      | false ↦ elim (ltb n 140) [ true ↦ reading (pos 120) | false ↦ reading (pos 80) ]
    ]
  ]
]
